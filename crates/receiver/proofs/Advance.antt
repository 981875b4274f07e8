-- Where the bunch and event counters go. Assumes nothing.
use mathlib.Core.Path.{◌≡◌, refl, ap, ◌∙◌}
use Prim.Native.Nat.{ℕ, ◌<◌}
use native.Mathlib.Omega.{arith}
use Rattle.receiver_state.specs.declared.Counters.{Counters}
use Rattle.receiver_state.specs.declared.Core.{Core}
use Rattle.receiver_state.specs.declared.Outputs.{Outputs}
use Rattle.receiver_state.specs.WellFormed.{CoreFacts}
use Rattle.idle_clock.specs.IdleClock.{idle_clock}
use Rattle.idle_clock.proofs.Laws.{idle_laws}
use Rattle.verdicts.specs.FrameLaws.{CountersMove}
use Rattle.receiver.specs.Laws.{CountersAdvance}

-- verdict 0 leaves the counters of steps 1 and 2
pub unmoved_counters : (idle : Counters) (shown : Outputs) → shown.verdict ≡ 0 → CountersMove idle shown idle
unmoved_counters idle shown z =
    record {
      counters_stay = λ p q. refl;
      bunch_cleared = λ p b. absurd (omega arith);
      bunch_not_cleared = λ p b. refl;
      event_cleared = λ p b. absurd (omega arith);
      event_not_cleared = λ p b. refl;
    }

pub advance : (core : Core) (trigger : ℕ) (shown : Outputs) (after : Counters) → CoreFacts core → trigger < 2
    → CountersMove (idle_clock core trigger).core.counters shown after → CountersAdvance core.counters trigger shown after
advance core trigger shown after f t m =
    let e = idle_laws.counters_advance core trigger f t in
    record {
      bunch_up = λ p q. ap (λ (k : Counters). k.bunch) (m.counters_stay p q ∙ e);
      event_up = λ p q. ap (λ (k : Counters). k.event) (m.counters_stay p q ∙ e);
      bunch_cleared = m.bunch_cleared;
      bunch_not_cleared = λ p b. m.bunch_not_cleared p b ∙ ap (λ (k : Counters). k.bunch) e;
      event_cleared = m.event_cleared;
      event_not_cleared = λ p b. m.event_not_cleared p b ∙ ap (λ (k : Counters). k.event) e;
    }

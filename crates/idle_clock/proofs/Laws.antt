-- What steps 1 and 2 leave and show. Assumes nothing.
use mathlib.Core.Path.{◌≡◌, refl, ap}
use Prim.Native.Nat.{ℕ, zero, suc, ◌+◌, ◌%◌, ◌^◌, ◌<◌}
use native.Mathlib.Omega.{arith}
use Rattle.receiver_state.specs.declared.Counters.{Counters}
use Rattle.receiver_state.specs.State.{counters}
use Rattle.receiver_state.specs.WellFormed.{CountersFacts}
use Rattle.idle_clock.specs.IdleClock.{count_clock, idle_clock}
use Rattle.idle_clock.specs.Laws.{IdleLaws}
use Rattle.idle_clock.proofs.BusSequence.{idle_shows, idle_left}
use Rattle.idle_clock.proofs.Keep.{idle_facts}

counted : (now : Counters) (trigger : ℕ) → CountersFacts now → trigger < 2
    → count_clock now trigger ≡ counters ((now.bunch + 1) % 4096) ((now.event + trigger) % 2 ^ 24)
unfolding count_clock
counted now zero f t = ap (counters ((now.bunch + 1) % 4096)) (let b : now.event < 2 ^ 24 = f.event_below in omega arith)
counted now (suc zero) f t = refl
counted now (suc (suc n)) f t = absurd (omega arith)

pub idle_laws : IdleLaws
unfolding idle_clock
idle_laws =
    record {
      bus_shows = idle_shows;
      sequence_left = idle_left;
      counters_advance = λ core trigger f t. counted core.counters trigger f.of_counters t;
      only_counts = λ core trigger.
          record { no_verdict = refl; no_flag = refl; no_place = refl; no_word = refl; ids_stay = refl; settings_stay = refl; errors_stay = refl };
      stays_well_formed = idle_facts;
    }

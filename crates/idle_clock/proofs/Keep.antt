-- Steps 1 and 2 keep the core well formed. Assumes nothing.
use mathlib.Core.Path.{refl}
use Prim.Native.Nat.{ℕ, ◌+◌, ◌%◌, ◌^◌, ◌<◌}
use native.Mathlib.Nat.{mod-lt}
use native.Mathlib.Omega.{arith}
use lib.Dec.{eqb, ltb, lit<}
use Rattle.laws.proofs.Rules.{picked}
use Rattle.receiver_state.specs.declared.Counters.{Counters}
use Rattle.receiver_state.specs.declared.Core.{Core}
use Rattle.receiver_state.specs.State.{words_left, no_sequence}
use Rattle.receiver_state.specs.WellFormed.{CountersFacts, SequenceFacts, CoreFacts}
use Rattle.receiver_state.proofs.Changes.{counters_changed, sequence_changed}
use Rattle.idle_clock.specs.declared.Bus.{Bus}
use Rattle.idle_clock.specs.IdleClock.{continued, started, bus_step, bus_of, count_clock, idle_clock}

pub none_left : SequenceFacts no_sequence
none_left = record { few = omega arith; kept_below = omega arith; none_kept = λ z. refl }

some_left : (n event : ℕ) → n < 2 → event < 2 ^ 24 → SequenceFacts (words_left (n + 1) event)
some_left n event h k = record { few = omega arith; kept_below = k; none_kept = λ z. absurd (omega arith) }

abbrev LeftFacts : Bus → Type 0
LeftFacts bus = SequenceFacts bus.sequence

bus_facts : (core : Core) (trigger : ℕ) → CoreFacts core → LeftFacts (bus_of core trigger)
unfolding bus_step continued started
bus_facts core trigger f =
    picked LeftFacts (ltb 0 core.sequence.left)
    (picked LeftFacts (eqb core.sequence.left 2) (some_left 0 _ (lit< tt) f.of_sequence.kept_below) none_left)
    (picked LeftFacts (eqb trigger 1)
    (picked LeftFacts (eqb (core.settings.control % 2 ^ 2) 1) none_left
    (picked LeftFacts (eqb (core.settings.control % 2 ^ 2) 2) (some_left 0 _ (lit< tt) f.of_counters.event_below)
    (picked LeftFacts (eqb (core.settings.control % 2 ^ 2) 3) (some_left 1 _ (lit< tt) f.of_counters.event_below) none_left)))
    none_left)

count_facts : (now : Counters) (trigger : ℕ) → CountersFacts now → CountersFacts (count_clock now trigger)
unfolding count_clock
count_facts now trigger f =
    record {
      bunch_below = mod-lt _ (lit< tt);
      event_below = picked (λ (n : ℕ). n < 2 ^ 24) (eqb trigger 1) (mod-lt _ (lit< tt)) f.event_below;
    }

pub idle_facts : (core : Core) (trigger : ℕ) → CoreFacts core → CoreFacts (idle_clock core trigger).core
unfolding idle_clock
idle_facts core trigger f =
    sequence_changed _ _ (bus_facts core trigger f) (counters_changed _ core (count_facts core.counters trigger f.of_counters) f)

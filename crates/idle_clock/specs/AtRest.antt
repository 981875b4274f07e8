-- Document 01, "One clock": a core at rest. A clock without a trigger that finishes no frame moves only the bunch counter. Proved in proofs/AtRest.antt.
use Rattle.std.specs.Prelude.{ℕ, zero, suc, ◌+◌, ◌%◌, ◌≤◌, ◌≡◌, Bool, true, eqb}
use Rattle.receiver_state.specs.declared.Core.{Core}
use Rattle.receiver_state.specs.declared.Clocked.{Clocked}
use Rattle.receiver_state.specs.State.{counters, no_sequence, with_counters, with_sequence}
use Rattle.receiver_state.specs.Shown.{no_outputs}
use Rattle.receiver_state.specs.WellFormed.{CoreFacts}
use Rattle.idle_clock.specs.IdleClock.{idle_clock}

-- nothing is under way: no sequence is running
unfoldable pub at_rest : Core → Bool
at_rest core = eqb core.sequence.left 0

-- the core once all that was under way has ended
abbrev pub settled : Core → Core
settled core = with_sequence no_sequence core

-- so many clocks without a trigger, on a core at rest
unfoldable pub rest_for : ℕ → Core → Core
rest_for clocks core = with_counters (counters ((core.counters.bunch + clocks) % 4096) core.counters.event) core

-- so many clocks without a trigger, of steps 1 and 2 alone, on any core
unfoldable pub untriggered_clocks : ℕ → Core → Core
untriggered_clocks zero core = core
untriggered_clocks (suc n) core = (idle_clock (untriggered_clocks n core) 0).core

-- after that many, all that was under way has ended: a sequence has two words left at most
abbrev pub settling_clocks : ℕ
settling_clocks = 2

-- what a clock at rest leaves and shows
abbrev pub rest_clock : Core → Clocked
rest_clock core = record { core = rest_for 1 core; outputs = no_outputs }

pub record RestLaws : Type 0 where
  pub one_clock : (core : Core) → CoreFacts core → at_rest core ≡ true → idle_clock core 0 ≡ rest_clock core
  pub stays_at_rest : (clocks : ℕ) (core : Core) → at_rest (rest_for clocks core) ≡ at_rest core
  pub no_clocks : (core : Core) → CoreFacts core → rest_for 0 core ≡ core
  pub one_more : (clocks : ℕ) (core : Core) → rest_for 1 (rest_for clocks core) ≡ rest_for (clocks + 1) core
  pub rest_keeps : (clocks : ℕ) (core : Core) → CoreFacts core → CoreFacts (rest_for clocks core)
  -- whatever was under way
  pub settles : (clocks : ℕ) (core : Core) → CoreFacts core → settling_clocks ≤ clocks → untriggered_clocks clocks core ≡ rest_for clocks (settled core)
  pub settled_rests : (core : Core) → at_rest (settled core) ≡ true
  pub settled_keeps : (core : Core) → CoreFacts core → CoreFacts (settled core)

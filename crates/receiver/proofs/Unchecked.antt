-- The unchecked step is the clock of what was checked, and goes by what the bit leaves. Assumes nothing.
use mathlib.Core.Path.{◌≡◌, refl}
use mathlib.Core.List.{List}
use Prim.Native.Nat.{ℕ, ◌<◌}
use native.Mathlib.Omega.{arith}
use borrow.Author.Tests.{le-ltb}
use Rattle.frame.specs.declared.Kind.{Kind}
use Rattle.receiver_state.specs.declared.Held.{Held}
use Rattle.receiver_state.specs.declared.Receiver.{Receiver}
use Rattle.receiver_state.specs.WellFormed.{ReceiverFacts}
use Rattle.receiver_state.proofs.WellFormed.{receiver_ok}
use Rattle.idle_clock.specs.IdleClock.{idle_clock}
use Rattle.channel_b.specs.declared.Taken.TheVariants.{Unfinished, Finished}
use Rattle.channel_b.specs.TakeBit.{take_bit, held_after}
use Rattle.verdicts.specs.Finished.{finished_by}
use Rattle.receiver.specs.Clock.{clocked_answer, step_answer, clock_answer}

module _ (columns : Kind → List ℕ) (r : Receiver) (trigger bit : ℕ) where
  pub step_is_clock : ReceiverFacts r → trigger < 2 → bit < 2 → step_answer columns r trigger bit ≡ clock_answer columns r trigger bit
  unfolding clock_answer
  step_is_clock f t b = rw (receiver_ok r f, le-ltb 1 trigger (omega arith), le-ltb 1 bit (omega arith)) refl

  pub unfinished_step : (held : Held) → take_bit r.held bit ≡ Unfinished held → step_answer columns r trigger bit ≡ clocked_answer held (idle_clock r.core trigger)
  unfolding step_answer
  unfinished_step held e = rw e refl

  pub finished_step : (kind : Kind) (number : ℕ) → take_bit r.held bit ≡ Finished kind number
      → step_answer columns r trigger bit ≡ clocked_answer (held_after number) (finished_by columns kind number (idle_clock r.core trigger))
  unfolding step_answer
  finished_step kind number e = rw e refl

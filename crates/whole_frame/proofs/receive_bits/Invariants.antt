-- `whole_frame::receive_bits` meets its contract. The invariant: the clocks still to come, on what the last one answered, answer as all of them.
-- Assumes nothing.
use mathlib.Core.Path.{◌≡◌}
use Prim.Native.Nat.{◌≤◌}
use Rattle.frame.specs.Columns.{tables}
use Rattle.frame.specs.Bits.{bits_of}
use Rattle.receiver_state.specs.WellFormed.{ReceiverFacts}
use Rattle.receiver.specs.Clock.{accepted}
use Rattle.whole_frame.specs.WholeFrame.{clocks_answer}
use Rattle.whole_frame.proofs.receive_bits.Given as goal

abbrev pub invariant-loop-place : goal.invariant-loop-place
invariant-loop-place l =
    let columns = tables l.columns in
    (l.place ≤ 64) × (ReceiverFacts l.done.receiver) × (clocks_answer columns (accepted l.done) (bits_of l.place l.number) ≡ clocks_answer columns (accepted l.initial.done) (bits_of l.count l.number))

-- `whole_frame::receive_over` meets its contract: the tests that led to its calls give what they require. Assumes nothing.
use Prim.Native.Nat.{◌≤◌}
use native.Mathlib.Omega.{arith}
use Rattle.laws.proofs.Rules.{said}
use Rattle.frame.specs.declared.Kind.{Kind}
use Rattle.frame.specs.declared.Kind.TheVariants.{Short, Long}
use Rattle.frame.specs.Numbers.{frame_bits}
use Rattle.receiver_state.proofs.WellFormed.{receiver_facts}
use Rattle.whole_frame.proofs.receive_over.Goals as goal

few : (kind : Kind) → frame_bits kind ≤ 64
few Short = omega arith
few Long = omega arith

pub receive_waiting-requires : goal.receive_waiting-requires
receive_waiting-requires c =
    (receiver_facts _ (said _ _ _ c.well_formed-2.ensures c.if-not-well_formed.false), said _ _ _ c.is_waiting.ensures c.if-is_waiting.true, said _ _ _ c.is_frame.ensures c.if-not-is_frame.false)

pub receive_bits-requires : goal.receive_bits-requires
receive_bits-requires c = (receiver_facts _ (said _ _ _ c.well_formed-2.ensures c.if-not-well_formed.false), rw c.frame_bits.ensures (few c.args.kind))

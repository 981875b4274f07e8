-- `whole_frame::receive_bits` meets its contract. The invariant: the clocks still to come, on what the last one left, answer as all of them.
-- Assumes nothing.
use mathlib.Core.Path.{◌≡◌, sym, ap, subst, ◌∙◌}
use Prim.Native.Nat.{ℕ, suc, ◌-◌, ◌<◌}
use native.Mathlib.Nat.{mod-lt}
use native.Mathlib.Omega.{arith}
use lib.Dec.{lit<}
use Rattle.frame.specs.Columns.{tables}
use Rattle.frame.specs.Bits.{bits_of}
use Rattle.receiver_state.specs.WellFormed.{ReceiverFacts}
use Rattle.receiver.specs.declared.ClockAnswer.{ClockAnswer}
use Rattle.receiver.specs.Clock.{accepted}
use Rattle.receiver.proofs.Keep.{step_facts}
use Rattle.whole_frame.specs.WholeFrame.{clocks_answer}
use Rattle.whole_frame.proofs.WholeFrame.{clock_more}
use Rattle.whole_frame.proofs.receive_bits.Goals as goal

pub loop-place-preserved : goal.loop-place-preserved
loop-place-preserved c =
    let turn = c.loop-place in
    let bit = c.bit_at in
    let columns = tables c.args.columns in
    let small : bit.result < 2 = rw bit.ensures (mod-lt _ (lit< tt)) in
    let some : suc (turn.place - 1) ≡ turn.place = omega (arith, c.loop-place-test.true) in (
      omega (arith, turn.invariant.0),
      subst (λ (a : ClockAnswer). ReceiverFacts a.receiver) (sym c.step-done.ensures) (step_facts columns turn.done.receiver 0 bit.result turn.invariant.1 small),
      clock_more columns (accepted turn.done) (accepted c.step-done.result) (turn.place - 1) c.args.number bit.result turn.invariant.1 bit.ensures c.step-done.ensures
          ∙ ap (λ (n : ℕ). clocks_answer columns (accepted turn.done) (bits_of n c.args.number)) some ∙ turn.invariant.2,
    )

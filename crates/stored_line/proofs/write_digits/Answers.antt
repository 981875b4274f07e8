-- `stored_line::write_digits` meets its contract. The invariant: the digits still to be written, before what is in the buffer behind them,
-- are all the digits before what the buffer held behind them. Assumes nothing.
use mathlib.Core.Path.{◌∙◌}
use Prim.Native.Nat.{◌≤◌}
use native.Mathlib.Omega.{arith}
use lib.ListN.{length}
use Rattle.stored_line.proofs.Digits.{digit_written, written_all}
use Rattle.stored_line.proofs.write_digits.Goals as goal

pub loop-at-preserved : goal.loop-at-preserved
loop-at-preserved c = let turn = c.loop-at in
    let room : turn.at ≤ length turn.buffer = omega (arith, turn.auto.buffer, turn.auto.at, c.requires) in
    digit_written turn.buffer turn.at turn.rest _ c.loop-at-test.true room c.digit_character.ensures ∙ turn.invariant

pub returns : goal.returns
returns c = let done = c.loop-at in
    written_all done.buffer done.at done.rest (omega (arith, c.loop-at-test.false)) ∙ done.invariant

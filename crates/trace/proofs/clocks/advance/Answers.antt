-- `trace::clocks::advance` meets its contract. Assumes nothing.
use Prim.Native.Nat.{◌<◌}
use native.Mathlib.Omega.{arith}
use lib.ListN.{length}
use Rattle.trace.proofs.Rest.{advanced_last, advanced_clock}
use Rattle.trace.proofs.clocks.advance.Goals as goal

pub returns-then-place-block : goal.returns-then-place-block
returns-then-place-block c =
    advanced_last _ _ _ _ _ c.rest_part-rested.ensures c.requires.1 c.if-place-block.true

pub overflow_cast-place : goal.overflow_cast-place
overflow_cast-place c = let going = c.rest_part-rested.ensures.going in omega (arith, going.within, going.at_most)

pub run_clock-run-requires : goal.run_clock-run-requires
run_clock-run-requires c =
    let rested = c.rest_part-rested in
    let going = rested.ensures.going in
    let here : rested.result.next < length c.args.block.now = omega (arith, going.within, c.if-place-block.false) in
    omega (arith, going.few, c.requires.2)

pub returns : goal.returns
returns c =
    let rested = c.rest_part-rested in
    let here : rested.result.next < length c.args.block.now = omega (arith, rested.ensures.going.within, c.if-place-block.false) in
    advanced_clock _ _ _ _ _ rested.ensures here _ _ c.run_clock-run.ensures

-- `trace::run_block_over` meets its contract: at each exit the tests that led there pick the same row of the definition. Assumes nothing.
use Prim.Native.Nat.{◌*◌, ◌≤◌}
use native.Mathlib.Omega.{arith}
use lib.ListN.{length}
use Rattle.laws.proofs.Rules.{granted, picks}
use Rattle.frame.specs.Columns.{tables}
use Rattle.receiver_state.proofs.WellFormed.{receiver_facts}
use Rattle.refusals.specs.Refusals.{number}
use Rattle.trace.specs.Record.{record_numbers}
use Rattle.trace.specs.Block.{run_block}
use Rattle.trace.proofs.Run.{block_leaves}
use borrow.Author.Rules.{rules}
use Rattle.trace.proofs.run_block_over.Goals as goal

pub run_clocks-requires : goal.run_clocks-requires
run_clocks-requires c = (
  record {
    is_well_formed = receiver_facts _ (search granted);
    within = omega arith;
    few = omega arith;
    at_most = search rules;
  },
  search rules,
)

pub returns : goal.returns
unfolding run_block number
returns c =
    let given = c.args in
    let room : record_numbers * length given.block.now ≤ length given.buffer.now = search rules in
    let columns = tables given.columns in
    let leaves = block_leaves columns given.receiver given.block.now given.buffer.now _ room c.run_clocks.ensures in
    search (leaves, picks)

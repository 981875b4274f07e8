-- `receiver_with_columns::run_block_with_columns` meets its contract: by the check of the columns, then over those lent on. Assumes nothing.
use mathlib.Core.Path.{ap, ◌∙◌}
use mathlib.Core.List.{List}
use Prim.Native.Nat.{ℕ}
use Rattle.std.proofs.lemmas.Result.{err_from_is_err_and}
use Rattle.frame.specs.declared.Kind.{Kind}
use Rattle.trace.specs.Block.{run_block}
use Rattle.receiver_with_columns.specs.WithColumns.{run_block_with_columns}
use Rattle.receiver_with_columns.proofs.Before.{block_by_2, blocked, block_refused, block_not_28}
use Rattle.receiver_with_columns.proofs.run_block_with_columns.Goals as goal

pub returns-in_err-tables : goal.returns-in_err-tables
unfolding run_block_with_columns
returns-in_err-tables c =
    let p = err_from_is_err_and c.from_residual.result c.from_residual.ensures.1 in
    rw (p.1, p.2) (block_refused _ _ _ c.in_err-tables.ensures.refused _ _)

pub returns : goal.returns
unfolding run_block_with_columns
returns c =
    let lent = c.in_ok-tables.ensures in
    blocked _ _ _ _ _ _ lent.passes (λ bad. block_by_2 _ _ bad _ _) (block_not_28 _ _ _ _)
    (c.run_block_over.ensures ∙ ap (λ (columns : Kind → List ℕ). run_block columns c.args.receiver c.args.block.now c.args.buffer.now) lent.lent)

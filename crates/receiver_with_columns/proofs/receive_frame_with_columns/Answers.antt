-- `receiver_with_columns::receive_frame_with_columns` meets its contract: by the check of the columns, then over those lent on. Assumes nothing.
use mathlib.Core.Path.{ap, ◌∙◌}
use mathlib.Core.List.{List}
use Prim.Native.Nat.{ℕ}
use Rattle.std.proofs.lemmas.Result.{err_from_is_err_and}
use Rattle.frame.specs.declared.Kind.{Kind}
use Rattle.whole_frame.specs.WholeFrame.{receive_answer}
use Rattle.receiver_with_columns.specs.WithColumns.{receive_with_columns}
use Rattle.receiver_with_columns.proofs.Before.{receive_by_2, clocked, clock_refused, receive_not_28}
use Rattle.receiver_with_columns.proofs.receive_frame_with_columns.Goals as goal

pub returns-in_err-lent : goal.returns-in_err-lent
unfolding receive_with_columns
returns-in_err-lent c =
    let p = err_from_is_err_and c.from_residual.result c.from_residual.ensures.1 in
    rw (p.1, p.2) (clock_refused _ _ _ c.in_err-lent.ensures.refused _)

pub returns : goal.returns
unfolding receive_with_columns
returns c =
    let lent = c.in_ok-lent.ensures in
    clocked _ _ _ _ lent.passes (λ bad. receive_by_2 _ _ bad _ _) (receive_not_28 _ _ _ _)
    (c.receive_over.ensures ∙ ap (λ (columns : Kind → List ℕ). receive_answer columns c.args.receiver c.args.kind c.args.number) lent.lent)

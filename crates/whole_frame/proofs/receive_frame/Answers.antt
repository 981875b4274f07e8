-- `whole_frame::receive_frame` meets its contract: the columns are document 01's. Assumes nothing.
use mathlib.Core.Path.{ap, ◌∙◌}
use mathlib.Core.List.{List}
use Prim.Native.Nat.{ℕ}
use Rattle.frame.specs.declared.Kind.{Kind}
use Rattle.whole_frame.specs.WholeFrame.{receive_answer}
use Rattle.whole_frame.proofs.receive_frame.Goals as goal

pub returns : goal.returns
returns c =
    c.receive_over.ensures
    ∙ ap (λ (columns : Kind → List ℕ). receive_answer columns c.args.receiver c.args.kind c.args.number) c.own_columns.ensures

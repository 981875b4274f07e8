-- `whole_frame::receive_by_format` meets its contract: the columns are document 01's. Assumes nothing.
use mathlib.Core.Path.{ap, ◌∙◌}
use mathlib.Core.List.{List}
use Prim.Native.Nat.{ℕ}
use Rattle.frame.specs.declared.Kind.{Kind}
use Rattle.whole_frame.specs.ByFormat.{receive_by_format}
use Rattle.whole_frame.proofs.receive_by_format.Goals as goal

pub returns : goal.returns
returns c =
    c.receive_by_format_over.ensures
    ∙ ap (λ (columns : Kind → List ℕ). receive_by_format columns c.args.receiver c.args.format c.args.number) c.own_columns.ensures

-- `receiver::clock` meets its contract: the columns are document 01's. Assumes nothing.
use mathlib.Core.Path.{ap, ◌∙◌}
use mathlib.Core.List.{List}
use Prim.Native.Nat.{ℕ}
use Rattle.frame.specs.declared.Kind.{Kind}
use Rattle.receiver.specs.Clock.{clock_answer}
use Rattle.receiver.proofs.clock.Goals as goal

pub returns : goal.returns
returns c =
    c.clock_over.ensures
    ∙ ap (λ (columns : Kind → List ℕ). clock_answer columns c.args.receiver c.args.trigger c.args.«data») c.own_columns.ensures

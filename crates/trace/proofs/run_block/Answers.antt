-- `trace::run_block` meets its contract: the columns are document 01's. Assumes nothing.
use mathlib.Core.Path.{ap, ◌∙◌}
use mathlib.Core.List.{List}
use Prim.Native.Nat.{ℕ}
use Rattle.frame.specs.declared.Kind.{Kind}
use Rattle.trace.specs.Block.{run_block}
use Rattle.trace.proofs.run_block.Goals as goal

pub returns : goal.returns
returns c =
    c.run_block_over.ensures
    ∙ ap (λ (columns : Kind → List ℕ). run_block columns c.args.receiver c.args.block.now c.args.buffer.now) c.own_columns.ensures

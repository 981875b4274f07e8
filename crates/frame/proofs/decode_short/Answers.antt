-- `frame::decode_short` meets its contract, by what its callees ensure. Assumes nothing.
use mathlib.Core.Path.{ap, ◌∙◌}
use mathlib.Core.List.{List}
use Prim.Native.Nat.{ℕ}
use Rattle.frame.specs.declared.Kind.{Kind}
use Rattle.frame.specs.declared.Kind.TheVariants.{Short}
use Rattle.frame.specs.Decode.{decode_number}
use Rattle.frame.proofs.decode_short.Goals as goal

pub returns : goal.returns
returns c = c.decode.ensures ∙ ap (λ (columns : Kind → List ℕ). decode_number (columns Short) Short c.args.number) c.own_columns.ensures

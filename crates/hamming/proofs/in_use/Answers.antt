-- `hamming::in_use` meets its contract. Assumes nothing.
use mathlib.Core.Path.{sym}
use borrow.Author.Rules.{rules}
use lib.Seq.{take_all, length-take-le}
use Rattle.hamming.proofs.in_use.Goals as goal

pub returns-then-columns-le32 : goal.returns-then-columns-le32
returns-then-columns-le32 c = sym (take_all 32 _ c.if-columns-le32.true)

pub slice_bounds-result-end : goal.slice_bounds-result-end
slice_bounds-result-end c = sym (length-take-le _ c.args.columns.now (search rules))

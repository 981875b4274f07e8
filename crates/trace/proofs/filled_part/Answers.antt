-- `trace::filled_part` meets its contract. Assumes nothing.
use mathlib.Core.Path.{refl, sym}
use lib.Seq.{length-take-le}
use Rattle.trace.proofs.Filled.{within}
use Rattle.trace.proofs.filled_part.Goals as goal

pub slice_bounds-result-end : goal.slice_bounds-result-end
slice_bounds-result-end c = sym (length-take-le _ _ (rw c.filled_length-numbers.ensures (within _ _)))

pub returns : goal.returns
returns c = record { result_value = rw c.filled_length-numbers.ensures; ref_ptr_value = refl }

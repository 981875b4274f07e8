-- `trace::clocks::after_rest` meets its contract. Assumes nothing.
use mathlib.Core.Path.{refl}
use Rattle.trace.proofs.clocks.after_rest.Goals as goal

pub returns : goal.returns
returns c = rw c.rest_for-core.ensures refl

-- `trace::clocks::run_rest` meets its contract. The invariant: the clocks passed were at rest, and all but what is held is as at the first of
-- them, but for the bunch counter. Assumes nothing.
use Rattle.trace.proofs.Rest.{RestTo}
use Rattle.trace.proofs.clocks.run_rest.Given as goal

abbrev pub invariant-loop-at : goal.invariant-loop-at
invariant-loop-at l = RestTo l.progress l.block l.held l.at

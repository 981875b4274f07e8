-- `trace::clocks::rest_part` meets its contract. Assumes nothing.
use Rattle.laws.proofs.Rules.{granted}
use Rattle.trace.proofs.Rest.{rested_then}
use Rattle.trace.proofs.clocks.rest_part.Goals as goal

pub idle_part-idle-requires : goal.idle_part-idle-requires
idle_part-idle-requires c = (c.requires.0, search granted)

pub run_rest-requires : goal.run_rest-requires
run_rest-requires c = (c.idle_part-idle.ensures.0.going, c.idle_part-idle.ensures.1)

pub returns : goal.returns
returns c = rested_then _ _ _ _ c.idle_part-idle.ensures.0 c.run_rest.ensures

-- `trace::clocks::run_idle` meets its contract: the clocks passed were idle. Assumes nothing.
use Rattle.trace.proofs.Rest.{idle_run, idle_last_lem}
use Rattle.trace.proofs.clocks.run_idle.Goals as goal

pub returns : goal.returns
returns c =
    let pre = c.requires in
    let e = rw c.idle_end.ensures at c.unwrap_or-clocks.ensures in
    idle_last_lem _ _ pre.0 pre.1 _ (idle_run _ _ pre.0 pre.2 pre.1 _ e).1 _ c.after_idle.ensures

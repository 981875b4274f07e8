-- `trace::clocks::run_clocks` meets its contract. The invariant: the clocks still to come leave what all of them leave. Assumes nothing.
use mathlib.Core.Path.{◌≡◌}
use Prim.Native.Nat.{◌-◌}
use lib.ListN.{length}
use Rattle.frame.specs.Columns.{tables}
use Rattle.trace.specs.Run.{ProgressFacts, remaining}
use Rattle.trace.proofs.clocks.run_clocks.Given as goal

abbrev pub invariant-loop-progress : goal.invariant-loop-progress
invariant-loop-progress l =
    let columns = tables l.columns in
    (ProgressFacts l.progress l.block) × (length l.buffer ≡ length l.initial.buffer) × (remaining columns l.block l.progress l.buffer ≡ remaining columns l.block l.initial.progress l.initial.buffer)

abbrev pub decreases-loop-progress : goal.decreases-loop-progress
decreases-loop-progress l = length l.block - l.progress.next

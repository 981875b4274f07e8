-- What is filled stays within the output buffer.
use Rattle.std.proofs.Common.{◌≤◌, length}
use Rattle.ttclines.proofs.read_all.Given as goal

abbrev pub invariant-loop : goal.invariant-loop
invariant-loop g l = l.progress.filled ≤ length l.out

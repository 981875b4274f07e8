-- `ttclines::main` calls `read_all` with buffers of the sizes that it wants, of which nothing is filled.
use Rattle.std.proofs.Common.{arith}
use Rattle.ttclines.proofs.main.Goals as goal

pub read_all-read-requires : goal.read_all-read-requires
read_all-read-requires c = (omega arith, omega arith, omega arith)

-- `lent_columns::first_bad` meets its contract. The invariant: the columns so far are good, the flags are of their numbers, and the first bad column
-- is still to come. Assumes nothing.
use Rattle.frame.specs.Numbers.{check_bits}
use Rattle.lent_columns.proofs.Taken.{Going}
use Rattle.lent_columns.proofs.first_bad.Given as goal

abbrev pub invariant-loop-at : goal.invariant-loop-at
invariant-loop-at l = Going (check_bits l.kind) l.columns l.taken l.at

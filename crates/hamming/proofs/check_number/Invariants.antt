-- `hamming::check_number` meets its contract. The invariant: what is gathered, with the check number of the columns that are left, is the
-- check number of all. Assumes nothing.
use mathlib.Core.Path.{◌≡◌}
use lib.ListN.{drop}
use lib.Bits.{bit_xor}
use Rattle.hamming.specs.Code.{in_use, check_number}
use Rattle.hamming.proofs.check_number.Given as goal

abbrev pub invariant-loop-column : goal.invariant-loop-column
invariant-loop-column l = bit_xor l.check (check_number (drop l.column-index l.column-items) l.rest) ≡ check_number (in_use l.columns) l.data

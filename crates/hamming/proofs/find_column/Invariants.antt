-- `hamming::find_column` meets its contract. The invariant: a search from `at` on finds what a search from the start finds. Assumes nothing.
use mathlib.Core.Path.{◌≡◌}
use Prim.Native.Nat.{◌-◌}
use lib.ListN.{length, drop}
use Rattle.hamming.specs.Code.{in_use, first_from, first_equal}
use Rattle.hamming.proofs.find_column.Given as goal

abbrev pub invariant-loop-at : goal.invariant-loop-at
invariant-loop-at l = first_from l.at (drop l.at l.used) l.syndrome ≡ first_equal (in_use l.columns) l.syndrome

abbrev pub decreases-loop-at : goal.decreases-loop-at
decreases-loop-at l = length l.used - l.at

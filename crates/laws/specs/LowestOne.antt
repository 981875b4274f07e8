-- Which bit of a number is the lowest that is 1.
use Rattle.std.specs.Prelude.{ℕ}
use Rattle.std.specs.Int.Count.{count_trailing_zeros}

-- counted from 0; 0 for the number 0, which has none. A number n has no more than n bits, so n bits are enough to look at.
unfoldable pub lowest_one : ℕ → ℕ
lowest_one n = count_trailing_zeros n n

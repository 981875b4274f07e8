-- The parts of a lent table that are lent on. Assumes nothing.
use mathlib.Core.Path.{◌≡◌, ap, ◌∙◌}
use mathlib.Core.List.{List}
use Prim.Native.Nat.{ℕ}
use native.Mathlib.Omega.{arith}
use lib.ListN.{length, take, drop, length-take}
use lib.Seq.{take_all, take-take, length-take-le}
use lib.Dec.{lit≤}
use Rattle.std.proofs.Common.{length-drop}
use Rattle.hamming.specs.Code.{in_use}
use Rattle.frame.specs.Columns.{columns_for}
use Rattle.lent_columns.specs.Check.{lent_short, lent_long, lent_columns}

-- how many columns each group has
pub short_length : (table : List ℕ) → length table ≡ 40 → length (lent_short table) ≡ 8
short_length table h = length-take-le 8 table (omega arith)

pub long_length : (table : List ℕ) → length table ≡ 40 → length (lent_long table) ≡ 32
long_length table h = length-take-le 32 (drop 8 table) (omega (arith, length-drop 8 table))

-- all columns of a group are in use
pub short_in_use : (table : List ℕ) → in_use (lent_short table) ≡ lent_short table
short_in_use table = take_all 32 (take 8 table) (omega (arith, length-take 8 table))

pub long_in_use : (table : List ℕ) → in_use (lent_long table) ≡ lent_long table
long_in_use table = take-take 32 32 (drop 8 table) (lit≤ tt)

-- the columns of each kind
pub lent_in_use : (table : List ℕ) → columns_for (in_use (lent_short table)) (in_use (lent_long table)) ≡ lent_columns table
lent_in_use table =
    ap (λ (short : List ℕ). columns_for short (in_use (lent_long table))) (short_in_use table) ∙ ap (columns_for (lent_short table)) (long_in_use table)

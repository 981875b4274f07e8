-- Document 01, "Frames on channel B": the table of columns, and its rule. Proved in proofs/Columns.antt.
use Rattle.std.specs.Prelude.{ℕ, ◌^◌, ◌<◌, ◌≡◌, Bool, true, false, cond, List, [], ◌∷◌, eqb, ltb, take, get_or, Option, Some, None}
use Rattle.std.specs.Int.Count.{ones}
use Rattle.laws.specs.Tests.{every}
use Rattle.laws.specs.Table.{every_entry}
use Rattle.hamming.specs.Code.{first_equal}

-- "each data bit i (0 = least) has a column number"; "Columns for bits 0..31"
abbrev pub column_table : List ℕ
column_table =
    7 ∷ 11 ∷ 13 ∷ 14 ∷ 19 ∷ 21 ∷ 22 ∷ 25
    ∷ 26 ∷ 28 ∷ 35 ∷ 37 ∷ 38 ∷ 41 ∷ 42 ∷ 44
    ∷ 49 ∷ 50 ∷ 52 ∷ 56 ∷ 67 ∷ 69 ∷ 70 ∷ 73
    ∷ 74 ∷ 76 ∷ 81 ∷ 82 ∷ 84 ∷ 88 ∷ 97 ∷ 98 ∷ []

-- "the short frame uses the first eight"
abbrev pub short_columns : List ℕ
short_columns = take 8 column_table

-- a long frame uses all 32
abbrev pub long_columns : List ℕ
long_columns = column_table

-- how many check bits the column of bit i must fit: the 5 of a short frame, or the 7 of a long one
abbrev pub width_at : ℕ → ℕ
width_at i = cond (ltb i 8) 5 7

-- the search found bit i
abbrev pub is_at : ℕ → Option ℕ → Bool
is_at i (Some k) = eqb k i
is_at i None = false

-- "Each has exactly three one bits and no two are equal", and it fits: the tests of the column of bit i.
-- That no two are equal is tested as: the first column of the table that equals it is its own.
abbrev pub column_tests : ℕ → ℕ → List Bool
column_tests i column =
    eqb (ones column) 3
    ∷ is_at i (first_equal column_table column)
    ∷ ltb column (2 ^ width_at i)
    ∷ []

-- the whole table follows the rule: a test that is computed
abbrev pub TableFollowsRule : Type 0
TableFollowsRule = every_entry (λ (i column : ℕ). every (column_tests i column)) column_table ≡ true

-- the same as facts
pub record ColumnFacts (i : ℕ) : Type 0 where
  pub three : ones (get_or column_table i 0) ≡ 3
  pub distinct : (k : ℕ) → k < 32 → get_or column_table i 0 ≡ get_or column_table k 0 → i ≡ k
  pub fits : get_or column_table i 0 < 2 ^ width_at i

abbrev pub TableFacts : Type 0
TableFacts = (i : ℕ) → i < 32 → ColumnFacts i

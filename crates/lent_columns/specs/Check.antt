-- Document 02, Q-11: the columns that a caller lends, and their check. `ColumnsAnswer` is a struct of src/lib.rt.
use Rattle.std.specs.Prelude.{ℕ, suc, ◌+◌, ◌%◌, ◌^◌, Bool, not, cond, List, [], ◌∷◌, eqb, ltb, leb, length, take, drop, Result}
use Rattle.std.specs.Int.Count.{ones}
use Rattle.laws.specs.Tests.{every}
use Rattle.laws.specs.OneOf.{one_of}
use Rattle.refusals.specs.declared.Refusal.{Refusal}
use Rattle.refusals.specs.Refusals.{number_of, index_of}
use Rattle.frame.specs.declared.Columns.{Columns}
use Rattle.frame.specs.declared.Kind.{Kind}
use Rattle.frame.specs.declared.Kind.TheVariants.{Short, Long}
use Rattle.frame.specs.Numbers.{check_bits}
use Rattle.frame.specs.Columns.{columns_for}
use Rattle.lent_columns.specs.declared.ColumnsAnswer.{ColumnsAnswer}

-- "let the caller lend 40 column numbers from bit 0 on, eight for short, then 32 for long frames"
abbrev pub table_length : ℕ
table_length = 40

abbrev pub lent_short : List ℕ → List ℕ
lent_short table = take 8 table

abbrev pub lent_long : List ℕ → List ℕ
lent_long table = take 32 (drop 8 table)

abbrev pub lent_columns : List ℕ → Kind → List ℕ
lent_columns table = columns_for (lent_short table) (lent_long table)

-- "Each group must be distinct numbers with an odd count of ones, three or more, inside 5 or 7 bits.": the tests of a column, of w bits.
-- "Of two equal columns the later is bad.": `earlier` are those of its group before it.
abbrev pub column_tests : ℕ → List ℕ → ℕ → List Bool
column_tests w earlier column =
    eqb (ones column % 2) 1
    ∷ leb 3 (ones column)
    ∷ ltb column (2 ^ w)
    ∷ not (one_of earlier column)
    ∷ []

-- the index in its group of the first bad column; how many they are if there is none
unfoldable pub first_bad : ℕ → List ℕ → List ℕ → ℕ
first_bad w earlier [] = 0
first_bad w earlier (column ∷ columns) =
    cond (every (column_tests w earlier column)) (suc (first_bad w (column ∷ earlier) columns)) 0

abbrev pub columns_answer : ℕ → ℕ → ColumnsAnswer
columns_answer refusal index = record { refusal = refusal; index = index }

-- "27 not 40 numbers; 28 first bad column, its index told", counted from 0 over both groups
unfoldable pub check_columns : List ℕ → ColumnsAnswer
check_columns table =
    let short = first_bad (check_bits Short) [] (lent_short table) in
    let long = first_bad (check_bits Long) [] (lent_long table) in
    cond (eqb (length table) table_length)
    (cond (ltb short 8) (columns_answer 28 short)
    (cond (ltb long 32) (columns_answer 28 (8 + long))
    (columns_answer 0 0)))
    (columns_answer 27 0)

-- what C is handed by the check
abbrev pub columns_outcome : Result Columns Refusal → ColumnsAnswer
columns_outcome given = columns_answer (number_of given) (index_of given)

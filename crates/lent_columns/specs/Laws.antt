-- Document 02, Q-11: what the check of lent columns says of them. Proved in proofs/Laws.antt.
use Rattle.std.specs.Prelude.{ℕ, ◌%◌, ◌^◌, ◌<◌, ◌≤◌, ◌≡◌, ◌≢◌, ◌↔◌, cond, List, ltb, length, get_or}
use Rattle.std.specs.Int.Count.{ones}
use Rattle.frame.specs.Columns.{GoodTables}
use Rattle.lent_columns.specs.Check.{table_length, lent_columns, columns_answer, check_columns}

-- the group of a column, by its index in the table: the index of the group's first column, and the bits that its columns must be inside
abbrev pub group_start : ℕ → ℕ
group_start i = cond (ltb i 8) 0 8

abbrev pub group_width : ℕ → ℕ
group_width i = cond (ltb i 8) 5 7

-- "Each group must be distinct numbers with an odd count of ones, three or more, inside 5 or 7 bits. .. Of two equal columns the later is bad.": what
-- makes a column bad
pub data BadColumn (table : List ℕ) (i : ℕ) : Type 0 where
  even : ones (get_or table i 0) % 2 ≡ 0 → BadColumn table i
  few : ones (get_or table i 0) < 3 → BadColumn table i
  wide : 2 ^ group_width i ≤ get_or table i 0 → BadColumn table i
  equal : (k : ℕ) → group_start i ≤ k → k < i → get_or table k 0 ≡ get_or table i 0 → BadColumn table i

-- "first bad column": the least index over both groups
pub record FirstBad (table : List ℕ) (i : ℕ) : Type 0 where
  pub within : i < table_length
  pub bad : BadColumn table i
  pub least : (k : ℕ) → k < i → BadColumn table k → ⊥

-- the check accepts the table
abbrev pub Passes : List ℕ → Type 0
Passes table = (check_columns table).refusal ≡ 0

pub record CheckLaws (table : List ℕ) : Type 0 where
  -- a table passes exactly if both groups are good columns in the sense of the theorems, one for each data bit, and there are no others
  pub passes_exactly : Passes table ↔ ((length table ≡ table_length) × GoodTables (lent_columns table))
  -- "27 not 40 numbers"
  pub refused_by_27 : (check_columns table ≡ columns_answer 27 0) ↔ (length table ≢ table_length)
  -- "28 first bad column, its index told"
  pub refused_by_28 : (i : ℕ) → (check_columns table ≡ columns_answer 28 i) ↔ ((length table ≡ table_length) × FirstBad table i)
  -- by no other number, and without an index but with 28
  pub no_other : ((check_columns table).refusal ≢ 27) → ((check_columns table).refusal ≢ 28) → Passes table
  pub no_index : ((check_columns table).refusal ≢ 28) → (check_columns table).index ≡ 0

abbrev pub CheckTheorem : Type 0
CheckTheorem = (table : List ℕ) → CheckLaws table

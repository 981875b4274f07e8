-- Document 01, "Frames on channel B": the columns of each kind of frame.
use Rattle.std.specs.Prelude.{ℕ, ◌≡◌, List, length}
use Rattle.hamming.specs.Code.{in_use}
use Rattle.hamming.specs.Columns.{short_columns, long_columns}
use Rattle.hamming.specs.Correction.{GoodColumns}
use Rattle.frame.specs.declared.Kind.{Kind}
use Rattle.frame.specs.declared.Kind.TheVariants.{Short, Long}
use Rattle.frame.specs.declared.Columns.{Columns}
use Rattle.frame.specs.Numbers.{data_bits, check_bits}

-- those of a short frame, and those of a long one
abbrev pub columns_for : List ℕ → List ℕ → Kind → List ℕ
columns_for short long Short = short
columns_for short long Long = long

-- those that a call is lent, as far as they are in use. `Columns` is a struct of src/lib.rt.
abbrev pub tables : Columns → Kind → List ℕ
tables columns = columns_for (in_use columns.short.now) (in_use columns.long.now)

-- document 01's own: "the short frame uses the first eight"
abbrev pub columns_of : Kind → List ℕ
columns_of = columns_for short_columns long_columns

-- good columns for each kind, one for each data bit
abbrev pub GoodTables : (Kind → List ℕ) → Type 0
GoodTables columns = (kind : Kind) → (length (columns kind) ≡ data_bits kind) × GoodColumns (check_bits kind) (columns kind)

-- document 01's own columns are such. Proved in proofs/OwnColumns.antt.
abbrev pub TablesGood : Type 0
TablesGood = GoodTables columns_of

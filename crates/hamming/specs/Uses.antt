-- Document 01's two uses of the correction theorem, and its trap. Proved in proofs/Uses.antt.
use Rattle.std.specs.Prelude.{ℕ, ◌≡◌, ◌⊎◌, None}
use Rattle.hamming.specs.Code.{syndrome, decode_word}
use Rattle.hamming.specs.Columns.{short_columns, long_columns}
use Rattle.hamming.specs.Correction.{GoodColumns, Corrects}

-- a short frame: "8 data bits, 5 check bits"
abbrev pub ShortColumnsGood : Type 0
ShortColumnsGood = GoodColumns 5 short_columns

abbrev pub ShortFrames : Type 0
ShortFrames = Corrects 5 short_columns

-- a long frame: "32 word bits, 7 check bits"
abbrev pub LongColumnsGood : Type 0
LongColumnsGood = GoodColumns 7 long_columns

abbrev pub LongFrames : Type 0
LongFrames = Corrects 7 long_columns

-- "Traps": not every odd syndrome is one flip, "26, 28 and 31 belong to no bit of a short frame"
abbrev pub OddButNoBit : Type 0
OddButNoBit = (d check s : ℕ) → (s ≡ 26) ⊎ ((s ≡ 28) ⊎ (s ≡ 31)) → syndrome short_columns d check ≡ s → decode_word short_columns d check ≡ None

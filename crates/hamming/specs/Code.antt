-- Document 01, "Frames on channel B": check number, syndrome, and what the decoder of a word answers, over any list of columns.
-- The column of data bit i, "0 = least", stands at index i. `WrongBit` and `Word` are types of src/lib.rt.
use Rattle.std.specs.Prelude.{ℕ, suc, ◌/◌, ◌%◌, ◌^◌, cond, List, [], ◌∷◌, eqb, take, Option, Some, None}
use Rattle.std.specs.Int.Bits.{bit_xor}
use Rattle.std.specs.Int.Count.{ones}
use Rattle.laws.specs.LowestOne.{lowest_one}
use Rattle.hamming.specs.declared.WrongBit.{WrongBit}
use Rattle.hamming.specs.declared.WrongBit.TheVariants.{Check, Data}
use Rattle.hamming.specs.declared.Word.{Word}

-- the columns in use of a lent table: all of it, or the first 32, since the functions take 32 bits of data
abbrev pub in_use : List ℕ → List ℕ
in_use columns = take 32 columns

-- "The check number is the exclusive-or of the columns of the data bits that are 1": that of bit 0, then those of the rest
unfoldable pub check_number : List ℕ → ℕ → ℕ
check_number [] d = 0
check_number (column ∷ columns) d = bit_xor (cond (eqb (d % 2) 1) column 0) (check_number columns (d / 2))

-- "The syndrome is received check number xor the check number of the received data."
unfoldable pub syndrome : List ℕ → ℕ → ℕ → ℕ
syndrome columns d check = bit_xor check (check_number columns d)

-- the first column that equals s, its bit counted from i
unfoldable pub first_from : ℕ → List ℕ → ℕ → Option ℕ
first_from i [] s = None
first_from i (column ∷ columns) s = cond (eqb column s) (Some i) (first_from (suc i) columns s)

-- "find the first column that equals the syndrome"; `None` where no column does
abbrev pub first_equal : List ℕ → ℕ → Option ℕ
first_equal columns s = first_from 0 columns s

-- data d, with this wrong bit; `None` where no bit was wrong
abbrev pub word_with : ℕ → Option WrongBit → Word
word_with d wrong = record { «data» = d; wrong = wrong }

-- "and flip that data bit. Anything else can't be corrected", and has no word.
abbrev pub by_column : ℕ → Option ℕ → Option Word
by_column d (Some i) = Some (word_with (bit_xor d (2 ^ i)) (Some (Data i)))
by_column d None = None

-- the decoder of a word: what the syndrome s says of the received data d.
-- "Syndrome 0: clean. A syndrome with one bit set: that check bit was wrong, the data stand. Equal to a column in use: ..."
unfoldable pub by_syndrome : List ℕ → ℕ → ℕ → Option Word
by_syndrome columns d s =
    cond (eqb s 0) (Some (word_with d None))
    (cond (eqb (ones s) 1) (Some (word_with d (Some (Check (lowest_one s)))))
    (by_column d (first_equal columns s)))

-- the same of data and check number as received
unfoldable pub decode_word : List ℕ → ℕ → ℕ → Option Word
decode_word columns d check = by_syndrome columns d (syndrome columns d check)

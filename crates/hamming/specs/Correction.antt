-- Document 01, "Frames on channel B": what the code corrects, over any good columns: every answer about damaged frames depends on this. Proved in proofs/Correction.antt.
-- It is a code with columns of odd weight (Hsiao): it corrects one wrong bit and detects two.
use Rattle.std.specs.Prelude.{ℕ, ◌%◌, ◌^◌, ◌≤◌, ◌<◌, ◌≡◌, Bool, ◌≢◌, ◌↔◌, List, [], ◌∷◌, length, get_or, Option, Some, None, is_some}
use Rattle.std.specs.Int.Bits.{bit_xor}
use Rattle.std.specs.Int.Count.{ones}
use Rattle.hamming.specs.declared.WrongBit.{WrongBit}
use Rattle.hamming.specs.declared.WrongBit.TheVariants.{Check, Data}
use Rattle.hamming.specs.declared.Word.{Word}
use Rattle.hamming.specs.Code.{check_number, syndrome, word_with, decode_word}

-- a word as it is sent or received: its data bits and its check number
pub record Coded : Type 0 where
  pub bits : ℕ
  pub check : ℕ

-- the data d as they are sent
abbrev pub encoded : List ℕ → ℕ → Coded
encoded columns d = record { bits = d; check = check_number columns d }

abbrev pub syndrome_of : List ℕ → Coded → ℕ
syndrome_of columns word = syndrome columns word.bits word.check

-- what the decoder answers of a received word
abbrev pub decoded : List ℕ → Coded → Option Word
decoded columns word = decode_word columns word.bits word.check

-- the word with that bit flipped; `None` flips nothing
abbrev pub flip : Option WrongBit → Coded → Coded
flip None word = word
flip (Some (Check j)) word = record { bits = word.bits; check = bit_xor word.check (2 ^ j) }
flip (Some (Data i)) word = record { bits = bit_xor word.bits (2 ^ i); check = word.check }

-- 01's term "protected bit": "Protected bits are data and check bits; start, format and stop are not." Of n data bits and w check bits:
abbrev pub Protected : ℕ → ℕ → Option WrongBit → Type 0
Protected n w None = ⊥
Protected n w (Some (Check j)) = j < w
Protected n w (Some (Data i)) = i < n

abbrev pub NoneOrProtected : ℕ → ℕ → Option WrongBit → Type 0
NoneOrProtected n w None = Unit {0}
NoneOrProtected n w (Some (Check j)) = Protected n w (Some (Check j))
NoneOrProtected n w (Some (Data i)) = Protected n w (Some (Data i))

-- these bits flipped, one after the other; a bit that stands there twice is flipped back
abbrev pub flip_each : List (Option WrongBit) → Coded → Coded
flip_each [] word = word
flip_each (p ∷ ps) word = flip p (flip_each ps word)

abbrev pub EachProtected : ℕ → ℕ → List (Option WrongBit) → Type 0
EachProtected n w [] = Unit {0}
EachProtected n w (p ∷ ps) = Protected n w p × EachProtected n w ps

-- the corrected flag: set where a bit is named, for a wrong check bit too
abbrev pub flag_of : Option WrongBit → Bool
flag_of wrong = is_some wrong

-- good columns for w check bits: below 2 ^ w, an odd number of ones, at least three, and no two equal
pub record GoodColumns (w : ℕ) (columns : List ℕ) : Type 0 where
  pub fit : (i : ℕ) → i < length columns → get_or columns i 0 < 2 ^ w
  pub odd : (i : ℕ) → i < length columns → ones (get_or columns i 0) % 2 ≡ 1
  pub at_least_three : (i : ℕ) → i < length columns → 3 ≤ ones (get_or columns i 0)
  pub distinct : (i k : ℕ) → i < length columns → k < length columns → get_or columns i 0 ≡ get_or columns k 0 → i ≡ k

-- the word is within one flip of the encoding of d: it is that encoding with bit p flipped, which is none or a protected one
pub record Within (w : ℕ) (columns : List ℕ) (word : Coded) (d : ℕ) (p : Option WrongBit) : Type 0 where
  pub word_is : word ≡ flip p (encoded columns d)
  pub bit : NoneOrProtected (length columns) w p

-- no encoded word is within one flip
abbrev pub NoneWithin : ℕ → List ℕ → Coded → Type 0
NoneWithin w columns word = (d : ℕ) (p : Option WrongBit) → Within w columns word d p → ⊥

-- ---- the facts, of w check bits and any columns

-- an encoded word is clean
abbrev pub Clean : List ℕ → Type 0
Clean columns = (d : ℕ) → decoded columns (encoded columns d) ≡ Some (word_with d None)

-- one protected bit flipped: the data come back, and the bit is named
abbrev pub OneFlip : ℕ → List ℕ → Type 0
OneFlip w columns = (d : ℕ) (p : Option WrongBit) → Protected (length columns) w p → decoded columns (flip p (encoded columns d)) ≡ Some (word_with d p)

-- two different protected bits flipped: uncorrectable
abbrev pub TwoFlips : ℕ → List ℕ → Type 0
TwoFlips w columns =
    (d : ℕ) (p q : Option WrongBit) → Protected (length columns) w p → Protected (length columns) w q → p ≢ q
    → decoded columns (flip q (flip p (encoded columns d))) ≡ None

-- any number of protected bits flipped: the number of ones in the syndrome is odd exactly if that number is
abbrev pub FlipsParity : ℕ → List ℕ → Type 0
FlipsParity w columns =
    (d : ℕ) (flips : List (Option WrongBit)) → EachProtected (length columns) w flips
    → ones (syndrome_of columns (flip_each flips (encoded columns d))) % 2 ≡ length flips % 2

-- conversely, of a received word whose check number is below 2 ^ w: data d and bit p are answered only if the word is the encoding of d with
-- exactly that bit flipped, none if clean. So the flag, `flag_of p`, says whether there is one.
abbrev pub AnswerWithin : ℕ → List ℕ → Type 0
AnswerWithin w columns =
    (word : Coded) → word.check < 2 ^ w → (d : ℕ) (p : Option WrongBit) → decoded columns word ≡ Some (word_with d p)
    → Within w columns word d p

-- and of such a word, uncorrectable is answered exactly when no encoded word is within one flip
abbrev pub UncorrectableExactly : ℕ → List ℕ → Type 0
UncorrectableExactly w columns = (word : Coded) → word.check < 2 ^ w → (decoded columns word ≡ None) ↔ NoneWithin w columns word

-- a check number is below 2 ^ w
abbrev pub CheckFits : ℕ → List ℕ → Type 0
CheckFits w columns = (d : ℕ) → check_number columns d < 2 ^ w

-- with n columns: if the data received are below 2 ^ n, so are the data answered
abbrev pub DataFits : List ℕ → Type 0
DataFits columns =
    (word : Coded) → word.bits < 2 ^ length columns → (d : ℕ) (p : Option WrongBit) → decoded columns word ≡ Some (word_with d p)
    → d < 2 ^ length columns

pub record Corrects (w : ℕ) (columns : List ℕ) : Type 0 where
  pub clean : Clean columns
  pub one_flip : OneFlip w columns
  pub two_flips : TwoFlips w columns
  pub flips_parity : FlipsParity w columns
  pub answer_within : AnswerWithin w columns
  pub uncorrectable_exactly : UncorrectableExactly w columns
  pub check_fits : CheckFits w columns
  pub data_fits : DataFits columns

-- the theorem, once over any width, any number of columns and any good columns
abbrev pub CorrectionTheorem : Type 0
CorrectionTheorem = (w : ℕ) (columns : List ℕ) → GoodColumns w columns → Corrects w columns

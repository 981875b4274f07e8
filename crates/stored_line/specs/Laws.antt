-- Document 01, "Stored lines" and "Numbers of refusal": which lines the reader refuses and what the writer refuses, each exactly and in order.
-- Proved in proofs/Laws.antt.
use Rattle.std.specs.Prelude.{ℕ, ◌+◌, ◌*◌, ◌^◌, ◌≤◌, ◌<◌, ◌≡◌, ◌≢◌, ◌⊎◌, ◌↔◌, true, false, List, [], ◌∷◌, ◌++◌, length, drop, Ok, Err}
use Rattle.frame.specs.declared.Kind.{Kind}
use Rattle.frame.specs.declared.Kind.TheVariants.{Short, Long}
use Rattle.frame.specs.Numbers.{is_frame}
use Rattle.refusals.specs.declared.Refusal.{Refusal}
use Rattle.refusals.specs.declared.Refusal.TheVariants.{LineLength, Character, Frame}
use Rattle.refusals.specs.Refusals.{number}
use Rattle.stored_line.specs.Digits.{digit_value, hex_number, hex_digits}
use Rattle.stored_line.specs.Read.{stored_frame, read_line, refused_line_answer, line_answer}
use Rattle.stored_line.specs.Write.{write_done, write_line}

-- ---- digits

abbrev pub Between : ℕ → ℕ → ℕ → Type 0
Between low character high = (low ≤ character) × (character ≤ high)

-- "0-9, A-F", by their codes
abbrev pub Capital : ℕ → Type 0
Capital character = Between 48 character 57 ⊎ Between 65 character 70

-- "0-9, A-F, a-f"
abbrev pub Digit : ℕ → Type 0
Digit character = Capital character ⊎ Between 97 character 102

-- it holds of each character
abbrev pub Each : (ℕ → Type 0) → List ℕ → Type 0
Each P [] = Unit {0}
Each P (character ∷ characters) = P character × Each P characters

-- what a digit is worth, and what digits one after the other are worth
pub record DigitLaws : Type 0 where
  -- 0-9 are worth 0 to 9, and A-F 10 to 15
  pub figures : (value : ℕ) → value ≤ 9 → digit_value (48 + value) ≡ value
  pub capitals : (value : ℕ) → value ≤ 5 → digit_value (65 + value) ≡ 10 + value
  -- a-f are worth what A-F are
  pub small_letters : (value : ℕ) → value ≤ 5 → digit_value (97 + value) ≡ digit_value (65 + value)
  -- exactly these characters are worth less than 16
  pub no_others : (character : ℕ) → (digit_value character < 16) ↔ Digit character
  -- "in hexadecimal"
  pub no_digits : hex_number [] ≡ 0
  pub one_more : (characters : List ℕ) (character : ℕ) → hex_number (characters ++ (character ∷ [])) ≡ hex_number characters * 16 + digit_value character

-- ---- frames

-- "A short number is under 2^14; a long one has bit 40 set and none above." A number that is no such frame has start, format or leading bits wrong.
pub record NumberLaws : Type 0 where
  pub short : (number : ℕ) → (is_frame Short number ≡ true) ↔ (number < 2 ^ 14)
  pub long : (number : ℕ) → (is_frame Long number ≡ true) ↔ ((2 ^ 40 ≤ number) × (number < 2 ^ 41))

-- ---- the reader

-- a line with the characters of a short or of a long frame
abbrev pub HasLength : Kind → List ℕ → Type 0
HasLength Short characters = length characters ≡ 4
HasLength Long characters = length characters ≡ 11

-- every line has one of these four answers
pub record LineReadLaws : Type 0 where
  -- 10, "line not 4 or 11 characters", "first"
  pub refused_by_10 : (characters : List ℕ) → length characters ≢ 4 → length characters ≢ 11 → read_line characters ≡ Err LineLength
  -- 11, "character not 0-9, A-F, a-f", "after 10"
  pub refused_by_11 : (kind : Kind) (characters : List ℕ) → HasLength kind characters → (Each Digit characters → ⊥) → read_line characters ≡ Err Character
  -- 12, "start, format or leading bits wrong for the length", "after 11"
  pub refused_by_12 : (kind : Kind) (characters : List ℕ) → HasLength kind characters → Each Digit characters → is_frame kind (hex_number characters) ≡ false
      → read_line characters ≡ Err Frame
  pub accepted : (kind : Kind) (characters : List ℕ) → HasLength kind characters → Each Digit characters → is_frame kind (hex_number characters) ≡ true
      → read_line characters ≡ Ok (stored_frame kind (hex_number characters))
  -- "A refused call returns its number with all other result fields 0"; "Success is number 0", and the kind is its format bit
  pub refusal_is : (refusal : ℕ) → refused_line_answer refusal ≡ record { refusal = refusal; kind = 0; number = 0 }
  pub refusal_answered : (refusal : Refusal) → line_answer (Err refusal) ≡ record { refusal = number refusal; kind = 0; number = 0 }
  pub numbers : (number LineLength ≡ 10) × (number Character ≡ 11) × (number Frame ≡ 12)
  pub short_is : (number : ℕ) → line_answer (Ok (stored_frame Short number)) ≡ record { refusal = 0; kind = 0; number = number }
  pub long_is : (number : ℕ) → line_answer (Ok (stored_frame Long number)) ≡ record { refusal = 0; kind = 1; number = number }

-- ---- the writer

-- "lent buffer under 5 bytes (short) or 12 (long)"
abbrev pub TooSmall : Kind → List ℕ → Type 0
TooSmall Short buffer = length buffer < 5
TooSmall Long buffer = length buffer < 12

-- every call has one of these four answers. `ReadWritten` says that the line reads as the number.
pub record LineWriteLaws : Type 0 where
  -- 12 before 14; either writes "no lent byte", and answers that none was written
  pub refused_by_12 : (kind : Kind) (number : ℕ) (buffer : List ℕ) → is_frame kind number ≡ false
      → write_line kind number buffer ≡ write_done (record { refusal = 12; size = 0 }) buffer
  -- 14, "after 12"
  pub refused_by_14 : (kind : Kind) (number : ℕ) (buffer : List ℕ) → is_frame kind number ≡ true → TooSmall kind buffer
      → write_line kind number buffer ≡ write_done (record { refusal = 14; size = 0 }) buffer
  -- "4 digits or 11 digits, then a line feed"; "its bytes beyond stay"
  pub short_written : (number : ℕ) (buffer : List ℕ) → is_frame Short number ≡ true → (TooSmall Short buffer → ⊥)
      → write_line Short number buffer ≡ write_done (record { refusal = 0; size = 5 }) ((hex_digits 4 number ++ (10 ∷ [])) ++ drop 5 buffer)
  pub long_written : (number : ℕ) (buffer : List ℕ) → is_frame Long number ≡ true → (TooSmall Long buffer → ⊥)
      → write_line Long number buffer ≡ write_done (record { refusal = 0; size = 12 }) ((hex_digits 11 number ++ (10 ∷ [])) ++ drop 12 buffer)
  -- "A written line has capitals"
  pub capitals : (digits number : ℕ) → Each Capital (hex_digits digits number)

-- Document 01, "Stored lines": hexadecimal digits.
use Rattle.std.specs.Prelude.{ℕ, zero, suc, ◌+◌, ◌-◌, ◌*◌, ◌/◌, ◌%◌, ◌^◌, Bool, true, ◌&&◌, cond, List, [], ◌∷◌, ◌++◌, ltb, leb, length, drop, Option, Some, None}

abbrev pub between : ℕ → ℕ → ℕ → Bool
between low character high = leb low character && leb character high

-- "0-9, A-F, a-f": the value of a digit, by the characters' codes 48..57, 65..70 and 97..102; 16 for a character that is no digit
unfoldable pub digit_value : ℕ → ℕ
digit_value character =
    cond (between 48 character 57) (character - 48)
    (cond (between 65 character 70) (character - 65 + 10)
    (cond (between 97 character 102) (character - 97 + 10) 16))

abbrev pub is_digit : ℕ → Bool
is_digit character = ltb (digit_value character) 16

-- the value of a digit, unless the character is none
abbrev pub digit_answer : ℕ → Option ℕ
digit_answer character = cond (is_digit character) (Some (digit_value character)) None

-- every character is a digit
unfoldable pub all_digits : List ℕ → Bool
all_digits [] = true
all_digits (character ∷ characters) = is_digit character && all_digits characters

-- the number that digits spell, the first most significant
unfoldable pub hex_number : List ℕ → ℕ
hex_number [] = 0
hex_number (character ∷ characters) = digit_value character * 16 ^ length characters + hex_number characters

-- what characters spell, unless one of them is no digit
unfoldable pub hex_answer : List ℕ → Option ℕ
hex_answer characters = cond (all_digits characters) (Some (hex_number characters)) None

-- "A written line has capitals"
unfoldable pub digit_character : ℕ → ℕ
digit_character value = cond (ltb value 10) (48 + value) (65 + (value - 10))

-- the last so many digits of a number
unfoldable pub hex_digits : ℕ → ℕ → List ℕ
hex_digits zero number = []
hex_digits (suc digits) number = hex_digits digits (number / 16) ++ (digit_character (number % 16) ∷ [])

-- these digits in front of the bytes beyond, which stay; a buffer without room for them stays as it was
unfoldable pub hex_written : ℕ → ℕ → List ℕ → List ℕ
hex_written digits number buffer = cond (ltb (length buffer) digits) buffer (hex_digits digits number ++ drop digits buffer)

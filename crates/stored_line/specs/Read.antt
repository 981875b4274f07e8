-- Document 01, "Stored lines" and "Numbers of refusal": the reader of a line. `StoredFrame` and `LineAnswer` are structs of src/lib.rt.
use Rattle.std.specs.Prelude.{ℕ, cond, List, eqb, length, Option, Some, None, Result, Ok, Err}
use Rattle.frame.specs.declared.Kind.{Kind}
use Rattle.frame.specs.declared.Kind.TheVariants.{Short, Long}
use Rattle.frame.specs.Numbers.{format_bit, is_frame}
use Rattle.refusals.specs.declared.Refusal.{Refusal}
use Rattle.refusals.specs.declared.Refusal.TheVariants.{LineLength, Character, Frame}
use Rattle.refusals.specs.Refusals.{number}
use Rattle.stored_line.specs.declared.StoredFrame.{StoredFrame}
use Rattle.stored_line.specs.declared.LineAnswer.{LineAnswer}
use Rattle.stored_line.specs.Digits.{hex_answer}

-- "4 digits or 11 digits"
abbrev pub digit_count : Kind → ℕ
digit_count Short = 4
digit_count Long = 11

-- the frame of a line
abbrev pub stored_frame : Kind → ℕ → StoredFrame
stored_frame kind number = record { kind = kind; number = number }

-- refusal 11: "character not 0-9, A-F, a-f"; then refusal 12: "start, format or leading bits wrong for the length"
abbrev pub read_hex : Kind → Option ℕ → Result StoredFrame Refusal
read_hex kind None = Err Character
read_hex kind (Some spelt) = cond (is_frame kind spelt) (Ok (stored_frame kind spelt)) (Err Frame)

abbrev pub read_as : Kind → List ℕ → Result StoredFrame Refusal
read_as kind characters = read_hex kind (hex_answer characters)

-- refusal 10, "line not 4 or 11 characters", is tested "first"
unfoldable pub read_line : List ℕ → Result StoredFrame Refusal
read_line characters =
    cond (eqb (length characters) 4) (read_as Short characters)
    (cond (eqb (length characters) 11) (read_as Long characters)
    (Err LineLength))

-- "A refused call returns its number with all other result fields 0"
abbrev pub refused_line_answer : ℕ → LineAnswer
refused_line_answer refusal = record { refusal = refusal; kind = 0; number = 0 }

-- what C is handed: the paper's number and values for each case; the kind is its format bit
abbrev pub line_answer : Result StoredFrame Refusal → LineAnswer
line_answer (Ok frame) = record { refusal = 0; kind = format_bit frame.kind; number = frame.number }
line_answer (Err refusal) = refused_line_answer (number refusal)

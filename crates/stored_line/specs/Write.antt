-- Document 01, "Stored lines" and "Numbers of refusal": the writer of a line. `Written` is a struct of src/lib.rt.
use Rattle.std.specs.Prelude.{ℕ, suc, cond, List, [], ◌∷◌, ◌++◌, ltb, length, drop, Result, Ok, Err}
use Rattle.frame.specs.declared.Kind.{Kind}
use Rattle.frame.specs.Numbers.{is_frame}
use Rattle.refusals.specs.declared.Refusal.{Refusal}
use Rattle.refusals.specs.Refusals.{number}
use Rattle.stored_line.specs.declared.Written.{Written}
use Rattle.stored_line.specs.Digits.{hex_digits}
use Rattle.stored_line.specs.Read.{digit_count}

-- what C is handed: the number of refusal, and how many bytes were written, 0 where refused
abbrev pub written_answer : Result ℕ Refusal → Written
written_answer (Ok size) = record { refusal = 0; size = size }
written_answer (Err refusal) = record { refusal = number refusal; size = 0 }

-- what the writer answers, and what the whole lent buffer then holds
pub record WriteDone : Type 0 where
  pub answer : Written
  pub buffer : List ℕ

abbrev pub write_done : Written → List ℕ → WriteDone
write_done answer buffer = record { answer = answer; buffer = buffer }

-- "4 digits or 11 digits, then a line feed"
abbrev pub line_length : Kind → ℕ
line_length kind = suc (digit_count kind)

abbrev pub line_of : Kind → ℕ → List ℕ
line_of kind number = hex_digits (digit_count kind) number ++ (10 ∷ [])

-- a refusal writes no byte
abbrev pub refused_line : ℕ → List ℕ → WriteDone
refused_line refusal buffer = write_done (record { refusal = refusal; size = 0 }) buffer

-- refusal 12 for a number that is no such frame; then refusal 14: "lent buffer under 5 bytes (short) or 12 (long)"; else the line, and "its
-- bytes beyond stay"
unfoldable pub write_line : Kind → ℕ → List ℕ → WriteDone
write_line kind number buffer =
    cond (is_frame kind number)
    (cond (ltb (length buffer) (line_length kind)) (refused_line 14 buffer)
    (write_done (record { refusal = 0; size = line_length kind }) (line_of kind number ++ drop (line_length kind) buffer)))
    (refused_line 12 buffer)

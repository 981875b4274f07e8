-- Document 01, "Stored lines": reading a written line gives the number back. Proved in proofs/ReadWritten.antt.
use Rattle.std.specs.Prelude.{ℕ, ◌≤◌, ◌≡◌, true, List, length, take, get_or, Ok}
use Rattle.frame.specs.declared.Kind.{Kind}
use Rattle.frame.specs.Numbers.{is_frame}
use Rattle.stored_line.specs.Read.{digit_count, stored_frame, read_line}
use Rattle.stored_line.specs.Write.{write_line, line_length}

-- of a frame number and a buffer with room: the line is written, what stands before the line feed reads as that number, and the line feed
-- follows it
abbrev pub ReadWritten : Type 0
ReadWritten =
    (kind : Kind) (number : ℕ) (buffer : List ℕ) → is_frame kind number ≡ true → line_length kind ≤ length buffer
    → ((write_line kind number buffer).answer ≡ record { refusal = 0; size = line_length kind })
    × (read_line (take (digit_count kind) (write_line kind number buffer).buffer) ≡ Ok (stored_frame kind number))
    × (get_or (write_line kind number buffer).buffer (digit_count kind) 0 ≡ 10)

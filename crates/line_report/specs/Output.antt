-- Document 01, "Stored lines", with document 02, Q-1: what the program `ttclines` prints of an input as a whole, line by line.
use Rattle.std.specs.Prelude.{ℕ, ◌+◌, ◌%◌, ◌^◌, cond, List, [], ◌∷◌, ◌++◌, replicate, ◌==◌, Result, Ok, Err}
use Rattle.frame.specs.declared.Kind.{Kind}
use Rattle.receiver_state.specs.declared.Receiver.{Receiver}
use Rattle.receiver_state.specs.State.{ids, fresh_state}
use Rattle.receiver.specs.declared.ClockAnswer.{ClockAnswer}
use Rattle.receiver.specs.Clock.{refused_clock}
use Rattle.whole_frame.specs.WholeFrame.{clocks_answer, no_clock, receive_answer}
use Rattle.refusals.specs.declared.Refusal.{Refusal}
use Rattle.refusals.specs.Refusals.{number}
use Rattle.stored_line.specs.declared.StoredFrame.{StoredFrame}
use Rattle.stored_line.specs.Read.{read_line}
use Rattle.line_report.specs.Text.{word_digits, line_text, core_end_text}

-- ---- lines

-- the last line, if it has no line feed and is not empty: "a last line without line feed counts too"
abbrev pub last_line : List ℕ → List (List ℕ)
last_line [] = []
last_line (character ∷ characters) = (character ∷ characters) ∷ []

-- the lines of an input after the characters of a line so far. A line feed, 10, ends a line: "An empty line is a line".
unfoldable pub lines_after : List ℕ → List ℕ → List (List ℕ)
lines_after characters [] = last_line characters
lines_after characters (byte ∷ bytes) = cond (byte == 10) (characters ∷ lines_after [] bytes) (lines_after (characters ++ (byte ∷ [])) bytes)

-- the lines of a whole input
abbrev pub lines_of : List ℕ → List (List ℕ)
lines_of input = lines_after [] input

-- ---- what a line does and prints

-- "feeds each line's bits with no triggers and no idle between": the last bit's clock. A refused line feeds no bit. On a receiver that is not
-- well formed, a line that is a frame is refused by 2; another by its own 10, 11 or 12.
abbrev pub feed_line : (Kind → List ℕ) → Receiver → Result StoredFrame Refusal → ClockAnswer
feed_line columns r (Ok frame) = receive_answer columns r frame.kind frame.number
feed_line columns r (Err refusal) = refused_clock (number refusal) r

-- document 02, Q-1: "`ttclines` now sends 41 ones after each line with verdict 7." They come without triggers.
unfoldable pub ones_sent : (Kind → List ℕ) → ClockAnswer → Receiver
ones_sent columns answer =
    cond (answer.outputs.verdict == 7) (clocks_answer columns (no_clock answer.receiver) (replicate 41 1)).receiver answer.receiver

-- the receiver after a line, and after the ones that follow it
abbrev pub after_line : (Kind → List ℕ) → Receiver → Result StoredFrame Refusal → Receiver
after_line columns r line = ones_sent columns (feed_line columns r line)

-- the number of the next line; it has 64 bits
abbrev pub next_line : ℕ → ℕ
next_line lines = (lines + 1) % 2 ^ 64

-- the text of a line that comes after so many lines; the ones that follow it print nothing
abbrev pub line_prints : (Kind → List ℕ) → Receiver → ℕ → Result StoredFrame Refusal → List ℕ
line_prints columns r lines line = line_text (next_line lines) (word_digits line) (feed_line columns r line)

-- ---- what an input prints

-- lines on a receiver that has taken so many lines, and the end
unfoldable pub lines_print : (Kind → List ℕ) → Receiver → ℕ → List (List ℕ) → List ℕ
lines_print columns r lines [] = core_end_text r.core
lines_print columns r lines (characters ∷ rest) =
    line_prints columns r lines (read_line characters)
    ++ lines_print columns (after_line columns r (read_line characters)) (next_line lines) rest

-- the receiver after lines
unfoldable pub lines_leave : (Kind → List ℕ) → Receiver → List (List ℕ) → Receiver
lines_leave columns r [] = r
lines_leave columns r (characters ∷ rest) = lines_leave columns (after_line columns r (read_line characters)) rest

-- "has ID 5 and I2C ID 5, starts fresh"
abbrev pub own_receiver : Receiver
own_receiver = fresh_state (ids 5 5)

-- all that `ttclines` prints of an input
unfoldable pub output_of : (Kind → List ℕ) → List ℕ → List ℕ
output_of columns input = lines_print columns own_receiver 0 (lines_of input)

-- Document 01, "Stored lines", with document 02, Q-1 and Q-8, for an input that comes in pieces: the report's state, one byte of input, a
-- piece, and the end of input.
-- `Report`, `LinePart` and `Reported` are structs of src/lib.rt.
use Rattle.std.specs.Prelude.{ℕ, suc, ◌+◌, ◌-◌, cond, List, [], ◌∷◌, ◌++◌, length, take, drop, ◌==◌, nat_lt, slice_set, Result, Err}
use Rattle.frame.specs.declared.Kind.{Kind}
use Rattle.frame.specs.declared.Kind.TheVariants.{Long}
use Rattle.frame.specs.Place.{largest_place}
use Rattle.receiver_state.specs.declared.Receiver.{Receiver}
use Rattle.verdicts.specs.Table.{largest_verdict}
use Rattle.refusals.specs.declared.Refusal.{Refusal}
use Rattle.refusals.specs.declared.Refusal.TheVariants.{LineLength}
use Rattle.stored_line.specs.declared.StoredFrame.{StoredFrame}
use Rattle.stored_line.specs.Read.{read_line}
use Rattle.line_report.specs.declared.LinePart.{LinePart}
use Rattle.line_report.specs.declared.Report.{Report}
use Rattle.line_report.specs.declared.Reported.{Reported}
use Rattle.line_report.specs.Text.{kind_digits, core_end_text}
use Rattle.line_report.specs.Output.{own_receiver, after_line, next_line, line_prints}

-- ---- the line so far

abbrev pub line_part : ℕ → List ℕ → LinePart
line_part count characters = record { count = count; characters = characters }

abbrev pub no_characters : List ℕ
no_characters = 0 ∷ 0 ∷ 0 ∷ 0 ∷ 0 ∷ 0 ∷ 0 ∷ 0 ∷ 0 ∷ 0 ∷ 0 ∷ []

abbrev pub empty_part : LinePart
empty_part = line_part 0 no_characters

-- more than 11 characters: whatever they are, and however many follow, the line will be refused by 10
abbrev pub long_part : LinePart
long_part = line_part 12 no_characters

-- one character more
unfoldable pub with_character : LinePart → ℕ → LinePart
with_character part character =
    cond (nat_lt part.count 11) (line_part (part.count + 1) (slice_set part.characters part.count character)) long_part

unfoldable pub with_characters : LinePart → List ℕ → LinePart
with_characters part [] = part
with_characters part (character ∷ characters) = with_characters (with_character part character) characters

-- how many bytes come before the first line feed, all of them if there is none
unfoldable pub until_feed : List ℕ → ℕ
until_feed [] = 0
until_feed (byte ∷ bytes) = cond (byte == 10) 0 (suc (until_feed bytes))

-- the line, if it ends here
unfoldable pub read_part : LinePart → Result StoredFrame Refusal
read_part part = cond (nat_lt 11 part.count) (Err LineLength) (read_line (take part.count part.characters))

-- ---- a byte of input

abbrev pub report : Receiver → ℕ → LinePart → Report
report r lines part = record { receiver = r; lines = lines; part = part }

-- "has ID 5 and I2C ID 5, starts fresh"
abbrev pub start_report : Report
start_report = report own_receiver 0 empty_part

module _ (columns : Kind → List ℕ) where
  -- a line ends
  abbrev pub line_ended : Report → Result StoredFrame Refusal → Report
  line_ended now line = report (after_line columns now.receiver line) (next_line now.lines) empty_part

  abbrev pub line_end_prints : Report → Result StoredFrame Refusal → List ℕ
  line_end_prints now line = line_prints columns now.receiver now.lines line

  -- a line feed ends the line; any other byte is one more character
  unfoldable pub after_byte : Report → ℕ → Report
  after_byte now byte =
      cond (byte == 10) (line_ended now (read_part now.part)) (report now.receiver now.lines (with_character now.part byte))

  -- what it prints: nothing before the line feed
  unfoldable pub byte_prints : Report → ℕ → List ℕ
  byte_prints now byte = cond (byte == 10) (line_end_prints now (read_part now.part)) []

  -- ---- all bytes of an input

  -- the report that they leave
  unfoldable pub after_bytes : Report → List ℕ → Report
  after_bytes now [] = now
  after_bytes now (byte ∷ bytes) = after_bytes (after_byte now byte) bytes

  -- and all that they print
  unfoldable pub bytes_print : Report → List ℕ → List ℕ
  bytes_print now [] = []
  bytes_print now (byte ∷ bytes) = byte_prints now byte ++ bytes_print (after_byte now byte) bytes

-- ---- a piece of the input, and a buffer

-- how many digits a number below 1000 has
abbrev pub digits_of : ℕ → ℕ
digits_of n = cond (nat_lt n 10) 1 (cond (nat_lt n 100) 2 3)

-- the longest text of an answer: the largest verdict, the flag, the word of a long frame and the largest place, with three spaces between
abbrev pub longest_answer : ℕ
longest_answer = digits_of largest_verdict + 1 + 1 + 1 + kind_digits Long + 1 + digits_of largest_place

-- the longest text of a line: a line number of 20 digits, a space, an answer and the line feed; 38 in all
abbrev pub longest_line : ℕ
longest_line = 20 + 1 + longest_answer + 1

-- what a call leaves: the report, how many bytes of input it used, and the text it wrote
pub record Work : Type 0 where
  pub report : Report
  pub used : ℕ
  pub text : List ℕ

abbrev pub work : Report → ℕ → List ℕ → Work
work now used text = record { report = now; used = used; text = text }

-- the same after a byte of input that printed a text
abbrev pub behind : List ℕ → Work → Work
behind text rest = work rest.report (suc rest.used) (text ++ rest.text)

module _ (columns : Kind → List ℕ) where
  -- byte for byte, until the piece is used up or the buffer could not hold another line's text: `room` bytes of it are free
  unfoldable pub work_on : ℕ → Report → List ℕ → Work
  work_on room now [] = work now 0 []
  work_on room now (byte ∷ bytes) =
      cond (nat_lt room longest_line) (work now 0 [])
      (behind (byte_prints columns now byte)
      (work_on (room - length (byte_prints columns now byte)) (after_byte columns now byte) bytes))

-- what a call answers, and what the whole lent buffer then holds: the text, and its bytes beyond as they were
pub record ReportDone : Type 0 where
  pub answer : Reported
  pub buffer : List ℕ

abbrev pub report_done : Reported → List ℕ → ReportDone
report_done answer buffer = record { answer = answer; buffer = buffer }

-- a text at the front of the buffer; and the room that was wanted, if its lack stopped the call
abbrev pub done_by : ℕ → Work → List ℕ → ReportDone
done_by wanted done buffer =
    report_done
    (record { report = done.report; used = done.used; written = length done.text; room_wanted = wanted })
    (done.text ++ drop (length done.text) buffer)

-- of a piece of `size` bytes some were not used: nothing but the lack of room for a line's text stops a call
unfoldable pub room_wanted : ℕ → ℕ → ℕ
room_wanted used size = cond (nat_lt used size) longest_line 0

-- what `report_input` gives
abbrev pub report_input : (Kind → List ℕ) → Report → List ℕ → List ℕ → ReportDone
report_input columns now input buffer =
    done_by (room_wanted (work_on columns (length buffer) now input).used (length input)) (work_on columns (length buffer) now input) buffer

-- ---- the end of input

-- the longest text of the end: the longest line, and 28 bytes for `end` with numbers of 5, 3, 8 and 4 digits, as a well-formed receiver has them; 66 in
-- all. A receiver that is not well formed may have larger counts, and refuses the line.
abbrev pub longest_end : ℕ
longest_end = longest_line + 28

module _ (columns : Kind → List ℕ) where
  -- a last line that has a character but no line feed ends here
  unfoldable pub after_last : Report → Report
  after_last now = cond (now.part.count == 0) now (line_ended columns now (read_part now.part))

  -- what it prints
  unfoldable pub last_prints : Report → List ℕ
  last_prints now = cond (now.part.count == 0) [] (line_end_prints columns now (read_part now.part))

  -- all that the end prints
  abbrev pub end_prints : Report → List ℕ
  end_prints now = last_prints now ++ core_end_text (after_last now).receiver.core

  -- a smaller buffer writes nothing, and the report stays
  unfoldable pub end_work : ℕ → Report → Work
  end_work room now = cond (nat_lt room longest_end) (work now 0 []) (work (after_last now) 0 (end_prints now))

-- the room that the end wants: none if the buffer has it
unfoldable pub end_wanted : ℕ → ℕ
end_wanted room = cond (nat_lt room longest_end) longest_end 0

-- what `report_end` gives
abbrev pub report_end : (Kind → List ℕ) → Report → List ℕ → ReportDone
report_end columns now buffer = done_by (end_wanted (length buffer)) (end_work columns (length buffer) now) buffer

-- Document 01, "Stored lines", for an input that comes in pieces: how it is cut, and how large the buffers are, never shows in what is written.
-- Proved in proofs/Cuts.antt.
use Rattle.std.specs.Prelude.{ℕ, ◌+◌, ◌-◌, ◌*◌, ◌^◌, ◌≤◌, ◌<◌, ◌≡◌, ◌⊎◌, ◌↔◌, true, List, [], ◌∷◌, ◌++◌, length, take, drop}
use Rattle.frame.specs.declared.Kind.{Kind}
use Rattle.frame.specs.Columns.{columns_of}
use Rattle.receiver_state.specs.declared.Receiver.{Receiver}
use Rattle.receiver_state.specs.State.{ids, errors, counters, receiver, with_errors, with_counters, nothing_held, fresh_core}
use Rattle.receiver_state.specs.WellFormed.{well_formed}
use Rattle.line_report.specs.declared.LinePart.{LinePart}
use Rattle.line_report.specs.declared.Report.{Report}
use Rattle.line_report.specs.Output.{lines_of, lines_leave, own_receiver, output_of}
use Rattle.line_report.specs.Report.{line_part, report, start_report, byte_prints, after_bytes, bytes_print, longest_line, Work, work, ReportDone, report_done, room_wanted, report_input, longest_end, end_prints, report_end}

-- ---- a list of calls

-- what a call is offered: so many of the bytes that are left of the input, or all if there are fewer; and a buffer, with what it holds
pub record Offer : Type 0 where
  pub count : ℕ
  pub buffer : List ℕ

-- the bytes that a call wrote: the front of its buffer
abbrev pub written_by : ReportDone → List ℕ
written_by done = take done.answer.written done.buffer

module _ (columns : Kind → List ℕ) where
  abbrev pub offered : Report → List ℕ → Offer → ReportDone
  offered now input offer = report_input columns now (take offer.count input) offer.buffer

  -- calls of `report_input`, each with the report that the one before left and the input that is left: the last report, the bytes of input used in
  -- all, and the bytes written in all
  unfoldable pub report_all : Report → List ℕ → List Offer → Work
  report_all now input [] = work now 0 []
  report_all now input (offer ∷ offers) =
      let done = offered now input offer in
      let rest = report_all done.answer.report (drop done.answer.used input) offers in
      work rest.report (done.answer.used + rest.used) (written_by done ++ rest.text)

-- every call is offered a byte at least, and room for a line's text
abbrev pub GoodOffers : List Offer → Type 0
GoodOffers [] = Unit {0}
GoodOffers (offer ∷ offers) = ((1 ≤ offer.count) × (longest_line ≤ length offer.buffer)) × GoodOffers offers

-- the same for an input that is given piece by piece, each with a buffer that has room for a line's text for each of its bytes
pub record Piece : Type 0 where
  pub bytes : List ℕ
  pub buffer : List ℕ

unfoldable pub input_of : List Piece → List ℕ
input_of [] = []
input_of (piece ∷ pieces) = piece.bytes ++ input_of pieces

unfoldable pub offers_of : List Piece → List Offer
offers_of [] = []
offers_of (piece ∷ pieces) = record { count = length piece.bytes; buffer = piece.buffer } ∷ offers_of pieces

abbrev pub RoomForAll : List Piece → Type 0
RoomForAll [] = Unit {0}
RoomForAll (piece ∷ pieces) = (longest_line * length piece.bytes ≤ length piece.buffer) × RoomForAll pieces

-- ---- the room that is wanted

module _ (columns : Kind → List ℕ) where
  -- none exactly if all of the input was used
  abbrev pub WantedNone : Type 0
  WantedNone =
      (now : Report) (input buffer : List ℕ) → let done = (report_input columns now input buffer).answer in
      (done.room_wanted ≡ 0) ↔ (done.used ≡ length input)

  -- else it is room for a line's text
  abbrev pub WantedLine : Type 0
  WantedLine =
      (now : Report) (input buffer : List ℕ) → let done = (report_input columns now input buffer).answer in
      (done.room_wanted ≡ 0) ⊎ (done.room_wanted ≡ longest_line)

  -- and whoever gives so much goes on with the rest of the input
  abbrev pub WantedHelps : Type 0
  WantedHelps =
      (now : Report) (input buffer buffer₁ : List ℕ) → let done = (report_input columns now input buffer).answer in
      1 ≤ done.room_wanted → done.room_wanted ≤ length buffer₁
      → 1 ≤ (report_input columns done.report (drop done.used input) buffer₁).answer.used

-- ---- all that is written

module _ (columns : Kind → List ℕ) where
  -- from the beginning: when the input is used up and the end has room, the bytes written in all are those of the whole input
  abbrev pub WholeOutput : Type 0
  WholeOutput =
      (input : List ℕ) (offers : List Offer) (buffer : List ℕ) → let all = report_all columns start_report input offers in
      all.used ≡ length input → longest_end ≤ length buffer
      → all.text ++ written_by (report_end columns all.report buffer) ≡ output_of columns input

-- ---- the statement

pub record Cuts (columns : Kind → List ℕ) : Type 0 where
  -- no line's text is longer than `longest_line`
  pub no_longer : (now : Report) (byte : ℕ) → length (byte_prints columns now byte) ≤ longest_line
  -- a buffer too small for a line's text: no input is used and nothing is written
  pub small_buffer : (now : Report) (input buffer : List ℕ) → length buffer < longest_line
      → report_input columns now input buffer ≡ report_done (record { report = now; used = 0; written = 0; room_wanted = room_wanted 0 (length input) }) buffer
  -- otherwise some input is used, if there is any; and all of it, or else the buffer has no room for another line's text
  pub goes_on : (now : Report) (input buffer : List ℕ) → 1 ≤ length input → longest_line ≤ length buffer
      → 1 ≤ (report_input columns now input buffer).answer.used
  pub all_or_full : (now : Report) (input buffer : List ℕ) → let done = (report_input columns now input buffer).answer in
      (done.used ≡ length input) ⊎ (length buffer < done.written + longest_line)
  -- what the field `room_wanted` says: see above
  pub wanted_none : WantedNone columns
  pub wanted_line : WantedLine columns
  pub wanted_helps : WantedHelps columns
  -- room for a line's text for each byte is always enough
  pub enough_room : (now : Report) (input buffer : List ℕ) → longest_line * length input ≤ length buffer
      → (report_input columns now input buffer).answer.used ≡ length input
  -- whatever was offered, what was written is what the input used prints, byte for byte, and the report is the one that it leaves
  pub same_text : (now : Report) (input : List ℕ) (offers : List Offer) → let all = report_all columns now input offers in
      all.text ≡ bytes_print columns now (take all.used input)
  pub same_report : (now : Report) (input : List ℕ) (offers : List Offer) → let all = report_all columns now input offers in
      all.report ≡ after_bytes columns now (take all.used input)
  -- a buffer too small for the end, which `longest_end` bytes are always enough for: nothing is written, and the report stays
  pub small_end : (now : Report) (buffer : List ℕ) → length buffer < longest_end
      → report_end columns now buffer ≡ report_done (record { report = now; used = 0; written = 0; room_wanted = longest_end }) buffer
  pub end_done : (now : Report) (buffer : List ℕ) → longest_end ≤ length buffer → (report_end columns now buffer).answer.room_wanted ≡ 0
  -- as many good offers as bytes use up the input, and so do its pieces with room for all
  pub used_up : (now : Report) (input : List ℕ) (offers : List Offer) → GoodOffers offers → length input ≤ length offers
      → (report_all columns now input offers).used ≡ length input
  pub pieces_used_up : (now : Report) (pieces : List Piece) → RoomForAll pieces
      → (report_all columns now (input_of pieces) (offers_of pieces)).used ≡ length (input_of pieces)
  -- all that is written, from the beginning: see above; and the receiver is then the one that the lines of the input leave
  pub whole_output : WholeOutput columns
  pub whole_state : (input : List ℕ) (offers : List Offer) (buffer : List ℕ) → let all = report_all columns start_report input offers in
      all.used ≡ length input → longest_end ≤ length buffer
      → (report_end columns all.report buffer).answer.report.receiver ≡ lines_leave columns own_receiver (lines_of input)
  -- so for every cut into pieces with room, and for every cut with as many good offers as bytes, the output is that of the whole input
  pub pieces_output : (pieces : List Piece) (buffer : List ℕ) → let all = report_all columns start_report (input_of pieces) (offers_of pieces) in
      RoomForAll pieces → longest_end ≤ length buffer
      → all.text ++ written_by (report_end columns all.report buffer) ≡ output_of columns (input_of pieces)
  pub offers_output : (input : List ℕ) (offers : List Offer) (buffer : List ℕ) → let all = report_all columns start_report input offers in
      GoodOffers offers → length input ≤ length offers → longest_end ≤ length buffer
      → all.text ++ written_by (report_end columns all.report buffer) ≡ output_of columns input

abbrev pub CutsTheorem : Type 0
CutsTheorem = (columns : Kind → List ℕ) → Cuts columns

-- document 01's own columns, by which the functions work
abbrev pub ReportCuts : Type 0
ReportCuts = Cuts columns_of

-- ---- the longest texts

-- the line 1001500F385, a frame with data 243 for register 0 whose last check bit is wrong: verdict 10 and place 39 have two digits, and the word has 8
abbrev long_line : LinePart
long_line = line_part 11 (49 ∷ 48 ∷ 48 ∷ 49 ∷ 53 ∷ 48 ∷ 48 ∷ 70 ∷ 51 ∷ 56 ∷ 53 ∷ [])

-- well formed, with as many digits in its counters as there can be, 42 clocks on too
abbrev pub full_receiver : Receiver
full_receiver = receiver (with_errors (errors 65535 255 1) (with_counters (counters 1000 (2 ^ 24 - 1)) (fresh_core (ids 5 5)))) nothing_held

-- `longest_line` and `longest_end` are reached. No line's text is longer (`no_longer`), and no end: `NoLongerEnd` of the crate `line_report`. Proved in
-- proofs/Longest.antt.
pub record LongestReached : Type 0 where
  -- by line 18446744073709551615
  pub line : length (byte_prints columns_of (report own_receiver (2 ^ 64 - 2) long_line) 10) ≡ longest_line
  -- and the end, by a well-formed receiver
  pub full_is_well_formed : well_formed full_receiver ≡ true
  pub end : length (end_prints columns_of (report full_receiver (2 ^ 64 - 2) long_line)) ≡ longest_end

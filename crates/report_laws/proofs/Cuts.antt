-- However the input is cut, the calls print it byte for byte; and byte for byte it prints line by line. Assumes nothing.
use mathlib.Core.Path.{◌≡◌, refl, sym, ap, ap₂, ◌∙◌}
use mathlib.Core.Logic.{◌≢◌, ◌⊎◌, inl, inr, ⊎_elim}
use mathlib.Core.Bool.{true, false}
use mathlib.Core.List.{List, [], ◌∷◌, ◌++◌, append_assoc}
use Prim.Native.Nat.{ℕ, suc, ◌+◌, ◌-◌, ◌*◌, ◌≤◌, ◌<◌}
use native.Mathlib.Omega.{arith}
use borrow.Author.Tests.{lt-ltb, le-ltb, ltb-true, ltb-false, eq-eqb, ne_eqb}
use lib.Dec.{eqb, ltb}
use lib.ListN.{length, take, drop, length-append, length-take, length-drop}
use lib.Seq.{take-append_seam, drop-append_seam, take-take, take-add, take_all}
use Rattle.laws.proofs.Rules.{picked_by, by_test}
use Rattle.frame.specs.declared.Kind.{Kind}
use Rattle.receiver_state.specs.declared.Receiver.{Receiver}
use Rattle.std.specs.Prelude.{Result}
use Rattle.refusals.specs.declared.Refusal.{Refusal}
use Rattle.stored_line.specs.declared.StoredFrame.{StoredFrame}
use Rattle.stored_line.specs.Read.{read_line}
use Rattle.line_report.specs.declared.LinePart.{LinePart}
use Rattle.line_report.specs.declared.Report.{Report}
use Rattle.line_report.specs.Text.{core_end_text}
use Rattle.line_report.specs.Output.{last_line, lines_after, after_line, next_line, line_prints, lines_print, lines_leave, output_of}
use Rattle.line_report.specs.Report.{no_characters, with_character, read_part, report, start_report, line_ended, line_end_prints, after_byte, byte_prints, after_bytes, bytes_print, longest_line, Work, work, behind, work_on, done_by, room_wanted, longest_end, after_last, last_prints, end_prints, end_work, end_wanted, report_end}
use Rattle.report_laws.specs.Cuts.{Offer, written_by, offered, report_all, GoodOffers, Piece, input_of, offers_of, RoomForAll, WantedNone, WantedLine, WantedHelps, WholeOutput, CutsTheorem, ReportCuts}
use Rattle.frame.specs.Columns.{columns_of}
use Rattle.line_report.proofs.LineSoFar.{Holds, none_yet, holds_one, holds_read}
use Rattle.line_report.proofs.Work.{no_room, byte_fits, room_for_all}
use Rattle.line_report.proofs.Turn.{none_wanted, line_wanted}

module _ (columns : Kind → List ℕ) where
  -- ---- bytes one behind the other

  after_append : (now : Report) (first second : List ℕ) → after_bytes columns now (first ++ second) ≡ after_bytes columns (after_bytes columns now first) second
  unfolding after_bytes
  after_append now [] second = refl
  after_append now (byte ∷ first) second = after_append (after_byte columns now byte) first second

  print_append : (now : Report) (first second : List ℕ)
      → bytes_print columns now (first ++ second) ≡ bytes_print columns now first ++ bytes_print columns (after_bytes columns now first) second
  unfolding after_bytes bytes_print
  print_append now [] second = refl
  print_append now (byte ∷ first) second =
      ap (λ (text : List ℕ). byte_prints columns now byte ++ text) (print_append (after_byte columns now byte) first second)
      ∙ sym (append_assoc (byte_prints columns now byte) (bytes_print columns (after_byte columns now byte) first) _)

  -- ---- one call

  record Done (now : Report) (input : List ℕ) (w : Work) : Type 0 where
    inside : w.used ≤ length input
    text_is : w.text ≡ bytes_print columns now (take w.used input)
    report_is : w.report ≡ after_bytes columns now (take w.used input)

  nothing_done : (now : Report) (input : List ℕ) → Done now input (work now 0 [])
  unfolding after_bytes bytes_print
  nothing_done now input = record { inside = omega arith; text_is = refl; report_is = refl }

  byte_done : (now : Report) (byte : ℕ) (bytes : List ℕ) (w : Work) → Done (after_byte columns now byte) bytes w
      → Done now (byte ∷ bytes) (behind (byte_prints columns now byte) w)
  unfolding after_bytes bytes_print
  byte_done now byte bytes w d =
      record {
        inside = omega (arith, d.inside);
        text_is = ap (λ (text : List ℕ). byte_prints columns now byte ++ text) d.text_is;
        report_is = d.report_is;
      }

  work_done : (room : ℕ) (now : Report) (input : List ℕ) → Done now input (work_on columns room now input)
  unfolding work_on
  work_done room now [] = nothing_done now []
  work_done room now (byte ∷ bytes) =
      let rest = work_done (room - length (byte_prints columns now byte)) (after_byte columns now byte) bytes in
      picked_by (Done now (byte ∷ bytes)) (ltb room longest_line) (λ t. nothing_done now (byte ∷ bytes)) (λ t. byte_done now byte bytes _ rest)

  uses_one : (room : ℕ) (now : Report) (input : List ℕ) → 1 ≤ length input → longest_line ≤ room → 1 ≤ (work_on columns room now input).used
  unfolding work_on
  uses_one room now [] some h = absurd (omega arith)
  uses_one room now (byte ∷ bytes) some h = rw (le-ltb room longest_line h) (omega arith)

  all_or_no_room : (room : ℕ) (now : Report) (input : List ℕ) → let w = work_on columns room now input in
      (w.used ≡ length input) ⊎ (room < length w.text + longest_line)
  unfolding work_on
  all_or_no_room room now [] = inl refl
  all_or_no_room room now (byte ∷ bytes) =
      let text = byte_prints columns now byte in
      let rest = work_on columns (room - length text) (after_byte columns now byte) bytes in
      let next = all_or_no_room (room - length text) (after_byte columns now byte) bytes in
      picked_by (λ (w : Work). (w.used ≡ suc (length bytes)) ⊎ (room < length w.text + longest_line)) (ltb room longest_line)
      (λ t. let small : room < longest_line = ltb-true room longest_line t in inr (omega arith))
      (λ t.
      let large : longest_line ≤ room = ltb-false room longest_line t in
      ⊎_elim (λ all. inl (ap suc all)) (λ full. inr (omega (arith, length-append text rest.text, byte_fits columns now byte))) next)

  written_is : (wanted : ℕ) (w : Work) (buffer : List ℕ) → written_by (done_by wanted w buffer) ≡ w.text
  written_is wanted w buffer = take-append_seam w.text (drop (length w.text) buffer)

  -- ---- a list of calls

  call_done : (now : Report) (input : List ℕ) (offer : Offer) → let done = offered columns now input offer in
      Done now input (work done.answer.report done.answer.used (written_by done))
  call_done now input offer =
      let w = work_on columns (length offer.buffer) now (take offer.count input) in
      let d = work_done (length offer.buffer) now (take offer.count input) in
      let few : w.used ≤ offer.count = omega (arith, d.inside, length-take offer.count input) in
      let same : take w.used (take offer.count input) ≡ take w.used input = take-take w.used offer.count input few in
      record {
        inside = omega (arith, d.inside, length-take offer.count input);
        text_is = written_is (room_wanted w.used (length (take offer.count input))) w offer.buffer ∙ d.text_is ∙ ap (bytes_print columns now) same;
        report_is = d.report_is ∙ ap (after_bytes columns now) same;
      }

  calls_done : (now : Report) (input : List ℕ) (offers : List Offer) → Done now input (report_all columns now input offers)
  unfolding report_all
  calls_done now input [] = nothing_done now input
  calls_done now input (offer ∷ offers) =
      let call = offered columns now input offer in
      let first = call_done now input offer in
      let rest = calls_done call.answer.report (drop call.answer.used input) offers in
      let used = call.answer.used in
      let more = (report_all columns call.answer.report (drop used input) offers).used in
      let both = take-add used more input in
      record {
        inside = omega (arith, first.inside, rest.inside, length-drop used input);
        text_is =
            ap₂ (λ (a b : List ℕ). a ++ b) first.text_is
            (rest.text_is ∙ ap (λ (r : Report). bytes_print columns r (take more (drop used input))) first.report_is)
            ∙ sym (print_append now (take used input) (take more (drop used input)))
            ∙ ap (bytes_print columns now) (sym both);
        report_is =
            rest.report_is
            ∙ ap (λ (r : Report). after_bytes columns r (take more (drop used input))) first.report_is
            ∙ sym (after_append now (take used input) (take more (drop used input)))
            ∙ ap (after_bytes columns now) (sym both);
      }

  fewer_left : (now : Report) (input : List ℕ) (offer : Offer) (n : ℕ) → 1 ≤ offer.count → longest_line ≤ length offer.buffer → length input ≤ suc n
      → length (drop (offered columns now input offer).answer.used input) ≤ n
  fewer_left now input offer n one room h =
      let used = (offered columns now input offer).answer.used in
      by_test (ltb 0 (length input))
      (λ t.
      let some : 0 < length input = ltb-true 0 (length input) t in
      let some_offered : 1 ≤ length (take offer.count input) = omega (arith, length-take offer.count input) in
      omega (arith, length-drop used input, uses_one (length offer.buffer) now (take offer.count input) some_offered room))
      (λ t. let none : length input ≤ 0 = ltb-false 0 (length input) t in omega (arith, length-drop used input))

  calls_use_all : (now : Report) (input : List ℕ) (offers : List Offer) → GoodOffers offers → length input ≤ length offers
      → (report_all columns now input offers).used ≡ length input
  unfolding report_all
  calls_use_all now input [] good h = omega arith
  calls_use_all now input (offer ∷ offers) ((one, room), good) h =
      let call = offered columns now input offer in
      let used = call.answer.used in
      let rest = calls_use_all call.answer.report (drop used input) offers good (fewer_left now input offer (length offers) one room h) in
      omega (arith, (call_done now input offer).inside, length-drop used input)

  -- ---- byte for byte, and line by line

  no_characters_lem : (part : LinePart) → Holds part [] → part.count ≡ 0
  no_characters_lem part (inl k) = k.count_is
  no_characters_lem part (inr d) = absurd (let many = d.many in omega arith)

  some_characters : (part : LinePart) (character : ℕ) (characters : List ℕ) → Holds part (character ∷ characters) → part.count ≢ 0
  some_characters part character characters (inl k) z = let count = k.count_is in omega arith
  some_characters part character characters (inr d) z = let twelve : part.count ≡ 12 = ap (λ (p : LinePart). p.count) d.dropped in omega arith

  -- what the end prints
  end_lines : (now : Report) (line : List ℕ) → Holds now.part line → end_prints columns now ≡ lines_print columns now.receiver now.lines (last_line line)
  unfolding last_prints after_last lines_print
  end_lines now [] h = rw (eq-eqb now.part.count 0 (no_characters_lem now.part h)) refl
  end_lines now (character ∷ characters) h =
      let line = character ∷ characters in
      rw (ne_eqb now.part.count 0 (some_characters now.part character characters h))
      (ap (λ (read : Result StoredFrame Refusal). line_end_prints columns now read ++ core_end_text (line_ended columns now read).receiver.core) (holds_read now.part line h))

  feed_lines : (now : Report) (line bytes : List ℕ) (rest : List ℕ) → Holds now.part line
      → rest ≡ lines_print columns (line_ended columns now (read_part now.part)).receiver (next_line now.lines) (lines_after [] bytes)
      → line_end_prints columns now (read_part now.part) ++ rest ≡ lines_print columns now.receiver now.lines (line ∷ lines_after [] bytes)
  unfolding lines_print
  feed_lines now line bytes rest h e =
      ap (λ (text : List ℕ). line_end_prints columns now (read_part now.part) ++ text) e
      ∙ ap (λ (read : Result StoredFrame Refusal). line_prints columns now.receiver now.lines read
      ++ lines_print columns (after_line columns now.receiver read) (next_line now.lines) (lines_after [] bytes)) (holds_read now.part line h)

  -- a line feed, and any other byte
  module _ (now : Report) (byte : ℕ) (line bytes : List ℕ) where
    feed_after : eqb byte 10 ≡ true → after_byte columns now byte ≡ line_ended columns now (read_part now.part)
    unfolding after_byte
    feed_after t = rw t refl

    feed_prints : eqb byte 10 ≡ true → byte_prints columns now byte ≡ line_end_prints columns now (read_part now.part)
    unfolding byte_prints
    feed_prints t = rw t refl

    feed_splits : eqb byte 10 ≡ true → lines_after line (byte ∷ bytes) ≡ line ∷ lines_after [] bytes
    unfolding lines_after
    feed_splits t = rw t refl

    other_after : eqb byte 10 ≡ false → after_byte columns now byte ≡ report now.receiver now.lines (with_character now.part byte)
    unfolding after_byte
    other_after t = rw t refl

    other_prints : eqb byte 10 ≡ false → byte_prints columns now byte ≡ []
    unfolding byte_prints
    other_prints t = rw t refl

    other_splits : eqb byte 10 ≡ false → lines_after line (byte ∷ bytes) ≡ lines_after (line ++ (byte ∷ [])) bytes
    unfolding lines_after
    other_splits t = rw t refl

  -- what is printed from here on
  abbrev prints_on : Report → List ℕ → List ℕ
  prints_on now input = bytes_print columns now input ++ end_prints columns (after_bytes columns now input)

  one_byte : (now : Report) (byte : ℕ) (bytes : List ℕ) → prints_on now (byte ∷ bytes) ≡ byte_prints columns now byte ++ prints_on (after_byte columns now byte) bytes
  unfolding bytes_print after_bytes
  one_byte now byte bytes =
      append_assoc (byte_prints columns now byte) (bytes_print columns (after_byte columns now byte) bytes) (end_prints columns (after_bytes columns (after_byte columns now byte) bytes))

  none_printed : (now : Report) → prints_on now [] ≡ end_prints columns now
  unfolding bytes_print after_bytes
  none_printed now = refl

  none_split : (line : List ℕ) → last_line line ≡ lines_after line []
  unfolding lines_after
  none_split line = refl

  by_lines : (input : List ℕ) (now : Report) (line : List ℕ) → Holds now.part line
      → prints_on now input ≡ lines_print columns now.receiver now.lines (lines_after line input)
  by_lines [] now line h = none_printed now ∙ end_lines now line h ∙ ap (lines_print columns now.receiver now.lines) (none_split line)
  by_lines (byte ∷ bytes) now line h =
      let ended = line_ended columns now (read_part now.part) in
      let longer = report now.receiver now.lines (with_character now.part byte) in
      let from_next = by_lines bytes ended [] (none_yet no_characters refl) in
      let from_here = by_lines bytes longer (line ++ (byte ∷ [])) (holds_one now.part line byte h) in
      one_byte now byte bytes
      ∙ by_test (eqb byte 10)
      (λ t. ap₂ (λ (text : List ℕ) (r : Report). text ++ prints_on r bytes) (feed_prints now byte line bytes t) (feed_after now byte line bytes t)
      ∙ feed_lines now line bytes (prints_on ended bytes) h from_next
      ∙ ap (lines_print columns now.receiver now.lines) (sym (feed_splits now byte line bytes t)))
      (λ t. ap₂ (λ (text : List ℕ) (r : Report). text ++ prints_on r bytes) (other_prints now byte line bytes t) (other_after now byte line bytes t)
      ∙ from_here
      ∙ ap (lines_print columns now.receiver now.lines) (sym (other_splits now byte line bytes t)))

  end_is : (now : Report) (buffer : List ℕ) → longest_end ≤ length buffer → end_work columns (length buffer) now ≡ work (after_last columns now) 0 (end_prints columns now)
  unfolding end_work
  end_is now buffer room = rw (le-ltb (length buffer) longest_end room) refl

  -- from a report whose line has no character yet, all that is written is what the lines print
  whole : (now : Report) → Holds now.part [] → (input : List ℕ) (offers : List Offer) (buffer : List ℕ) → let all = report_all columns now input offers in
      all.used ≡ length input → longest_end ≤ length buffer
      → all.text ++ written_by (report_end columns all.report buffer) ≡ lines_print columns now.receiver now.lines (lines_after [] input)
  whole now none input offers buffer u room =
      let all = report_all columns now input offers in
      let d = calls_done now input offers in
      let covers : length input ≤ all.used = omega arith in
      let front : take all.used input ≡ input = take_all _ _ covers in
      let reported : all.report ≡ after_bytes columns now input = d.report_is ∙ ap (after_bytes columns now) front in
      let end = end_is all.report buffer room in
      ap₂ (λ (a b : List ℕ). a ++ b) (d.text_is ∙ ap (bytes_print columns now) front)
      (written_is (end_wanted (length buffer)) (end_work columns (length buffer) all.report) buffer ∙ ap (λ (w : Work). w.text) end ∙ ap (end_prints columns) reported)
      ∙ by_lines input now [] none

  whole_output : WholeOutput columns
  unfolding output_of
  whole_output input offers buffer u room = whole _ (none_yet no_characters refl) input offers buffer u room

  -- ---- the receiver, byte for byte and line by line

  end_leaves : (now : Report) (line : List ℕ) → Holds now.part line → (after_last columns now).receiver ≡ lines_leave columns now.receiver (last_line line)
  unfolding after_last lines_leave
  end_leaves now [] h = rw (eq-eqb now.part.count 0 (no_characters_lem now.part h)) refl
  end_leaves now (character ∷ characters) h =
      rw (ne_eqb now.part.count 0 (some_characters now.part character characters h))
      (ap (λ (read : Result StoredFrame Refusal). after_line columns now.receiver read) (holds_read now.part (character ∷ characters) h))

  abbrev leaves_on : Report → List ℕ → Receiver
  leaves_on now input = (after_last columns (after_bytes columns now input)).receiver

  leaves_none : (now : Report) → leaves_on now [] ≡ (after_last columns now).receiver
  unfolding after_bytes
  leaves_none now = refl

  leaves_one : (now : Report) (byte : ℕ) (bytes : List ℕ) → leaves_on now (byte ∷ bytes) ≡ leaves_on (after_byte columns now byte) bytes
  unfolding after_bytes
  leaves_one now byte bytes = refl

  line_left : (r : Receiver) (line : List ℕ) (rest : List (List ℕ))
      → lines_leave columns (after_line columns r (read_line line)) rest ≡ lines_leave columns r (line ∷ rest)
  unfolding lines_leave
  line_left r line rest = refl

  leaves_lines : (input : List ℕ) (now : Report) (line : List ℕ) → Holds now.part line
      → leaves_on now input ≡ lines_leave columns now.receiver (lines_after line input)
  leaves_lines [] now line h = leaves_none now ∙ end_leaves now line h ∙ ap (lines_leave columns now.receiver) (none_split line)
  leaves_lines (byte ∷ bytes) now line h =
      let ended = line_ended columns now (read_part now.part) in
      let longer = report now.receiver now.lines (with_character now.part byte) in
      let from_next = leaves_lines bytes ended [] (none_yet no_characters refl) in
      let from_here = leaves_lines bytes longer (line ++ (byte ∷ [])) (holds_one now.part line byte h) in
      leaves_one now byte bytes
      ∙ by_test (eqb byte 10)
      (λ t. ap (λ (r : Report). leaves_on r bytes) (feed_after now byte line bytes t)
      ∙ from_next
      ∙ ap (λ (read : Result StoredFrame Refusal). lines_leave columns (after_line columns now.receiver read) (lines_after [] bytes)) (holds_read now.part line h)
      ∙ line_left now.receiver line (lines_after [] bytes)
      ∙ ap (lines_leave columns now.receiver) (sym (feed_splits now byte line bytes t)))
      (λ t. ap (λ (r : Report). leaves_on r bytes) (other_after now byte line bytes t)
      ∙ from_here
      ∙ ap (lines_leave columns now.receiver) (sym (other_splits now byte line bytes t)))

  small_end : (now : Report) (buffer : List ℕ) → length buffer < longest_end → end_work columns (length buffer) now ≡ work now 0 []
  unfolding end_work
  small_end now buffer h = rw (lt-ltb (length buffer) longest_end h) refl

  end_wanted_lem : (buffer : List ℕ) → length buffer < longest_end → end_wanted (length buffer) ≡ longest_end
  unfolding end_wanted
  end_wanted_lem buffer h = rw (lt-ltb (length buffer) longest_end h) refl

  end_not_wanted : (buffer : List ℕ) → longest_end ≤ length buffer → end_wanted (length buffer) ≡ 0
  unfolding end_wanted
  end_not_wanted buffer h = rw (le-ltb (length buffer) longest_end h) refl

  -- ---- the room that is wanted

  abbrev done_of : Report → List ℕ → List ℕ → Work
  done_of now input buffer = work_on columns (length buffer) now input

  wanted_none : WantedNone columns
  wanted_none now input buffer =
      let w = done_of now input buffer in
      let inside = (work_done (length buffer) now input).inside in (
        λ none. by_test (ltb w.used (length input))
            (λ t. absurd (let some = line_wanted w.used (length input) (ltb-true w.used (length input) t) in omega arith))
            (λ t. let all : length input ≤ w.used = ltb-false w.used (length input) t in omega arith),
        λ all. none_wanted w.used (length input) (omega arith),
      )

  wanted_line : WantedLine columns
  wanted_line now input buffer =
      let w = done_of now input buffer in
      by_test (ltb w.used (length input))
      (λ t. inr (line_wanted w.used (length input) (ltb-true w.used (length input) t)))
      (λ t. inl (none_wanted w.used (length input) (ltb-false w.used (length input) t)))

  wanted_helps : WantedHelps columns
  wanted_helps now input buffer buffer₁ some room =
      let w = done_of now input buffer in
      by_test (ltb w.used (length input))
      (λ t.
      let less : w.used < length input = ltb-true w.used (length input) t in
      let is = line_wanted w.used (length input) less in
      uses_one (length buffer₁) w.report (drop w.used input) (omega (arith, length-drop w.used input)) (omega (arith, is)))
      (λ t. absurd (let none = none_wanted w.used (length input) (ltb-false w.used (length input) t) in omega arith))

  left : (input : List ℕ) (offers : List Offer) (buffer : List ℕ) → let all = report_all columns start_report input offers in
      all.used ≡ length input → longest_end ≤ length buffer
      → (report_end columns all.report buffer).answer.report.receiver ≡ lines_leave columns start_report.receiver (lines_after [] input)
  left input offers buffer u room =
      let all = report_all columns start_report input offers in
      let covers : length input ≤ all.used = omega arith in
      let front : take all.used input ≡ input = take_all _ _ covers in
      let reported = (calls_done start_report input offers).report_is ∙ ap (after_bytes columns start_report) front in
      ap (λ (w : Work). w.report.receiver) (end_is all.report buffer room)
      ∙ ap (λ (r : Report). (after_last columns r).receiver) reported
      ∙ leaves_lines input start_report [] (none_yet no_characters refl)

  -- ---- pieces with room for all

  piece_used : (now : Report) (piece : Piece) (rest : List ℕ) → longest_line * length piece.bytes ≤ length piece.buffer
      → (offered columns now (piece.bytes ++ rest) (record { count = length piece.bytes; buffer = piece.buffer })).answer.used ≡ length piece.bytes
  piece_used now piece rest h =
      ap (λ (bytes : List ℕ). (work_on columns (length piece.buffer) now bytes).used) (take-append_seam piece.bytes rest)
      ∙ room_for_all columns (length piece.buffer) now piece.bytes h

  pieces_used : (now : Report) (pieces : List Piece) → RoomForAll pieces
      → (report_all columns now (input_of pieces) (offers_of pieces)).used ≡ length (input_of pieces)
  unfolding report_all input_of offers_of
  pieces_used now [] rooms = refl
  pieces_used now (piece ∷ pieces) (room, rooms) =
      let offer : Offer = record { count = length piece.bytes; buffer = piece.buffer } in
      let call = offered columns now (piece.bytes ++ input_of pieces) offer in
      let first = piece_used now piece (input_of pieces) room in
      let left : drop call.answer.used (piece.bytes ++ input_of pieces) ≡ input_of pieces =
      ap (λ (n : ℕ). drop n (piece.bytes ++ input_of pieces)) first ∙ drop-append_seam piece.bytes (input_of pieces) in
      ap₂ (λ (n m : ℕ). n + m) first
      (ap (λ (input : List ℕ). (report_all columns call.answer.report input (offers_of pieces)).used) left ∙ pieces_used call.answer.report pieces rooms)
      ∙ sym (length-append piece.bytes (input_of pieces))

pub cuts_theorem : CutsTheorem
cuts_theorem columns =
    record {
      no_longer = byte_fits columns;
      small_buffer = λ now input buffer h. ap (λ (w : Work). done_by (room_wanted w.used (length input)) w buffer) (no_room columns (length buffer) now input h);
      goes_on = λ now input buffer some h. uses_one columns (length buffer) now input some h;
      all_or_full = λ now input buffer. all_or_no_room columns (length buffer) now input;
      wanted_none = wanted_none columns;
      wanted_line = wanted_line columns;
      wanted_helps = wanted_helps columns;
      enough_room = λ now input buffer h. room_for_all columns (length buffer) now input h;
      same_text = λ now input offers. (calls_done columns now input offers).text_is;
      same_report = λ now input offers. (calls_done columns now input offers).report_is;
      small_end = λ now buffer h. ap₂ (λ (wanted : ℕ) (w : Work). done_by wanted w buffer) (end_wanted_lem columns buffer h) (small_end columns now buffer h);
      end_done = λ now buffer h. end_not_wanted columns buffer h;
      used_up = calls_use_all columns;
      pieces_used_up = pieces_used columns;
      whole_output = whole_output columns;
      whole_state = left columns;
      pieces_output = λ pieces buffer rooms room. whole_output columns (input_of pieces) (offers_of pieces) buffer (pieces_used columns start_report pieces rooms) room;
      offers_output = λ input offers buffer good many room. whole_output columns input offers buffer (calls_use_all columns start_report input offers good many) room;
    }

pub report_cuts : ReportCuts
report_cuts = cuts_theorem columns_of

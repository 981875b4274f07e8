-- A turn of the loop keeps what comes of it all, and the last one leaves nothing to do. Assumes nothing.
use Rattle.std.proofs.Common.{◌≡◌, ℕ, suc, ◌+◌, ◌-◌, ◌^◌, ◌<◌, ◌≤◌, eqb, ◌≢◌, List, [], ◌∷◌, ◌++◌, length, take, drop, sym, refl, ap, ◌∙◌, subst, ap₂, add-zero, zero-add, arith, length-append, length-drop, drop_of_length-le, take_all, drop-drop, le-ltb, lt-ltb, Result}
use native.Mathlib.Nat.{sub-zero}
use lib.Seq.{sets}
use Rattle.laws.proofs.Rules.{picked}
use Rattle.frame.specs.declared.Kind.{Kind}
use Rattle.frame.specs.Columns.{columns_of}
use Rattle.refusals.specs.declared.Refusal.{Refusal}
use Rattle.stored_line.specs.declared.StoredFrame.{StoredFrame}
use Rattle.line_report.specs.declared.LinePart.{LinePart}
use Rattle.line_report.specs.declared.Report.{Report}
use Rattle.line_report.specs.declared.Reported.{Reported}
use Rattle.line_report.specs.Text.{core_end_text}
use Rattle.line_report.specs.Write.{TextAt}
use Rattle.line_report.specs.Report.{report, with_characters, read_part, line_ended, line_end_prints, until_feed, longest_line, Work, work, work_on, report_done, done_by, room_wanted, report_input, longest_end, after_last, last_prints, end_prints, end_work, end_wanted, report_end}
use Rattle.line_report.specs.EndLength.{TypesHold}
use Rattle.line_report.specs.Turn.{placed, finished_from, Turned}
use Rattle.laws.proofs.Sets.{sets_append, sets_front}
use Rattle.line_report.proofs.Write.{then_text, kept_length}
use Rattle.line_report.proofs.Bounds.{line_length_lem}
use Rattle.line_report.proofs.EndLength.{no_longer_end}
use Rattle.line_report.proofs.Work.{no_room, to_the_end, line_to, text_to, work_behind, to_the_feed, work_fits}

-- an answer that no lack of room has stopped
abbrev reported : Report → ℕ → ℕ → Reported
reported now used written = record { report = now; used = used; written = written; room_wanted = 0 }

-- and one of a piece of `size` bytes, as the definition has it
abbrev reported_of : ℕ → Report → ℕ → ℕ → Reported
reported_of size now used written = record { report = now; used = used; written = written; room_wanted = room_wanted used size }

-- ---- the room that is wanted

pub none_wanted : (used size : ℕ) → size ≤ used → room_wanted used size ≡ 0
unfolding room_wanted
none_wanted used size h = rw (le-ltb used size h) refl

pub line_wanted : (used size : ℕ) → used < size → room_wanted used size ≡ longest_line
unfolding room_wanted
line_wanted used size h = rw (lt-ltb used size h) refl

-- ---- a turn

pub until_le : (bytes : List ℕ) → until_feed bytes ≤ length bytes
unfolding until_feed
until_le [] = omega arith
until_le (byte ∷ bytes) = picked (λ (n : ℕ). n ≤ suc (length bytes)) (eqb byte 10) (omega arith) (let rest = until_le bytes in omega arith)

-- nothing more is done
placed_nothing : (size : ℕ) (now : Report) (used written : ℕ) (buffer : List ℕ)
    → placed size used written buffer (work now 0 []) ≡ report_done (reported_of size now used written) buffer
placed_nothing size now used written buffer =
    ap₂ (λ (u w : ℕ). report_done (reported_of size now u w) buffer) (add-zero used) (add-zero written)

-- a text, and what is placed behind it
placed_behind : (size used written n : ℕ) (buffer text : List ℕ) (rest : Work)
    → placed size (used + suc n) (written + length text) (sets buffer written text) rest
    ≡ placed size used written buffer (work rest.report (suc (n + rest.used)) (text ++ rest.text))
placed_behind size used written n buffer text rest =
    let used_same : (used + suc n) + rest.used ≡ used + suc (n + rest.used) = omega arith in
    let written_same : (written + length text) + length rest.text ≡ written + length (text ++ rest.text) = omega (arith, length-append text rest.text) in
    ap₂ (λ (u w : ℕ). report_done (reported_of size rest.report u w) (sets (sets buffer written text) (written + length text) rest.text)) used_same written_same
    ∙ ap (report_done (reported_of size rest.report (used + suc (n + rest.used)) (written + length (text ++ rest.text)))) (sym (sets_append text rest.text buffer written))

all_used : (columns : Kind → List ℕ) (room : ℕ) (now : Report) (used : ℕ) (input : List ℕ) → length input ≤ used
    → work_on columns room now (drop used input) ≡ work now 0 []
unfolding work_on
all_used columns room now used input h = ap (work_on columns room now) (drop_of_length-le input h)

module _ (columns : Kind → List ℕ) (before : Reported) (input buffer : List ℕ) (some : before.used < length input)
    (room : before.written + longest_line ≤ length buffer) where
  abbrev rest_of : List ℕ
  rest_of = drop before.used input

  size_of_rest : before.used + length rest_of ≡ length input
  size_of_rest = omega (arith, length-drop before.used input)

  enough : longest_line ≤ length buffer - before.written
  enough = omega arith

  -- no line feed is left
  pub turn_end : until_feed rest_of ≡ length rest_of
      → Turned columns before
      (reported (report before.report.receiver before.report.lines (with_characters before.report.part rest_of)) (length input) before.written)
      input buffer buffer
  turn_end none =
      let next = report before.report.receiver before.report.lines (with_characters before.report.part rest_of) in
      let room' = length buffer - before.written in
      record {
        same =
            ap (placed (length input) (length input) before.written buffer) (all_used columns room' next (length input) input (omega arith))
            ∙ placed_nothing (length input) next (length input) before.written buffer
            ∙ sym (ap (placed (length input) before.used before.written buffer) (to_the_end columns room' before.report rest_of enough none)
            ∙ ap₂ (λ (u w : ℕ). report_done (reported_of (length input) next u w) buffer) size_of_rest (add-zero before.written));
        onward = some;
        within = omega arith;
        fits = omega arith;
        not_stopped = refl;
      }

  -- a line ends
  pub turn_feed : until_feed rest_of < length rest_of → (next : ℕ) (buffer' : List ℕ)
      → TextAt next before.written (text_to columns before.report rest_of (until_feed rest_of)) buffer buffer'
      → Turned columns before
      (reported (line_ended columns before.report (line_to columns before.report rest_of (until_feed rest_of))) (before.used + suc (until_feed rest_of)) next)
      input buffer buffer'
  turn_feed found next buffer' t =
      let n = until_feed rest_of in
      let text = text_to columns before.report rest_of n in
      let ended = line_ended columns before.report (line_to columns before.report rest_of n) in
      let room' = length buffer - before.written in
      let room_same : length buffer' - next ≡ room' - length text = omega (arith, t.next_is, kept_length t) in
      record {
        same =
            ap₂ (λ (m : ℕ) (rest : List ℕ). placed (length input) (before.used + suc n) next buffer' (work_on columns m ended rest)) room_same
            (sym (drop-drop (suc n) before.used input))
            ∙ ap₂ (λ (w : ℕ) (b : List ℕ). placed (length input) (before.used + suc n) w b (work_behind columns room' before.report rest_of n)) t.next_is t.stored
            ∙ placed_behind (length input) before.used before.written n buffer text (work_behind columns room' before.report rest_of n)
            ∙ ap (placed (length input) before.used before.written buffer) (sym (to_the_feed columns room' before.report rest_of enough found));
        onward = omega arith;
        within = omega (arith, size_of_rest);
        fits =
            omega (
              arith,
              t.next_is,
              kept_length t,
              line_length_lem columns before.report.receiver before.report.lines (line_to columns before.report rest_of n),
            );
        not_stopped = refl;
      }

  -- ---- the same in the code's own terms

  abbrev pub rest_read : List ℕ
  rest_read = take (length input - before.used) (drop before.used input)

  rest_read_lem : rest_read ≡ rest_of
  rest_read_lem = let covers : length rest_of ≤ length input - before.used = omega (arith, length-drop before.used input) in take_all _ _ covers

  pub code_end : (until : ℕ) (part : LinePart) → until ≡ until_feed rest_read → until ≡ length rest_read → part ≡ with_characters before.report.part rest_read
      → Turned columns before (reported (report before.report.receiver before.report.lines part) (length input) before.written) input buffer buffer
  code_end until part u all p =
      rw (p, rest_read_lem) (turn_end (ap until_feed (sym rest_read_lem) ∙ sym u ∙ all ∙ ap length rest_read_lem))

  module _ (until : ℕ) (u : until ≡ until_feed rest_read) where
    pub code_within : before.used + until ≤ length input
    code_within = omega (arith, until_le rest_of, u, ap until_feed rest_read_lem, size_of_rest)

    module _ (line : Result StoredFrame Refusal) (l : line ≡ read_part (with_characters before.report.part (take until rest_read))) where
      line_is : line ≡ line_to columns before.report rest_of (until_feed rest_of)
      line_is = l ∙ ap₂ (λ (n : ℕ) (rest : List ℕ). line_to columns before.report rest n) (u ∙ ap until_feed rest_read_lem) rest_read_lem

      pub code_room : before.written + length (line_end_prints columns before.report line) ≤ length buffer
      code_room = omega (arith, line_length_lem columns before.report.receiver before.report.lines line)

      pub code_feed : until ≢ length rest_read → (ended : Report) (next : ℕ) (buffer' : List ℕ) → ended ≡ line_ended columns before.report line
          → TextAt next before.written (line_end_prints columns before.report line) buffer buffer'
          → Turned columns before (reported ended (before.used + until + 1) next) input buffer buffer'
      code_feed some_left ended next buffer' e t =
          let feed : until ≡ until_feed rest_of = u ∙ ap until_feed rest_read_lem in
          let found : until_feed rest_of < length rest_of = omega (arith, until_le rest_of, feed, some_left, ap length rest_read_lem) in
          let used_same : before.used + until + 1 ≡ before.used + suc (until_feed rest_of) = omega arith in
          rw (e ∙ ap (line_ended columns before.report) line_is, used_same) (turn_feed found next buffer' (rw line_is at t))

-- ---- the whole loop

module _ (columns : Kind → List ℕ) (now : Report) (input buffer : List ℕ) where
  -- before the first turn
  pub all_to_do : finished_from columns (reported now 0 0) input buffer ≡ report_input columns now input buffer
  all_to_do =
      let done = work_on columns (length buffer) now input in
      ap (λ (room : ℕ). placed (length input) 0 0 buffer (work_on columns room now input)) (sub-zero (length buffer))
      ∙ ap₂ (λ (u w : ℕ). report_done (reported_of (length input) done.report u w) (sets buffer 0 done.text)) (zero-add done.used) (zero-add (length done.text))
      ∙ ap (report_done (reported_of (length input) done.report done.used (length done.text))) (sets_front done.text buffer (work_fits columns (length buffer) now input))

  -- after the last one: the input is used up, or there is no room
  pub used_up : (done : Reported) (buffer' : List ℕ) → length input ≤ done.used → done.room_wanted ≡ 0
      → finished_from columns done input buffer' ≡ report_done done buffer'
  used_up done buffer' h none =
      ap (placed (length input) done.used done.written buffer') (all_used columns (length buffer' - done.written) done.report done.used input h)
      ∙ placed_nothing (length input) done.report done.used done.written buffer'
      ∙ ap (λ (n : ℕ). report_done (record { report = done.report; used = done.used; written = done.written; room_wanted = n }) buffer')
      (none_wanted done.used (length input) h ∙ sym none)

  -- the answer then has the room for a line's text in it
  pub no_more_room : (done : Reported) (buffer' : List ℕ) → done.used < length input → length buffer' - done.written < longest_line
      → finished_from columns done input buffer'
      ≡ report_done (record { report = done.report; used = done.used; written = done.written; room_wanted = longest_line }) buffer'
  no_more_room done buffer' left h =
      ap (placed (length input) done.used done.written buffer') (no_room columns (length buffer' - done.written) done.report (drop done.used input) h)
      ∙ placed_nothing (length input) done.report done.used done.written buffer'
      ∙ ap (λ (n : ℕ). report_done (record { report = done.report; used = done.used; written = done.written; room_wanted = n }) buffer')
      (line_wanted done.used (length input) left)

-- ---- the end

-- the text of the whole end fits
pub counts_room : (now ended : Report) {buffer buffer₁ : List ℕ} {next : ℕ} → longest_end ≤ length buffer
    → ended ≡ after_last columns_of now → TextAt next 0 (last_prints columns_of now) buffer buffer₁
    → let core = ended.receiver.core in
    core.errors.single < 2 ^ 16 → core.errors.double < 2 ^ 8 → core.counters.event < 2 ^ 32 → core.counters.bunch < 2 ^ 16
    → next + length (core_end_text core) ≤ length buffer₁
counts_room now ended room e s single double event bunch =
    let types : TypesHold ended.receiver.core = record { single_16 = single; double_8 = double; event_32 = event; bunch_16 = bunch } in
    let no_longer : length (end_prints columns_of now) ≤ longest_end = no_longer_end now (subst (λ (r : Report). TypesHold r.receiver.core) e types) in
    let same : length (core_end_text ended.receiver.core) ≡ length (core_end_text (after_last columns_of now).receiver.core) =
    ap (λ (r : Report). length (core_end_text r.receiver.core)) e in
    omega
    (arith, s.next_is, kept_length s, no_longer, same, length-append (last_prints columns_of now) (core_end_text (after_last columns_of now).receiver.core))

pub all_ended : (now ended : Report) {buffer buffer₁ buffer₂ : List ℕ} {next written : ℕ} → longest_end ≤ length buffer
    → ended ≡ after_last columns_of now → TextAt next 0 (last_prints columns_of now) buffer buffer₁
    → TextAt written next (core_end_text ended.receiver.core) buffer₁ buffer₂ → written ≤ length buffer₂
    → (report_done (reported ended 0 written) buffer₂ ≡ report_end columns_of now buffer) × (written ≤ length buffer)
unfolding end_work end_wanted
all_ended now ended {buffer} room e s t below =
    let both = then_text (last_prints columns_of now) (core_end_text ended.receiver.core) s t in
    let text = last_prints columns_of now ++ core_end_text ended.receiver.core in
    let same = kept_length both in
    let fits : length text ≤ length buffer = omega (arith, both.next_is) in (
      ap₂ (λ (w : ℕ) (b : List ℕ). report_done (reported ended 0 w) b) (both.next_is ∙ zero-add (length text)) (both.stored ∙ sets_front text buffer fits)
          ∙ ap (λ (r : Report). done_by 0 (work r 0 (last_prints columns_of now ++ core_end_text r.receiver.core)) buffer) e
          ∙ rw (le-ltb (length buffer) longest_end room) refl,
      omega arith,
    )

-- The example of `ttclines`, computed line by line: a frame is taken at once, by the law of whole frames. Assumes nothing.
use mathlib.Core.Path.{◌≡◌, refl, sym, ap, ap₂, ◌∙◌}
use mathlib.Core.Bool.{Bool, true, not, ◌&&◌}
use mathlib.Core.List.{List, [], ◌∷◌, ◌++◌, append-nil, append_assoc}
use Prim.Native.Nat.{ℕ}
use borrow.Author.Tests.{not-true}
use lib.Dec.{eqb}
use lib.Count.{ones, count_trailing_zeros}
use Rattle.laws.specs.Tests.{every}
use Rattle.laws.specs.OneOf.{one_of}
use Rattle.laws.specs.LowestOne.{lowest_one}
use Rattle.laws.proofs.Tests.{both}
use Rattle.hamming.specs.Code.{check_number, syndrome, first_from, by_syndrome, decode_word}
use Rattle.frame.specs.declared.Kind.{Kind}
use Rattle.frame.specs.declared.Kind.TheVariants.{Short, Long}
use Rattle.frame.specs.Numbers.{frame_bits, is_frame}
use Rattle.frame.specs.Columns.{columns_of}
use Rattle.frame.specs.Decode.{judged, finished_answer}
use Rattle.receiver_state.specs.declared.Core.{Core}
use Rattle.receiver_state.specs.declared.Held.{Held}
use Rattle.receiver_state.specs.declared.Receiver.{Receiver}
use Rattle.receiver_state.specs.State.{ids, errors, counters, no_sequence, wanting_ones, nothing_held, receiver}
use Rattle.fine_delay.specs.Delay.{has_setting}
use Rattle.receiver_state.specs.WellFormed.{ids_ok, settings_ok, counters_ok, sequence_ok, core_ok, bits_ok, wanted_ok, held_ok, well_formed}
use Rattle.receiver_state.specs.declared.Outputs.{Outputs}
use Rattle.receiver_state.specs.declared.Clocked.{Clocked}
use Rattle.receiver_state.specs.Shown.{no_outputs, showing_frame}
use Rattle.register_map.specs.Map.{without_setting}
use Rattle.register_map.specs.Change.{stored}
use Rattle.idle_clock.specs.AtRest.{rest_for}
use Rattle.channel_b.specs.TakeBit.{held_after}
use Rattle.channel_b.proofs.Laws.{waits_none}
use Rattle.verdicts.specs.Table.{up_to, double_up, cleared_by, foreign, long_row, table_row}
use Rattle.verdicts.specs.Finished.{count_errors, finished, finished_by}
use Rattle.receiver.specs.declared.ClockAnswer.{ClockAnswer}
use Rattle.receiver.specs.Clock.{clocked_answer, refused_clock}
use Rattle.whole_frame.specs.WholeFrame.{settled_clock}
use Rattle.whole_frame.proofs.WholeFrameLaw.{receiver_whole_frames}
use Rattle.std.specs.Prelude.{Result, Ok, Err}
use Rattle.refusals.specs.declared.Refusal.{Refusal}
use Rattle.refusals.specs.declared.Refusal.TheVariants.{Frame}
use Rattle.refusals.specs.Refusals.{number}
use Rattle.stored_line.specs.declared.StoredFrame.{StoredFrame}
use Rattle.stored_line.specs.Digits.{digit_value, all_digits, hex_number, hex_answer, digit_character, hex_digits}
use Rattle.stored_line.specs.Read.{stored_frame, read_line}
use Rattle.line_report.specs.Text.{decimal_up_to, decimal, kind_digits, word_digits, prints_dash, word_text, prints_place, place_text, verdict_text, refusal_text, answer_text, line_text, counts_text, end_text}
use Rattle.line_report.specs.Output.{lines_after, feed_line, ones_sent, after_line, next_line, lines_print, output_of}
use Rattle.report_laws.specs.Example.{ended_lines, line1, line2, line3, line4, line5, line6, line7, line8, example_lines, text1, text2, text3, text4, text5, text6, text7, text8, text9, ExampleOutput}

-- ---- the input, cut into lines

no_feed : List ℕ → Bool
no_feed [] = true
no_feed (byte ∷ bytes) = not (eqb byte 10) && no_feed bytes

no_feeds : List (List ℕ) → Bool
no_feeds [] = true
no_feeds (line ∷ lines) = no_feed line && no_feeds lines

first_cut : (characters line rest : List ℕ) → no_feed line ≡ true
    → lines_after characters ((line ++ (10 ∷ [])) ++ rest) ≡ (characters ++ line) ∷ lines_after [] rest
unfolding lines_after no_feed
first_cut characters [] rest e = ap (λ (line : List ℕ). line ∷ lines_after [] rest) (sym (append-nil characters))
first_cut characters (byte ∷ line) rest e =
    let two = both (not (eqb byte 10)) (no_feed line) e in
    rw (not-true (eqb byte 10) two.0)
    (first_cut (characters ++ (byte ∷ [])) line rest two.1 ∙ ap (λ (whole : List ℕ). whole ∷ lines_after [] rest) (append_assoc characters (byte ∷ []) line))

cut : (lines : List (List ℕ)) → no_feeds lines ≡ true → lines_after [] (ended_lines lines) ≡ lines
unfolding lines_after no_feeds
cut [] e = refl
cut (line ∷ lines) e =
    let two = both (no_feed line) (no_feeds lines) e in
    first_cut [] line (ended_lines lines) two.0 ∙ ap (λ (rest : List (List ℕ)). line ∷ rest) (cut lines two.1)

-- ---- one line

line_answer_lem : (r : Receiver) (lines : ℕ) (characters : List ℕ) (rest : List (List ℕ)) (line : Result StoredFrame Refusal) (answer : ClockAnswer)
    → read_line characters ≡ line → feed_line columns_of r line ≡ answer
    → lines_print columns_of r lines (characters ∷ rest)
    ≡ line_text (next_line lines) (word_digits line) answer ++ lines_print columns_of (ones_sent columns_of answer) (next_line lines) rest
unfolding lines_print
line_answer_lem r lines characters rest line answer e f =
    ap (λ (l : Result StoredFrame Refusal). line_text (next_line lines) (word_digits l) (feed_line columns_of r l) ++ lines_print columns_of (after_line columns_of r l) (next_line lines) rest) e
    ∙ ap (λ (a : ClockAnswer). line_text (next_line lines) (word_digits line) a ++ lines_print columns_of (ones_sent columns_of a) (next_line lines) rest) f

-- the state between two lines
abbrev waiting : Core → Receiver
waiting core = receiver core nothing_held

abbrev clocked : Core → Outputs → Clocked
clocked after shown = record { core = after; outputs = shown }

-- a line with a frame: what is computed of it. The frame leaves `held` and this core; `after` is the core after the ones that may follow.
record FrameLine (core : Core) (lines : ℕ) (characters : List ℕ) (kind : Kind) (number : ℕ) (held : Held) (left : Core) (shown : Outputs) (after : Core) (text : List ℕ) : Type 0 where
  reads : read_line characters ≡ Ok (stored_frame kind number)
  is_a_frame : is_frame kind number ≡ true
  is_well_formed : well_formed (waiting core) ≡ true
  done : finished_by columns_of kind number (settled_clock (frame_bits kind) core) ≡ clocked left shown
  leaves : held_after number ≡ held
  ones : ones_sent columns_of (clocked_answer held (clocked left shown)) ≡ waiting after
  prints : line_text (next_line lines) (kind_digits kind) (clocked_answer held (clocked left shown)) ≡ text ++ (10 ∷ [])

frame_line : {core : Core} {lines : ℕ} {characters : List ℕ} {kind : Kind} {number : ℕ} {held : Held} {left : Core} {shown : Outputs} {after : Core} {text : List ℕ}
    → FrameLine core lines characters kind number held left shown after text → (rest : List (List ℕ))
    → lines_print columns_of (waiting core) lines (characters ∷ rest) ≡ (text ++ (10 ∷ [])) ++ lines_print columns_of (waiting after) (next_line lines) rest
frame_line {core} {lines} {characters} {kind} {number} {held} {left} {shown} {after} {text} l rest =
    let answer = clocked_answer held (clocked left shown) in
    line_answer_lem (waiting core) lines characters rest (Ok (stored_frame kind number)) answer l.reads
    (receiver_whole_frames.sent_frame_finishes (waiting core) kind number l.is_well_formed (waits_none core) l.is_a_frame ∙ ap₂ clocked_answer l.leaves l.done)
    ∙ ap₂ (λ (t : List ℕ) (r : Receiver). t ++ lines_print columns_of r (next_line lines) rest) l.prints l.ones

-- ---- the eight lines

-- register 2, single errors, double errors, status bit 5 and bunch count; all else is as in the fresh state
abbrev having : ℕ → ℕ → ℕ → ℕ → ℕ → Core
having coarse single double status5 bunch =
    record {
      ids = ids 5 5;
      settings = record { fine1 = 0; fine2 = 0; coarse = coarse; control = 0x93; config2 = 0x85; config3 = 0xA7 };
      errors = errors single double status5;
      counters = counters bunch 0;
      sequence = no_sequence;
    }

-- verdict, corrected flag, place, word
abbrev showing : ℕ → ℕ → ℕ → ℕ → Outputs
showing verdict corrected place word = showing_frame verdict corrected place word no_outputs

-- a frame with another verdict than 7, and one with 7
abbrev Line : Core → ℕ → List ℕ → Kind → ℕ → Core → Outputs → List ℕ → Type 0
Line core lines characters kind number after shown text = FrameLine core lines characters kind number nothing_held after shown after text

abbrev BadStopLine : Core → ℕ → List ℕ → Kind → ℕ → Core → Outputs → Core → List ℕ → Type 0
BadStopLine core lines characters kind number left shown after text = FrameLine core lines characters kind number (wanting_ones 41) left shown after text

record EightLines : Type 0 where
  first : Line (having 0 0 0 1 0) 0 line1 Short 0x004F (having 0 0 0 1 0) (showing 1 0 0 0x01) text1
  second : Line (having 0 0 0 1 0) 1 line2 Short 0x2097 (having 0 1 0 1 16) (showing 1 1 1 0x02) text2
  -- 41 clocks more
  third : BadStopLine (having 0 1 0 1 16) 2 line3 Short 0x004E (having 0 1 1 0 32) (showing 7 0 0 0) (having 0 1 1 0 73) text3
  fourth : Line (having 0 1 1 0 73) 3 line4 Short 0x304F (having 0 1 2 1 89) (showing 8 0 0 0) text4
  fifth : Line (having 0 1 2 1 89) 4 line5 Long 0x100150235AD (having 0x35 1 2 1 131) (showing 2 0 0 0x00150235) text5
  sixth : Line (having 0x35 1 2 1 131) 5 line6 Long 0x180150235AD (having 0x35 2 2 1 173) (showing 2 1 1 0x00150235) text6
  seventh : Line (having 0x35 2 2 1 173) 6 line7 Long 0x100190235B5 (having 0x35 2 2 1 215) (showing 5 0 0 0x00190235) text7
  eighth_reads : read_line line8 ≡ Err Frame
  eighth_prints : line_text 8 0 (refused_clock 12 (waiting (having 0x35 2 2 1 215))) ≡ text8 ++ (10 ∷ [])
  no_ones : ones_sent columns_of (refused_clock 12 (waiting (having 0x35 2 2 1 215))) ≡ waiting (having 0x35 2 2 1 215)
  end_prints_lem : lines_print columns_of (waiting (having 0x35 2 2 1 215)) 8 [] ≡ text9 ++ (10 ∷ [])

-- the ones after the third line, done at once
ones_after_third : ones_sent columns_of (clocked_answer (wanting_ones 41) (clocked (having 0 1 1 0 32) (showing 7 0 0 0))) ≡ waiting (having 0 1 1 0 73)
unfolding ones_sent every has_setting ids_ok settings_ok counters_ok sequence_ok core_ok bits_ok wanted_ok held_ok well_formed rest_for
ones_after_third = ap (λ (a : ClockAnswer). a.receiver) (receiver_whole_frames.ones_after_7 (receiver (having 0 1 1 0 32) (wanting_ones 41)) refl refl).0

eight_lines : EightLines
unfolding ones count_trailing_zeros lowest_one has_setting every check_number syndrome first_from by_syndrome decode_word is_frame judged ids_ok settings_ok counters_ok sequence_ok core_ok bits_ok wanted_ok held_ok well_formed up_to double_up cleared_by without_setting stored foreign long_row table_row count_errors finished finished_answer held_after rest_for digit_value all_digits hex_number hex_answer digit_character hex_digits read_line decimal_up_to decimal one_of prints_dash word_text prints_place place_text verdict_text refusal_text answer_text line_text counts_text end_text lines_print ones_sent
eight_lines =
    record {
      first = record { reads = refl; is_a_frame = refl; is_well_formed = refl; done = refl; leaves = refl; ones = refl; prints = refl };
      second = record { reads = refl; is_a_frame = refl; is_well_formed = refl; done = refl; leaves = refl; ones = refl; prints = refl };
      third = record { reads = refl; is_a_frame = refl; is_well_formed = refl; done = refl; leaves = refl; ones = ones_after_third; prints = refl };
      fourth = record { reads = refl; is_a_frame = refl; is_well_formed = refl; done = refl; leaves = refl; ones = refl; prints = refl };
      fifth = record { reads = refl; is_a_frame = refl; is_well_formed = refl; done = refl; leaves = refl; ones = refl; prints = refl };
      sixth = record { reads = refl; is_a_frame = refl; is_well_formed = refl; done = refl; leaves = refl; ones = refl; prints = refl };
      seventh = record { reads = refl; is_a_frame = refl; is_well_formed = refl; done = refl; leaves = refl; ones = refl; prints = refl };
      eighth_reads = refl;
      eighth_prints = refl;
      no_ones = refl;
      end_prints_lem = refl;
    }

-- ---- all of them

then_lines : (text : List ℕ) {rest output : List ℕ} → rest ≡ output → (text ++ (10 ∷ [])) ++ rest ≡ (text ++ (10 ∷ [])) ++ output
then_lines text e = ap (λ (rest : List ℕ). (text ++ (10 ∷ [])) ++ rest) e

last_lines : lines_print columns_of (waiting (having 0x35 2 2 1 215)) 7 (line8 ∷ []) ≡ ended_lines (text8 ∷ text9 ∷ [])
unfolding number
last_lines =
    let r = waiting (having 0x35 2 2 1 215) in
    line_answer_lem r 7 line8 [] (Err Frame) (refused_clock 12 r) eight_lines.eighth_reads refl
    ∙ ap₂ (λ (t : List ℕ) (x : Receiver). t ++ lines_print columns_of x 8 []) eight_lines.eighth_prints eight_lines.no_ones
    ∙ then_lines text8 eight_lines.end_prints_lem

no_feeds_lem : no_feeds example_lines ≡ true
unfolding no_feed no_feeds
no_feeds_lem = refl

pub example_output : ExampleOutput
unfolding output_of
example_output =
    ap (lines_print columns_of (waiting (having 0 0 0 1 0)) 0) (cut example_lines no_feeds_lem)
    ∙ frame_line eight_lines.first (line2 ∷ line3 ∷ line4 ∷ line5 ∷ line6 ∷ line7 ∷ line8 ∷ [])
    ∙ then_lines text1 (frame_line eight_lines.second (line3 ∷ line4 ∷ line5 ∷ line6 ∷ line7 ∷ line8 ∷ [])
    ∙ then_lines text2 (frame_line eight_lines.third (line4 ∷ line5 ∷ line6 ∷ line7 ∷ line8 ∷ [])
    ∙ then_lines text3 (frame_line eight_lines.fourth (line5 ∷ line6 ∷ line7 ∷ line8 ∷ [])
    ∙ then_lines text4 (frame_line eight_lines.fifth (line6 ∷ line7 ∷ line8 ∷ [])
    ∙ then_lines text5 (frame_line eight_lines.sixth (line7 ∷ line8 ∷ [])
    ∙ then_lines text6 (frame_line eight_lines.seventh (line8 ∷ []) ∙ then_lines text7 last_lines))))))

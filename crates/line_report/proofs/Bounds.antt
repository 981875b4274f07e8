-- How long a line's text can be. Assumes nothing.
use Rattle.std.proofs.Common.{ℕ, ◌+◌, ◌<◌, ◌≤◌, eqb, ltb, List, [], ◌∷◌, ◌++◌, length, ap, arith, lit<, length-append, ltb-true, Result, Ok, Err}
use Rattle.laws.proofs.Rules.{picked, picked_by}
use Rattle.frame.specs.declared.Kind.{Kind}
use Rattle.frame.specs.declared.Kind.TheVariants.{Short, Long}
use Rattle.hamming.specs.Correction.{flag_of}
use Rattle.frame.specs.declared.Judged.{Judged}
use Rattle.frame.specs.declared.Judged.TheVariants.{StopZero, EvenSyndrome, OddSyndrome, FixedZero, Good}
use Rattle.frame.specs.Numbers.{frame_bits, is_frame}
use Rattle.frame.specs.Bits.{bits_of}
use Rattle.frame.specs.Place.{largest_place}
use Rattle.frame.specs.Decode.{judged, answer_to, finished_answer}
use Rattle.receiver_state.specs.declared.Receiver.{Receiver}
use Rattle.receiver_state.specs.declared.Core.{Core}
use Rattle.receiver_state.specs.WellFormed.{well_formed}
use Rattle.receiver_state.specs.declared.Outputs.{Outputs}
use Rattle.receiver_state.specs.Shown.{no_outputs}
use Rattle.verdicts.specs.Table.{largest_verdict}
use Rattle.verdicts.specs.Finished.{finished}
use Rattle.verdicts.proofs.Laws.{not_larger}
use Rattle.verdicts.proofs.Named.{place_most}
use Rattle.receiver.specs.declared.ClockAnswer.{ClockAnswer}
use Rattle.channel_b.specs.declared.Taken.{Taken}
use Rattle.channel_b.specs.declared.Taken.TheVariants.{Unfinished, Finished}
use Rattle.channel_b.specs.TakeBit.{take_bit}
use Rattle.idle_clock.specs.IdleClock.{idle_clock}
use Rattle.receiver.specs.Clock.{apply_frame, step_answer, refused_clock, clock_answer}
use Rattle.whole_frame.specs.WholeFrame.{clocks_answer, no_clock, receive_answer}
use Rattle.refusals.specs.declared.Refusal.{Refusal}
use Rattle.refusals.specs.declared.Refusal.TheVariants.{Bit, State, Id, I2cId, Register, ReadOnly, Config, Setting, DelayByte, LineLength, Character, Frame, Field, LineBuffer, BlockLength, RecordBuffer, NoSetting, ColumnCount, BadColumn}
use Rattle.refusals.specs.Refusals.{number}
use Rattle.stored_line.specs.declared.StoredFrame.{StoredFrame}
use Rattle.stored_line.proofs.Digits.{length_digits}
use Rattle.line_report.specs.Text.{decimal, kind_digits, word_digits, prints_dash, word_text, prints_place, place_text, verdict_text, refusal_text, answer_text, line_text}
use Rattle.line_report.specs.Output.{feed_line, next_line, line_prints}
use Rattle.line_report.specs.declared.Report.{Report}
use Rattle.line_report.specs.Report.{read_part, digits_of, longest_answer, longest_line, last_prints}
use Rattle.line_report.proofs.Decimal.{one_digit, few_digits, twenty_digits}

-- ---- no verdict and no place is larger than the largest, the flag has one digit, a refusal at most three

record Shown (shown : Outputs) : Type 0 where
  verdict_most : shown.verdict ≤ largest_verdict
  flag_below : shown.corrected < 10
  place_at_most : shown.place ≤ largest_place

record Small (answer : ClockAnswer) : Type 0 where
  refusal_below : answer.refusal < 1000
  outputs_small : Shown answer.outputs

flag_small : (kind : Kind) (judged : Judged) → (answer_to kind judged).corrected < 10
flag_small kind StopZero = lit< tt
flag_small kind EvenSyndrome = lit< tt
flag_small kind OddSyndrome = lit< tt
flag_small kind (FixedZero word) = lit< tt
flag_small kind (Good word wrong) = picked (λ (n : ℕ). n < 10) (flag_of wrong) (lit< tt) (lit< tt)

place_small : (kind : Kind) (judged : Judged) → (answer_to kind judged).place ≤ largest_place
place_small Short judged = omega (arith, place_most Short judged)
place_small Long judged = place_most Long judged

nothing_shown : Shown no_outputs
nothing_shown = record { verdict_most = omega arith; flag_below = lit< tt; place_at_most = omega arith }

applied_small : (columns : Kind → List ℕ) (taken : Taken) (core : Core) (trigger : ℕ) → Shown (apply_frame columns taken (idle_clock core trigger)).outputs
unfolding finished finished_answer idle_clock
applied_small columns (Unfinished held) core trigger = record { verdict_most = omega arith; flag_below = lit< tt; place_at_most = omega arith }
applied_small columns (Finished kind number) core trigger =
    record {
      verdict_most = not_larger columns kind number (idle_clock core trigger);
      flag_below = flag_small kind (judged (columns kind) kind number);
      place_at_most = place_small kind (judged (columns kind) kind number);
    }

refused_small : (refusal : ℕ) (r : Receiver) → refusal < 1000 → Small (refused_clock refusal r)
refused_small refusal r h = record { refusal_below = h; outputs_small = nothing_shown }

clock_small : (columns : Kind → List ℕ) (r : Receiver) (trigger bit : ℕ) → Small (clock_answer columns r trigger bit)
unfolding clock_answer step_answer
clock_small columns r trigger bit =
    picked Small (well_formed r)
    (picked Small (ltb 1 trigger) (refused_small 1 r (lit< tt))
    (picked Small (ltb 1 bit) (refused_small 1 r (lit< tt))
    (record { refusal_below = lit< tt; outputs_small = applied_small columns (take_bit r.held bit) r.core trigger })))
    (refused_small 2 r (lit< tt))

clocks_small : (columns : Kind → List ℕ) (before : ClockAnswer) (bits : List ℕ) → Small before → Small (clocks_answer columns before bits)
unfolding clocks_answer
clocks_small columns before [] s = s
clocks_small columns before (bit ∷ bits) s =
    clocks_small columns (clock_answer columns before.receiver 0 bit) bits (clock_small columns before.receiver 0 bit)

pub number_small : (refusal : Refusal) → number refusal < 100
unfolding number
number_small Bit = lit< tt
number_small State = lit< tt
number_small Id = lit< tt
number_small I2cId = lit< tt
number_small Register = lit< tt
number_small ReadOnly = lit< tt
number_small Config = lit< tt
number_small Setting = lit< tt
number_small DelayByte = lit< tt
number_small LineLength = lit< tt
number_small Character = lit< tt
number_small Frame = lit< tt
number_small Field = lit< tt
number_small LineBuffer = lit< tt
number_small BlockLength = lit< tt
number_small RecordBuffer = lit< tt
number_small NoSetting = lit< tt
number_small ColumnCount = lit< tt
number_small (BadColumn index) = lit< tt

line_small : (columns : Kind → List ℕ) (r : Receiver) (line : Result StoredFrame Refusal) → Small (feed_line columns r line)
unfolding receive_answer
line_small columns r (Ok frame) =
    picked Small (well_formed r)
    (picked Small (is_frame frame.kind frame.number) (clocks_small columns (no_clock r) (bits_of (frame_bits frame.kind) frame.number) (refused_small 0 r (lit< tt))) (refused_small 12 r (lit< tt)))
    (refused_small 2 r (lit< tt))
line_small columns r (Err refusal) = refused_small (number refusal) r (omega (arith, number_small refusal))

-- ---- the text

abbrev AtMost8 : List ℕ → Type 0
AtMost8 text = length text ≤ 8

word_length : (digits : ℕ) (shown : Outputs) → digits ≤ 8 → length (word_text digits shown) ≤ 8
unfolding word_text
word_length digits shown h =
    picked AtMost8 (prints_dash shown.verdict) (omega arith) (omega (arith, length_digits digits shown.word))

-- a number that is no larger has no more digits
digits_most : (n most : ℕ) → n ≤ most → most < 1000 → length (decimal n) ≤ digits_of most
digits_most n most h few =
    picked_by Enough (ltb most 10) (λ t. let below : most < 10 = ltb-true most 10 t in few_digits 0 n (omega arith) (omega arith))
    (λ t. picked_by Enough (ltb most 100) (λ u. let below : most < 100 = ltb-true most 100 u in few_digits 1 n (omega arith) (omega arith))
    (λ u. few_digits 2 n (omega arith) (omega arith)))
  where
    Enough : ℕ → Type 0
    Enough digits = length (decimal n) ≤ digits

place_length : (shown : Outputs) → Shown shown → length (place_text shown) ≤ 1 + digits_of largest_place
unfolding place_text
place_length shown s =
    picked (λ (text : List ℕ). length text ≤ 1 + digits_of largest_place) (prints_place shown.verdict)
    (let digits = digits_most shown.place largest_place s.place_at_most (lit< tt) in omega arith) (omega arith)

verdict_length : (digits : ℕ) (shown : Outputs) → digits ≤ 8 → Shown shown → length (verdict_text digits shown) ≤ longest_answer
unfolding verdict_text
verdict_length digits shown h s =
    let verdict = digits_most shown.verdict largest_verdict s.verdict_most (lit< tt) in
    let flag = ap length (one_digit shown.corrected s.flag_below) in
    let last = length-append (word_text digits shown) (place_text shown) in
    let behind = length-append (32 ∷ decimal shown.corrected) (32 ∷ (word_text digits shown ++ place_text shown)) in
    let all = length-append (decimal shown.verdict) ((32 ∷ decimal shown.corrected) ++ (32 ∷ (word_text digits shown ++ place_text shown))) in
    omega (arith, word_length digits shown h, place_length shown s)

pub refusal_length : (refusal : ℕ) → refusal < 1000 → length (refusal_text refusal) ≤ 5
unfolding refusal_text
refusal_length refusal h = omega (arith, few_digits 2 refusal h (omega arith))

answer_length : (digits : ℕ) (answer : ClockAnswer) → digits ≤ 8 → Small answer → length (answer_text digits answer) ≤ longest_answer
unfolding answer_text
answer_length digits answer h s =
    picked (λ (text : List ℕ). length text ≤ longest_answer) (eqb answer.refusal 0) (verdict_length digits answer.outputs h s.outputs_small)
    (omega (arith, refusal_length answer.refusal s.refusal_below))

kind_small : (kind : Kind) → kind_digits kind ≤ 8
kind_small Short = omega arith
kind_small Long = omega arith

digits_small : (line : Result StoredFrame Refusal) → word_digits line ≤ 8
digits_small (Ok frame) = kind_small frame.kind
digits_small (Err refusal) = omega arith

pub line_length_lem : (columns : Kind → List ℕ) (r : Receiver) (lines : ℕ) (line : Result StoredFrame Refusal) → length (line_prints columns r lines line) ≤ longest_line
unfolding line_text
line_length_lem columns r lines line =
    let answer = feed_line columns r line in
    let bound = answer_length (word_digits line) answer (digits_small line) (line_small columns r line) in
    let behind = length-append (answer_text (word_digits line) answer) (10 ∷ []) in
    let all = length-append (decimal (next_line lines)) (32 ∷ (answer_text (word_digits line) answer ++ (10 ∷ []))) in
    omega (arith, twenty_digits (next_line lines))

-- ---- the last line

pub last_length : (columns : Kind → List ℕ) (now : Report) → length (last_prints columns now) ≤ longest_line
unfolding last_prints
last_length columns now =
    picked (λ (text : List ℕ). length text ≤ longest_line) (eqb now.part.count 0) (omega arith)
    (line_length_lem columns now.receiver now.lines (read_part now.part))

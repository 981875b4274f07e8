-- How long the end can be. Assumes nothing.
use Rattle.std.proofs.Common.{◌≡◌, ℕ, ◌+◌, ◌<◌, ◌≤◌, Bool, true, false, cond, eqb, List, [], ◌∷◌, ◌++◌, length, arith, lit<, lit≤, length-append, Result, Ok, Err}
use Rattle.laws.specs.OneOf.{one_of}
use Rattle.laws.proofs.Rules.{picked, by_test}
use Rattle.frame.specs.Columns.{columns_of}
use Rattle.receiver_state.specs.declared.Core.{Core}
use Rattle.receiver_state.specs.declared.Receiver.{Receiver}
use Rattle.receiver_state.specs.Shown.{no_outputs}
use Rattle.receiver_state.specs.WellFormed.{well_formed}
use Rattle.receiver_state.proofs.WellFormed.{receiver_facts}
use Rattle.receiver.specs.declared.ClockAnswer.{ClockAnswer}
use Rattle.receiver.specs.Clock.{refused_clock}
use Rattle.whole_frame.specs.WholeFrame.{receive_answer}
use Rattle.whole_frame.proofs.WholeFrameLaw.{receiver_whole_frames}
use Rattle.refusals.specs.declared.Refusal.{Refusal}
use Rattle.refusals.specs.Refusals.{number}
use Rattle.stored_line.specs.declared.StoredFrame.{StoredFrame}
use Rattle.stored_line.specs.Digits.{digit_character, hex_digits}
use Rattle.line_report.specs.Text.{decimal_up_to, decimal, word_digits, prints_dash, word_text, prints_place, place_text, verdict_text, answer_text, line_text, counts_text, end_text, core_end_text}
use Rattle.line_report.specs.Output.{after_line, next_line, line_prints}
use Rattle.line_report.specs.Report.{read_part, line_ended, longest_end, after_last, last_prints}
use Rattle.line_report.specs.EndLength.{TypesHold, NoLongerEnd}
use Rattle.line_report.proofs.Decimal.{few_digits, twenty_digits}
use Rattle.line_report.proofs.Bounds.{number_small, refusal_length, line_length_lem}
use Rattle.line_report.proofs.Keep.{line_keeps}

-- ---- the counts

-- of numbers with so many digits
counts_length : (single double event bunch e b : ℕ) → length (decimal single) ≤ 5 → length (decimal double) ≤ 3 → length (decimal event) ≤ e
    → length (decimal bunch) ≤ b → length (end_text single double event bunch) ≤ 16 + e + b
unfolding end_text counts_text
counts_length single double event bunch e b singles doubles events bunches =
    let two = length-append (32 ∷ decimal event) (32 ∷ decimal bunch) in
    let three = length-append (32 ∷ decimal double) ((32 ∷ decimal event) ++ (32 ∷ decimal bunch)) in
    let four = length-append (32 ∷ decimal single) ((32 ∷ decimal double) ++ ((32 ∷ decimal event) ++ (32 ∷ decimal bunch))) in
    let all = length-append ((32 ∷ decimal single) ++ ((32 ∷ decimal double) ++ ((32 ∷ decimal event) ++ (32 ∷ decimal bunch)))) (10 ∷ []) in
    omega arith

-- of any numbers of their types, and of those of a well-formed receiver
any_counts : (core : Core) → TypesHold core → length (core_end_text core) ≤ 31
any_counts core t =
    counts_length core.errors.single core.errors.double core.counters.event core.counters.bunch 10 5
    (few_digits 4 _ (omega (arith, t.single_16)) (omega (arith, t.single_16))) (few_digits 2 _ (omega (arith, t.double_8)) (omega (arith, t.double_8)))
    (few_digits 9 _ (omega (arith, t.event_32)) (omega (arith, t.event_32))) (few_digits 4 _ (omega (arith, t.bunch_16)) (omega (arith, t.bunch_16)))

ranged_counts : (r : Receiver) → TypesHold r.core → well_formed r ≡ true → length (core_end_text r.core) ≤ 28
ranged_counts r t w =
    let range = (receiver_facts r w).of_core.of_counters in
    counts_length r.core.errors.single r.core.errors.double r.core.counters.event r.core.counters.bunch 8 4
    (few_digits 4 _ (omega (arith, t.single_16)) (omega (arith, t.single_16))) (few_digits 2 _ (omega (arith, t.double_8)) (omega (arith, t.double_8)))
    (few_digits 7 _ (omega (arith, range.event_below)) (omega (arith, range.event_below)))
    (few_digits 3 _ (omega (arith, range.bunch_below)) (omega (arith, range.bunch_below)))

-- ---- a line that is refused

-- by any number; 0 would be the verdict 0 of no outputs
nothing_length : length (verdict_text 0 no_outputs) ≤ 5
unfolding verdict_text word_text place_text prints_dash prints_place one_of decimal decimal_up_to digit_character hex_digits
nothing_length = lit≤ tt

abbrev Short5 : List ℕ → Type 0
Short5 text = length text ≤ 5

refused_answer : (refusal : ℕ) (r : Receiver) → refusal < 1000 → Short5 (answer_text 0 (refused_clock refusal r))
unfolding answer_text
refused_answer refusal r h = picked Short5 (eqb refusal 0) nothing_length (refusal_length refusal h)

by_2 : (digits : ℕ) (r : Receiver) → Short5 (answer_text digits (refused_clock 2 r))
unfolding answer_text
by_2 digits r = refusal_length 2 (lit< tt)

line_of : (number digits : ℕ) (answer : ClockAnswer) → Short5 (answer_text digits answer) → length (line_text number digits answer) ≤ 27
unfolding line_text
line_of number digits answer h =
    let behind = length-append (answer_text digits answer) (10 ∷ []) in
    let all = length-append (decimal number) (32 ∷ (answer_text digits answer ++ (10 ∷ []))) in
    omega (arith, twenty_digits number, h)

-- a receiver that is not well formed refuses every line
refused_line_lem : (r : Receiver) (lines : ℕ) (line : Result StoredFrame Refusal) → well_formed r ≡ false → length (line_prints columns_of r lines line) ≤ 27
unfolding receive_answer
refused_line_lem r lines (Ok frame) w = line_of (next_line lines) (word_digits (Ok frame)) _ (rw w (by_2 (word_digits (Ok frame)) r))
refused_line_lem r lines (Err refusal) w = line_of (next_line lines) 0 (refused_clock (number refusal) r) (refused_answer (number refusal) r (omega (arith, number_small refusal)))

-- ---- the end

pub no_longer_end : NoLongerEnd
unfolding after_last last_prints
no_longer_end now t = let fits = by_count (eqb now.part.count 0) t in omega arith
  where
    line : Result StoredFrame Refusal
    line = read_part now.part

    text : List ℕ
    text = line_prints columns_of now.receiver now.lines line

    after : Receiver
    after = after_line columns_of now.receiver line

    with_line : TypesHold after.core → length (text ++ core_end_text after.core) ≤ longest_end
    with_line t =
        let both = length-append text (core_end_text after.core) in
        by_test (well_formed now.receiver)
        (λ w.
        omega (
          arith,
          both,
          line_length_lem columns_of now.receiver now.lines line,
          ranged_counts after t (line_keeps columns_of receiver_whole_frames now.receiver line w),
        ))
        (λ w. omega (arith, both, refused_line_lem now.receiver now.lines line w, any_counts after.core t))

    by_count : (b : Bool) → TypesHold (cond b now (line_ended columns_of now line)).receiver.core
        → length (cond b [] text ++ core_end_text (cond b now (line_ended columns_of now line)).receiver.core) ≤ longest_end
    by_count true t = omega (arith, any_counts now.receiver.core t)
    by_count false t = with_line t

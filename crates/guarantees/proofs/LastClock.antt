-- What the last clock of a list that carries a frame leaves and answers, by name, from the equation on the whole. Assumes nothing.
use mathlib.Core.Path.{◌≡◌, refl}
use mathlib.Core.Logic.{◌⊎◌, inl, inr}
use mathlib.Core.List.{List}
use Prim.Native.Nat.{ℕ, ◌/◌, ◌%◌}
use borrow.Author.Tests.{eq-eqb, ne_eqb}
use lib.Dec.{eqb}
use Rattle.laws.proofs.Rules.{by_test}
use Rattle.frame.specs.declared.Kind.{Kind}
use Rattle.frame.specs.declared.Kind.TheVariants.{Short, Long}
use Rattle.frame.specs.declared.Fields.{Fields}
use Rattle.frame.specs.Decode.{bare_answer, finished_answer}
use Rattle.frame.specs.Frames.{fields_answer}
use Rattle.receiver_state.specs.declared.Core.{Core}
use Rattle.receiver_state.specs.State.{receiver, nothing_held}
use Rattle.receiver_state.proofs.Shown.{frame_stands}
use Rattle.idle_clock.specs.IdleClock.{idle_clock}
use Rattle.channel_b.specs.TakeBit.{Waits}
use Rattle.verdicts.specs.declared.LongRow.{LongRow}
use Rattle.verdicts.specs.declared.LongRow.TheVariants.{Foreign, Outside, WithoutSetting, Store, Reset, Other}
use Rattle.verdicts.specs.Table.{double_up, cleared_by, long_row, table_row}
use Rattle.verdicts.specs.Finished.{count_errors, finished, finished_by}
use Rattle.verdicts.proofs.Counts.{one_higher}
use Rattle.guarantees.specs.Calls.{CallResult, result}
use Rattle.guarantees.specs.LastClock.{with_frame, with_correction, with_double_error, OthersSame, correction_may_change, double_error_may_change, CorrectedLast, UncorrectableLast}

pub corrected_last : (place : ℕ) (clean : CallResult) → Waits clean.receiver → CorrectedLast place clean (with_correction place clean)
corrected_last place clean w =
    record {
      flag_1 = refl;
      place_is = refl;
      single_higher = λ n. rw (ne_eqb _ _ n) (one_higher 65535 clean.receiver.core.errors.single);
      single_cleared = λ z. rw (eq-eqb _ _ z) refl;
      verdict_same = refl;
      word_same = refl;
      others_same = others;
      waits = record { none_held = w.none_held; start_next = w.start_next };
    }
  where
    others : OthersSame correction_may_change clean (with_correction place clean)
    others =
        record {
          refusal_same = refl;
          outputs_stand = frame_stands _ _ _ _ clean.answer.outputs;
          byte_same = refl;
          ids_same = refl;
          settings_same = λ n. refl;
          single_same = λ n. absurd (n tt);
          double_same = λ n. refl;
          status_same = λ n. refl;
          counters_same = λ n. refl;
          sequence_same = λ n. refl;
          held_same = refl;
        }

pub uncorrectable_last : (verdict : ℕ) (idle : CallResult) → Waits idle.receiver → idle.answer.outputs.corrected ≡ 0 → idle.answer.outputs.place ≡ 0
    → idle.answer.outputs.word ≡ 0 → UncorrectableLast verdict idle (with_double_error verdict idle)
uncorrectable_last verdict idle w f p z =
    record {
      verdict_is = refl;
      flag_same = refl;
      no_flag = f;
      place_same = refl;
      no_place = p;
      word_same = refl;
      no_word = z;
      double_higher = one_higher 255 idle.receiver.core.errors.double;
      status_1 = refl;
      others_same = others;
      waits = record { none_held = w.none_held; start_next = w.start_next };
    }
  where
    others : OthersSame double_error_may_change idle (with_double_error verdict idle)
    others =
        record {
          refusal_same = refl;
          outputs_stand = frame_stands _ _ _ _ idle.answer.outputs;
          byte_same = refl;
          ids_same = refl;
          settings_same = λ n. refl;
          single_same = λ n. refl;
          double_same = λ n. absurd (n tt);
          status_same = λ n. absurd (n tt);
          counters_same = λ n. refl;
          sequence_same = λ n. refl;
          held_same = refl;
        }

-- ---- the table of verdicts on a corrected frame, and on one that can't be corrected

-- a corrected frame is the clean one, but for flag, place and single error counter
pub corrected_frame : (kind : Kind) (place : ℕ) (fields : Fields) (idle : CallResult)
    → with_frame kind (fields_answer kind 1 place fields) idle ≡ with_correction place (with_frame kind (fields_answer kind 0 0 fields) idle)
unfolding finished table_row cleared_by count_errors
corrected_frame Short place fields idle =
    by_test (eqb (fields.«data» % 2) 1)
    (λ t. by_test (eqb (fields.«data» / 2 % 2) 1) (λ u. rw (t, u) refl) (λ u. rw (t, u) refl))
    (λ t. by_test (eqb (fields.«data» / 2 % 2) 1) (λ u. rw (t, u) refl) (λ u. rw (t, u) refl))
corrected_frame Long place fields idle = by_row (long_row fields idle.receiver.core.ids.id) refl
  where
    by_row : (chosen : LongRow) → long_row fields idle.receiver.core.ids.id ≡ chosen
        → with_frame Long (fields_answer Long 1 place fields) idle ≡ with_correction place (with_frame Long (fields_answer Long 0 0 fields) idle)
    by_row Foreign e = rw e refl
    by_row Outside e = rw e refl
    by_row WithoutSetting e = rw e refl
    by_row Store e = rw e refl
    by_row Reset e = rw e refl
    by_row Other e = rw e refl

pub uncorrectable_frame : (columns : Kind → List ℕ) (kind : Kind) (number verdict : ℕ) (core : Core) (trigger : ℕ)
    → (verdict ≡ 8) ⊎ (verdict ≡ 11) → finished_answer columns kind number ≡ bare_answer 0 verdict 0
    → let idle = idle_clock core trigger in
    let done = finished_by columns kind number idle in
    result (receiver done.core nothing_held) 0 done.outputs 0 ≡ with_double_error verdict (result (receiver idle.core nothing_held) 0 idle.outputs 0)
unfolding finished table_row count_errors double_up idle_clock
uncorrectable_frame columns kind number verdict core trigger (inl v) e = rw (e, v) refl
uncorrectable_frame columns kind number verdict core trigger (inr v) e = rw (e, v) refl

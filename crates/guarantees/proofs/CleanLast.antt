-- What the last clock of a clean frame leaves and answers, by name, from the facts of every finished frame. Assumes nothing.
use mathlib.Core.Path.{◌≡◌, refl, sym, ap, subst, ◌∙◌}
use mathlib.Core.Logic.{◌≢◌, inl, inr}
use mathlib.Core.Bool.{true, false, true≢false}
use mathlib.Core.List.{List}
use Prim.Native.Nat.{ℕ, ◌/◌, ◌%◌, ◌^◌}
use native.Mathlib.Omega.{arith}
use Rattle.laws.specs.OneOf.{one_of}
use Rattle.laws.proofs.Rules.{by_test}
use Rattle.frame.specs.declared.Kind.{Kind}
use Rattle.frame.specs.declared.Kind.TheVariants.{Short, Long}
use Rattle.frame.specs.declared.Fields.{Fields}
use Rattle.frame.specs.declared.Answer.{Answer}
use Rattle.frame.specs.Numbers.{is_frame}
use Rattle.frame.specs.Encode.{word_of, fields_of}
use Rattle.frame.specs.Decode.{decode_frame, finished_answer}
use Rattle.frame.specs.Frames.{InRange, fields_answer}
use Rattle.frame.proofs.Words.{fields_back}
use Rattle.receiver_state.specs.declared.Ids.{Ids}
use Rattle.receiver_state.specs.declared.Core.{Core}
use Rattle.receiver_state.specs.declared.Clocked.{Clocked}
use Rattle.receiver_state.specs.declared.Outputs.{Outputs}
use Rattle.receiver_state.specs.State.{receiver, nothing_held, fresh_core}
use Rattle.channel_b.proofs.Laws.{waits_none}
use Rattle.verdicts.specs.Table.{dropped}
use Rattle.verdicts.specs.Finished.{finished_by}
use Rattle.verdicts.specs.FrameLaws.{GoodVerdict, ShowsFrame, SettingsMove, CountersMove, register_of}
use Rattle.verdicts.specs.Laws.{VerdictLaws}
use Rattle.guarantees.specs.Calls.{CallResult, result}
use Rattle.guarantees.specs.LastClock.{ShortEffect, LongEffect, EffectOf, OthersSame, row_may_change, CleanLast}

-- what is 10 is no other verdict
pub ten_not : {v n : ℕ} → v ≡ 10 → v ≡ n → (◌≡◌ {A = ℕ} 10 n → ⊥) → ⊥
ten_not v z no_ten = no_ten (sym v ∙ z)

-- ---- the effects, by the word and by the fields

short_effect : (fields : Fields) (shown : Outputs) (idle after : Core) → shown.verdict ≡ 1 → shown.word ≡ word_of Short fields
    → CountersMove idle.counters shown after.counters → ShortEffect fields idle after
short_effect fields shown idle after v w m =
    record {
      bunch_cleared = λ h. m.bunch_cleared v (ap (λ (x : ℕ). x % 2) w ∙ h);
      bunch_not_cleared = λ h. m.bunch_not_cleared v (ap (λ (x : ℕ). x % 2) w ∙ h);
      event_cleared = λ h. m.event_cleared v (ap (λ (x : ℕ). x / 2 % 2) w ∙ h);
      event_not_cleared = λ h. m.event_not_cleared v (ap (λ (x : ℕ). x / 2 % 2) w ∙ h);
    }

long_effect : (fields : Fields) (shown : Outputs) (idle after : Core) → InRange Long fields → shown.word ≡ word_of Long fields
    → SettingsMove idle.settings shown after.settings → (shown.verdict ≡ 3 → after ≡ fresh_core idle.ids) → LongEffect fields shown.verdict idle after
long_effect fields shown idle after range w m fresh =
    let back : fields_of Long shown.word ≡ fields = ap (fields_of Long) w ∙ fields_back Long fields range in
    let sub : shown.word / 2 ^ 8 % 2 ^ 8 ≡ fields.sub = ap (λ (f : Fields). f.sub) back in
    let byte : shown.word % 2 ^ 8 ≡ fields.«data» = ap (λ (f : Fields). f.«data») back in
    record {
      stored_byte = λ v. ap (register_of after.settings) (sym sub) ∙ m.stored_byte v ∙ byte;
      others_stay = λ v number h n. m.others_stay v number h (λ e. n (e ∙ sub));
      config_stays = λ v. m.config_stays (two_not_three v);
      nothing_stored = λ v. m.settings_stay (λ z. ten_not v z (λ e. omega arith)) (λ z. ten_not v z (λ e. omega arith));
      fresh = fresh;
    }
  where
    two_not_three : shown.verdict ≡ 2 → shown.verdict ≢ 3
    two_not_three v z = omega arith

-- the number is a frame, and decodes to these fields with that flag and place
pub record DecodesTo (columns : Kind → List ℕ) (kind : Kind) (number flag place : ℕ) (fields : Fields) : Type 0 where
  pub in_range : InRange kind fields
  pub is_a_frame : is_frame kind number ≡ true
  pub decoded : decode_frame (columns kind) kind number ≡ fields_answer kind flag place fields
  pub answered : finished_answer columns kind number ≡ fields_answer kind flag place fields

module _ (columns : Kind → List ℕ) (verdicts : VerdictLaws columns) where
  shows : (kind : Kind) (number : ℕ) (fields : Fields) (idle : Clocked) → DecodesTo columns kind number 0 0 fields
      → ShowsFrame kind (fields_answer kind 0 0 fields) idle.core.ids.id (finished_by columns kind number idle).outputs
  shows kind number fields idle d =
      subst (λ (a : Answer). ShowsFrame kind a idle.core.ids.id (finished_by columns kind number idle).outputs) d.decoded
      (verdicts.shows_frame kind number idle d.is_a_frame)

  -- a frame with fields is not dropped
  not_dropped : (kind : Kind) (number : ℕ) (fields : Fields) (idle : Clocked) → DecodesTo columns kind number 0 0 fields
      → dropped (finished_by columns kind number idle).outputs.verdict ≡ false
  not_dropped kind number fields idle d =
      by_test (dropped (finished_by columns kind number idle).outputs.verdict)
      (λ t. absurd ((shows kind number fields idle d).dropped_exactly.0 t refl)) (λ f. f)

  effect : (kind : Kind) (number : ℕ) (fields : Fields) (idle : Clocked) → DecodesTo columns kind number 0 0 fields
      → let done = finished_by columns kind number idle in EffectOf kind fields done.outputs.verdict idle.core done.core
  effect Short number fields idle d =
      let s = shows Short number fields idle d in
      short_effect fields _ idle.core _ (s.good refl) s.word_shown (verdicts.counters_move Short number idle)
  effect Long number fields idle d =
      let s = shows Long number fields idle d in
      long_effect fields _ idle.core _ d.in_range s.word_shown (verdicts.settings_move Long number idle) (verdicts.reset_is_fresh Long number idle)

  -- what the last clock leaves and answers, beside the idle list's
  abbrev idle_result : Clocked → CallResult
  idle_result idle = result (receiver idle.core nothing_held) 0 idle.outputs 0

  abbrev done_result : Kind → ℕ → Clocked → CallResult
  done_result kind number idle = idle_result (finished_by columns kind number idle)

  others : (kind : Kind) (number : ℕ) (fields : Fields) (idle : Clocked) → DecodesTo columns kind number 0 0 fields
      → OthersSame (row_may_change (finished_by columns kind number idle).outputs.verdict) (idle_result idle) (done_result kind number idle)
  others kind number fields idle d =
      let s = shows kind number fields idle d in
      let move = verdicts.errors_move kind number idle in
      record {
        refusal_same = refl;
        outputs_stand = verdicts.outputs_stand kind number idle;
        byte_same = refl;
        ids_same = verdicts.ids_stay kind number idle;
        settings_same = λ n. (verdicts.settings_move kind number idle).settings_stay (λ e. n (inl e)) (λ e. n (inr e));
        single_same = move.single_stays (λ e. no_flag s.flag_shown e.0);
        double_same = move.double_stays (not_dropped kind number fields idle d);
        status_same = λ n. absurd (n tt);
        counters_same = λ n. (verdicts.counters_move kind number idle).counters_stay (λ e. n (inl e)) (λ e. n (inr e));
        sequence_same = verdicts.sequence_stays kind number idle;
        held_same = refl;
      }
    where
      no_flag : {n : ℕ} → n ≡ 0 → n ≡ 1 → ⊥
      no_flag z o = omega arith

  pub clean_last : (kind : Kind) (number : ℕ) (fields : Fields) (own : Ids) (idle : Clocked) → DecodesTo columns kind number 0 0 fields → idle.core.ids ≡ own
      → CleanLast kind fields own (idle_result idle) (done_result kind number idle)
  unfolding dropped one_of
  clean_last kind number fields own idle d i =
      let s = shows kind number fields idle d in
      record {
        not_refused = refl;
        verdict_of_row = subst (λ (x : Ids). GoodVerdict kind fields x.id (finished_by columns kind number idle).outputs.verdict) i (s.good refl);
        effect_of_row = effect kind number fields idle d;
        word_is = s.word_shown;
        flag_0 = s.flag_shown;
        place_0 = s.place_shown;
        reset_is_fresh = λ v. ap (λ (c : Core). receiver c nothing_held) (verdicts.reset_is_fresh kind number idle v ∙ ap fresh_core i);
        status_1 = (verdicts.errors_move kind number idle).status_set (verdicts.not_zero kind number idle)
            (λ e. true≢false (sym (ap dropped e) ∙ not_dropped kind number fields idle d));
        waits = waits_none (finished_by columns kind number idle).core;
        others_same = others kind number fields idle d;
      }

-- Registers 0 and 1 over lists of calls, and the frames with a byte without a setting. Assumes nothing.
use Prim.Native.Nat.{ℕ, ◌<◌, ◌≤◌}
use mathlib.Core.Path.{◌≡◌, refl, sym, ap, subst, ◌∙◌}
use mathlib.Core.Logic.{inl, inr, ⊎_elim}
use mathlib.Core.Bool.{true, false}
use mathlib.Core.List.{List}
use native.Mathlib.Omega.{arith}
use lib.Dec.{eqb, ltb}
use Rattle.laws.specs.OneOf.{one_of}
use Rattle.laws.proofs.Rules.{picked}
use Rattle.fine_delay.specs.declared.DelaySetting.{DelaySetting}
use Rattle.fine_delay.specs.Delay.{setting_of, has_setting, setting_to_byte}
use Rattle.fine_delay.proofs.Laws.{setting_laws}
use Rattle.fine_delay.proofs.Inverse.{setting_back, no_setting_beyond}
use Rattle.frame.specs.declared.Kind.{Kind}
use Rattle.frame.specs.declared.Kind.TheVariants.{Long}
use Rattle.frame.specs.declared.Fields.{Fields}
use Rattle.frame.specs.Columns.{columns_of}
use Rattle.frame.specs.Place.{place_in}
use Rattle.frame.specs.Frames.{InRange}
use Rattle.frame.proofs.OwnColumns.{tables_good}
use Rattle.receiver_state.specs.declared.Ids.{Ids}
use Rattle.receiver_state.specs.declared.Receiver.{Receiver}
use Rattle.receiver_state.specs.declared.FreshAnswer.{FreshAnswer}
use Rattle.receiver_state.specs.State.{fresh_answer}
use Rattle.receiver_state.specs.WellFormed.{well_formed}
use Rattle.receiver_state.proofs.WellFormed.{receiver_facts}
use Rattle.receiver_state.proofs.States.{fresh_laws}
use Rattle.register_map.specs.Map.{in_map, register_byte}
use Rattle.register_map.specs.Laws.{DelayRegister, ByteWithoutSetting}
use Rattle.register_map.proofs.Stored.{store_laws}
use Rattle.registers.specs.declared.WriteAnswer.{WriteAnswer}
use Rattle.registers.proofs.Laws.{read_laws, write_laws}
use Rattle.verdicts.specs.Table.{executed}
use Rattle.verdicts.specs.FrameLaws.{OneHigher}
use Rattle.guarantees.specs.Calls.{Call, clock, CallResult, run}
use Rattle.guarantees.specs.FrameLists.{last_call}
use Rattle.guarantees.specs.LastClock.{OthersSame, row_may_change, correction_may_change, CleanLast, CorrectedLast}
use Rattle.guarantees.specs.FineDelays as fine
use Rattle.guarantees.proofs.CleanLast.{ten_not}
use Rattle.guarantees.proofs.Demand3.{demand3_theorem}

-- ---- a well-formed state

has_setting_lem : (r : Receiver) (number : ℕ) → well_formed r ≡ true → DelayRegister number → has_setting (register_byte r.core number) ≡ true
unfolding register_byte
has_setting_lem r number e (inl n) = rw n (receiver_facts r e).of_core.of_settings.fine_1
has_setting_lem r number e (inr n) = rw n (receiver_facts r e).of_core.of_settings.fine_2

in_map_lem : (number : ℕ) → DelayRegister number → in_map number ≡ true
unfolding in_map one_of
in_map_lem number (inl n) = rw n refl
in_map_lem number (inr n) = rw n refl

holds_setting : (r : Receiver) (number : ℕ) → well_formed r ≡ true → DelayRegister number → fine.HoldsSetting r number
holds_setting r number e n =
    record {
      of_setting = setting_laws.setting_named (register_byte r.core number) (has_setting_lem r number e n);
      read_gives = read_laws.accepted r number e (in_map_lem number n);
    }

-- ---- a setting written

low : (number : ℕ) → DelayRegister number → number < 4
low number = ⊎_elim (λ n. omega arith) (λ n. omega arith)

-- the byte of a setting has it
of_setting : (k : ℕ) → k ≤ 239 → (has_setting (setting_to_byte k).byte ≡ true) × (setting_of (setting_to_byte k).byte ≡ k)
of_setting k h =
    let has = (setting_laws.below_240 (setting_to_byte k).byte).1 (no_setting_beyond k (omega arith)) in
    let named = (setting_laws.setting_named (setting_to_byte k).byte has).gives_setting in
    (has, ap (λ (a : DelaySetting). a.setting) (sym named ∙ (setting_back k (omega arith)).1))

setting_written : fine.SettingWritten
setting_written r number k e n h =
    let byte = (setting_to_byte k).byte in
    let set = of_setting k h in
    let can : ByteWithoutSetting number byte → ⊥ = λ none. omega (arith, none.1, (setting_laws.below_240 byte).0 set.0) in
    let done = write_laws.byte_stored r number byte e (low number n) can in (
      ap (λ (a : WriteAnswer). a.refusal) done,
      ap (λ (a : WriteAnswer). setting_of (register_byte a.receiver.core number)) done
          ∙ ap setting_of (store_laws.stored_back r.core number byte (low number n)) ∙ set.1,
    )

-- also of a refused answer, whose registers are all 0
fresh_byte : (id i2c number : ℕ) → DelayRegister number → register_byte (fresh_answer id i2c).receiver.core number ≡ 0
unfolding register_byte fresh_answer
fresh_byte id i2c number n = at_register n
  where
    Zero : ℕ → FreshAnswer → Type 0
    Zero at answer = register_byte answer.receiver.core at ≡ 0

    at_register : DelayRegister number → Zero number (fresh_answer id i2c)
    at_register (inl z) = rw z (picked (Zero 0) (eqb id 0) refl (picked (Zero 0) (ltb 16383 id) refl (picked (Zero 0) (ltb 63 i2c) refl refl)))
    at_register (inr z) = rw z (picked (Zero 1) (eqb id 0) refl (picked (Zero 1) (ltb 16383 id) refl (picked (Zero 1) (ltb 63 i2c) refl refl)))

fresh_setting : fine.FreshSetting
unfolding setting_of
fresh_setting id i2c number e n = ap setting_of (fresh_byte id i2c number n)

-- ---- frames

not_executed : (v : ℕ) → v ≡ 10 → executed v ≡ false
unfolding executed one_of
not_executed v e = rw e refl

-- ---- all else is the idle list's

clean_others : (idle done : CallResult) → done.answer.outputs.verdict ≡ 10 → OthersSame (row_may_change done.answer.outputs.verdict) idle done
    → OthersSame fine.verdict10_may_change idle done
clean_others idle done ten o =
    record {
      refusal_same = o.refusal_same;
      outputs_stand = o.outputs_stand;
      byte_same = o.byte_same;
      ids_same = o.ids_same;
      settings_same = λ n. o.settings_same (⊎_elim (λ v. ten_not ten v (λ e. omega arith)) (λ v. ten_not ten v (λ e. omega arith)));
      single_same = λ n. absurd (n tt);
      double_same = λ n. o.double_same (λ v. ten_not ten v (λ e. omega arith));
      status_same = λ n. absurd (n tt);
      counters_same = λ n. o.counters_same (⊎_elim (λ v. ten_not ten v (λ e. omega arith)) (λ v. ten_not ten v (λ e. omega arith)));
      sequence_same = λ n. o.sequence_same (λ v. ten_not ten v (λ e. omega arith));
      held_same = o.held_same;
    }

flipped_others : (idle clean done : CallResult) → OthersSame fine.verdict10_may_change idle clean → OthersSame correction_may_change clean done
    → OthersSame fine.verdict10_may_change idle done
flipped_others idle clean done o f =
    record {
      refusal_same = f.refusal_same ∙ o.refusal_same;
      outputs_stand =
          record {
            trigger_stands = f.outputs_stand.trigger_stands ∙ o.outputs_stand.trigger_stands;
            missed_stands = f.outputs_stand.missed_stands ∙ o.outputs_stand.missed_stands;
            strobe_stands = f.outputs_stand.strobe_stands ∙ o.outputs_stand.strobe_stands;
            number_stands = f.outputs_stand.number_stands ∙ o.outputs_stand.number_stands;
          };
      byte_same = f.byte_same ∙ o.byte_same;
      ids_same = f.ids_same ∙ o.ids_same;
      settings_same = λ n. f.settings_same n ∙ o.settings_same n;
      single_same = λ n. absurd (n tt);
      double_same = λ n. f.double_same n ∙ o.double_same n;
      status_same = λ n. absurd (n tt);
      counters_same = λ n. f.counters_same n ∙ o.counters_same n;
      sequence_same = λ n. f.sequence_same n ∙ o.sequence_same n;
      held_same = f.held_same ∙ o.held_same;
    }

-- ---- by demand 3

module _ (fields : Fields) (own : Ids) (range : InRange Long fields) (none : fine.InternalWithoutSetting fields own.id) where
  clean_10 : (idle done : CallResult) → CleanLast Long fields own idle done
      → fine.GetsVerdict10 fields idle done × (done.answer.outputs.corrected ≡ 0) × (done.answer.outputs.place ≡ 0)
      × (done.receiver.core.errors.single ≡ idle.receiver.core.errors.single)
  clean_10 idle done last =
      let ten = last.verdict_of_row.row_10 none.ours (λ one. zero_not_one (sym none.internal ∙ one)) none.without_setting_lem in (
        record {
          verdict_10 = ten;
          not_executed = not_executed _ ten;
          word_is = last.word_is;
          nothing_stored = last.effect_of_row.nothing_stored ten;
          status_1 = last.status_1;
          others_same = clean_others idle done ten last.others_same;
        },
        last.flag_0,
        last.place_0,
        last.others_same.single_same (λ three. ten_not ten three (λ e. omega arith)),
      )
    where
      zero_not_one : ◌≡◌ {A = ℕ} 0 1 → ⊥
      zero_not_one e = omega arith

  one_flip_10 : (place : ℕ) (idle clean done : CallResult) → CleanLast Long fields own idle clean → CorrectedLast place clean done
      → fine.GetsVerdict10 fields idle done × (done.answer.outputs.corrected ≡ 1) × (done.answer.outputs.place ≡ place)
      × OneHigher 65535 idle.receiver.core.errors.single done.receiver.core.errors.single
  one_flip_10 place idle clean done last flipped =
      let c = clean_10 idle clean last in
      let ten = flipped.verdict_same ∙ c.0.verdict_10 in (
        record {
          verdict_10 = ten;
          not_executed = not_executed _ ten;
          word_is = flipped.word_same ∙ c.0.word_is;
          nothing_stored = flipped.others_same.settings_same (λ z. z) ∙ c.0.nothing_stored;
          status_1 = flipped.others_same.status_same (λ z. z) ∙ c.0.status_1;
          others_same = flipped_others idle clean done c.0.others_same flipped.others_same;
        },
        flipped.flag_1,
        flipped.place_is,
        subst (λ (single : ℕ). OneHigher 65535 single done.receiver.core.errors.single) c.3
            (flipped.single_higher (λ three. ten_not c.0.verdict_10 three (λ e. omega arith))),
      )

-- ---- the theorem

pub fine_delay_theorem : fine.FineDelayTheorem
fine_delay_theorem columns good =
    let d = demand3_theorem columns good in
    record {
      always_settings = λ r calls number e n. holds_setting (run columns r calls) number (d.stays_well_formed r calls e) n;
      from_fresh = λ id i2c calls number e n.
          holds_setting (run columns (fresh_answer id i2c).receiver calls) number (d.stays_well_formed _ calls (fresh_laws.is_well_formed id i2c e)) n;
      fresh_setting = fresh_setting;
      setting_written = setting_written;
      clean_10 = λ r before trigger bit fields range none s.
          clean_10 fields r.core.ids range none _ _ (d.clean r before trigger bit Long fields range s).by_name;
      one_flip_10 = λ r clean flipped trigger sent bit fields p range none protected s t same.
          subst (λ (calls : List Call). OneFlip columns r calls flipped trigger bit fields (place_in Long p)) same
          (one_flip_10 fields r.core.ids range none _ _ _ _ (d.clean r clean trigger sent Long fields range s).by_name
          (d.one_flip r clean flipped trigger sent bit Long fields p range protected s t same).by_name);
    }
  where
    -- beside the idle list of these calls
    OneFlip : (Kind → List ℕ) → Receiver → List Call → List Call → ℕ → ℕ → Fields → ℕ → Type 0
    OneFlip columns r idle_calls flipped trigger bit fields place =
        let idle = last_call columns r idle_calls (clock trigger 1) in
        let done = last_call columns r flipped (clock trigger bit) in
        fine.GetsVerdict10 fields idle done × (done.answer.outputs.corrected ≡ 1) × (done.answer.outputs.place ≡ place)
        × OneHigher 65535 idle.receiver.core.errors.single done.receiver.core.errors.single

pub receiver_fine_delays : fine.ReceiverFineDelays
receiver_fine_delays = fine_delay_theorem columns_of tables_good

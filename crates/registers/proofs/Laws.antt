-- What holds of every register read and every register write. Assumes nothing.
use mathlib.Core.Path.{◌≡◌, refl, sym, ap, ◌∙◌}
use mathlib.Core.Logic.{◌≢◌, inl, inr, ⊎_elim}
use mathlib.Core.Bool.{true, false}
use Prim.Native.Nat.{ℕ, ◌%◌, ◌^◌, ◌<◌}
use borrow.Author.Tests.{ne_eqb, eqb-true}
use lib.Dec.{eqb}
use Rattle.laws.specs.OneOf.{one_of}
use Rattle.laws.proofs.Rules.{picked, picked_by, by_test}
use Rattle.receiver_state.specs.declared.Core.{Core}
use Rattle.receiver_state.specs.declared.Receiver.{Receiver}
use Rattle.receiver_state.specs.State.{errors, counters, receiver, with_settings, with_errors, with_counters}
use Rattle.receiver_state.specs.WellFormed.{well_formed}
use Rattle.receiver_state.proofs.WellFormed.{receiver_facts, receiver_ok}
use Rattle.register_map.specs.Map.{in_map, register_byte, read_only, without_setting, config_wrong}
use Rattle.register_map.specs.Change.{stored, after_write}
use Rattle.register_map.specs.Laws.{DelayRegister, ByteWithoutSetting}
use Rattle.register_map.proofs.Laws.{without_setting_law}
use Rattle.register_map.proofs.Keep.{write_keeps, write_changes}
use Rattle.register_map.proofs.Stored.{below_4, store_laws}
use Rattle.registers.specs.declared.WriteAnswer.{WriteAnswer}
use Rattle.registers.specs.Access.{byte_answer, read_refusal, read_answer, write_refusal, written_to, refused_write, write_answer}
use Rattle.registers.specs.Laws.{ReadLaws, SingleByte, BunchByte, EventByte, read_after, ReadOnly, WriteLaws, ReadBack}
use Rattle.registers.proofs.WriteRefusal.{gave}

-- ---- reads

pub read_laws : ReadLaws
unfolding read_answer read_refusal
read_laws =
    record {
      refused_by_2 = λ r number e. rw e refl;
      refused_by_5 = λ r number e f. rw (e, f) refl;
      accepted = λ r number e f. rw (e, f) refl;
    }

-- ---- writes

abbrev Well : WriteAnswer → Type 0
Well done = well_formed done.receiver ≡ true

stays : (r : Receiver) (number value : ℕ) → well_formed r ≡ true → well_formed (write_answer r number value).receiver ≡ true
unfolding write_answer
stays r number value e =
    picked_by Well (well_formed r)
    (λ t. picked_by Well (eqb (write_refusal number value) 0)
    (λ a. let may = (gave number value).none (eqb-true (write_refusal number value) 0 a) in
    receiver_ok _ (record { of_core = write_keeps r.core number value may.0 may.1 (receiver_facts r e).of_core; of_held = (receiver_facts r e).of_held }))
    (λ a. e))
    (λ t. e)

-- what holds of a state, and with the core written, holds after a write, refused or not
answer_keeps : (P : Receiver → Type 0) (r : Receiver) (number value : ℕ) → P r → P (receiver (after_write r.core number value) r.held)
    → P (write_answer r number value).receiver
unfolding write_answer
answer_keeps P r number value same changed =
    picked Kept (well_formed r) (picked Kept (eqb (write_refusal number value) 0) changed same) same
  where
    Kept : WriteAnswer → Type 0
    Kept done = P done.receiver

ids_stay : (r : Receiver) (number value : ℕ) → (write_answer r number value).receiver.core.ids ≡ r.core.ids
ids_stay r number value =
    answer_keeps (λ (x : Receiver). x.core.ids ≡ r.core.ids) r number value refl
    (write_changes (λ (core : Core). core.ids ≡ r.core.ids) r.core number value (λ new. refl) (λ new. refl) (λ new. refl) refl)

sequence_stays : (r : Receiver) (number value : ℕ) → (write_answer r number value).receiver.core.sequence ≡ r.core.sequence
sequence_stays r number value =
    answer_keeps (λ (x : Receiver). x.core.sequence ≡ r.core.sequence) r number value refl
    (write_changes (λ (core : Core). core.sequence ≡ r.core.sequence) r.core number value (λ new. refl) (λ new. refl) (λ new. refl) refl)

refused_6 : (r : Receiver) (number value : ℕ) → well_formed r ≡ true → ReadOnly number → write_answer r number value ≡ refused_write 6 r
unfolding write_answer write_refusal in_map read_only one_of
refused_6 r number value e (inl n) = rw (e, n) refl
refused_6 r number value e (inr (inl n)) = rw (e, n) refl
refused_6 r number value e (inr (inr (inl n))) = rw (e, n) refl
refused_6 r number value e (inr (inr (inr n))) = rw (e, n) refl

refused_17 : (r : Receiver) (number value : ℕ) → well_formed r ≡ true → ByteWithoutSetting number value → write_answer r number value ≡ refused_write 17 r
unfolding write_answer write_refusal in_map read_only one_of
refused_17 r number value e h = at_register h.0
  where
    w : without_setting number value ≡ true
    w = (without_setting_law number value).1 h

    at_register : DelayRegister number → write_answer r number value ≡ refused_write 17 r
    at_register (inl n) = rw (e, w, n) refl
    at_register (inr n) = rw (e, w, n) refl

byte_stored : (r : Receiver) (number value : ℕ) → well_formed r ≡ true → number < 4 → (ByteWithoutSetting number value → ⊥)
    → write_answer r number value ≡ written_to r (with_settings (stored number value r.core.settings) r.core)
unfolding write_answer write_refusal after_write in_map read_only config_wrong one_of stored
byte_stored r number value e h n =
    below_4 (λ (k : ℕ). without_setting k value ≡ false → write_answer r k value ≡ written_to r (with_settings (stored k value r.core.settings) r.core))
    (λ w. rw (e, w) refl) (λ w. rw (e, w) refl) (λ w. rw (e, w) refl) (λ w. rw (e, w) refl) number h
    (by_test (without_setting number value) (λ w. absurd (n ((without_setting_law number value).0 w))) (λ w. w))

event_cleared : (r : Receiver) (number value : ℕ) → well_formed r ≡ true → EventByte number
    → write_answer r number value ≡ written_to r (with_counters (counters r.core.counters.bunch 0) r.core)
unfolding write_answer write_refusal after_write in_map read_only without_setting config_wrong one_of
event_cleared r number value e (inl n) = rw (e, n) refl
event_cleared r number value e (inr (inl n)) = rw (e, n) refl
event_cleared r number value e (inr (inr n)) = rw (e, n) refl

pub write_laws : WriteLaws
unfolding write_answer write_refusal after_write in_map read_only without_setting config_wrong one_of stored
write_laws =
    record {
      refused_by_2 = λ r number value e. rw e refl;
      refused_by_5 = λ r number value e f. rw (e, f) refl;
      refused_by_6 = refused_6;
      refused_by_7 = λ r number value e.
          ⊎_elim (λ h. rw (e, h.0, ne_eqb (value % 2 ^ 7) 5 h.1) refl) (λ h. rw (e, h.0, ne_eqb (value % 2 ^ 7) 39 h.1) refl);
      refused_by_17 = refused_17;
      byte_stored = byte_stored;
      single_cleared = λ r number value e. ⊎_elim (λ n. rw (e, n) refl) (λ n. rw (e, n) refl);
      double_cleared = λ r value e. rw e refl;
      upset_accepted = λ r value e. rw e refl;
      config_2_stored = λ r value e h. rw (e, h) refl;
      config_3_stored = λ r value e h. rw (e, h) refl;
      bunch_cleared = λ r number value e. ⊎_elim (λ n. rw (e, n) refl) (λ n. rw (e, n) refl);
      event_cleared = event_cleared;
      stays_well_formed = stays;
      ids_stay = ids_stay;
      sequence_stays = sequence_stays;
      held_stays = λ r number value. answer_keeps (λ (x : Receiver). x.held ≡ r.held) r number value refl refl;
    }

-- a read after a write that left this core
read_after_lem : (r : Receiver) (number value other : ℕ) (core : Core) (byte : ℕ) → well_formed r ≡ true → write_answer r number value ≡ written_to r core
    → in_map other ≡ true → register_byte core other ≡ byte → read_after r number value other ≡ byte_answer 0 byte
read_after_lem r number value other core byte e w i b =
    read_laws.accepted (write_answer r number value).receiver other (stays r number value e) i
    ∙ ap (byte_answer 0) (ap (λ (done : WriteAnswer). register_byte done.receiver.core other) w ∙ b)

in_map_4 : (number : ℕ) → number < 4 → in_map number ≡ true
unfolding in_map one_of
in_map_4 number h = below_4 (λ (n : ℕ). in_map n ≡ true) refl refl refl refl number h

others_stay : (r : Receiver) (number value other : ℕ) → well_formed r ≡ true → number < 4 → (ByteWithoutSetting number value → ⊥) → other ≢ number
    → read_after r number value other ≡ read_answer r other
others_stay r number value other e h n d =
    by_test (in_map other)
    (λ i.
    read_after_lem r number value other _ (register_byte r.core other) e (byte_stored r number value e h n) i (store_laws.others_stay r.core number value other d)
    ∙ sym (read_laws.accepted r other e i))
    (λ i.
    read_laws.refused_by_5 (write_answer r number value).receiver other (stays r number value e) i ∙ sym (read_laws.refused_by_5 r other e i))

single_zero : (other : ℕ) (core : Core) → core.errors.single ≡ 0 → SingleByte other → (in_map other ≡ true) × (register_byte core other ≡ 0)
unfolding in_map one_of register_byte
single_zero other core z (inl n) = (rw n refl, rw (n, z) refl)
single_zero other core z (inr n) = (rw n refl, rw (n, z) refl)

bunch_zero : (other : ℕ) (core : Core) → core.counters.bunch ≡ 0 → BunchByte other → (in_map other ≡ true) × (register_byte core other ≡ 0)
unfolding in_map one_of register_byte
bunch_zero other core z (inl n) = (rw n refl, rw (n, z) refl)
bunch_zero other core z (inr n) = (rw n refl, rw (n, z) refl)

event_zero : (other : ℕ) (core : Core) → core.counters.event ≡ 0 → EventByte other → (in_map other ≡ true) × (register_byte core other ≡ 0)
unfolding in_map one_of register_byte
event_zero other core z (inl n) = (rw n refl, rw (n, z) refl)
event_zero other core z (inr (inl n)) = (rw n refl, rw (n, z) refl)
event_zero other core z (inr (inr n)) = (rw n refl, rw (n, z) refl)

pub read_back : ReadBack
unfolding register_byte in_map one_of
read_back =
    record {
      stored_byte = λ r number value e h n.
          read_after_lem r number value number _ value e (byte_stored r number value e h n) (in_map_4 number h) (store_laws.stored_back r.core number value h);
      others_stay = others_stay;
      config_2 = λ r value e h. read_after_lem r 20 value 20 _ value e (write_laws.config_2_stored r value e h) refl refl;
      config_3 = λ r value e h. read_after_lem r 21 value 21 _ value e (write_laws.config_3_stored r value e h) refl refl;
      single = λ r number value other e n o.
          let z = single_zero other (with_errors (errors 0 r.core.errors.double r.core.errors.status5) r.core) refl o in
          read_after_lem r number value other _ 0 e (write_laws.single_cleared r number value e n) z.0 z.1;
      double = λ r value e. read_after_lem r 10 value 10 _ 0 e (write_laws.double_cleared r value e) refl refl;
      upset = λ r value e. read_after_lem r 11 value 11 _ 0 e (write_laws.upset_accepted r value e) refl refl;
      bunch = λ r number value other e n o.
          let z = bunch_zero other (with_counters (counters 0 r.core.counters.event) r.core) refl o in
          read_after_lem r number value other _ 0 e (write_laws.bunch_cleared r number value e n) z.0 z.1;
      event = λ r number value other e n o.
          let z = event_zero other (with_counters (counters r.core.counters.bunch 0) r.core) refl o in
          read_after_lem r number value other _ 0 e (write_laws.event_cleared r number value e n) z.0 z.1;
    }

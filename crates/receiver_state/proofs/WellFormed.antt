-- The tests of a state and the facts, both ways. Assumes nothing.
use mathlib.Core.Path.{◌≡◌, refl}
use mathlib.Core.Logic.{◌⊎◌, inl, inr, ⊎_elim, ⊎_map}
use mathlib.Core.Bool.{Bool, true, false, ◌||◌, false≢true}
use Prim.Native.Nat.{◌<◌, ◌≤◌}
use native.Mathlib.Omega.{arith}
use borrow.Author.Tests.{eq-eqb, eqb-true, lt-ltb, ltb-true, ltb-false, le-leb, leb-true}
use lib.Dec.{eqb, ltb}
use Rattle.laws.proofs.Tests.{every→passed, passed→every}
use Rattle.receiver_state.specs.declared.Ids.{Ids}
use Rattle.receiver_state.specs.declared.Settings.{Settings}
use Rattle.receiver_state.specs.declared.Counters.{Counters}
use Rattle.receiver_state.specs.declared.Sequence.{Sequence}
use Rattle.receiver_state.specs.declared.Core.{Core}
use Rattle.receiver_state.specs.declared.Held.{Held}
use Rattle.receiver_state.specs.declared.Receiver.{Receiver}
use Rattle.receiver_state.specs.WellFormed.{ids_ok, settings_ok, counters_ok, sequence_ok, core_ok, bits_ok, wanted_ok, held_ok, well_formed}
use Rattle.receiver_state.specs.WellFormed.{IdsFacts, SettingsFacts, CountersFacts, SequenceFacts, CoreFacts, HeldFacts, ReceiverFacts}

-- ---- one of two tests

either : (a b : Bool) → (a || b) ≡ true → (a ≡ true) ⊎ (b ≡ true)
either true b e = inl refl
either false b e = inr e

one_of : (a b : Bool) → (a ≡ true) ⊎ (b ≡ true) → (a || b) ≡ true
one_of true b h = refl
one_of false b h = ⊎_elim (λ e. absurd (false≢true e)) (λ e. e) h

-- ---- the parts

ids_facts : (own : Ids) → ids_ok own ≡ true → IdsFacts own
unfolding ids_ok
ids_facts own e =
    let p = every→passed _ e in
    record {
      some = search (leb-true, p.0);
      below = search (leb-true, p.1.0);
      i2c_below = search (leb-true, p.1.1.0);
    }

ids_ok_lem : (own : Ids) → IdsFacts own → ids_ok own ≡ true
unfolding ids_ok
ids_ok_lem own f = passed→every _ (le-leb _ _ f.some, (le-leb _ _ f.below, (le-leb _ _ f.i2c_below, tt)))

settings_facts : (s : Settings) → settings_ok s ≡ true → SettingsFacts s
unfolding settings_ok
settings_facts s e =
    let p = every→passed _ e in
    record { fine_1 = p.0; fine_2 = p.1.0; config_2 = search (eqb-true, p.1.1.0); config_3 = search (eqb-true, p.1.1.1.0) }

settings_ok_lem : (s : Settings) → SettingsFacts s → settings_ok s ≡ true
unfolding settings_ok
settings_ok_lem s f = passed→every _ (f.fine_1, (f.fine_2, (eq-eqb _ _ f.config_2, (eq-eqb _ _ f.config_3, tt))))

counters_facts : (k : Counters) → counters_ok k ≡ true → CountersFacts k
unfolding counters_ok
counters_facts k e =
    let p = every→passed _ e in
    record { bunch_below = search (ltb-true, p.0); event_below = search (ltb-true, p.1.0) }

counters_ok_lem : (k : Counters) → CountersFacts k → counters_ok k ≡ true
unfolding counters_ok
counters_ok_lem k f = passed→every _ (lt-ltb _ _ f.bunch_below, (lt-ltb _ _ f.event_below, tt))

sequence_facts : (s : Sequence) → sequence_ok s ≡ true → SequenceFacts s
unfolding sequence_ok
sequence_facts s e =
    let p = every→passed _ e in
    record {
      few = search (leb-true, p.0);
      kept_below = search (ltb-true, p.1.0);
      none_kept = λ z.
          ⊎_elim (λ t. absurd (let some : 0 < s.left = ltb-true 0 s.left t in omega arith))
          (λ t. eqb-true s.event 0 t)
          (either _ _ p.1.1.0);
    }

sequence_ok_lem : (s : Sequence) → SequenceFacts s → sequence_ok s ≡ true
unfolding sequence_ok
sequence_ok_lem s f = passed→every _ (le-leb _ _ f.few, (lt-ltb _ _ f.kept_below, (last (ltb 0 s.left) refl, tt)))
  where
    last : (t : Bool) → ltb 0 s.left ≡ t → (t || eqb s.event 0) ≡ true
    last true e = refl
    last false e = eq-eqb _ _ (f.none_kept (let none : s.left ≤ 0 = ltb-false 0 s.left e in omega arith))

core_facts : (core : Core) → core_ok core ≡ true → CoreFacts core
unfolding core_ok
core_facts core e =
    let p = every→passed _ e in
    record {
      of_ids = ids_facts core.ids p.0;
      of_settings = settings_facts core.settings p.1.0;
      of_counters = counters_facts core.counters p.1.1.0;
      of_sequence = sequence_facts core.sequence p.1.1.1.0;
      flag = search (leb-true, p.1.1.1.1.0);
    }

core_ok_lem : (core : Core) → CoreFacts core → core_ok core ≡ true
unfolding core_ok
core_ok_lem core f =
    passed→every _ (ids_ok_lem core.ids f.of_ids, (settings_ok_lem core.settings f.of_settings, (counters_ok_lem core.counters f.of_counters, (sequence_ok_lem core.sequence f.of_sequence, (le-leb _ _ f.flag, tt)))))

held_facts : (h : Held) → held_ok h ≡ true → HeldFacts h
unfolding held_ok bits_ok wanted_ok
held_facts h e =
    let parts = every→passed _ e in
    let p = every→passed _ parts.0 in
    let w = every→passed _ parts.1.0 in
    record {
      few = search (leb-true, p.0);
      start = search (ltb-true, p.1.0);
      format = ⊎_map (ltb-true _ _) (leb-true _ _) (either _ _ p.1.1.0);
      few_wanted = search (leb-true, w.0);
      none_beside = ⊎_map (eqb-true _ _) (eqb-true _ _) (either _ _ w.1.0);
    }

bits_ok_lem : (h : Held) → HeldFacts h → bits_ok h.count h.bits ≡ true
unfolding bits_ok
bits_ok_lem h f =
    passed→every _ (le-leb _ _ f.few, (lt-ltb _ _ f.start, (one_of _ _ (⊎_map (lt-ltb _ _) (le-leb _ _) f.format), tt)))

wanted_ok_lem : (h : Held) → HeldFacts h → wanted_ok h.count h.wanted ≡ true
unfolding wanted_ok
wanted_ok_lem h f = passed→every _ (le-leb _ _ f.few_wanted, (one_of _ _ (⊎_map (eq-eqb _ _) (eq-eqb _ _) f.none_beside), tt))

held_ok_lem : (h : Held) → HeldFacts h → held_ok h ≡ true
unfolding held_ok
held_ok_lem h f = passed→every _ (bits_ok_lem h f, (wanted_ok_lem h f, tt))

-- ---- the whole state

pub receiver_facts : (r : Receiver) → well_formed r ≡ true → ReceiverFacts r
unfolding well_formed
receiver_facts r e =
    let p = every→passed _ e in
    record { of_core = core_facts r.core p.0; of_held = held_facts r.held p.1.0 }

pub receiver_ok : (r : Receiver) → ReceiverFacts r → well_formed r ≡ true
unfolding well_formed
receiver_ok r f = passed→every _ (core_ok_lem r.core f.of_core, (held_ok_lem r.held f.of_held, tt))

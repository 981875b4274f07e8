-- A change of the register map keeps the core well formed. Assumes nothing.
use mathlib.Core.Path.{◌≡◌, refl, sym, subst, ◌∙◌}
use mathlib.Core.Logic.{inl, inr}
use mathlib.Core.Bool.{true, false, cond, true≢false}
use Prim.Native.Nat.{ℕ, ◌%◌, ◌^◌}
use native.Mathlib.Omega.{arith}
use borrow.Author.Tests.{eqb-true, not-false}
use lib.Dec.{eqb, ltb}
use Rattle.laws.proofs.Rules.{picked, picked_by, by_test}
use Rattle.fine_delay.specs.Delay.{has_setting}
use Rattle.fine_delay.proofs.Laws.{setting_laws}
use Rattle.receiver_state.specs.declared.Settings.{Settings}
use Rattle.receiver_state.specs.declared.Errors.{Errors}
use Rattle.receiver_state.specs.declared.Counters.{Counters}
use Rattle.receiver_state.specs.declared.Core.{Core}
use Rattle.receiver_state.specs.State.{fresh_settings, with_settings, with_errors, with_counters}
use Rattle.receiver_state.specs.WellFormed.{config_ok, SettingsFacts, CoreFacts}
use Rattle.receiver_state.proofs.Changes.{settings_changed, errors_changed, counters_changed}
use Rattle.register_map.specs.Map.{without_setting, config_wrong}
use Rattle.register_map.specs.Change.{stored, store_byte, with_configs, clear_bunch, clear_event, after_write}
use Rattle.register_map.specs.Laws.{DelayRegister, KeepLaws}
use Rattle.register_map.proofs.Laws.{without_setting_law}

-- register 0 or 1, if the byte goes there: it belongs to a setting, as the one before did
fine_keeps : (number byte at now : ℕ) → DelayRegister at → without_setting number byte ≡ false → has_setting now ≡ true
    → has_setting (cond (eqb number at) byte now) ≡ true
fine_keeps number byte at now d w before =
    picked_by (λ (held : ℕ). has_setting held ≡ true) (eqb number at)
    (λ t. by_test (has_setting byte) (λ has. has)
    (λ none. let register : DelayRegister number = subst DelayRegister (sym (eqb-true number at t)) d in
    absurd (true≢false (sym ((without_setting_law number byte).1 (register, (setting_laws.from_240 byte).0 none)) ∙ w))))
    (λ t. before)

pub store_keeps : (number byte : ℕ) (core : Core) → without_setting number byte ≡ false → CoreFacts core → CoreFacts (store_byte number byte core)
unfolding stored
store_keeps number byte core w f =
    settings_changed _ core
    (record {
      fine_1 = fine_keeps number byte 0 _ (inl refl) w f.of_settings.fine_1;
      fine_2 = fine_keeps number byte 1 _ (inr refl) w f.of_settings.fine_2;
      config_2 = f.of_settings.config_2;
      config_3 = f.of_settings.config_3;
    })
    f

pub bunch_keeps : (core : Core) → CoreFacts core → CoreFacts (clear_bunch core)
bunch_keeps core f = counters_changed _ core (record { bunch_below = omega arith; event_below = f.of_counters.event_below }) f

pub event_keeps : (core : Core) → CoreFacts core → CoreFacts (clear_event core)
event_keeps core f = counters_changed _ core (record { bunch_below = f.of_counters.bunch_below; event_below = omega arith }) f

pub write_keeps : (core : Core) (number value : ℕ) → without_setting number value ≡ false → config_wrong number value ≡ false → CoreFacts core
    → CoreFacts (after_write core number value)
unfolding after_write config_wrong
write_keeps core number value w e f =
    picked CoreFacts (ltb number 4) (store_keeps number value core w f)
    (picked CoreFacts (eqb number 8) (errors_changed _ core f.flag f)
    (picked CoreFacts (eqb number 9) (errors_changed _ core f.flag f)
    (picked CoreFacts (eqb number 10) (errors_changed _ core f.flag f)
    (picked CoreFacts (eqb number 11) f
    (picked_by CoreFacts (eqb number 20)
    (λ t. settings_changed _ core (configs _ _ (eqb-true _ _ (not-false (config_ok 0x85 value) (rw t at e))) f.of_settings.config_3) f)
    (λ t. picked_by CoreFacts (eqb number 21)
    (λ u. settings_changed _ core (configs _ _ f.of_settings.config_2 (eqb-true _ _ (not-false (config_ok 0xA7 value) (rw (t, u) at e)))) f)
    (λ u. picked CoreFacts (eqb number 24) (bunch_keeps core f)
    (picked CoreFacts (eqb number 25) (bunch_keeps core f)
    (picked CoreFacts (eqb number 26) (event_keeps core f)
    (picked CoreFacts (eqb number 27) (event_keeps core f)
    (picked CoreFacts (eqb number 28) (event_keeps core f) f)))))))))))
  where
    -- the fine delays stay
    configs : (config2 config3 : ℕ) → config2 % 2 ^ 7 ≡ fresh_settings.config2 % 2 ^ 7 → config3 % 2 ^ 7 ≡ fresh_settings.config3 % 2 ^ 7
        → SettingsFacts (with_configs config2 config3 core.settings)
    configs config2 config3 a b = record { fine_1 = f.of_settings.fine_1; fine_2 = f.of_settings.fine_2; config_2 = a; config_3 = b }

pub keep_laws : KeepLaws
keep_laws = record { store_keeps = store_keeps; bunch_keeps = bunch_keeps; event_keeps = event_keeps; write_keeps = write_keeps }

-- what holds of the core, and with any settings, error counters or counters changed, holds after a write
pub write_changes : (P : Core → Type 0) (core : Core) (number value : ℕ) → ((new : Settings) → P (with_settings new core))
    → ((new : Errors) → P (with_errors new core)) → ((new : Counters) → P (with_counters new core)) → P core → P (after_write core number value)
unfolding after_write
write_changes P core number value settings errors counters same =
    picked P (ltb number 4) (settings _)
    (picked P (eqb number 8) (errors _)
    (picked P (eqb number 9) (errors _)
    (picked P (eqb number 10) (errors _)
    (picked P (eqb number 11) same
    (picked P (eqb number 20) (settings _)
    (picked P (eqb number 21) (settings _)
    (picked P (eqb number 24) (counters _)
    (picked P (eqb number 25) (counters _)
    (picked P (eqb number 26) (counters _)
    (picked P (eqb number 27) (counters _)
    (picked P (eqb number 28) (counters _) same)))))))))))

-- Document 01, "Registers": what the table's column "write" does to the core. A broadcast and row 2 of the table of verdicts use the same definitions.
use Rattle.std.specs.Prelude.{ℕ, cond, eqb, ltb}
use Rattle.receiver_state.specs.declared.Settings.{Settings}
use Rattle.receiver_state.specs.declared.Core.{Core}
use Rattle.receiver_state.specs.State.{errors, counters, with_settings, with_errors, with_counters}

-- ---- a byte stored

-- registers 0 to 3; any other number changes nothing. That a byte without a setting never comes here is for verdict 10 and refusal 17.
unfoldable pub stored : ℕ → ℕ → Settings → Settings
stored number byte now =
    record {
      fine1 = cond (eqb number 0) byte now.fine1;
      fine2 = cond (eqb number 1) byte now.fine2;
      coarse = cond (eqb number 2) byte now.coarse;
      control = cond (eqb number 3) byte now.control;
      config2 = now.config2;
      config3 = now.config3;
    }

abbrev pub store_byte : ℕ → ℕ → Core → Core
store_byte number byte core = with_settings (stored number byte core.settings) core

-- registers 20 and 21
abbrev pub with_configs : ℕ → ℕ → Settings → Settings
with_configs config2 config3 now =
    record { fine1 = now.fine1; fine2 = now.fine2; coarse = now.coarse; control = now.control; config2 = config2; config3 = config3 }

abbrev pub set_config2 : ℕ → Core → Core
set_config2 value core = with_settings (with_configs value core.settings.config3 core.settings) core

abbrev pub set_config3 : ℕ → Core → Core
set_config3 value core = with_settings (with_configs core.settings.config2 value core.settings) core

-- ---- a counter cleared, all bytes of it

abbrev pub clear_single : Core → Core
clear_single core = with_errors (errors 0 core.errors.double core.errors.status5) core

abbrev pub clear_double : Core → Core
clear_double core = with_errors (errors core.errors.single 0 core.errors.status5) core

abbrev pub clear_bunch : Core → Core
clear_bunch core = with_counters (counters 0 core.counters.event) core

abbrev pub clear_event : Core → Core
clear_event core = with_counters (counters core.counters.bunch 0) core

-- ---- a register write

-- the core after a write that is not refused; a number that is not in the map, or may not be written, changes nothing
unfoldable pub after_write : Core → ℕ → ℕ → Core
after_write core number value =
    -- 0 to 3: "byte stored"
    cond (ltb number 4) (store_byte number value core)
    -- 8, 9: "clears both bytes"
    (cond (eqb number 8) (clear_single core)
    (cond (eqb number 9) (clear_single core)
    -- 10: "clears"
    (cond (eqb number 10) (clear_double core)
    -- 11: "accepted, stays 0"
    (cond (eqb number 11) core
    -- 20, 21: as refusal 7 lets through no other byte, "only bit 7" changes
    (cond (eqb number 20) (set_config2 value core)
    (cond (eqb number 21) (set_config3 value core)
    -- 24, 25: "clears both bytes"
    (cond (eqb number 24) (clear_bunch core)
    (cond (eqb number 25) (clear_bunch core)
    -- 26, 27, 28: "clears all three"
    (cond (eqb number 26) (clear_event core)
    (cond (eqb number 27) (clear_event core)
    (cond (eqb number 28) (clear_event core)
    core)))))))))))

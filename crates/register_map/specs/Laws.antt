-- Document 01, "Registers", with document 02, Q-4: what holds of the map and of every change. Proved in proofs/Laws.antt, proofs/Stored.antt and proofs/Keep.antt.
use Rattle.std.specs.Prelude.{ℕ, ◌+◌, ◌*◌, ◌^◌, ◌<◌, ◌≤◌, ◌≡◌, ◌≢◌, ◌⊎◌, ◌↔◌, true, false, not, List, [], ◌∷◌}
use Rattle.laws.specs.OneOf.{one_of}
use Rattle.receiver_state.specs.declared.Core.{Core}
use Rattle.receiver_state.specs.WellFormed.{CoreFacts}
use Rattle.register_map.specs.Map.{in_map, register_byte, without_setting, config_wrong}
use Rattle.register_map.specs.Change.{store_byte, clear_bunch, clear_event, after_write}

-- ---- the numbers of the map

-- those below 29 that the table leaves out
abbrev pub gaps : List ℕ
gaps = 4 ∷ 5 ∷ 6 ∷ 7 ∷ 12 ∷ 13 ∷ 14 ∷ 15 ∷ 19 ∷ 23 ∷ []

pub record MapLaws : Type 0 where
  pub below_29 : (number : ℕ) → number < 29 → in_map number ≡ not (one_of gaps number)
  pub from_29 : (number : ℕ) → 29 ≤ number → in_map number ≡ false

-- ---- what each register holds

pub record ByteLaws : Type 0 where
  -- "low byte first": the bytes of a number, put together again
  pub single_bytes : (core : Core) → core.errors.single < 2 ^ 16 → register_byte core 8 + register_byte core 9 * 2 ^ 8 ≡ core.errors.single
  pub id_bytes : (core : Core) → CoreFacts core → register_byte core 16 + register_byte core 17 * 2 ^ 8 ≡ core.ids.id
  pub bunch_bytes : (core : Core) → CoreFacts core → register_byte core 24 + register_byte core 25 * 2 ^ 8 ≡ core.counters.bunch
  pub event_bytes : (core : Core) → CoreFacts core
      → register_byte core 26 + register_byte core 27 * 2 ^ 8 + register_byte core 28 * 2 ^ 16 ≡ core.counters.event
  -- each but the last of them is a byte
  pub lower_bytes : (core : Core) → let byte = register_byte core in
      (byte 8 < 2 ^ 8) × (byte 16 < 2 ^ 8) × (byte 24 < 2 ^ 8) × (byte 26 < 2 ^ 8) × (byte 27 < 2 ^ 8)
  pub setting_bytes : (core : Core) → let byte = register_byte core in
      (byte 0 ≡ core.settings.fine1) × (byte 1 ≡ core.settings.fine2) × (byte 2 ≡ core.settings.coarse) × (byte 3 ≡ core.settings.control)
  pub config_bytes : (core : Core) → (register_byte core 20 ≡ core.settings.config2) × (register_byte core 21 ≡ core.settings.config3)
  pub double_byte : (core : Core) → register_byte core 10 ≡ core.errors.double
  pub upset_0 : (core : Core) → register_byte core 11 ≡ 0
  pub i2c_byte : (core : Core) → register_byte core 18 ≡ core.ids.i2c
  -- "Status bits 7 and 6 are 1, bits 4..0 are 0."
  pub status_set : (core : Core) → core.errors.status5 ≡ 1 → register_byte core 22 ≡ 0xE0
  pub status_cleared : (core : Core) → core.errors.status5 ≡ 0 → register_byte core 22 ≡ 0xC0
  -- "ID high 6 bits"
  pub id_high_6 : (core : Core) → CoreFacts core → register_byte core 17 < 2 ^ 6

-- ---- bytes without a setting

-- those of the "fine delays"
abbrev pub DelayRegister : ℕ → Type 0
DelayRegister number = (number ≡ 0) ⊎ (number ≡ 1)

-- document 02, Q-4: "240 to 255 to registers 0 or 1"
abbrev pub ByteWithoutSetting : ℕ → ℕ → Type 0
ByteWithoutSetting number byte = DelayRegister number × (240 ≤ byte)

abbrev pub WithoutSettingLaw : Type 0
WithoutSettingLaw = (number byte : ℕ) → (without_setting number byte ≡ true) ↔ ByteWithoutSetting number byte

-- ---- what a change leaves

-- a byte in register 0 to 3, read again; and of all registers, only that one changes
pub record StoreLaws : Type 0 where
  pub stored_back : (core : Core) (number byte : ℕ) → number < 4 → register_byte (store_byte number byte core) number ≡ byte
  pub others_stay : (core : Core) (number byte other : ℕ) → other ≢ number → register_byte (store_byte number byte core) other ≡ register_byte core other

-- the bunch or event counter cleared, by a register write or a broadcast: it shows 0 in every byte, and no other register changes
pub record ClearLaws : Type 0 where
  pub bunch_zero : (core : Core) (number : ℕ) → (number ≡ 24) ⊎ (number ≡ 25) → register_byte (clear_bunch core) number ≡ 0
  pub bunch_alone : (core : Core) (number : ℕ) → number ≢ 24 → number ≢ 25 → register_byte (clear_bunch core) number ≡ register_byte core number
  pub event_zero : (core : Core) (number : ℕ) → (number ≡ 26) ⊎ ((number ≡ 27) ⊎ (number ≡ 28)) → register_byte (clear_event core) number ≡ 0
  pub event_alone : (core : Core) (number : ℕ) → number ≢ 26 → number ≢ 27 → number ≢ 28 → register_byte (clear_event core) number ≡ register_byte core number

-- the core stays well formed; by a byte stored, unless it is one without a setting; by a register write, if refusals 17 and 7 let the byte through
pub record KeepLaws : Type 0 where
  pub store_keeps : (number byte : ℕ) (core : Core) → without_setting number byte ≡ false → CoreFacts core → CoreFacts (store_byte number byte core)
  pub bunch_keeps : (core : Core) → CoreFacts core → CoreFacts (clear_bunch core)
  pub event_keeps : (core : Core) → CoreFacts core → CoreFacts (clear_event core)
  pub write_keeps : (core : Core) (number value : ℕ) → without_setting number value ≡ false → config_wrong number value ≡ false → CoreFacts core
      → CoreFacts (after_write core number value)

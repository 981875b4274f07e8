-- Document 01, "Registers": settings and bytes are inverse on 0..239. Proved in proofs/Inverse.antt.
use Rattle.std.specs.Prelude.{ℕ, ◌<◌, ◌≡◌}
use Rattle.fine_delay.specs.Delay.{setting_to_byte, byte_to_setting}

-- a setting is not refused, and its byte gives it back
abbrev pub SettingBack : Type 0
SettingBack =
    (k : ℕ) → k < 240
    → ((setting_to_byte k).refusal ≡ 0) × (byte_to_setting (setting_to_byte k).byte ≡ record { refusal = 0; setting = k })

-- a byte below 240 is not refused, and its setting gives it back
abbrev pub ByteBack : Type 0
ByteBack =
    (byte : ℕ) → byte < 240
    → ((byte_to_setting byte).refusal ≡ 0) × (setting_to_byte (byte_to_setting byte).setting ≡ record { refusal = 0; byte = byte })

-- "Bytes 240..255 belong to no setting."
abbrev pub NoSettingBeyond : Type 0
NoSettingBeyond = (k : ℕ) → k < 240 → (setting_to_byte k).byte < 240

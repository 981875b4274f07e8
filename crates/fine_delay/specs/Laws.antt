-- Document 01, "Numbers of refusal" and "Registers": which settings and which bytes are refused, each exactly, and which bytes have a setting.
-- Proved in proofs/Laws.antt.
use Rattle.std.specs.Prelude.{ℕ, ◌≤◌, ◌<◌, ◌≡◌, ◌↔◌, true, false}
use Rattle.fine_delay.specs.Delay.{byte_of, setting_of, has_setting, setting_to_byte, byte_to_setting}

-- "A refused call returns its number with all other result fields 0"; "Success is number 0"
pub record DelayLaws : Type 0 where
  -- 8, "setting over 239"
  pub refused_by_8 : (k : ℕ) → 239 < k → setting_to_byte k ≡ record { refusal = 8; byte = 0 }
  -- "Fine delay settings K run 0..239"
  pub byte_is : (k : ℕ) → k ≤ 239 → setting_to_byte k ≡ record { refusal = 0; byte = byte_of k }
  -- 9, "byte over 239"
  pub refused_by_9 : (byte : ℕ) → 239 < byte → byte_to_setting byte ≡ record { refusal = 9; setting = 0 }
  pub setting_is : (byte : ℕ) → byte ≤ 239 → byte_to_setting byte ≡ record { refusal = 0; setting = setting_of byte }

-- the byte of this setting: each gives the other, and neither is refused
pub record IsByteOf (byte k : ℕ) : Type 0 where
  pub gives_byte : setting_to_byte k ≡ record { refusal = 0; byte = byte }
  pub gives_setting : byte_to_setting byte ≡ record { refusal = 0; setting = k }

pub record SettingLaws : Type 0 where
  -- "Bytes 240..255 belong to no setting", and all others belong to one
  pub below_240 : (byte : ℕ) → (has_setting byte ≡ true) ↔ (byte < 240)
  pub from_240 : (byte : ℕ) → (has_setting byte ≡ false) ↔ (240 ≤ byte)
  -- which is named by "K = (15m + 16n + 30) mod 240"; that no setting has another byte is `NoSettingBeyond` of Inverse.antt
  pub setting_named : (byte : ℕ) → has_setting byte ≡ true → IsByteOf byte (setting_of byte)
  -- the bytes without a setting are those that 9 refuses
  pub nine_exactly : (byte : ℕ) → (has_setting byte ≡ false) ↔ ((byte_to_setting byte).refusal ≡ 9)

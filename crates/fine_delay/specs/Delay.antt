-- Document 01, "Registers": fine delay settings and their bytes.
-- `DelayByte` and `DelaySetting` are structs of src/lib.rt.
use Rattle.std.specs.Prelude.{ℕ, ◌+◌, ◌*◌, ◌/◌, ◌%◌, Bool, cond, ltb, pos, ◌+ℤ◌, ◌-ℤ◌, Result, Ok, Err}
use Rattle.laws.specs.Remainder.{◌%ℤ◌}
use Rattle.refusals.specs.declared.Refusal.{Refusal}
use Rattle.refusals.specs.Refusals.{number}
use Rattle.fine_delay.specs.declared.DelayByte.{DelayByte}
use Rattle.fine_delay.specs.declared.DelaySetting.{DelaySetting}

-- "With n = K mod 15 and m = (K div 15 − n + 14) mod 16, the byte is 16n + m". Document 02, Q-2: "The difference K div 15 − n can be
-- negative; mind it." So it is an integer: `pos` makes an integer of a number, and `%ℤ` is the mathematical remainder.
unfoldable pub byte_of : ℕ → ℕ
byte_of k =
    let n = k % 15 in
    let m = (pos (k / 15) -ℤ pos n +ℤ pos 14) %ℤ 16 in
    16 * n + m

-- "back, K = (15m + 16n + 30) mod 240"
unfoldable pub setting_of : ℕ → ℕ
setting_of byte = (15 * (byte % 16) + 16 * (byte / 16) + 30) % 240

-- what C is handed for a setting: the number of refusal, and the byte, 0 where refused
abbrev pub byte_answer : Result ℕ Refusal → DelayByte
byte_answer (Ok byte) = record { refusal = 0; byte = byte }
byte_answer (Err refusal) = record { refusal = number refusal; byte = 0 }

-- refusal 8: "setting over 239"
unfoldable pub setting_to_byte : ℕ → DelayByte
setting_to_byte k = cond (ltb 239 k) (record { refusal = 8; byte = 0 }) (record { refusal = 0; byte = byte_of k })

-- "Bytes 240..255 belong to no setting": whether a byte belongs to one. `SettingLaws` of Laws.antt says that these are the bytes of the settings.
-- Document 02, Q-4, goes by it: registers 0 and 1 of a well-formed state, refusal 17 and verdict 10.
unfoldable pub has_setting : ℕ → Bool
has_setting byte = ltb byte 240

-- what C is handed for a byte: the number of refusal, and the setting, 0 where refused
abbrev pub setting_answer : Result ℕ Refusal → DelaySetting
setting_answer (Ok setting) = record { refusal = 0; setting = setting }
setting_answer (Err refusal) = record { refusal = number refusal; setting = 0 }

-- refusal 9: "byte over 239"
unfoldable pub byte_to_setting : ℕ → DelaySetting
byte_to_setting byte = cond (has_setting byte) (record { refusal = 0; setting = setting_of byte }) (record { refusal = 9; setting = 0 })

-- Document 01, "Registers", with document 02, Q-4: the table's columns "number" and "holds", and which writes its column "write" refuses.
use Rattle.std.specs.Prelude.{ℕ, ◌*◌, ◌/◌, ◌%◌, ◌^◌, Bool, false, cond, not, List, [], ◌∷◌, eqb, ltb}
use Rattle.laws.specs.OneOf.{one_of}
use Rattle.fine_delay.specs.Delay.{has_setting}
use Rattle.receiver_state.specs.declared.Core.{Core}
use Rattle.receiver_state.specs.State.{fresh_settings, status_byte}
use Rattle.receiver_state.specs.WellFormed.{config_ok}

-- ---- column "number"

abbrev pub map_numbers : List ℕ
map_numbers =
    0 ∷ 1 ∷ 2 ∷ 3
    ∷ 8 ∷ 9 ∷ 10 ∷ 11
    ∷ 16 ∷ 17 ∷ 18
    ∷ 20 ∷ 21 ∷ 22
    ∷ 24 ∷ 25 ∷ 26 ∷ 27 ∷ 28 ∷ []

unfoldable pub in_map : ℕ → Bool
in_map number = one_of map_numbers number

-- ---- column "holds"

-- "low byte first": byte i of a number, counted from 0
abbrev pub byte_at : ℕ → ℕ → ℕ
byte_at i n = n / 2 ^ (8 * i) % 2 ^ 8

-- 0 for a number that is not in the map, which is refused by 5
unfoldable pub register_byte : Core → ℕ → ℕ
register_byte core number =
    -- "fine delays"
    cond (eqb number 0) core.settings.fine1
    (cond (eqb number 1) core.settings.fine2
    -- "coarse delay, control"
    (cond (eqb number 2) core.settings.coarse
    (cond (eqb number 3) core.settings.control
    -- "single error counter, low byte first"
    (cond (eqb number 8) (byte_at 0 core.errors.single)
    (cond (eqb number 9) (byte_at 1 core.errors.single)
    -- "double error counter"
    (cond (eqb number 10) core.errors.double
    -- "upset counter, always 0 here"
    (cond (eqb number 11) 0
    -- "ID low byte, ID high 6 bits, I2C ID"
    (cond (eqb number 16) (byte_at 0 core.ids.id)
    (cond (eqb number 17) (byte_at 1 core.ids.id)
    (cond (eqb number 18) core.ids.i2c
    -- "Config 2, Config 3"
    (cond (eqb number 20) core.settings.config2
    (cond (eqb number 21) core.settings.config3
    -- "status"
    (cond (eqb number 22) (status_byte core)
    -- "bunch counter, low byte first"
    (cond (eqb number 24) (byte_at 0 core.counters.bunch)
    (cond (eqb number 25) (byte_at 1 core.counters.bunch)
    -- "event counter, low byte first"
    (cond (eqb number 26) (byte_at 0 core.counters.event)
    (cond (eqb number 27) (byte_at 1 core.counters.event)
    (cond (eqb number 28) (byte_at 2 core.counters.event)
    0))))))))))))))))))

-- ---- column "write"

-- "refused"
unfoldable pub read_only : ℕ → Bool
read_only number = one_of (16 ∷ 17 ∷ 18 ∷ 22 ∷ []) number

-- document 02, Q-4: "240 to 255 to registers 0 or 1". A write is refused by it (17), and an internal frame gets verdict 10.
unfoldable pub without_setting : ℕ → ℕ → Bool
without_setting number byte = cond (ltb number 2) (not (has_setting byte)) false

-- "only bit 7 may change"; refusal 7: "write to 20 or 21 that differs from the fresh byte in bits 6..0"
unfoldable pub config_wrong : ℕ → ℕ → Bool
config_wrong number value =
    cond (eqb number 20) (not (config_ok fresh_settings.config2 value))
    (cond (eqb number 21) (not (config_ok fresh_settings.config3 value))
    false)

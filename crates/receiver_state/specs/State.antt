-- Document 01, "Registers": the fresh state, and states with one part changed. `Receiver` and its parts are the structs of src/lib.rt.
use Rattle.std.specs.Prelude.{ℕ, ◌+◌, ◌*◌, ◌%◌, ◌^◌, Bool, cond, ◌&&◌, eqb, ltb, Result, Ok, Err}
use Rattle.refusals.specs.declared.Refusal.{Refusal}
use Rattle.refusals.specs.Refusals.{number}
use Rattle.receiver_state.specs.declared.Ids.{Ids}
use Rattle.receiver_state.specs.declared.Settings.{Settings}
use Rattle.receiver_state.specs.declared.Errors.{Errors}
use Rattle.receiver_state.specs.declared.Counters.{Counters}
use Rattle.receiver_state.specs.declared.Sequence.{Sequence}
use Rattle.receiver_state.specs.declared.Core.{Core}
use Rattle.receiver_state.specs.declared.Held.{Held}
use Rattle.receiver_state.specs.declared.Receiver.{Receiver}
use Rattle.receiver_state.specs.declared.FreshAnswer.{FreshAnswer}

-- ---- the parts

abbrev pub ids : ℕ → ℕ → Ids
ids id i2c = record { id = id; i2c = i2c }

abbrev pub errors : ℕ → ℕ → ℕ → Errors
errors single double status5 = record { single = single; double = double; status5 = status5 }

abbrev pub counters : ℕ → ℕ → Counters
counters bunch event = record { bunch = bunch; event = event }

-- the words left, and the kept event number
abbrev pub words_left : ℕ → ℕ → Sequence
words_left left event = record { left = left; event = event }

-- "With no words left the kept event number is 0."
abbrev pub no_sequence : Sequence
no_sequence = words_left 0 0

-- so many bits of a frame are held, with this number, and no ones are wanted
abbrev pub holding : ℕ → ℕ → Held
holding count bits = record { count = count; wanted = 0; bits = bits }

-- document 02, Q-1: "the ones still wanted"; no frame bit is held beside them
abbrev pub wanting_ones : ℕ → Held
wanting_ones wanted = record { count = 0; wanted = wanted; bits = 0 }

-- no frame bit is held, and no ones are wanted: "0 when waiting"
abbrev pub nothing_held : Held
nothing_held = holding 0 0

-- the receiver waits for a start bit: no frame bit is held, and no ones are wanted. `Waits` of the crate `channel_b` is 01's term, and `WaitsLaw`
-- there says that the two agree.
unfoldable pub is_waiting : Held → Bool
is_waiting held = eqb held.count 0 && eqb held.wanted 0

abbrev pub receiver : Core → Held → Receiver
receiver core held = record { core = core; held = held }

-- ---- one part changed

abbrev pub with_settings : Settings → Core → Core
with_settings new core =
    record { ids = core.ids; settings = new; errors = core.errors; counters = core.counters; sequence = core.sequence }

abbrev pub with_errors : Errors → Core → Core
with_errors new core =
    record { ids = core.ids; settings = core.settings; errors = new; counters = core.counters; sequence = core.sequence }

abbrev pub with_counters : Counters → Core → Core
with_counters new core =
    record { ids = core.ids; settings = core.settings; errors = core.errors; counters = new; sequence = core.sequence }

abbrev pub with_sequence : Sequence → Core → Core
with_sequence new core =
    record { ids = core.ids; settings = core.settings; errors = core.errors; counters = core.counters; sequence = new }

-- ---- fresh

-- "Fresh: registers 0, 1 and 2 are 0, control 0x93, Config 2 0x85, Config 3 0xA7"
abbrev pub fresh_settings : Settings
fresh_settings = record { fine1 = 0; fine2 = 0; coarse = 0; control = 0x93; config2 = 0x85; config3 = 0xA7 }

-- "Status bits 7 and 6 are 1, bits 4..0 are 0", and bit 5 is kept. The remainder makes a byte of every core; of a flag it is the flag.
abbrev pub status_byte : Core → ℕ
status_byte core = 2 ^ 7 + 2 ^ 6 + core.errors.status5 % 2 * 2 ^ 5

-- "all counters 0, .. no sequence"
abbrev pub new_core : Ids → Settings → ℕ → Core
new_core own settings status5 =
    record { ids = own; settings = settings; errors = errors 0 0 status5; counters = counters 0 0; sequence = no_sequence }

-- "status 0xE0", which has bit 5 at 1
abbrev pub fresh_core : Ids → Core
fresh_core own = new_core own fresh_settings 1

-- 01's term "fresh"; it is "waiting". `FreshLaws` of States.antt says that it is well formed for IDs in range,
-- and `FreshWaits` of the crate `channel_b` that it waits.
abbrev pub fresh_state : Ids → Receiver
fresh_state own = receiver (fresh_core own) nothing_held

-- a refused fresh state: every field 0
abbrev pub zero_state : Receiver
zero_state = receiver (new_core (ids 0 0) (record { fine1 = 0; fine2 = 0; coarse = 0; control = 0; config2 = 0; config3 = 0 }) 0) nothing_held

abbrev pub fresh_of : ℕ → Receiver → FreshAnswer
fresh_of refusal r = record { refusal = refusal; receiver = r }

abbrev pub refused_fresh : ℕ → FreshAnswer
refused_fresh refusal = fresh_of refusal zero_state

-- what C is handed: the number of refusal, and the state, every field 0 where refused
abbrev pub fresh_made : Result Receiver Refusal → FreshAnswer
fresh_made (Ok made) = fresh_of 0 made
fresh_made (Err refusal) = refused_fresh (number refusal)

-- refusal 3, "ID 0 or over 16383", "first"; 4, "I2C ID over 63", "after 3"
unfoldable pub fresh_answer : ℕ → ℕ → FreshAnswer
fresh_answer id i2c =
    cond (eqb id 0) (refused_fresh 3)
    (cond (ltb 16383 id) (refused_fresh 3)
    (cond (ltb 63 i2c) (refused_fresh 4)
    (fresh_of 0 (fresh_state (ids id i2c)))))

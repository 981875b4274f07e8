-- Document 01, "Registers" and "Numbers of refusal", with document 02, Q-4: one register read, and one register write.
use Rattle.std.specs.Prelude.{ℕ, cond, eqb, Result, Ok, Err}
use Rattle.refusals.specs.declared.Refusal.{Refusal}
use Rattle.refusals.specs.Refusals.{number}
use Rattle.receiver_state.specs.declared.Core.{Core}
use Rattle.receiver_state.specs.declared.Receiver.{Receiver}
use Rattle.receiver_state.specs.State.{receiver}
use Rattle.receiver_state.specs.WellFormed.{well_formed}
use Rattle.register_map.specs.Map.{in_map, register_byte, read_only, without_setting, config_wrong}
use Rattle.register_map.specs.Change.{after_write}
use Rattle.registers.specs.declared.ReadAnswer.{ReadAnswer}
use Rattle.registers.specs.declared.WriteAnswer.{WriteAnswer}

-- ---- read

-- of a state that is well formed: refusal 5, "register not in the map", "after 2"
unfoldable pub read_refusal : ℕ → ℕ
read_refusal number = cond (in_map number) 0 5

abbrev pub byte_answer : ℕ → ℕ → ReadAnswer
byte_answer refusal byte = record { refusal = refusal; byte = byte }

-- "A refused call returns its number with all other result fields 0"
abbrev pub refused_read : ℕ → ReadAnswer
refused_read refusal = byte_answer refusal 0

-- what C is handed: the number of refusal, and the byte, 0 where refused
abbrev pub read_given : Result ℕ Refusal → ReadAnswer
read_given (Ok byte) = byte_answer 0 byte
read_given (Err refusal) = refused_read (number refusal)

-- refusal 2, "state not well formed", "first"
unfoldable pub read_answer : Receiver → ℕ → ReadAnswer
read_answer r number =
    cond (well_formed r)
    (cond (eqb (read_refusal number) 0) (byte_answer 0 (register_byte r.core number)) (refused_read (read_refusal number)))
    (refused_read 2)

-- the core that a read leaves, refused or not: all of it stays
abbrev pub after_read : Core → ℕ → Core
after_read core number = core

-- ---- write

-- of a state that is well formed: 5 "after 2"; 6, "write to 16, 17, 18 or 22", "after 5"; 17, "after 6, never together with 7"; 7 "after 6"
unfoldable pub write_refusal : ℕ → ℕ → ℕ
write_refusal number value =
    cond (in_map number)
    (cond (read_only number) 6
    (cond (without_setting number value) 17
    (cond (config_wrong number value) 7
    0)))
    5

-- what is held of channel B stays
abbrev pub written_to : Receiver → Core → WriteAnswer
written_to r core = record { refusal = 0; receiver = receiver core r.held }

-- "the state unchanged where one was given"
abbrev pub refused_write : ℕ → Receiver → WriteAnswer
refused_write refusal r = record { refusal = refusal; receiver = r }

-- what C is handed: the number of refusal, and the state, as it came where refused
abbrev pub write_given : Receiver → Result Receiver Refusal → WriteAnswer
write_given r (Ok next) = record { refusal = 0; receiver = next }
write_given r (Err refusal) = refused_write (number refusal) r

-- refusal 2 "first"
unfoldable pub write_answer : Receiver → ℕ → ℕ → WriteAnswer
write_answer r number value =
    cond (well_formed r)
    (cond (eqb (write_refusal number value) 0) (written_to r (after_write r.core number value)) (refused_write (write_refusal number value) r))
    (refused_write 2 r)

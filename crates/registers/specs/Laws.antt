-- Document 01, "Registers", with document 02, Q-4: what holds of every register read and every register write. Proved in proofs/Laws.antt,
-- `WriteRefusals` in proofs/Refusals.antt.
use Rattle.std.specs.Prelude.{ℕ, ◌%◌, ◌^◌, ◌<◌, ◌≡◌, ◌≢◌, ◌⊎◌, ◌↔◌, true, false}
use Rattle.receiver_state.specs.declared.Receiver.{Receiver}
use Rattle.receiver_state.specs.State.{errors, counters, with_settings, with_errors, with_counters}
use Rattle.receiver_state.specs.WellFormed.{well_formed}
use Rattle.register_map.specs.Map.{in_map, register_byte}
use Rattle.register_map.specs.Change.{stored, with_configs}
use Rattle.register_map.specs.Laws.{ByteWithoutSetting}
use Rattle.registers.specs.declared.ReadAnswer.{ReadAnswer}
use Rattle.registers.specs.Access.{byte_answer, refused_read, read_answer, written_to, refused_write, write_answer}

-- ---- reads; what each register holds is in `ByteLaws` of the crate `register_map`

pub record ReadLaws : Type 0 where
  pub refused_by_2 : (r : Receiver) (number : ℕ) → well_formed r ≡ false → read_answer r number ≡ refused_read 2
  pub refused_by_5 : (r : Receiver) (number : ℕ) → well_formed r ≡ true → in_map number ≡ false → read_answer r number ≡ refused_read 5
  pub accepted : (r : Receiver) (number : ℕ) → well_formed r ≡ true → in_map number ≡ true
      → read_answer r number ≡ byte_answer 0 (register_byte r.core number)

-- ---- writes

-- the registers of each counter of more than one byte
abbrev pub SingleByte : ℕ → Type 0
SingleByte n = (n ≡ 8) ⊎ (n ≡ 9)

abbrev pub BunchByte : ℕ → Type 0
BunchByte n = (n ≡ 24) ⊎ (n ≡ 25)

abbrev pub EventByte : ℕ → Type 0
EventByte n = (n ≡ 26) ⊎ ((n ≡ 27) ⊎ (n ≡ 28))

abbrev pub ReadOnly : ℕ → Type 0
ReadOnly n = (n ≡ 16) ⊎ ((n ≡ 17) ⊎ ((n ≡ 18) ⊎ (n ≡ 22)))

-- the byte differs from the fresh one, 0x85 or 0xA7, in bits 6..0
abbrev pub ConfigDiffers : ℕ → ℕ → Type 0
ConfigDiffers n value = ((n ≡ 20) × (value % 2 ^ 7 ≢ 0x85 % 2 ^ 7)) ⊎ ((n ≡ 21) × (value % 2 ^ 7 ≢ 0xA7 % 2 ^ 7))

-- each write that is not refused, by the whole state that it leaves: the parts named are changed, and nothing else
pub record WriteLaws : Type 0 where
  pub refused_by_2 : (r : Receiver) (number value : ℕ) → well_formed r ≡ false → write_answer r number value ≡ refused_write 2 r
  pub refused_by_5 : (r : Receiver) (number value : ℕ) → well_formed r ≡ true → in_map number ≡ false → write_answer r number value ≡ refused_write 5 r
  pub refused_by_6 : (r : Receiver) (number value : ℕ) → well_formed r ≡ true → ReadOnly number → write_answer r number value ≡ refused_write 6 r
  pub refused_by_7 : (r : Receiver) (number value : ℕ) → well_formed r ≡ true → ConfigDiffers number value
      → write_answer r number value ≡ refused_write 7 r
  pub refused_by_17 : (r : Receiver) (number value : ℕ) → well_formed r ≡ true → ByteWithoutSetting number value → write_answer r number value ≡ refused_write 17 r
  pub byte_stored : (r : Receiver) (number value : ℕ) → well_formed r ≡ true → number < 4 → (ByteWithoutSetting number value → ⊥)
      → write_answer r number value ≡ written_to r (with_settings (stored number value r.core.settings) r.core)
  pub single_cleared : (r : Receiver) (number value : ℕ) → well_formed r ≡ true → SingleByte number
      → write_answer r number value ≡ written_to r (with_errors (errors 0 r.core.errors.double r.core.errors.status5) r.core)
  pub double_cleared : (r : Receiver) (value : ℕ) → well_formed r ≡ true
      → write_answer r 10 value ≡ written_to r (with_errors (errors r.core.errors.single 0 r.core.errors.status5) r.core)
  pub upset_accepted : (r : Receiver) (value : ℕ) → well_formed r ≡ true → write_answer r 11 value ≡ written_to r r.core
  pub config_2_stored : (r : Receiver) (value : ℕ) → well_formed r ≡ true → value % 2 ^ 7 ≡ 0x85 % 2 ^ 7
      → write_answer r 20 value ≡ written_to r (with_settings (with_configs value r.core.settings.config3 r.core.settings) r.core)
  pub config_3_stored : (r : Receiver) (value : ℕ) → well_formed r ≡ true → value % 2 ^ 7 ≡ 0xA7 % 2 ^ 7
      → write_answer r 21 value ≡ written_to r (with_settings (with_configs r.core.settings.config2 value r.core.settings) r.core)
  pub bunch_cleared : (r : Receiver) (number value : ℕ) → well_formed r ≡ true → BunchByte number
      → write_answer r number value ≡ written_to r (with_counters (counters 0 r.core.counters.event) r.core)
  pub event_cleared : (r : Receiver) (number value : ℕ) → well_formed r ≡ true → EventByte number
      → write_answer r number value ≡ written_to r (with_counters (counters r.core.counters.bunch 0) r.core)
  pub stays_well_formed : (r : Receiver) (number value : ℕ) → well_formed r ≡ true → well_formed (write_answer r number value).receiver ≡ true
  -- these three refused or not
  pub ids_stay : (r : Receiver) (number value : ℕ) → (write_answer r number value).receiver.core.ids ≡ r.core.ids
  -- "A later write to the control register doesn't alter a running sequence."
  pub sequence_stays : (r : Receiver) (number value : ℕ) → (write_answer r number value).receiver.core.sequence ≡ r.core.sequence
  pub held_stays : (r : Receiver) (number value : ℕ) → (write_answer r number value).receiver.held ≡ r.held

-- ---- which write is refused by which number

-- each number exactly: 2 comes first, and of a well-formed state no two of the other conditions hold of one write, so that their order never shows
pub record WriteRefusals : Type 0 where
  pub by_2 : (r : Receiver) (number value : ℕ) → ((write_answer r number value).refusal ≡ 2) ↔ (well_formed r ≡ false)
  pub by_5 : (r : Receiver) (number value : ℕ) → well_formed r ≡ true → ((write_answer r number value).refusal ≡ 5) ↔ (in_map number ≡ false)
  pub by_6 : (r : Receiver) (number value : ℕ) → well_formed r ≡ true → ((write_answer r number value).refusal ≡ 6) ↔ ReadOnly number
  pub by_17 : (r : Receiver) (number value : ℕ) → well_formed r ≡ true → ((write_answer r number value).refusal ≡ 17) ↔ ByteWithoutSetting number value
  pub by_7 : (r : Receiver) (number value : ℕ) → well_formed r ≡ true → ((write_answer r number value).refusal ≡ 7) ↔ ConfigDiffers number value
  pub by_no_other : (r : Receiver) (number value : ℕ) → let refusal = (write_answer r number value).refusal in
      (refusal ≡ 0) ⊎ ((refusal ≡ 2) ⊎ ((refusal ≡ 5) ⊎ ((refusal ≡ 6) ⊎ ((refusal ≡ 17) ⊎ (refusal ≡ 7)))))
  -- document 02, Q-4: "never together with 7"
  pub never_both : (number value : ℕ) → ByteWithoutSetting number value → ConfigDiffers number value → ⊥

-- ---- what a read gives after a write

-- a read of `other` after a write of `value` to `number`
abbrev pub read_after : Receiver → ℕ → ℕ → ℕ → ReadAnswer
read_after r number value other = read_answer (write_answer r number value).receiver other

pub record ReadBack : Type 0 where
  pub stored_byte : (r : Receiver) (number value : ℕ) → well_formed r ≡ true → number < 4 → (ByteWithoutSetting number value → ⊥)
      → read_after r number value number ≡ byte_answer 0 value
  -- of the registers, only that one
  pub others_stay : (r : Receiver) (number value other : ℕ) → well_formed r ≡ true → number < 4 → (ByteWithoutSetting number value → ⊥) → other ≢ number
      → read_after r number value other ≡ read_answer r other
  pub config_2 : (r : Receiver) (value : ℕ) → well_formed r ≡ true → value % 2 ^ 7 ≡ 0x85 % 2 ^ 7 → read_after r 20 value 20 ≡ byte_answer 0 value
  pub config_3 : (r : Receiver) (value : ℕ) → well_formed r ≡ true → value % 2 ^ 7 ≡ 0xA7 % 2 ^ 7 → read_after r 21 value 21 ≡ byte_answer 0 value
  -- a write to one byte of a counter clears every byte of it
  pub single : (r : Receiver) (number value other : ℕ) → well_formed r ≡ true → SingleByte number → SingleByte other
      → read_after r number value other ≡ byte_answer 0 0
  pub double : (r : Receiver) (value : ℕ) → well_formed r ≡ true → read_after r 10 value 10 ≡ byte_answer 0 0
  pub upset : (r : Receiver) (value : ℕ) → well_formed r ≡ true → read_after r 11 value 11 ≡ byte_answer 0 0
  pub bunch : (r : Receiver) (number value other : ℕ) → well_formed r ≡ true → BunchByte number → BunchByte other
      → read_after r number value other ≡ byte_answer 0 0
  pub event : (r : Receiver) (number value other : ℕ) → well_formed r ≡ true → EventByte number → EventByte other
      → read_after r number value other ≡ byte_answer 0 0

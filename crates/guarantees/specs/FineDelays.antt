-- Document 02, Q-4, "No delay byte without a setting", over lists of calls: what registers 0 and 1 hold, and the frames that would store a byte
-- without a setting. Proved in proofs/FineDelays.antt.
use Rattle.std.specs.Prelude.{ℕ, ◌≤◌, ◌≡◌, true, false, List, Option}
use Rattle.hamming.specs.declared.WrongBit.{WrongBit}
use Rattle.fine_delay.specs.Delay.{setting_of, setting_to_byte}
use Rattle.fine_delay.specs.Laws.{IsByteOf}
use Rattle.frame.specs.declared.Kind.{Kind}
use Rattle.frame.specs.declared.Kind.TheVariants.{Long}
use Rattle.frame.specs.declared.Fields.{Fields}
use Rattle.frame.specs.Columns.{columns_of, GoodTables}
use Rattle.frame.specs.Encode.{word_of, encode_fields}
use Rattle.frame.specs.Place.{place_in}
use Rattle.frame.specs.Frames.{InRange, flip_protected, ProtectedIn}
use Rattle.receiver_state.specs.declared.Receiver.{Receiver}
use Rattle.receiver_state.specs.State.{fresh_answer}
use Rattle.receiver_state.specs.WellFormed.{well_formed}
use Rattle.register_map.specs.Map.{register_byte}
use Rattle.register_map.specs.Laws.{DelayRegister}
use Rattle.registers.specs.Access.{byte_answer, read_answer, write_answer}
use Rattle.verdicts.specs.Table.{executed}
use Rattle.verdicts.specs.FrameLaws.{Ours, DataWithoutSetting, OneHigher}
use Rattle.guarantees.specs.Calls.{Call, clock, CallResult, run}
use Rattle.guarantees.specs.FrameLists.{Sends, SameCalls, last_call, idle_last}
use Rattle.guarantees.specs.LastClock.{MayChange, OthersSame}

-- ---- what registers 0 and 1 hold

-- the setting of the byte that the register holds, "K = (15m + 16n + 30) mod 240"
abbrev pub setting_in : Receiver → ℕ → ℕ
setting_in r number = setting_of (register_byte r.core number)

-- the register holds the byte of that setting, and a read gives it
pub record HoldsSetting (r : Receiver) (number : ℕ) : Type 0 where
  pub of_setting : IsByteOf (register_byte r.core number) (setting_in r number)
  pub read_gives : read_answer r number ≡ byte_answer 0 (register_byte r.core number)

-- a write of a setting's byte is accepted, and the register then has that setting
abbrev pub SettingWritten : Type 0
SettingWritten =
    (r : Receiver) (number k : ℕ) → well_formed r ≡ true → DelayRegister number → k ≤ 239 → let done = write_answer r number (setting_to_byte k).byte in
    (done.refusal ≡ 0) × (setting_in done.receiver number ≡ k)

-- byte 0 is the byte of setting 30
abbrev pub FreshSetting : Type 0
FreshSetting =
    (id i2c number : ℕ) → (fresh_answer id i2c).refusal ≡ 0 → DelayRegister number → setting_in (fresh_answer id i2c).receiver number ≡ 30

-- ---- frames with a byte without a setting

-- "an internal frame with such data for them", for this receiver or for all
pub record InternalWithoutSetting (fields : Fields) (id : ℕ) : Type 0 where
  pub ours : Ours fields id
  pub internal : fields.e ≡ 0
  pub without_setting_lem : DataWithoutSetting fields

-- beside the idle list: status bit 5, and with a correction the single error counter
abbrev pub verdict10_may_change : MayChange
verdict10_may_change = record { settings = ⊥; single = Unit {0}; double = ⊥; status = Unit {0}; counters = ⊥; sequence = ⊥ }

-- its last clock, beside the idle list's: "the new verdict 10 ..: nothing stored, .. not counted as executed"
pub record GetsVerdict10 (fields : Fields) (idle done : CallResult) : Type 0 where
  pub verdict_10 : done.answer.outputs.verdict ≡ 10
  pub not_executed : executed done.answer.outputs.verdict ≡ false
  pub word_is : done.answer.outputs.word ≡ word_of Long fields
  pub nothing_stored : done.receiver.core.settings ≡ idle.receiver.core.settings
  pub status_1 : done.receiver.core.errors.status5 ≡ 1
  pub others_same : OthersSame verdict10_may_change idle done

module _ (columns : Kind → List ℕ) where
  -- ---- the statements

  -- after every list of calls from a well-formed state
  abbrev pub AlwaysSettings : Type 0
  AlwaysSettings = (r : Receiver) (calls : List Call) (number : ℕ) → well_formed r ≡ true → DelayRegister number → HoldsSetting (run columns r calls) number

  -- so from a fresh receiver
  abbrev pub SettingsFromFresh : Type 0
  SettingsFromFresh =
      (id i2c : ℕ) (calls : List Call) (number : ℕ) → (fresh_answer id i2c).refusal ≡ 0 → DelayRegister number
      → HoldsSetting (run columns (fresh_answer id i2c).receiver calls) number

  -- a clean frame: flag and place 0, and the single error counter stays
  abbrev pub CleanVerdict10 : Type 0
  CleanVerdict10 =
      (r : Receiver) (before : List Call) (trigger bit : ℕ) (fields : Fields) → InRange Long fields → InternalWithoutSetting fields r.core.ids.id
      → Sends r before trigger bit Long (encode_fields (columns Long) Long fields)
      → let done = last_call columns r before (clock trigger bit) in
      GetsVerdict10 fields (idle_last columns r before trigger) done
      × (done.answer.outputs.corrected ≡ 0)
      × (done.answer.outputs.place ≡ 0)
      × (done.receiver.core.errors.single ≡ (idle_last columns r before trigger).receiver.core.errors.single)

  -- one protected bit flipped: flag 1, the place of that bit, and "corrected flag and single counter as for verdict 2". The corrected data decide: p may be one of their bits.
  abbrev pub OneFlipVerdict10 : Type 0
  OneFlipVerdict10 =
      (r : Receiver) (clean flipped : List Call) (trigger sent bit : ℕ) (fields : Fields) (p : Option WrongBit)
      → InRange Long fields → InternalWithoutSetting fields r.core.ids.id → ProtectedIn Long p
      → Sends r clean trigger sent Long (encode_fields (columns Long) Long fields)
      → Sends r flipped trigger bit Long (flip_protected Long p (encode_fields (columns Long) Long fields))
      → SameCalls clean flipped
      → let done = last_call columns r flipped (clock trigger bit) in
      GetsVerdict10 fields (idle_last columns r flipped trigger) done
      × (done.answer.outputs.corrected ≡ 1)
      × (done.answer.outputs.place ≡ place_in Long p)
      × OneHigher 65535 (idle_last columns r flipped trigger).receiver.core.errors.single done.receiver.core.errors.single

  pub record FineDelayLaws : Type 0 where
    pub always_settings : AlwaysSettings
    pub from_fresh : SettingsFromFresh
    pub fresh_setting : FreshSetting
    pub setting_written : SettingWritten
    pub clean_10 : CleanVerdict10
    pub one_flip_10 : OneFlipVerdict10

abbrev pub FineDelayTheorem : Type 0
FineDelayTheorem = (columns : Kind → List ℕ) → GoodTables columns → FineDelayLaws columns

-- document 01's own columns: the statement to hand over
abbrev pub ReceiverFineDelays : Type 0
ReceiverFineDelays = FineDelayLaws columns_of

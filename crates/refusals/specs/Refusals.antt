-- Document 01, "Numbers of refusal", with those that document 02 adds. `Refusal` is the enum of src/lib.rt.
-- "A refused call returns its number with all other result fields 0 (save an index that a later request wants told, counted from 0)"
use Rattle.std.specs.Prelude.{ℕ, ◌≡◌, ◌≢◌, false, eqb, Result, Ok, Err}
use Rattle.refusals.specs.declared.Refusal.{Refusal}
use Rattle.refusals.specs.declared.Refusal.TheVariants.{Bit, State, Id, I2cId, Register, ReadOnly, Config, Setting, DelayByte, LineLength, Character, Frame, Field, LineBuffer, BlockLength, RecordBuffer, NoSetting, ColumnCount, BadColumn}

-- "number", with "given exactly when" in document 01's words
unfoldable pub number : Refusal → ℕ
-- "trigger or data bit over 1"; of a block, a byte over 3
number Bit = 1
-- "state not well formed"
number State = 2
-- "ID 0 or over 16383"
number Id = 3
-- "I2C ID over 63"
number I2cId = 4
-- "register not in the map"
number Register = 5
-- "write to 16, 17, 18 or 22"
number ReadOnly = 6
-- "write to 20 or 21 that differs from the fresh byte in bits 6..0"
number Config = 7
-- "setting over 239"
number Setting = 8
-- "byte over 239"
number DelayByte = 9
-- "line not 4 or 11 characters"
number LineLength = 10
-- "character not 0-9, A-F, a-f"
number Character = 11
-- "start, format or leading bits wrong for the length"
number Frame = 12
-- "address over 16383 or E over 1"
number Field = 13
-- "lent buffer under 5 bytes (short) or 12 (long)"
number LineBuffer = 14
-- document 02, Q-3: a block of more than 4096 clocks, and a buffer with less room than five numbers for each
number BlockLength = 15
number RecordBuffer = 16
-- document 02, Q-4: a byte for register 0 or 1 that belongs to no setting
number NoSetting = 17
-- document 02, Q-11: not 40 columns, and a bad one
number ColumnCount = 27
number (BadColumn index) = 28

-- "an index that a later request wants told": Q-11's, of the first bad column
unfoldable pub index : Refusal → ℕ
index (BadColumn at) = at
index refusal = 0

-- what C is handed: the number of refusal, "success is number 0", and the index
abbrev pub number_of : {A : Type 0} → Result A Refusal → ℕ
number_of (Ok answer) = 0
number_of (Err refusal) = number refusal

abbrev pub index_of : {A : Type 0} → Result A Refusal → ℕ
index_of (Ok answer) = 0
index_of (Err refusal) = index refusal

-- no refusal has the number of success. Proved in proofs/Laws.antt.
abbrev pub NoneIsSuccess : Type 0
NoneIsSuccess = (refusal : Refusal) → eqb (number refusal) 0 ≡ false

-- and no other than 28 tells an index
abbrev pub OnlyBadColumnsTold : Type 1
OnlyBadColumnsTold = (A : Type 0) (given : Result A Refusal) → number_of given ≢ 28 → index_of given ≡ 0

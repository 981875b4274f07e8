-- No refusal has the number of success, and only one tells an index. Assumes nothing.
use mathlib.Core.Path.{refl}
use Rattle.refusals.specs.declared.Refusal.TheVariants.{Bit, State, Id, I2cId, Register, ReadOnly, Config, Setting, DelayByte, LineLength, Character, Frame, Field, LineBuffer, BlockLength, RecordBuffer, NoSetting, ColumnCount, BadColumn}
use Rattle.std.specs.declared.result.Result.TheVariants.{Ok, Err}
use Rattle.refusals.specs.Refusals.{number, index, NoneIsSuccess, OnlyBadColumnsTold}

pub none_is_success : NoneIsSuccess
unfolding number
none_is_success Bit = refl
none_is_success State = refl
none_is_success Id = refl
none_is_success I2cId = refl
none_is_success Register = refl
none_is_success ReadOnly = refl
none_is_success Config = refl
none_is_success Setting = refl
none_is_success DelayByte = refl
none_is_success LineLength = refl
none_is_success Character = refl
none_is_success Frame = refl
none_is_success Field = refl
none_is_success LineBuffer = refl
none_is_success BlockLength = refl
none_is_success RecordBuffer = refl
none_is_success NoSetting = refl
none_is_success ColumnCount = refl
none_is_success (BadColumn index) = refl

pub only_bad_columns_told : OnlyBadColumnsTold
unfolding number index
only_bad_columns_told A (Ok answer) n = refl
only_bad_columns_told A (Err Bit) n = refl
only_bad_columns_told A (Err State) n = refl
only_bad_columns_told A (Err Id) n = refl
only_bad_columns_told A (Err I2cId) n = refl
only_bad_columns_told A (Err Register) n = refl
only_bad_columns_told A (Err ReadOnly) n = refl
only_bad_columns_told A (Err Config) n = refl
only_bad_columns_told A (Err Setting) n = refl
only_bad_columns_told A (Err DelayByte) n = refl
only_bad_columns_told A (Err LineLength) n = refl
only_bad_columns_told A (Err Character) n = refl
only_bad_columns_told A (Err Frame) n = refl
only_bad_columns_told A (Err Field) n = refl
only_bad_columns_told A (Err LineBuffer) n = refl
only_bad_columns_told A (Err BlockLength) n = refl
only_bad_columns_told A (Err RecordBuffer) n = refl
only_bad_columns_told A (Err NoSetting) n = refl
only_bad_columns_told A (Err ColumnCount) n = refl
only_bad_columns_told A (Err (BadColumn at)) n = absurd (n refl)

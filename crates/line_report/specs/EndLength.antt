-- Document 01, "Stored lines", for the end of an input: how long its text can be. Proved in proofs/EndLength.antt; `report_end` rests on it.
use Rattle.std.specs.Prelude.{◌^◌, ◌<◌, ◌≤◌, length}
use Rattle.frame.specs.Columns.{columns_of}
use Rattle.receiver_state.specs.declared.Core.{Core}
use Rattle.line_report.specs.declared.Report.{Report}
use Rattle.line_report.specs.Report.{longest_end, after_last, end_prints}

-- the fields hold what their types can hold
pub record TypesHold (core : Core) : Type 0 where
  pub single_16 : core.errors.single < 2 ^ 16
  pub double_8 : core.errors.double < 2 ^ 8
  pub event_32 : core.counters.event < 2 ^ 32
  pub bunch_16 : core.counters.bunch < 2 ^ 16

-- no end of such a receiver is longer than `longest_end`. The crate `report_laws` says that one is as long.
abbrev pub NoLongerEnd : Type 0
NoLongerEnd = (now : Report) → TypesHold (after_last columns_of now).receiver.core → length (end_prints columns_of now) ≤ longest_end

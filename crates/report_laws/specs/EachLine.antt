-- Document 01, "Stored lines", with document 02, Q-1: the receiver before each line, over the columns of each kind of frame. Proved in
-- proofs/EachLine.antt.
use Rattle.std.specs.Prelude.{ℕ, ◌≡◌, true, List}
use Rattle.frame.specs.declared.Kind.{Kind}
use Rattle.frame.specs.Columns.{columns_of, GoodTables}
use Rattle.receiver_state.specs.declared.Receiver.{Receiver}
use Rattle.receiver_state.specs.WellFormed.{well_formed}
use Rattle.channel_b.specs.TakeBit.{Waits}
use Rattle.line_report.specs.Output.{lines_leave}

-- a receiver that waits before the first line waits after any lines, and so before each one. Then the frame that finishes is the line's own:
-- `SentFrameFinishes` of the crate `whole_frame`. The receiver of `ttclines` is such a one: it starts fresh.
abbrev pub WaitsBeforeLines : (Kind → List ℕ) → Type 0
WaitsBeforeLines columns =
    (r : Receiver) (lines : List (List ℕ)) → well_formed r ≡ true → Waits r → let after = lines_leave columns r lines in
    (well_formed after ≡ true) × Waits after

abbrev pub EachLineTheorem : Type 0
EachLineTheorem = (columns : Kind → List ℕ) → GoodTables columns → WaitsBeforeLines columns

-- document 01's own columns: the statement to hand over
abbrev pub ReportWaits : Type 0
ReportWaits = WaitsBeforeLines columns_of

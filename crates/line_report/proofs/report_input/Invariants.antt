-- `line_report::report_input` meets its contract. The invariant: what comes of it all is what was to come at the beginning. Assumes nothing.
use Rattle.std.proofs.Common.{◌≡◌, ◌-◌, ◌≤◌, length}
use Rattle.frame.specs.Columns.{columns_of}
use Rattle.line_report.specs.Turn.{finished_from}
use Rattle.line_report.proofs.report_input.Given as goal

abbrev pub invariant-loop-done : goal.invariant-loop-done
invariant-loop-done l = (l.done.used ≤ length l.input) × (l.done.written ≤ length l.out) × (length l.out ≡ length l.initial.out) × (l.done.room_wanted ≡ 0) × (finished_from columns_of l.done l.input l.out ≡ finished_from columns_of l.initial.done l.input l.initial.out)

abbrev pub decreases-loop-done : goal.decreases-loop-done
decreases-loop-done l = length l.input - l.done.used

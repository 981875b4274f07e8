-- `line_report::end_last` meets its contract: the test picks the same row of the definition. Assumes nothing.
use Rattle.std.proofs.Common.{refl, ap, ◌∙◌, arith, eq-eqb, ne_eqb}
use Rattle.frame.specs.Columns.{columns_of}
use Rattle.line_report.specs.Report.{read_part, line_ended, after_last, last_prints}
use Rattle.line_report.proofs.Bounds.{line_length_lem}
use Rattle.line_report.proofs.Write.{puts_nothing}
use Rattle.line_report.proofs.end_last.Goals as goal

pub returns-then-report-eq0 : goal.returns-then-report-eq0
unfolding after_last last_prints
returns-then-report-eq0 c =
    let none = eq-eqb _ 0 c.if-report-eq0.true in record { left = rw none refl; printed = rw none (puts_nothing _) }

pub end_line-requires : goal.end_line-requires
end_line-requires c =
    let now = c.args.report in
    rw c.read_part.ensures
    (omega (arith, c.requires, line_length_lem columns_of now.receiver now.lines (read_part now.part)))

pub returns : goal.returns
unfolding after_last last_prints
returns c =
    let other = ne_eqb _ 0 c.if-report-eq0.false in
    let ended = c.end_line.ensures in record {
      left = rw other (ended.left ∙ ap (line_ended columns_of c.args.report) c.read_part.ensures);
      printed = rw (other, ← c.read_part.ensures) ended.printed;
    }

-- `line_report::text::Printer::put_place` meets its contract: by the test of the verdict, a field or nothing. Assumes nothing.
use Rattle.laws.proofs.Rules.{said}
use Rattle.line_report.specs.Text.{place_text}
use Rattle.line_report.proofs.Write.{puts_nothing}
use Rattle.line_report.proofs.text.Printer.put_place.Goals as goal

pub put_field-requires : goal.put_field-requires
unfolding place_text
put_field-requires c =
    rw (said _ _ _ c.prints_place.ensures c.if-prints_place.true) at c.requires

pub returns-then-prints_place : goal.returns-then-prints_place
unfolding place_text
returns-then-prints_place c =
    rw (said _ _ _ c.prints_place.ensures c.if-prints_place.true) c.put_field.ensures

pub returns-else-prints_place : goal.returns-else-prints_place
unfolding place_text
returns-else-prints_place c = rw (said _ _ _ c.prints_place.ensures c.if-prints_place.false) (puts_nothing _)

-- `line_report::text::Printer::put_answer` meets its contract: the test that led to each exit picks the same text of the definition. Assumes nothing.
use Rattle.std.proofs.Common.{eq-eqb, ne_eqb}
use Rattle.line_report.specs.Text.{answer_text}
use Rattle.line_report.proofs.text.Printer.put_answer.Goals as goal

pub put_verdict-requires : goal.put_verdict-requires
unfolding answer_text
put_verdict-requires c = rw (eq-eqb _ 0 c.if-answer-eq0.true) at c.requires

pub returns-then-answer-eq0 : goal.returns-then-answer-eq0
unfolding answer_text
returns-then-answer-eq0 c = rw (eq-eqb _ 0 c.if-answer-eq0.true) c.put_verdict.ensures

pub put_refusal-requires : goal.put_refusal-requires
unfolding answer_text
put_refusal-requires c = rw (ne_eqb _ 0 c.if-answer-eq0.false) at c.requires

pub returns-else-answer-eq0 : goal.returns-else-answer-eq0
unfolding answer_text
returns-else-answer-eq0 c = rw (ne_eqb _ 0 c.if-answer-eq0.false) c.put_refusal.ensures

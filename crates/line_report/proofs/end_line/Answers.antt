-- `line_report::end_line` meets its contract: it is made of the definitions that the calls give. Assumes nothing.
use Rattle.std.proofs.Common.{sym, refl, ap, ◌∙◌, subst}
use Rattle.whole_frame.specs.WholeFrame.{LeftWanting}
use Rattle.frame.specs.Columns.{columns_of}
use Rattle.line_report.specs.Output.{ones_sent}
use Rattle.line_report.proofs.Ones.{line_wants}
use Rattle.line_report.proofs.end_line.Goals as goal

pub put_line-requires : goal.put_line-requires
put_line-requires c = rw (c.word_digits.ensures, c.feed_line-answer.ensures) c.requires

pub send_ones-requires : goal.send_ones-requires
send_ones-requires c =
    let given = c.args in
    subst LeftWanting (sym (c.feed_line-answer.ensures)) (line_wants given.report.receiver given.line)

pub returns : goal.returns
returns c =
    let digits = c.word_digits.ensures in
    let answer = c.feed_line-answer.ensures in record {
      left = rw (c.send_ones.ensures ∙ ap (ones_sent columns_of) answer, c.empty_part.ensures) refl;
      printed = rw (digits, answer) at c.put_line.ensures;
    }

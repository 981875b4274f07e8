-- `line_report::part::read_behind` meets its contract: a line that is not cut is read as it stands. Assumes nothing.
use Rattle.std.proofs.Common.{◌≡◌, ℕ, length, sym, ap, ◌∙◌, rules}
use Rattle.line_report.specs.Report.{line_part, with_characters, read_part}
use Rattle.line_report.proofs.LineSoFar.{uncut}
use Rattle.line_report.proofs.part.read_behind.Goals as goal

pub returns-then-count-eq0 : goal.returns-then-count-eq0
returns-then-count-eq0 c =
    let size : length c.args.characters ≡ 11 = search rules in
    c.read_line.ensures ∙ uncut c.args.characters _ size
    ∙ ap (λ (n : ℕ). read_part (with_characters (line_part n c.args.characters) c.args.more.now)) (sym c.if-count-eq0.true)

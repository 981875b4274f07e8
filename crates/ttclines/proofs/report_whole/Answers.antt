-- The rest of the buffer has room for a line's text for each byte of the piece, so all of the piece is used.
use Rattle.std.proofs.Common.{rules, ◌≡◌, ◌∙◌, ap, ◌-◌, ◌*◌, ◌≤◌, length, take, drop, length-drop, arith}
use Rattle.std.proofs.lemmas.List.{take_rest}
use Rattle.frame.specs.Columns.{columns_of}
use Rattle.line_report.specs.Report.{ReportDone, longest_line}
use Rattle.line_report.proofs.Work.{room_for_all}
use Rattle.ttclines.proofs.report_whole.Goals as goal

pub returns : goal.returns
returns c =
    let out = c.args.out.now in
    let rest = take (length out - c.args.from) (drop c.args.from out) in
    let size : length rest ≡ length out - c.args.from = ap length (take_rest out c.args.from) ∙ length-drop c.args.from out in
    let room : longest_line * length c.args.piece.now ≤ length rest = omega (arith, size, c.requires) in (
      ap (λ (done : ReportDone). done.answer.used) c.report_input.ensures.out_after
          ∙ room_for_all columns_of (length rest) c.args.report c.args.piece.now room,
      search rules,
    )

-- `line_report::report_line` meets its contract: it is one turn, with a line feed or without. Assumes nothing.
use Rattle.std.proofs.Common.{◌≤◌, length, sym, arith, length-take-le, rules}
use Rattle.frame.specs.Columns.{columns_of}
use Rattle.line_report.proofs.Turn.{until_le, rest_read, code_end, code_within, code_room, code_feed}
use Rattle.line_report.proofs.Turn.{code_end, code_within, code_room, code_feed}
use Rattle.line_report.proofs.report_line.Goals as goal

pub slice_bounds-rest-count : goal.slice_bounds-rest-count
slice_bounds-rest-count c = omega (arith, c.requires.0)

pub slice_bounds-rest-start : goal.slice_bounds-rest-start
slice_bounds-rest-start c = let some = c.requires.0 in search rules

pub returns-then-until-rest : goal.returns-then-until-rest
returns-then-until-rest c =
    code_end columns_of c.args.before c.args.input.now c.args.out.now c.requires.0 c.requires.1 _ _
    c.until_feed-until.ensures c.if-until-rest.true c.with_characters.ensures

pub slice_bounds-read_behind-end : goal.slice_bounds-read_behind-end
slice_bounds-read_behind-end c =
    let rest = rest_read columns_of c.args.before c.args.input.now c.args.out.now c.requires.0 c.requires.1 in
    let inside : c.until_feed-until.result ≤ length rest = omega (arith, c.until_feed-until.ensures, until_le rest) in
    sym (length-take-le _ _ inside)

pub end_line-report-requires : goal.end_line-report-requires
end_line-report-requires c =
    code_room columns_of c.args.before c.args.input.now c.args.out.now c.requires.0 c.requires.1 _
    c.until_feed-until.ensures _ c.read_behind-line.ensures

pub overflow_add-result : goal.overflow_add-result
overflow_add-result c =
    let within = code_within columns_of c.args.before c.args.input.now c.args.out.now c.requires.0 c.requires.1 _ c.until_feed-until.ensures in
    search rules

pub overflow_add-result-2 : goal.overflow_add-result-2
overflow_add-result-2 c =
    let within = code_within columns_of c.args.before c.args.input.now c.args.out.now c.requires.0 c.requires.1 _ c.until_feed-until.ensures in
    search rules

pub returns : goal.returns
returns c =
    let ended = c.end_line-report.ensures in
    let same = sym ended.printed.same_buffer in
    let turned = code_feed columns_of c.args.before c.args.input.now c.args.out.now c.requires.0 c.requires.1 _
    c.until_feed-until.ensures _ c.read_behind-line.ensures c.if-until-rest.false _ _ _ ended.left ended.printed.text_at in
    grind (arith, turned, same)

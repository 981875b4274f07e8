-- `line_report::report_end` meets its contract: the last line, then the counts. Assumes nothing.
use Rattle.std.proofs.Common.{refl, sym, ◌∙◌, arith, rules, lt-ltb}
use Rattle.line_report.proofs.Turn.{counts_room, all_ended}
use Rattle.line_report.specs.Report.{longest_end, end_work, end_wanted}
use Rattle.line_report.proofs.report_end.Goals as goal

pub returns-then-out-lt-LONGEST_END : goal.returns-then-out-lt-LONGEST_END
unfolding end_work end_wanted
returns-then-out-lt-LONGEST_END c =
    record { out_after = rw (lt-ltb _ longest_end c.if-out-lt-LONGEST_END.true) refl; written_in_bounds = search rules }

pub end_last-ended-requires : goal.end_last-ended-requires
end_last-ended-requires c = omega (arith, c.if-out-lt-LONGEST_END.false)

pub put_end-requires : goal.put_end-requires
put_end-requires c =
    let ended = c.end_last-ended in
    counts_room c.args.report ended.result c.if-out-lt-LONGEST_END.false ended.ensures.left ended.ensures.printed.text_at

pub returns : goal.returns
returns c =
    let put = c.put_end.ensures in
    let ended = c.end_last-ended in
    let all = all_ended c.args.report ended.result c.if-out-lt-LONGEST_END.false ended.ensures.left ended.ensures.printed.text_at put.printed.text_at put.within in
    let same = sym (put.printed.same_buffer ∙ ended.ensures.printed.same_buffer) in
    record { out_after = grind (arith, all.0, same); written_in_bounds = all.1 }

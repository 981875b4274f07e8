-- `line_report::report_input` meets its contract. The invariant: what comes of it all is what was to come at the beginning. Assumes nothing.
use Rattle.std.proofs.Common.{sym, refl, ◌∙◌, arith, rules}
use Rattle.frame.specs.Columns.{columns_of}
use Rattle.line_report.proofs.Turn.{all_to_do, used_up, no_more_room}
use Rattle.line_report.proofs.report_input.Goals as goal

pub loop-done-init : goal.loop-done-init
loop-done-init c = (search rules, search rules, refl, refl, refl)

pub returns : goal.returns
returns c =
    let given = c.args in
    let done = c.loop-done in record {
      out_after = sym (used_up columns_of given.report given.input.now given.out.now done.done done.out c.loop-done-test.false done.invariant.3) ∙ done.invariant.4
          ∙ all_to_do columns_of given.report given.input.now given.out.now;
      used_in_bounds = (done.invariant.0, omega (arith, done.invariant.1, done.invariant.2));
    }

pub overflow_sub-out : goal.overflow_sub-out
overflow_sub-out c = omega (arith, c.loop-done.invariant.1)

pub returns-then-out-done-lt-LONGEST_LINE : goal.returns-then-out-done-lt-LONGEST_LINE
returns-then-out-done-lt-LONGEST_LINE c =
    let given = c.args in
    let done = c.loop-done in record {
      out_after = sym (no_more_room columns_of given.report given.input.now given.out.now done.done done.out c.loop-done-test.true c.if-out-done-lt-LONGEST_LINE.true) ∙ done.invariant.4
          ∙ all_to_do columns_of given.report given.input.now given.out.now;
      used_in_bounds = (done.invariant.0, omega (arith, done.invariant.1, done.invariant.2));
    }

pub report_line-done-requires : goal.report_line-done-requires
report_line-done-requires c = (c.loop-done-test.true, omega (arith, c.if-out-done-lt-LONGEST_LINE.false, c.loop-done.invariant.1))

pub loop-done-smaller : goal.loop-done-smaller
loop-done-smaller c =
    let turned = c.report_line-done.ensures in
    omega (arith, turned.onward, turned.within)

pub loop-done-preserved : goal.loop-done-preserved
loop-done-preserved c =
    let turned = c.report_line-done in
    let inv = c.loop-done.invariant in
    (turned.ensures.within, turned.ensures.fits, turned.auto.out ∙ inv.2, turned.ensures.not_stopped, turned.ensures.same ∙ inv.4)

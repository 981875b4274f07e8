-- `line_report::text::write_decimal` meets its contract: the digits of the number without its last one, and then that one.
use Rattle.std.proofs.Common.{arith, rules}
use Rattle.line_report.proofs.Decimal.{only_room, only_stored, first_room, last_room, last_stored}
use Rattle.line_report.proofs.text.+write_decimal.Goals as goal

pub bounds-out-at : goal.bounds-out-at
bounds-out-at t c = only_room _ _ c.if-number-lt10.true c.requires

pub returns-then-number-lt10 : goal.returns-then-number-lt10
returns-then-number-lt10 t c = only_stored _ _ _ c.if-number-lt10.true

pub write_decimal-last-requires : goal.write_decimal-last-requires
write_decimal-last-requires t c =
    (omega (arith, c.decreases, c.if-number-lt10.false), first_room _ _ c.if-number-lt10.false (omega arith) c.requires)

pub bounds-out-last : goal.bounds-out-last
bounds-out-last t c = last_room _ _ c.if-number-lt10.false (omega arith) c.requires c.write_decimal-last.ensures

pub overflow_add-result-2 : goal.overflow_add-result-2
overflow_add-result-2 t c =
    let below = last_room _ _ c.if-number-lt10.false (omega arith) c.requires c.write_decimal-last.ensures in
    search rules

pub returns : goal.returns
returns t c = last_stored _ _ c.if-number-lt10.false (omega arith) c.write_decimal-last.ensures

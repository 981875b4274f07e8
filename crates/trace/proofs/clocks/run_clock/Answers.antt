-- `trace::clocks::run_clock` meets its contract: it is the unchecked step, by what the bit leaves. Assumes nothing.
use mathlib.Core.Path.{sym, ap, ◌∙◌}
use Rattle.receiver.specs.declared.ClockAnswer.{ClockAnswer}
use Rattle.receiver.proofs.Unchecked.{unfinished_step, finished_step}
use Rattle.trace.specs.Block.{trigger_bit, channel_bit}
use Rattle.trace.specs.Run.{answered_run}
use Rattle.trace.proofs.clocks.run_clock.Goals as goal

pub returns-in-Unfinished : goal.returns-in-Unfinished
returns-in-Unfinished c =
    let given = c.args in
    c.run_unfinished.ensures
    ∙ ap (λ (a : ClockAnswer). answered_run given.run given.place a given.buffer.now)
    (sym (unfinished_step _ given.run.receiver (trigger_bit given.byte) (channel_bit given.byte) _ (sym c.take_bit-taken.ensures ∙ c.in-Unfinished.is)))

pub returns-in-Short : goal.returns-in-Short
returns-in-Short c =
    let given = c.args in
    c.run_finished.ensures
    ∙ ap (λ (a : ClockAnswer). answered_run given.run given.place a given.buffer.now)
    (sym (finished_step _ given.run.receiver (trigger_bit given.byte) (channel_bit given.byte) _ _ (sym c.take_bit-taken.ensures ∙ rw c.in-Short.is at c.in-Finished.is)))

pub returns-in-Long : goal.returns-in-Long
returns-in-Long c =
    let given = c.args in
    c.run_finished-in-Long.ensures
    ∙ ap (λ (a : ClockAnswer). answered_run given.run given.place a given.buffer.now)
    (sym (finished_step _ given.run.receiver (trigger_bit given.byte) (channel_bit given.byte) _ _ (sym c.take_bit-taken.ensures ∙ rw c.in-Long.is at c.in-Finished.is)))

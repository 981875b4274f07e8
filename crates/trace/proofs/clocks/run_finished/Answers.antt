-- `trace::clocks::run_finished` meets its contract: a finished frame has a verdict other than 0, and so a record. Assumes nothing.
use mathlib.Core.Path.{◌≡◌, sym, ap₂, subst, ◌∙◌}
use mathlib.Core.Bool.{true}
use Rattle.frame.specs.Columns.{tables}
use Rattle.receiver_state.specs.declared.Held.{Held}
use Rattle.receiver_state.specs.declared.Clocked.{Clocked}
use Rattle.verdicts.specs.Finished.{finished}
use Rattle.receiver.specs.Clock.{clocked_answer}
use Rattle.trace.specs.Block.{recorded}
use Rattle.trace.specs.Run.{answered_run}
use Rattle.trace.proofs.Run.{frame_recorded, with_record_lem}
use Rattle.trace.proofs.clocks.run_finished.Goals as goal

pub returns : goal.returns
returns c =
    let held = c.held_after-held in
    let given = c.args in
    let is = c.finish-clocked.ensures ∙ ap₂ (finished given.kind) c.decode_finished-frame.ensures c.idle_clock.ensures in
    with_record_lem given.run given.place held.result c.finish-clocked.result given.buffer.now _ c.record_of.result
    (subst (λ (x : Clocked). recorded x.outputs ≡ true) (sym is) (frame_recorded (tables given.columns) given.kind given.number _))
    c.record_of.ensures
    c.add_record.ensures
    ∙ ap₂ (λ (h : Held) (x : Clocked). answered_run given.run given.place (clocked_answer h x) given.buffer.now) held.ensures is

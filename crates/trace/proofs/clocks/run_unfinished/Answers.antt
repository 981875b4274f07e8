-- `trace::clocks::run_unfinished` meets its contract: with no verdict, a trigger alone makes a record. Assumes nothing.
use mathlib.Core.Path.{◌≡◌, refl, sym, ap, subst, ◌∙◌}
use mathlib.Core.Bool.{true, false}
use native.Mathlib.Omega.{arith}
use Rattle.receiver_state.specs.declared.Clocked.{Clocked}
use Rattle.idle_clock.specs.IdleClock.{idle_clock}
use Rattle.receiver.specs.Clock.{clocked_answer}
use Rattle.trace.specs.Block.{recorded}
use Rattle.trace.specs.Run.{answered_run}
use Rattle.trace.proofs.Run.{trigger_recorded, nothing_recorded, with_record_lem, without_record}
use Rattle.trace.proofs.clocks.run_unfinished.Goals as goal

pub returns-then-trigger-eq1 : goal.returns-then-trigger-eq1
returns-then-trigger-eq1 c =
    let given = c.args in
    let idle = c.idle_clock-idle in
    let core = given.run.receiver.core in
    let is = idle.ensures ∙ ap (idle_clock core) c.if-trigger-eq1.true in
    with_record_lem given.run given.place given.held idle.result given.buffer.now _ c.record_of.result
    (subst (λ (x : Clocked). recorded x.outputs ≡ true) (sym is) (trigger_recorded core))
    c.record_of.ensures
    c.add_record.ensures
    ∙ ap (λ (x : Clocked). answered_run given.run given.place (clocked_answer given.held x) given.buffer.now) idle.ensures

pub returns : goal.returns
returns c =
    let given = c.args in
    let idle = c.idle_clock-idle in
    let core = given.run.receiver.core in
    let none : given.trigger ≡ 0 = omega (arith, c.if-trigger-eq1.false, c.requires.0) in
    let is = idle.ensures ∙ ap (idle_clock core) none in
    without_record given.run given.place given.held idle.result given.buffer.now _
    (subst (λ (x : Clocked). recorded x.outputs ≡ false) (sym is) (nothing_recorded core))
    refl
    ∙ ap (λ (x : Clocked). answered_run given.run given.place (clocked_answer given.held x) given.buffer.now) idle.ensures

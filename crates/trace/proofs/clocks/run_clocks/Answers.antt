-- `trace::clocks::run_clocks` meets its contract. The invariant: the clocks still to come leave what all of them leave. Assumes nothing.
use mathlib.Core.Path.{refl, sym, ap, ◌∙◌}
use mathlib.Core.List.{List}
use Prim.Native.Nat.{ℕ}
use native.Mathlib.Omega.{arith}
use lib.ListN.{drop_of_length-le}
use Rattle.frame.specs.Columns.{tables}
use Rattle.trace.specs.Run.{clocks_run}
use borrow.Author.Rules.{rules}
use Rattle.trace.proofs.clocks.run_clocks.Goals as goal

pub loop-progress-init : goal.loop-progress-init
loop-progress-init c = (c.requires.0, refl, refl)

pub advance-progress-requires : goal.advance-progress-requires
advance-progress-requires c =
    let inv = c.loop-progress.invariant in
    (inv.0, c.loop-progress-test.true, omega (arith, inv.1, c.requires.1))

pub loop-progress-smaller : goal.loop-progress-smaller
loop-progress-smaller c = let turned = c.advance-progress.ensures in omega (arith, turned.onward, turned.going.within)

pub loop-progress-preserved : goal.loop-progress-preserved
loop-progress-preserved c =
    let inv = c.loop-progress.invariant in
    let turn = c.advance-progress in
    (turn.ensures.going, turn.auto.buffer ∙ inv.1, turn.ensures.same ∙ inv.2)

pub returns : goal.returns
unfolding clocks_run
returns c =
    let last = c.loop-progress in
    let given = c.args in
    ap (λ (bytes : List ℕ). clocks_run (tables given.columns) last.progress.next last.progress.run bytes last.buffer) (sym (drop_of_length-le given.block.now {i = last.progress.next} (search rules)))
    ∙ last.invariant.2

-- `trace::clocks::run_rest` meets its contract. The invariant: the clocks passed were at rest, and all but what is held is as at the first of
-- them, but for the bunch counter. Assumes nothing.
use mathlib.Core.Path.{◌≡◌, sym, subst, ◌∙◌}
use lib.ListN.{length}
use native.Mathlib.Omega.{arith}
use Rattle.trace.proofs.Rest.{RestTo, rest_first, rest_next, rest_last}
use Rattle.trace.proofs.clocks.run_rest.Goals as goal

pub loop-at-init : goal.loop-at-init
loop-at-init c = rest_first _ _ c.requires.0

pub after_rest-requires : goal.after_rest-requires
after_rest-requires c = c.loop-at.invariant.low

pub returns-then-byte-eq1 : goal.returns-then-byte-eq1
returns-then-byte-eq1 c = let at = c.loop-at in rest_last _ _ at.held at.at c.requires.0 at.invariant _ c.after_rest.ensures

pub after_rest-requires-in_default : goal.after_rest-requires-in_default
after_rest-requires-in_default c = c.loop-at.invariant.low

pub returns-in_default : goal.returns-in_default
returns-in_default c = let at = c.loop-at in rest_last _ _ at.held at.at c.requires.0 at.invariant _ c.after_rest-in_default.ensures

pub loop-at-preserved : goal.loop-at-preserved
loop-at-preserved c =
    let no = c.if-byte-eq1.false in
    rest_next _ c.args.block.now c.requires.0.is_well_formed c.loop-at.held _ c.loop-at.at c.loop-at.invariant c.requires.1
    c.loop-at-test.true
    (omega (arith, no))
    (sym c.take_bit.ensures ∙ c.in-Unfinished.is)

pub after_rest-requires-2 : goal.after_rest-requires-2
after_rest-requires-2 c = c.requires.0.within

pub returns : goal.returns
returns c = let at = c.loop-at in let end : at.at ≡ length c.args.block.now = omega (arith, at.invariant.high, at.auto.at-end, c.requires.0.within) in rest_last _ _ at.held _ c.requires.0 (subst (RestTo c.args.progress c.args.block.now at.held) end at.invariant) _ c.after_rest-2.ensures

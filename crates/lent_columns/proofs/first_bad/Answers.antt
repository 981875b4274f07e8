-- `lent_columns::first_bad` meets its contract. The invariant: the columns so far are good, the flags are of their numbers, and the first bad column
-- is still to come. Assumes nothing.
use mathlib.Core.Path.{◌≡◌, ◌∙◌}
use mathlib.Core.Bool.{false}
use mathlib.Core.List.{[]}
use native.Mathlib.Nat.{zero-add}
use native.Mathlib.Omega.{arith}
use lib.ListN.{length}
use Rattle.std.proofs.lemmas.List.{get_or-replicate, length-replicate}
use Rattle.laws.specs.OneOf.{one_of}
use Rattle.laws.proofs.Rules.{said}
use Rattle.lent_columns.proofs.Taken.{has_a_flag, stops_bad, stops_taken, goes_on, ends}
use Rattle.lent_columns.proofs.first_bad.Goals as goal

pub loop-at-init : goal.loop-at-init
unfolding one_of
loop-at-init c = record { earlier = []; flags = λ n l. get_or-replicate 128 n _ _ l; size = length-replicate 128 false; to_come = zero-add _ }

pub returns-then-not-is_good-clause-index : goal.returns-then-not-is_good-clause-index
returns-then-not-is_good-clause-index c =
    stops_bad _ _ _ c.loop-at.at c.loop-at.invariant c.loop-at-test.true (said _ _ _ c.is_good.ensures c.if-not-is_good.true)

pub bounds-taken-number : goal.bounds-taken-number
bounds-taken-number c = rw c.from-number.ensures (has_a_flag c.args.kind _ (said _ _ _ c.is_good.ensures c.if-not-is_good.false))

pub returns-then-taken-number-clause-index : goal.returns-then-taken-number-clause-index
returns-then-taken-number-clause-index c =
    let good = said _ _ _ c.is_good.ensures c.if-not-is_good.false in
    stops_taken _ _ _ c.loop-at.at c.loop-at.invariant c.loop-at-test.true (has_a_flag c.args.kind _ good) (rw c.from-number.ensures at c.if-taken-number.true)

pub bounds-taken-number-in-loop-at : goal.bounds-taken-number-in-loop-at
bounds-taken-number-in-loop-at c = rw c.from-number.ensures (has_a_flag c.args.kind _ (said _ _ _ c.is_good.ensures c.if-not-is_good.false))

pub loop-at-preserved : goal.loop-at-preserved
loop-at-preserved c =
    let good = said _ _ _ c.is_good.ensures c.if-not-is_good.false in
    rw c.from-number.ensures
    (goes_on _ _ _ c.loop-at.at c.loop-at.invariant c.loop-at-test.true (has_a_flag c.args.kind _ good) good
    (rw c.from-number.ensures at c.if-taken-number.false))

pub returns-clause-index : goal.returns-clause-index
returns-clause-index c =
    let whole : length c.args.columns.now ≡ c.loop-at.at = omega (arith, c.loop-at.auto.at-end, c.loop-at-test.false) in
    whole ∙ ends _ _ _ c.loop-at.at c.loop-at.invariant c.loop-at-test.false

-- `stored_line::hex_number` meets its contract. The invariant: the number so far, with the digits that are left, is the number of all, and
-- all are digits exactly if those that are left are. Assumes nothing.
use mathlib.Core.Path.{refl, sym, ap, ◌∙◌}
use Prim.Native.Nat.{◌≤◌}
use native.Mathlib.Omega.{arith}
use Rattle.std.specs.Prelude.{Some, None}
use Rattle.laws.proofs.Rules.{pick_yes, pick_no}
use Rattle.stored_line.specs.Digits.{hex_answer}
use Rattle.stored_line.proofs.Digits.{told, below_tenth, below_next, number_on, number_end, digits_on, digits_off, digits_end}
use Rattle.stored_line.proofs.hex_number.Goals as goal

pub returns-in_err-digit : goal.returns-in_err-digit
unfolding hex_answer
returns-in_err-digit c = let turn = c.loop-character in
    c.from_residual.ensures
    ∙ pick_no _ _ _ _
    (sym turn.invariant.2 ∙ digits_off _ turn.character-index c.loop-character-test.true (told _ None c.in_err-digit.ensures)) refl

pub overflow_add-number : goal.overflow_add-number
overflow_add-number c =
    omega (arith, below_tenth _ _ _ c.loop-character.invariant.0 c.loop-character-test.true c.requires, (told _ (Some _) c.in_ok-digit.ensures).1, c.from.ensures)

pub loop-character-preserved : goal.loop-character-preserved
loop-character-preserved c = let turn = c.loop-character in
    let more = c.loop-character-test.true in
    let digit = told _ (Some _) c.in_ok-digit.ensures in
    let value = c.from.ensures ∙ digit.0 in
    let small : c.from.result ≤ 15 = omega (arith, digit.1, c.from.ensures) in (
      below_next turn.number turn.character-index _ turn.invariant.0 small,
      number_on _ turn.number turn.character-index _ more value ∙ turn.invariant.1,
      digits_on _ turn.character-index _ more value small ∙ turn.invariant.2,
    )

pub returns : goal.returns
unfolding hex_answer
returns c = let inv = c.loop-character.invariant in
    pick_yes _ _ _ _ (sym inv.2 ∙ digits_end _ _ c.loop-character-test.false) (ap Some (sym (number_end _ _ _ c.loop-character-test.false) ∙ inv.1))

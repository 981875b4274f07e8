-- The remainder of an integer is the mathematical one, by cases of the integer's sign. Assumes nothing.
use Prim.Native.Nat.{ℕ, zero, suc, ◌+◌, ◌-◌, ◌*◌, ◌/◌, ◌%◌, ◌<◌}
use mathlib.Core.Path.{◌≡◌, sym, ap, ◌∙◌}
use native.Mathlib.Nat.{mod-lt, mod-eq_of_lt, add-suc, suc-mul, div-add-mod', mul-add-mod_self_right, not-suc-le-zero}
use native.Mathlib.Omega.{arith}
use borrow.Author.Tests.{lt-ltb}
use lib.IntN.{ℤ, pos, negsuc, ◌+ℤ◌, ◌*ℤ◌}
use Rattle.laws.specs.Remainder.{◌%ℤ◌, BelowModulus, MultipleAndRemainder, NoOtherRemainder}

-- −(a + 1) times d, and r more
negative : (a d r : ℕ) → r < d → negsuc a *ℤ pos d +ℤ pos r ≡ negsuc (a * d + (d - suc r))
negative a zero r h = absurd (not-suc-le-zero h)
negative a (suc d) r h =
    let product : suc a * suc d ≡ suc (a * suc d + d) = suc-mul a (suc d) ∙ add-suc (a * suc d) d in
    rw product (rw (lt-ltb r (suc (a * suc d + d)) (omega arith)) (ap negsuc (omega arith)))

-- the remainder of a natural number that is a times d, and r more
left : (a d r : ℕ) → r < d → (a * d + r) % d ≡ r
left a d r h = mul-add-mod_self_right a d r ∙ mod-eq_of_lt h

pub below_modulus : BelowModulus
below_modulus (pos n) d h = mod-lt n h
below_modulus (negsuc n) d h = omega arith

pub multiple_and_remainder : MultipleAndRemainder
multiple_and_remainder (pos n) d h = (pos (n / d), ap pos (sym (div-add-mod' n d)))
multiple_and_remainder (negsuc n) d h =
    let below : n % d < d = mod-lt n h in
    let whole : n / d * d + n % d ≡ n = div-add-mod' n d in
    (negsuc (n / d), sym (negative (n / d) d _ (omega arith) ∙ ap negsuc (omega arith)))

pub no_other_remainder : NoOtherRemainder
no_other_remainder (pos a) d r h = left a d r h
no_other_remainder (negsuc a) d r h =
    ap (λ (z : ℤ). z %ℤ d) (negative a d r h) ∙ ap (λ (m : ℕ). d - suc m) (left a d (d - suc r) (omega arith)) ∙ omega arith

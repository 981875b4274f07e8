-- Document 01, "Where to use each form": "a mathematical remainder" of an integer: never negative, also where the integer is.
-- Proved in proofs/Remainder.antt.
use Rattle.std.specs.Prelude.{ℕ, suc, ◌-◌, ◌%◌, ◌<◌, ◌≡◌, ℤ, pos, negsuc, ◌+ℤ◌, ◌*ℤ◌}

-- `pos n` is n, `negsuc n` is −(n + 1)
infixl 70 ◌%ℤ◌
abbrev pub ◌%ℤ◌ : ℤ → ℕ → ℕ
pos n %ℤ modulus = n % modulus
negsuc n %ℤ modulus = modulus - suc (n % modulus)

-- it is below the modulus
abbrev pub BelowModulus : Type 0
BelowModulus = (z : ℤ) (modulus : ℕ) → 0 < modulus → z %ℤ modulus < modulus

-- each integer is a multiple of the modulus plus the integer's remainder
abbrev pub MultipleAndRemainder : Type 0
MultipleAndRemainder = (z : ℤ) (modulus : ℕ) → 0 < modulus → (q : ℤ) × (z ≡ q *ℤ pos modulus +ℤ pos (z %ℤ modulus))

-- no other number is both: a multiple of the modulus plus a number r below the modulus has the remainder r
abbrev pub NoOtherRemainder : Type 0
NoOtherRemainder = (q : ℤ) (modulus r : ℕ) → r < modulus → (q *ℤ pos modulus +ℤ pos r) %ℤ modulus ≡ r

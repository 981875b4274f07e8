-- With the 14 added first the rule needs no negative number, by the laws of sums of integers. Assumes nothing.
use Prim.Native.Nat.{ℕ, ◌+◌, ◌-◌, ◌*◌, ◌/◌, ◌%◌, ◌≤◌}
use mathlib.Core.Path.{◌≡◌, sym, ap, ◌∙◌}
use native.Mathlib.Omega.{arith}
use lib.IntN.{ℤ, pos, neg_ℤ, ◌+ℤ◌, ◌-ℤ◌, +ℤ_assoc, +ℤ_comm, +ℤ-neg_ℤ_cancel}
use Rattle.laws.specs.Remainder.{◌%ℤ◌}
use Rattle.fine_delay.specs.Delay.{byte_of}
use Rattle.fine_delay.specs.Naturals.{ByteInNaturals}

-- a − n + b, where b is at least n
added_first : (a n b : ℕ) → n ≤ b → pos a -ℤ pos n +ℤ pos b ≡ pos (a + b - n)
added_first a n b h =
    let whole : a + b ≡ a + b - n + n = omega arith in
    +ℤ_assoc (pos a) (neg_ℤ (pos n)) (pos b) ∙ ap (λ (z : ℤ). pos a +ℤ z) (+ℤ_comm (neg_ℤ (pos n)) (pos b))
    ∙ sym (+ℤ_assoc (pos a) (pos b) (neg_ℤ (pos n))) ∙ ap (λ (s : ℕ). pos s -ℤ pos n) whole ∙ +ℤ-neg_ℤ_cancel (pos (a + b - n)) (pos n)

pub byte_in_naturals : ByteInNaturals
unfolding byte_of
byte_in_naturals k = ap (λ (z : ℤ). 16 * (k % 15) + z %ℤ 16) (added_first (k / 15) (k % 15) 14 (omega arith))

-- Integers as the code holds them, in an i32: how large sums and differences get, and that a difference is loaded as it was stored.
-- `mag z` is n both for n and for −(n + 1), as in the kit. Assumes nothing.
use Prim.Native.Nat.{ℕ, zero, suc, ◌+◌, ◌<◌, ◌≤◌, ◌^◌, zero-le}
use mathlib.Core.Path.{◌≡◌, ◌∙◌, subst⁻¹}
use native.Mathlib.Nat.{le-suc}
use native.Mathlib.Omega.{arith}
use lib.Dec.{ltb}
use lib.IntN.{ℤ, pos, negsuc, neg_ℤ, ◌+ℤ◌, ◌-ℤ◌}
use lib.Signed.{mag}
use mir.Syntax.{w32}
use mir.Val.{to_z, of_z, SFits}
use mir.ValLaws.{to_z-of_z, to_z_pos}
use Rattle.laws.proofs.Rules.{picked}

abbrev pub loaded : ℤ → ℤ
loaded z = to_z w32 (of_z w32 z)

-- ---- how large

pub mag_negative : (n : ℕ) → mag (neg_ℤ (pos n)) ≤ n
mag_negative zero = zero-le
mag_negative (suc n) = le-suc n

mag_sum : (x y : ℤ) → mag (x +ℤ y) ≤ suc (mag x + mag y)
mag_sum (pos a) (pos b) = omega arith
mag_sum (pos a) (negsuc b) = picked (λ (z : ℤ). mag z ≤ suc (a + b)) (ltb a (suc b)) (omega arith) (omega arith)
mag_sum (negsuc a) (pos b) = picked (λ (z : ℤ). mag z ≤ suc (a + b)) (ltb b (suc a)) (omega arith) (omega arith)
mag_sum (negsuc a) (negsuc b) = omega arith

mag_difference : (a b : ℕ) → mag (pos a -ℤ pos b) ≤ suc (a + b)
mag_difference a b = omega (arith, mag_sum (pos a) (neg_ℤ (pos b)), mag_negative b)

pub sum_fits : (x : ℤ) (c : ℕ) → mag x < 2 ^ 16 → c < 2 ^ 16 → SFits w32 (x +ℤ pos c)
sum_fits x c h g = record { sfits = omega (arith, mag_sum x (pos c)) }

-- ---- a − b, of numbers of 8 bits

module _ {a b : ℕ} (small_a : a < 2 ^ 8) (small_b : b < 2 ^ 8) where
  difference : to_z w32 a -ℤ to_z w32 b ≡ pos a -ℤ pos b
  difference = rw (to_z_pos w32 a (omega arith)) (rw (to_z_pos w32 b (omega arith)))

  pub difference_fits : SFits w32 (to_z w32 a -ℤ to_z w32 b)
  difference_fits = subst⁻¹ (SFits w32) difference (record { sfits = omega (arith, mag_difference a b) })

  pub difference_loaded : loaded (to_z w32 a -ℤ to_z w32 b) ≡ pos a -ℤ pos b
  difference_loaded = to_z-of_z w32 (to_z w32 a -ℤ to_z w32 b) difference_fits ∙ difference

  pub difference_small : mag (loaded (to_z w32 a -ℤ to_z w32 b)) < 2 ^ 16
  difference_small = rw difference_loaded (omega (arith, mag_difference a b))

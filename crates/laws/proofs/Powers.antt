-- Powers of two: numbers with one bit that is 1. Assumes nothing.
use mathlib.Core.Path.{◌≡◌, refl, sym, ap, ap₂, ◌∙◌}
use Prim.Native.Nat.{ℕ, zero, suc, ◌/◌, ◌%◌, ◌^◌, ◌<◌}
use native.Mathlib.Nat.{pow-suc, not-suc-le-zero, lt_of_not-le, not-le_of_lt}
use native.Mathlib.Omega.{arith}
use lib.Arith.{bin_ind}
use lib.Pow.{pow_mono}
use lib.Count.{ones, ones_step, under, count_trailing_zeros}
use Rattle.laws.specs.LowestOne.{lowest_one}
use Rattle.laws.proofs.Xor.{ones_zero}

pub pow_half : (i : ℕ) → 2 ^ suc i / 2 ≡ 2 ^ i
pow_half i = omega (arith, pow-suc 2 i)

pub pow_even : (i : ℕ) → 2 ^ suc i % 2 ≡ 0
pow_even i = omega (arith, pow-suc 2 i)

pub pow_inj : (i j : ℕ) → 2 ^ i ≡ 2 ^ j → i ≡ j
pow_inj zero zero e = refl
pow_inj zero (suc j) e = omega (arith, pow-suc 2 j)
pow_inj (suc i) zero e = omega (arith, pow-suc 2 i)
pow_inj (suc i) (suc j) e = ap suc (pow_inj i j (omega (arith, pow-suc 2 i, pow-suc 2 j)))

pub pow_below : (i j : ℕ) → 2 ^ i < 2 ^ j → i < j
pow_below i j h = lt_of_not-le (λ l. not-le_of_lt h (pow_mono l))

-- ---- one bit that is 1

pub ones_pow : (j : ℕ) → ones (2 ^ j) ≡ 1
unfolding ones
ones_pow zero = refl
ones_pow (suc j) = omega (arith, ones_step (2 ^ suc j), pow_even j, ap ones (pow_half j), ones_pow j)

no_ones : (n : ℕ) → ones n ≡ 0 → n ≡ 0
no_ones =
    bin_ind (λ (n : ℕ). ones n ≡ 0 → n ≡ 0) (λ e. refl)
    (λ n ih e. let h : n / 2 ≡ 0 = ih (omega (arith, ones_step n)) in omega (arith, ones_step n))

-- ---- its place

below_itself : (j : ℕ) → j < 2 ^ j
below_itself zero = omega arith
below_itself (suc j) = omega (arith, pow-suc 2 j, below_itself j)

trailing_pow : (k j : ℕ) → j < k → count_trailing_zeros k (2 ^ j) ≡ j
unfolding count_trailing_zeros
trailing_pow zero j h = absurd (not-suc-le-zero h)
trailing_pow (suc k) zero h = refl
trailing_pow (suc k) (suc j) h =
    ap₂ (λ (b n : ℕ). under b (count_trailing_zeros k n)) (pow_even j) (pow_half j) ∙ ap suc (trailing_pow k j (omega arith))

lowest_pow : (j : ℕ) → lowest_one (2 ^ j) ≡ j
unfolding lowest_one
lowest_pow j = trailing_pow (2 ^ j) j (below_itself j)

-- a number with one bit that is 1 is the power at that bit's place
one_bit : (n : ℕ) → ones n ≡ 1 → (j : ℕ) × (n ≡ 2 ^ j)
one_bit = bin_ind (λ (n : ℕ). ones n ≡ 1 → (j : ℕ) × (n ≡ 2 ^ j)) (λ e. absurd (omega (arith, ones_zero))) step
  where
    step : (n : ℕ) → (ones (n / 2) ≡ 1 → (j : ℕ) × (n / 2 ≡ 2 ^ j)) → ones n ≡ 1 → (j : ℕ) × (n ≡ 2 ^ j)
    step n ih e = by_low (n % 2) refl
      where
        by_low : (b : ℕ) → n % 2 ≡ b → (j : ℕ) × (n ≡ 2 ^ j)
        by_low zero l =
            let r = ih (omega (arith, ones_step n)) in
            let h : n / 2 ≡ 2 ^ r.0 = r.1 in
            (suc r.0, omega (arith, pow-suc 2 r.0))
        by_low (suc b) l =
            let h : n / 2 ≡ 0 = no_ones (n / 2) (omega (arith, ones_step n)) in
            (0, omega arith)

pub one_bit_place : (n : ℕ) → ones n ≡ 1 → n ≡ 2 ^ lowest_one n
one_bit_place n e =
    let r = one_bit n e in
    r.1 ∙ ap (λ (j : ℕ). 2 ^ j) (sym (ap lowest_one r.1 ∙ lowest_pow r.0))

-- the machine's count of the zeros below it, in a number of k bits
pub one_bit_trailing : (k n : ℕ) → n < 2 ^ k → ones n ≡ 1 → count_trailing_zeros k n ≡ lowest_one n
one_bit_trailing k n h e =
    let p = one_bit_place n e in
    ap (count_trailing_zeros k) p ∙ trailing_pow k (lowest_one n) (pow_below (lowest_one n) k (rw p at h))

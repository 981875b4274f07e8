-- Laws of the exclusive-or that the library leaves out. Each goes by the lowest bit and the rest. Assumes nothing.
use mathlib.Core.Path.{◌≡◌, refl, sym, ap, ap₂, ◌∙◌}
use Prim.Native.Nat.{ℕ, zero, suc, ◌+◌, ◌*◌, ◌/◌, ◌%◌, ◌^◌, ◌<◌}
use native.Mathlib.Nat.{add-zero, zero-add, zero-mul, mul_comm}
use native.Mathlib.Omega.{arith}
use lib.Arith.{bin_ind}
use lib.Bits as library
use lib.Bits.{bit_xor, differ, xor_step, xor_shr, xor_comm, xor_self, xor_zero_r, xor_block}
use lib.Pow.{pow_pos, pow-lt, pow-add}
use lib.Count.{ones, ones_step}

-- ---- the lowest bit and the rest

differ_sum : (x y : ℕ) → x < 2 → y < 2 → differ x y ≡ (x + y) % 2
differ_sum zero zero h k = refl
differ_sum zero (suc zero) h k = refl
differ_sum zero (suc (suc y)) h k = omega arith
differ_sum (suc zero) zero h k = refl
differ_sum (suc zero) (suc zero) h k = refl
differ_sum (suc zero) (suc (suc y)) h k = omega arith
differ_sum (suc (suc x)) y h k = omega arith

pub xor_half : (a b : ℕ) → bit_xor a b / 2 ≡ bit_xor (a / 2) (b / 2)
xor_half a b = xor_shr a b 1

pub xor_low : (a b : ℕ) → bit_xor a b % 2 ≡ (a + b) % 2
xor_low a b =
    let d : differ (a % 2) (b % 2) ≡ (a % 2 + b % 2) % 2 = differ_sum (a % 2) (b % 2) (omega arith) (omega arith) in
    let s : bit_xor a b ≡ bit_xor (a / 2) (b / 2) * 2 + differ (a % 2) (b % 2) = xor_step a b in
    omega arith

parity_right : (x y z : ℕ) → x % 2 ≡ y % 2 → (z + x) % 2 ≡ (z + y) % 2
parity_right x y z h = omega arith

-- ---- associative, and each number its own inverse

pub xor_assoc : (a b c : ℕ) → bit_xor (bit_xor a b) c ≡ bit_xor a (bit_xor b c)
xor_assoc = library.xor_assoc

pub xor_back : (a b : ℕ) → bit_xor (bit_xor a b) b ≡ a
xor_back a b = xor_assoc a b b ∙ ap (λ (x : ℕ). bit_xor a x) (xor_self b) ∙ xor_zero_r a

pub xor_zero_eq : (a b : ℕ) → bit_xor a b ≡ 0 → a ≡ b
xor_zero_eq a b e = sym (xor_back a b) ∙ ap (λ (x : ℕ). bit_xor x b) e

-- the last two change places
pub xor_last : (a b c : ℕ) → bit_xor (bit_xor a b) c ≡ bit_xor (bit_xor a c) b
xor_last a b c = xor_assoc a b c ∙ ap (bit_xor a) (xor_comm b c) ∙ sym (xor_assoc a c b)

-- the inner two change places
pub xor_swap : (a b c d : ℕ) → bit_xor (bit_xor a b) (bit_xor c d) ≡ bit_xor (bit_xor a c) (bit_xor b d)
xor_swap a b c d =
    sym (xor_assoc (bit_xor a b) c d) ∙ ap (λ (x : ℕ). bit_xor x d) (xor_last a b c) ∙ xor_assoc (bit_xor a c) b d

-- ---- the parity of the ones

pub ones_zero : ones 0 ≡ 0
unfolding ones
ones_zero = refl

pub ones_xor : (a b : ℕ) → ones (bit_xor a b) % 2 ≡ (ones a + ones b) % 2
ones_xor =
    bin_ind (λ (a : ℕ). (b : ℕ) → ones (bit_xor a b) % 2 ≡ (ones a + ones b) % 2)
    (λ b. omega (arith, ones_zero))
    (λ a ih b. ap (λ (x : ℕ). x % 2) (ones_step (bit_xor a b) ∙ ap₂ (λ (x y : ℕ). x + ones y) (xor_low a b) (xor_half a b))
    ∙ parity_right (ones (bit_xor (a / 2) (b / 2))) (ones (a / 2) + ones (b / 2)) ((a + b) % 2) (ih (b / 2))
    ∙ digits a b (ones (a / 2)) (ones (b / 2))
    ∙ ap₂ (λ (x y : ℕ). (x + y) % 2) (sym (ones_step a)) (sym (ones_step b)))
  where
    digits : (p q x y : ℕ) → ((p + q) % 2 + (x + y)) % 2 ≡ ((p % 2 + x) + (q % 2 + y)) % 2
    digits p q x y = omega arith

-- ---- one bit flipped in a number of a high part and k low bits

-- a low one
pub xor_low_bit : (k hi lo j : ℕ) → lo < 2 ^ k → j < k → bit_xor (hi * 2 ^ k + lo) (2 ^ j) ≡ hi * 2 ^ k + bit_xor lo (2 ^ j)
xor_low_bit k hi lo j h l =
    ap (bit_xor (hi * 2 ^ k + lo)) (sym (zero-add (2 ^ j)) ∙ ap (λ (x : ℕ). x + 2 ^ j) (sym (zero-mul (2 ^ k))))
    ∙ xor_block k hi 0 lo (2 ^ j) h (pow-lt l)
    ∙ ap (λ (x : ℕ). x * 2 ^ k + bit_xor lo (2 ^ j)) (xor_zero_r hi)

-- a bit of the high part
pub xor_high_bit : (k hi lo i : ℕ) → lo < 2 ^ k → bit_xor (hi * 2 ^ k + lo) (2 ^ (k + i)) ≡ bit_xor hi (2 ^ i) * 2 ^ k + lo
xor_high_bit k hi lo i h =
    ap (bit_xor (hi * 2 ^ k + lo)) (pow-add 2 k i ∙ mul_comm (2 ^ k) (2 ^ i) ∙ sym (add-zero (2 ^ i * 2 ^ k)))
    ∙ xor_block k hi (2 ^ i) lo 0 h (pow_pos k)
    ∙ ap (λ (x : ℕ). bit_xor hi (2 ^ i) * 2 ^ k + x) (xor_zero_r lo)

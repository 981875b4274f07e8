-- A bit at its place: in the frame number, and in the order sent. Assumes nothing.
use mathlib.Core.Path.{◌≡◌, refl, sym, ap, ap₂, ◌∙◌}
use mathlib.Core.List.{List, [], ◌∷◌, ◌++◌}
use Prim.Native.Nat.{ℕ, zero, suc, ◌+◌, ◌-◌, ◌/◌, ◌%◌, ◌^◌, ◌<◌}
use native.Mathlib.Omega.{arith}
use borrow.Author.Tests.{ne_eqb}
use lib.Bits.{bit_xor, xor_zero_r}
use lib.ListN.{length}
use Rattle.laws.proofs.Xor.{xor_half, xor_low, xor_back}
use Rattle.laws.proofs.Powers.{pow_half, pow_even}
use Rattle.hamming.specs.declared.WrongBit.{WrongBit}
use Rattle.hamming.specs.declared.WrongBit.TheVariants.{Check, Data}
use Rattle.std.specs.declared.option.Option.{Option}
use Rattle.std.specs.declared.option.Option.TheVariants.{Some, None}
use Rattle.hamming.specs.Correction.{NoneOrProtected}
use Rattle.frame.specs.declared.Kind.{Kind}
use Rattle.frame.specs.Numbers.{data_bits, check_bits, frame_bits}
use Rattle.frame.specs.Bits.{bits_of}
use Rattle.frame.specs.Place.{place_in, flip_at, flipped_in, InOrderSent}
use Rattle.frame.specs.Frames.{flip_protected, FlipsAtPlace}
use Rattle.frame.proofs.Bits.{bits_law}

-- ---- in the frame number

pub flips_at_place : (kind : Kind) → FlipsAtPlace kind
unfolding flip_at
flips_at_place kind number None b = refl
flips_at_place kind number (Some (Check j)) b =
    let some : place_in kind (Some (Check j)) ≡ 0 → ⊥ = λ e. omega arith in
    rw (ne_eqb (place_in kind (Some (Check j))) 0 some) (ap (λ (k : ℕ). bit_xor number (2 ^ k)) (omega arith))
flips_at_place kind number (Some (Data i)) b =
    let some : place_in kind (Some (Data i)) ≡ 0 → ⊥ = λ e. omega arith in
    rw (ne_eqb (place_in kind (Some (Data i))) 0 some) (ap (λ (k : ℕ). bit_xor number (2 ^ k)) (omega arith))

-- flipped there again, a number is as it was
pub flipped_back : (kind : Kind) (number : ℕ) (p : Option WrongBit) → NoneOrProtected (data_bits kind) (check_bits kind) p
    → flip_at kind (place_in kind p) (flip_protected kind p number) ≡ number
flipped_back kind number p b = flips_at_place kind (flip_protected kind p number) p b ∙ twice p
  where
    twice : (q : Option WrongBit) → flip_protected kind q (flip_protected kind q number) ≡ number
    twice None = refl
    twice (Some (Check j)) = xor_back number (2 ^ (1 + j))
    twice (Some (Data i)) = xor_back number (2 ^ (1 + check_bits kind + i))

-- ---- in the order sent

-- the last bit of a list, and one before it
flipped_last : (bits : List ℕ) (b : ℕ) → flipped_in (length bits) (bits ++ (b ∷ [])) ≡ bits ++ ((1 - b) ∷ [])
flipped_last [] b = refl
flipped_last (x ∷ xs) b = ap (λ (rest : List ℕ). x ∷ rest) (flipped_last xs b)

flipped_front : (bits : List ℕ) (i b : ℕ) → i < length bits → flipped_in i (bits ++ (b ∷ [])) ≡ flipped_in i bits ++ (b ∷ [])
flipped_front [] i b h = absurd (omega arith)
flipped_front (x ∷ xs) zero b h = refl
flipped_front (x ∷ xs) (suc i) b h = ap (λ (rest : List ℕ). x ∷ rest) (flipped_front xs i b (omega arith))

-- a bit of the number is the bit as far from the end
bit_flipped : (n k number : ℕ) → k < n → bits_of n (bit_xor number (2 ^ k)) ≡ flipped_in (n - 1 - k) (bits_of n number)
unfolding bits_of
bit_flipped zero k number h = absurd (omega arith)
bit_flipped (suc n) zero number h =
    ap₂ (λ (x b : ℕ). bits_of n x ++ (b ∷ [])) upper low
    ∙ sym (flipped_last (bits_of n (number / 2)) (number % 2))
    ∙ ap (λ (i : ℕ). flipped_in i (bits_of (suc n) number)) index
  where
    upper : bit_xor number 1 / 2 ≡ number / 2
    upper = xor_half number 1 ∙ xor_zero_r (number / 2)

    low : bit_xor number 1 % 2 ≡ 1 - number % 2
    low = omega (arith, xor_low number 1)

    index : length (bits_of n (number / 2)) ≡ suc n - 1 - 0
    index = omega (arith, bits_law.count n (number / 2))
bit_flipped (suc n) (suc k) number h =
    ap₂ (λ (bits : List ℕ) (b : ℕ). bits ++ (b ∷ [])) (ap (bits_of n) upper ∙ bit_flipped n k (number / 2) below) low
    ∙ sym (flipped_front (bits_of n (number / 2)) (n - 1 - k) (number % 2) (omega (arith, bits_law.count n (number / 2))))
    ∙ ap (λ (i : ℕ). flipped_in i (bits_of (suc n) number)) index
  where
    below : k < n
    below = omega arith

    upper : bit_xor number (2 ^ suc k) / 2 ≡ bit_xor (number / 2) (2 ^ k)
    upper = xor_half number (2 ^ suc k) ∙ ap (bit_xor (number / 2)) (pow_half k)

    low : bit_xor number (2 ^ suc k) % 2 ≡ number % 2
    low = omega (arith, xor_low number (2 ^ suc k), pow_even k)

    index : n - 1 - k ≡ suc n - 1 - suc k
    index = omega arith

pub in_order_sent : InOrderSent
unfolding flip_at
in_order_sent kind place number h l =
    let some : place ≡ 0 → ⊥ = λ e. omega arith in
    rw (ne_eqb place 0 some)
    (bit_flipped (frame_bits kind) _ number (omega arith) ∙ ap (λ (i : ℕ). flipped_in i (bits_of (frame_bits kind) number)) (omega arith))

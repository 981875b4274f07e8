-- The bits of a number in the order sent. Assumes nothing.
use mathlib.Core.Path.{◌≡◌, refl, ap, ◌∙◌}
use mathlib.Core.Bool.{true}
use mathlib.Core.List.{List, [], ◌∷◌, ◌++◌}
use Prim.Native.Nat.{ℕ, zero, suc, ◌+◌, ◌-◌, ◌/◌, ◌%◌, ◌^◌, ◌<◌}
use native.Mathlib.Nat.{div-one, mod-lt}
use native.Mathlib.Omega.{arith}
use borrow.Author.Tests.{eqb-true, ltb-true}
use lib.Dec.{lit<}
use lib.ListN.{length, length-append}
use lib.Pow.{shr-shr}
use Rattle.frame.specs.declared.Kind.{Kind}
use Rattle.frame.specs.declared.Kind.TheVariants.{Short, Long}
use Rattle.frame.specs.Numbers.{frame_bits, is_frame}
use Rattle.frame.specs.Bits.{bits_of, Bits, BitsLaw}

first_bit : (n number : ℕ) → bits_of (suc n) number ≡ number / 2 ^ n % 2 ∷ bits_of n number
unfolding bits_of
first_bit zero number = rw (div-one number) refl
first_bit (suc n) number =
    ap (λ (bits : List ℕ). bits ++ (number % 2 ∷ [])) (first_bit n (number / 2))
    ∙ ap (λ (bit : ℕ). bit % 2 ∷ bits_of (suc n) number) (shr-shr number 1 n ∙ ap (λ (k : ℕ). number / 2 ^ k) (one_first n))
  where
    one_first : (k : ℕ) → 1 + k ≡ suc k
    one_first k = omega arith

bits_append : (xs : List ℕ) (b : ℕ) → Bits xs → b < 2 → Bits (xs ++ (b ∷ []))
bits_append [] b p h = (h, tt)
bits_append (x ∷ xs) b (p, q) h = (p, bits_append xs b q h)

all_bits : (n number : ℕ) → Bits (bits_of n number)
unfolding bits_of
all_bits zero number = tt
all_bits (suc n) number = bits_append (bits_of n (number / 2)) (number % 2) (all_bits n (number / 2)) (mod-lt number (lit< tt))

count : (n number : ℕ) → length (bits_of n number) ≡ n
unfolding bits_of
count zero number = refl
count (suc n) number =
    let rest : length (bits_of n (number / 2)) ≡ n = count n (number / 2) in
    let one : length (bits_of n (number / 2) ++ (number % 2 ∷ [])) ≡ length (bits_of n (number / 2)) + 1 =
    length-append (bits_of n (number / 2)) (number % 2 ∷ []) in
    omega arith

start : (kind : Kind) (number : ℕ) → is_frame kind number ≡ true → number / 2 ^ (frame_bits kind - 1) ≡ 0
unfolding is_frame
start Short number e = let below : number < 2 ^ 14 = ltb-true number (2 ^ 14) e in omega arith
start Long number e = let lead : number / 2 ^ 40 ≡ 1 = eqb-true (number / 2 ^ 40) 1 e in omega arith

pub bits_law : BitsLaw
bits_law = record { first = first_bit; all_bits = all_bits; count = count; start = start }

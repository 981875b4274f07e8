-- The check number is linear. Assumes nothing.
use mathlib.Core.Path.{◌≡◌, refl, sym, ap, ap₂, ◌∙◌}
use mathlib.Core.Bool.{cond}
use mathlib.Core.List.{List, [], ◌∷◌}
use Prim.Native.Nat.{ℕ, zero, suc, ◌+◌, ◌/◌, ◌%◌, ◌^◌, ◌<◌}
use native.Mathlib.Omega.{arith}
use lib.Dec.{eqb}
use lib.ListN.{length, get_or}
use lib.Bits.{bit_xor, xor_self, xor_zero_r, xor_lt}
use lib.Pow.{pow_pos}
use Rattle.laws.proofs.Rules.{picked}
use Rattle.laws.proofs.Xor.{xor_half, xor_low, xor_swap}
use Rattle.laws.proofs.Powers.{pow_half, pow_even}
use Rattle.hamming.specs.Code.{check_number}
use Rattle.hamming.specs.Correction.{CheckFits}

-- the column of a bit that is 1
abbrev column : ℕ → ℕ → ℕ
column b c = cond (eqb b 1) c 0

column_sum : (x y c : ℕ) → x < 2 → y < 2 → column ((x + y) % 2) c ≡ bit_xor (column x c) (column y c)
column_sum zero zero c h k = refl
column_sum zero (suc zero) c h k = refl
column_sum zero (suc (suc y)) c h k = absurd (omega arith)
column_sum (suc zero) zero c h k = sym (xor_zero_r c)
column_sum (suc zero) (suc zero) c h k = sym (xor_self c)
column_sum (suc zero) (suc (suc y)) c h k = absurd (omega arith)
column_sum (suc (suc x)) y c h k = absurd (omega arith)

column_xor : (d e c : ℕ) → column (bit_xor d e % 2) c ≡ bit_xor (column (d % 2) c) (column (e % 2) c)
column_xor d e c = ap (λ (x : ℕ). column x c) (xor_low d e ∙ sums) ∙ column_sum (d % 2) (e % 2) c (omega arith) (omega arith)
  where
    sums : (d + e) % 2 ≡ (d % 2 + e % 2) % 2
    sums = omega arith

pub check_xor : (columns : List ℕ) (d e : ℕ) → check_number columns (bit_xor d e) ≡ bit_xor (check_number columns d) (check_number columns e)
unfolding check_number
check_xor [] d e = refl
check_xor (c ∷ cs) d e =
    ap₂ bit_xor (column_xor d e c) (ap (check_number cs) (xor_half d e) ∙ check_xor cs (d / 2) (e / 2))
    ∙ xor_swap (column (d % 2) c) (column (e % 2) c) (check_number cs (d / 2)) (check_number cs (e / 2))

check_zero : (columns : List ℕ) → check_number columns 0 ≡ 0
unfolding check_number
check_zero [] = refl
check_zero (c ∷ cs) = check_zero cs

-- the check number of a single bit is its column
pub check_bit : (columns : List ℕ) (i : ℕ) → check_number columns (2 ^ i) ≡ get_or columns i 0
unfolding check_number
check_bit [] i = refl
check_bit (c ∷ cs) zero = ap (bit_xor c) (check_zero cs) ∙ xor_zero_r c
check_bit (c ∷ cs) (suc i) =
    ap₂ (λ (x y : ℕ). bit_xor (column x c) (check_number cs y)) (pow_even i) (pow_half i) ∙ check_bit cs i

-- it fits where the columns do
pub check_fits : (w : ℕ) (columns : List ℕ) → ((i : ℕ) → i < length columns → get_or columns i 0 < 2 ^ w) → CheckFits w columns
unfolding check_number
check_fits w [] h d = pow_pos w
check_fits w (c ∷ cs) h d =
    xor_lt w (column (d % 2) c) (check_number cs (d / 2))
    (picked (λ (x : ℕ). x < 2 ^ w) (eqb (d % 2) 1) (h zero (omega arith)) (pow_pos w))
    (check_fits w cs (λ i l. h (suc i) (omega arith)) (d / 2))

-- A word and its fields, both ways. Assumes nothing.
use mathlib.Core.Path.{◌≡◌, refl, sym, ap, ◌∙◌}
use mathlib.Core.Bool.{false}
use Prim.Native.Nat.{ℕ, zero, suc, ◌+◌, ◌*◌, ◌/◌, ◌%◌, ◌^◌, ◌<◌}
use native.Mathlib.Nat.{mod-eq_of_lt, mod-lt}
use native.Mathlib.Omega.{arith}
use borrow.Author.Tests.{eqb-false}
use Rattle.laws.proofs.Rules.{tests}
use lib.Pow.{split, shr-shr}
use Rattle.frame.specs.declared.Kind.{Kind}
use Rattle.frame.specs.declared.Kind.TheVariants.{Short, Long}
use Rattle.frame.specs.declared.Fields.{Fields}
use Rattle.frame.specs.Numbers.{data_bits}
use Rattle.frame.specs.Encode.{word_of, fields_of, broadcast}
use Rattle.frame.specs.Decode.{fixed_zero}
use Rattle.frame.specs.Frames.{InRange}

fields_eq : {a b e f s t d g : ℕ} → a ≡ b → e ≡ f → s ≡ t → d ≡ g
    → ◌≡◌ {A = Fields} (record { address = a; e = e; sub = s; «data» = d }) (record { address = b; e = f; sub = t; «data» = g })
fields_eq p q r s = rw (p, q, r, s)

pub fields_back : (kind : Kind) (fields : Fields) → InRange kind fields → fields_of kind (word_of kind fields) ≡ fields
fields_back Short fields r = ap broadcast (omega (arith, r.1)) ∙ sym r.0
fields_back Long fields r = fields_eq (omega arith) (omega arith) (omega arith) (omega arith)

pub word_fits : (kind : Kind) (fields : Fields) → InRange kind fields → word_of kind fields < 2 ^ data_bits kind
word_fits Short fields r = r.1
word_fits Long fields r = omega arith

pub fixed_one : (kind : Kind) (fields : Fields) → InRange kind fields → fixed_zero kind (word_of kind fields) ≡ false
fixed_one Short fields r = refl
fixed_one Long fields r = let one : word_of Long fields / 2 ^ 16 % 2 ≡ 0 → ⊥ = λ z. omega arith in search tests

pub not_zero : (n : ℕ) → (n % 2 ≡ 0 → ⊥) → n % 2 ≡ 1
not_zero n h = by_low (n % 2) refl
  where
    by_low : (b : ℕ) → n % 2 ≡ b → n % 2 ≡ 1
    by_low zero e = absurd (h e)
    by_low (suc b) e = omega arith

pub word_back : (kind : Kind) (word : ℕ) → word < 2 ^ data_bits kind → fixed_zero kind word ≡ false → word_of kind (fields_of kind word) ≡ word
word_back Short word h e = mod-eq_of_lt h
word_back Long word h e =
    let f : word / 2 ^ 16 % 2 ≡ 1 = not_zero (word / 2 ^ 16) (eqb-false (word / 2 ^ 16 % 2) 0 e) in
    let address : word / 2 ^ 18 * 2 + word / 2 ^ 17 % 2 ≡ word / 2 ^ 17 = part 1 17 in
    let fixed : word / 2 ^ 17 * 2 + word / 2 ^ 16 % 2 ≡ word / 2 ^ 16 = part 1 16 in
    let sub : word / 2 ^ 16 * 2 ^ 8 + word / 2 ^ 8 % 2 ^ 8 ≡ word / 2 ^ 8 = part 8 8 in
    let low : word / 2 ^ 8 * 2 ^ 8 + word % 2 ^ 8 ≡ word = split word 8 in
    omega arith
  where
    part : (j k : ℕ) → word / 2 ^ (k + j) * 2 ^ j + word / 2 ^ k % 2 ^ j ≡ word / 2 ^ k
    part j k = ap (λ (x : ℕ). x * 2 ^ j + word / 2 ^ k % 2 ^ j) (sym (shr-shr word k j)) ∙ split (word / 2 ^ k) j

pub fields_in_range : (kind : Kind) (word : ℕ) → word < 2 ^ data_bits kind → InRange kind (fields_of kind word)
fields_in_range Short word h = (refl, mod-lt word (omega arith))
fields_in_range Long word h = (omega arith, omega arith, omega arith, omega arith)

-- One turn of each loop over digits. Assumes nothing.
use mathlib.Core.Path.{◌≡◌, refl, sym, ap, ap₂, ◌∙◌}
use mathlib.Core.Bool.{true, false}
use mathlib.Core.List.{List, [], ◌∷◌, ◌++◌}
use Prim.Native.Nat.{ℕ, zero, suc, ◌+◌, ◌-◌, ◌*◌, ◌/◌, ◌%◌, ◌^◌, ◌≤◌, ◌<◌}
use native.Mathlib.Nat.{pow-suc, pow-le-pow_right, lt_of_lt_of_le, le_of_suc-le-suc, not-suc-le-zero, add-mul, mul_assoc, mul_comm, add_assoc, le_trans}
use native.Mathlib.Numerals.{add-one, sub-one}
use native.Mathlib.Omega.{arith}
use borrow.Author.Tests.{lt-ltb, le-ltb, ltb-true, ltb-false}
use lib.ListN.{length, get_or, drop, set, drop_of_length-le, length-append}
use lib.Seq.{drop-cons, drop-set-lt, get_or-set_same, lt-length-set, append_snoc}
use Rattle.std.specs.Prelude.{Option, Some, None}
use Rattle.laws.proofs.Rules.{picked_by}
use Rattle.stored_line.specs.Digits.{digit_value, is_digit, digit_answer, digit_character, all_digits, hex_number, hex_digits}

-- ---- a digit read

-- what the answer says of a character
abbrev pub Told : ℕ → Option ℕ → Type 0
Told character (Some digit) = (digit ≡ digit_value character) × (digit ≤ 15)
Told character None = 15 < digit_value character

pub told : (character : ℕ) (answer : Option ℕ) → answer ≡ digit_answer character → Told character answer
told character answer e =
    rw e
    (picked_by (Told character) (is_digit character)
    (λ t. let below : digit_value character < 16 = ltb-true (digit_value character) 16 t in (refl, omega arith))
    (λ t. let none : 16 ≤ digit_value character = ltb-false (digit_value character) 16 t in omega arith))

-- ---- the number read, gathered so far and still to come

-- a number of so many digits; and of one more
pub below_tenth : (number at n : ℕ) → number < 16 ^ at → at < n → n ≤ 11 → number < 16 ^ 10
below_tenth number at n h l m = lt_of_lt_of_le h (pow-le-pow_right (omega arith) (le_of_suc-le-suc (le_trans l m)))

pub below_next : (number at value : ℕ) → number < 16 ^ at → value ≤ 15 → number * 16 + value < 16 ^ (at + 1)
below_next number at value h l = rw (add-one) (omega (arith, pow-suc 16 at))

gather : (n v p h : ℕ) → n * (p * 16) + (v * p + h) ≡ (n * 16 + v) * p + h
gather n v p h =
    ap (λ (x : ℕ). x + (v * p + h)) (ap (λ (x : ℕ). n * x) (mul_comm p 16) ∙ sym (mul_assoc n 16 p)) ∙ sym (add_assoc (n * 16 * p) (v * p) h)
    ∙ ap (λ (x : ℕ). x + h) (sym (add-mul (n * 16) v p))

pub number_on : (cs : List ℕ) (number at value : ℕ) → at < length cs → value ≡ digit_value (get_or cs at 0)
    → (number * 16 + value) * 16 ^ length (drop (at + 1) cs) + hex_number (drop (at + 1) cs) ≡ number * 16 ^ length (drop at cs) + hex_number (drop at cs)
unfolding hex_number
number_on cs number at value h e =
    rw (add-one, drop-cons cs at 0 h, pow-suc 16 (length (drop (suc at) cs)), e)
    (sym (gather number (digit_value (get_or cs at 0)) (16 ^ length (drop (suc at) cs)) (hex_number (drop (suc at) cs))))

pub number_end : (cs : List ℕ) (number at : ℕ) → length cs ≤ at → number * 16 ^ length (drop at cs) + hex_number (drop at cs) ≡ number
unfolding hex_number
number_end cs number at h = rw (drop_of_length-le cs h) (omega arith)

-- ---- whether all are digits

pub digits_on : (cs : List ℕ) (at value : ℕ) → at < length cs → value ≡ digit_value (get_or cs at 0) → value ≤ 15
    → all_digits (drop (at + 1) cs) ≡ all_digits (drop at cs)
unfolding all_digits
digits_on cs at value h e l = rw (add-one, drop-cons cs at 0 h, lt-ltb (digit_value (get_or cs at 0)) 16 (omega arith))

pub digits_off : (cs : List ℕ) (at : ℕ) → at < length cs → 15 < digit_value (get_or cs at 0) → all_digits (drop at cs) ≡ false
unfolding all_digits
digits_off cs at h l = rw (drop-cons cs at 0 h, le-ltb (digit_value (get_or cs at 0)) 16 (omega arith))

pub digits_end : (cs : List ℕ) (at : ℕ) → length cs ≤ at → all_digits (drop at cs) ≡ true
unfolding all_digits
digits_end cs at h = rw (drop_of_length-le cs h)

-- ---- the digits written, and those still to come

-- a byte stored behind the part p that is still to come
pub stored_behind : (buffer p : List ℕ) (j byte : ℕ) → j < length buffer → p ++ drop j (set buffer j byte) ≡ p ++ (byte ∷ []) ++ drop (suc j) buffer
stored_behind buffer p j byte h = ap (λ (t : List ℕ). p ++ t) stored ∙ sym (append_snoc p byte (drop (suc j) buffer))
  where
    stored : drop j (set buffer j byte) ≡ byte ∷ drop (suc j) buffer
    stored =
        drop-cons (set buffer j byte) j 0 (lt-length-set buffer j byte h)
        ∙ ap₂ (λ (x : ℕ) (t : List ℕ). x ∷ t) (get_or-set_same buffer j byte 0 h) (drop-set-lt (suc j) buffer j byte (omega arith))

pub digit_written : (buffer : List ℕ) (at rest digit : ℕ) → 0 < at → at ≤ length buffer → digit ≡ digit_character (rest % 16)
    → hex_digits (at - 1) (rest / 16) ++ drop (at - 1) (set buffer (at - 1) digit) ≡ hex_digits at rest ++ drop at buffer
unfolding hex_digits
digit_written buffer zero rest digit h l e = absurd (not-suc-le-zero h)
digit_written buffer (suc j) rest digit h l e =
    rw (sub-one (suc j), sym e) (stored_behind buffer (hex_digits j (rest / 16)) j digit l)

pub written_all : (buffer : List ℕ) (at rest : ℕ) → at ≡ 0 → buffer ≡ hex_digits at rest ++ drop at buffer
unfolding hex_digits
written_all buffer at rest e = rw e

pub length_digits : (digits number : ℕ) → length (hex_digits digits number) ≡ digits
unfolding hex_digits
length_digits zero number = refl
length_digits (suc digits) number =
    length-append (hex_digits digits (number / 16)) (digit_character (number % 16) ∷ [])
    ∙ ap (λ (n : ℕ). n + 1) (length_digits digits (number / 16)) ∙ add-one digits

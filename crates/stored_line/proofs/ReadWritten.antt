-- Reading a written line gives the number back. Assumes nothing.
use mathlib.Core.Path.{◌≡◌, refl, sym, ap, ap₂, ◌∙◌}
use mathlib.Core.Bool.{true}
use mathlib.Core.List.{List, [], ◌∷◌, ◌++◌}
use Prim.Native.Nat.{ℕ, zero, suc, ◌+◌, ◌*◌, ◌/◌, ◌%◌, ◌^◌, ◌≤◌, ◌<◌}
use native.Mathlib.Nat.{pow-suc, mul_assoc}
use native.Mathlib.Numerals.{add-one}
use native.Mathlib.Omega.{arith}
use borrow.Author.Tests.{lt-ltb, le-ltb, ltb-true, eqb-true}
use lib.Dec.{eqb}
use lib.ListN.{length, take, get_or, length-append}
use lib.Seq.{take_at, get_or_at, take-take, get_or-take}
use Rattle.laws.proofs.Tests.{both}
use Rattle.laws.proofs.Below.{below}
use Rattle.frame.specs.declared.Kind.{Kind}
use Rattle.frame.specs.declared.Kind.TheVariants.{Short, Long}
use Rattle.frame.specs.Numbers.{is_frame}
use Rattle.std.specs.Prelude.{Some, Ok}
use Rattle.stored_line.specs.Digits.{digit_value, is_digit, all_digits, hex_number, hex_answer, digit_character, hex_digits}
use Rattle.stored_line.specs.Read.{digit_count, stored_frame, read_line}
use Rattle.stored_line.specs.Write.{line_of, line_length, write_line}
use Rattle.stored_line.specs.ReadWritten.{ReadWritten}
use Rattle.stored_line.proofs.Digits.{length_digits}

-- ---- a digit

value_back : (value : ℕ) → value < 16 → digit_value (digit_character value) ≡ value
unfolding digit_value digit_character
value_back value h = eqb-true (digit_value (digit_character value)) value (below 16 (λ (v : ℕ). eqb (digit_value (digit_character v)) v) refl value h)

-- ---- a digit behind others

digits_snoc : (cs : List ℕ) (c : ℕ) → all_digits cs ≡ true → digit_value c < 16 → all_digits (cs ++ (c ∷ [])) ≡ true
unfolding all_digits
digits_snoc [] c e h = rw (lt-ltb (digit_value c) 16 h)
digits_snoc (d ∷ cs) c e h =
    let both_are = both (is_digit d) (all_digits cs) e in
    rw both_are.0 (digits_snoc cs c both_are.1 h)

pub number_snoc : (cs : List ℕ) (c : ℕ) → hex_number (cs ++ (c ∷ [])) ≡ hex_number cs * 16 + digit_value c
unfolding hex_number
number_snoc [] c = omega arith
number_snoc (d ∷ cs) c =
    ap₂ (λ (x y : ℕ). digit_value d * x + y) one_more (number_snoc cs c)
    ∙ regroup (digit_value d) (16 ^ length cs) (hex_number cs) (digit_value c)
  where
    one_more : 16 ^ length (cs ++ (c ∷ [])) ≡ 16 ^ length cs * 16
    one_more = ap (λ (n : ℕ). 16 ^ n) (length-append cs (c ∷ []) ∙ add-one (length cs)) ∙ pow-suc 16 (length cs)

    regroup : (v p n w : ℕ) → v * (p * 16) + (n * 16 + w) ≡ (v * p + n) * 16 + w
    regroup v p n w = omega (arith, mul_assoc v p 16)

-- ---- the digits of a number

digits_nil : all_digits [] ≡ true
unfolding all_digits
digits_nil = refl

all_digits_lem : (digits number : ℕ) → all_digits (hex_digits digits number) ≡ true
unfolding hex_digits
all_digits_lem zero number = digits_nil
all_digits_lem (suc digits) number =
    digits_snoc (hex_digits digits (number / 16)) (digit_character (number % 16)) (all_digits_lem digits (number / 16))
    (rw (value_back (number % 16) (omega arith)) (omega arith))

number_back : (digits number : ℕ) → number < 16 ^ digits → hex_number (hex_digits digits number) ≡ number
unfolding hex_digits hex_number
number_back zero number h = omega arith
number_back (suc digits) number h =
    number_snoc (hex_digits digits (number / 16)) (digit_character (number % 16))
    ∙ ap₂ (λ (x y : ℕ). x * 16 + y) (number_back digits (number / 16) (omega (arith, pow-suc 16 digits))) (value_back (number % 16) (omega arith))
    ∙ omega arith

-- a frame number has no more digits than its line
fits_line : (kind : Kind) (number : ℕ) → is_frame kind number ≡ true → number < 16 ^ digit_count kind
unfolding is_frame
fits_line Short number e = let h : number < 2 ^ 14 = ltb-true number (2 ^ 14) e in omega arith
fits_line Long number e = let h : number / 2 ^ 40 ≡ 1 = eqb-true (number / 2 ^ 40) 1 e in omega arith

-- ---- the line

spelt : (kind : Kind) (number : ℕ) → is_frame kind number ≡ true → hex_answer (hex_digits (digit_count kind) number) ≡ Some number
unfolding hex_answer
spelt kind number e = rw (all_digits_lem (digit_count kind) number) (ap Some (number_back (digit_count kind) number (fits_line kind number e)))

read_digits : (kind : Kind) (number : ℕ) → is_frame kind number ≡ true → read_line (hex_digits (digit_count kind) number) ≡ Ok (stored_frame kind number)
unfolding read_line
read_digits Short number e = rw (length_digits 4 number, spelt Short number e, e)
read_digits Long number e = rw (length_digits 11 number, spelt Long number e, e)

-- the front of the buffer is the line
front_written : (kind : Kind) (number : ℕ) (buffer : List ℕ) → is_frame kind number ≡ true → line_length kind ≤ length buffer
    → take (line_length kind) (write_line kind number buffer).buffer ≡ line_of kind number
unfolding write_line
front_written kind number buffer e h =
    rw (e, le-ltb (length buffer) (line_length kind) h)
    (take_at (line_of kind number) _ (line_length kind) (rw (length-append, length_digits) (add-one (digit_count kind))))

answer_written : (kind : Kind) (number : ℕ) (buffer : List ℕ) → is_frame kind number ≡ true → line_length kind ≤ length buffer
    → (write_line kind number buffer).answer ≡ record { refusal = 0; size = line_length kind }
unfolding write_line
answer_written kind number buffer e h = rw (e, le-ltb (length buffer) (line_length kind) h)

pub read_written : ReadWritten
read_written kind number buffer e h = (
  answer_written kind number buffer e h,
  ap read_line (front digits (omega arith) ∙ take_at line_digits _ _ (length_digits digits number)) ∙ read_digits kind number e,
  sym (get_or-take (line_length kind) after digits 0 (omega arith)) ∙ ap (λ (l : List ℕ). get_or l digits 0) written_front
      ∙ get_or_at line_digits 10 [] 0 digits (length_digits digits number),
)
  where
    digits : ℕ
    digits = digit_count kind

    line_digits : List ℕ
    line_digits = hex_digits digits number

    after : List ℕ
    after = (write_line kind number buffer).buffer

    written_front : take (line_length kind) after ≡ line_of kind number
    written_front = front_written kind number buffer e h

    front : (n : ℕ) → n ≤ line_length kind → take n after ≡ take n (line_of kind number)
    front n l = sym (take-take n (line_length kind) after l) ∙ ap (take n) written_front

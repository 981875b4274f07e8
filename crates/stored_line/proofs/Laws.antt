-- The refusals of the line reader and the line writer, by the tests of the definitions. Assumes nothing.
use mathlib.Core.Path.{◌≡◌, refl, sym, ◌∙◌}
use mathlib.Core.Logic.{◌≢◌, inl, inr}
use mathlib.Core.Bool.{true, false, false≢true}
use mathlib.Core.List.{List, [], ◌∷◌, ◌++◌}
use Prim.Native.Nat.{ℕ, zero, suc, ◌+◌, ◌-◌, ◌/◌, ◌%◌, ◌^◌, ◌≤◌, ◌<◌}
use native.Mathlib.Omega.{arith}
use borrow.Author.Tests.{eq-eqb, ne_eqb, lt-ltb, le-leb, ltb-true, ltb-false, leb-true, eqb-true}
use lib.Dec.{eqb, ltb, leb}
use lib.ListN.{length}
use Rattle.laws.proofs.Rules.{picked_by, by_test}
use Rattle.laws.proofs.Tests.{both}
use Rattle.laws.proofs.Below.{below}
use Rattle.frame.specs.declared.Kind.{Kind}
use Rattle.frame.specs.declared.Kind.TheVariants.{Short, Long}
use Rattle.frame.specs.Numbers.{is_frame}
use Rattle.std.specs.Prelude.{Ok, Err}
use Rattle.refusals.specs.declared.Refusal.TheVariants.{LineLength, Character, Frame}
use Rattle.refusals.specs.Refusals.{number}
use Rattle.stored_line.specs.Digits.{between, digit_value, is_digit, all_digits, hex_number, hex_answer, digit_character, hex_digits}
use Rattle.stored_line.specs.Read.{stored_frame, read_line}
use Rattle.stored_line.specs.Write.{write_done, write_line}
use Rattle.stored_line.specs.Laws.{Between, Capital, Digit, Each, DigitLaws, NumberLaws, HasLength, LineReadLaws, TooSmall, LineWriteLaws}
use Rattle.stored_line.proofs.ReadWritten.{number_snoc}

-- ---- a digit

between_facts : (low character high : ℕ) → between low character high ≡ true → Between low character high
between_facts low character high e =
    let two = both (leb low character) (leb character high) e in
    (leb-true low character two.0, leb-true character high two.1)

not_between : (low character high : ℕ) → between low character high ≡ false → Between low character high → ⊥
not_between low character high e b = false≢true (sym e ∙ holds)
  where
    holds : between low character high ≡ true
    holds = rw (le-leb low character b.0, le-leb character high b.1) refl

-- none of the three tests of the definition
no_digit : (character : ℕ) → between 48 character 57 ≡ false → between 65 character 70 ≡ false → between 97 character 102 ≡ false → Digit character → ⊥
no_digit character a b c (inl (inl d)) = not_between 48 character 57 a d
no_digit character a b c (inl (inr d)) = not_between 65 character 70 b d
no_digit character a b c (inr d) = not_between 97 character 102 c d

-- a digit has a value below 16, and another character has 16
by_digit : (P : ℕ → Type 0) (character : ℕ) → ((value : ℕ) → value < 16 → Digit character → P value) → ((Digit character → ⊥) → P 16) → P (digit_value character)
unfolding digit_value
by_digit P character digit other =
    picked_by P (between 48 character 57)
    (λ t. let b = between_facts 48 character 57 t in digit (character - 48) (omega arith) (inl (inl b)))
    (λ figure. picked_by P (between 65 character 70)
    (λ t. let b = between_facts 65 character 70 t in digit (character - 65 + 10) (omega arith) (inl (inr b)))
    (λ capital. picked_by P (between 97 character 102)
    (λ t. let b = between_facts 97 character 102 t in digit _ (omega arith) (inr b))
    (λ small. other (no_digit character figure capital small))))

digit_below : (character : ℕ) → Digit character → digit_value character < 16
digit_below character d = by_digit (λ (n : ℕ). n < 16) character (λ value h e. h) (λ other. absurd (other d))

below_digit : (character : ℕ) → digit_value character < 16 → Digit character
below_digit character = by_digit (λ (n : ℕ). n < 16 → Digit character) character (λ value h d l. d) (λ other l. absurd (omega arith))

figure : (value : ℕ) → value < 10 → digit_value (48 + value) ≡ value
unfolding digit_value
figure value h = eqb-true (digit_value (48 + value)) value (below 10 (λ (v : ℕ). eqb (digit_value (48 + v)) v) refl value h)

capital : (value : ℕ) → value < 6 → digit_value (65 + value) ≡ 10 + value
unfolding digit_value
capital value h = eqb-true (digit_value (65 + value)) (10 + value) (below 6 (λ (v : ℕ). eqb (digit_value (65 + v)) (10 + v)) refl value h)

small_letter : (value : ℕ) → value < 6 → digit_value (97 + value) ≡ digit_value (65 + value)
unfolding digit_value
small_letter value h =
    eqb-true (digit_value (97 + value)) (digit_value (65 + value)) (below 6 (λ (v : ℕ). eqb (digit_value (97 + v)) (digit_value (65 + v))) refl value h)

no_digits : hex_number [] ≡ 0
unfolding hex_number
no_digits = refl

pub digit_laws : DigitLaws
digit_laws =
    record {
      figures = λ value h. figure value (omega arith);
      capitals = λ value h. capital value (omega arith);
      small_letters = λ value h. small_letter value (omega arith);
      no_others = λ character. (below_digit character, digit_below character);
      no_digits = no_digits;
      one_more = number_snoc;
    }

-- ---- frames

pub number_laws : NumberLaws
unfolding is_frame
number_laws =
    record {
      short = λ number. (λ e. let below : number < 2 ^ 14 = ltb-true number (2 ^ 14) e in omega arith, λ below. lt-ltb number (2 ^ 14) (omega arith));
      long = λ number. (λ e. let one : number / 2 ^ 40 ≡ 1 = eqb-true (number / 2 ^ 40) 1 e in (omega arith, omega arith), λ range. eq-eqb (number / 2 ^ 40) 1 (omega arith));
    }

-- ---- the reader

all_digits_lem : (characters : List ℕ) → Each Digit characters → all_digits characters ≡ true
unfolding all_digits
all_digits_lem [] each = refl
all_digits_lem (character ∷ characters) (first, rest) =
    rw (lt-ltb (digit_value character) 16 (digit_below character first)) (all_digits_lem characters rest)

each_digit : (characters : List ℕ) → all_digits characters ≡ true → Each Digit characters
unfolding all_digits
each_digit [] e = tt
each_digit (character ∷ characters) e =
    let two = both (is_digit character) (all_digits characters) e in
    (below_digit character (ltb-true (digit_value character) 16 two.0), each_digit characters two.1)

some_other : (characters : List ℕ) → (Each Digit characters → ⊥) → all_digits characters ≡ false
some_other characters n = by_test (all_digits characters) (λ t. absurd (n (each_digit characters t))) (λ t. t)

refused_by_10 : (characters : List ℕ) → length characters ≢ 4 → length characters ≢ 11 → read_line characters ≡ Err LineLength
unfolding read_line
refused_by_10 characters a b = rw (ne_eqb (length characters) 4 a, ne_eqb (length characters) 11 b)

refused_by_11 : (kind : Kind) (characters : List ℕ) → HasLength kind characters → (Each Digit characters → ⊥) → read_line characters ≡ Err Character
unfolding read_line hex_answer
refused_by_11 Short characters l n = rw (l, some_other characters n)
refused_by_11 Long characters l n = rw (l, some_other characters n)

refused_by_12 : (kind : Kind) (characters : List ℕ) → HasLength kind characters → Each Digit characters → is_frame kind (hex_number characters) ≡ false
    → read_line characters ≡ Err Frame
unfolding read_line hex_answer
refused_by_12 Short characters l each e = rw (l, all_digits_lem characters each, e)
refused_by_12 Long characters l each e = rw (l, all_digits_lem characters each, e)

accepted : (kind : Kind) (characters : List ℕ) → HasLength kind characters → Each Digit characters → is_frame kind (hex_number characters) ≡ true
    → read_line characters ≡ Ok (stored_frame kind (hex_number characters))
unfolding read_line hex_answer
accepted Short characters l each e = rw (l, all_digits_lem characters each, e)
accepted Long characters l each e = rw (l, all_digits_lem characters each, e)

pub line_read_laws : LineReadLaws
unfolding number
line_read_laws =
    record {
      refused_by_10 = refused_by_10;
      refused_by_11 = refused_by_11;
      refused_by_12 = refused_by_12;
      accepted = accepted;
      refusal_is = λ refusal. refl;
      refusal_answered = λ refusal. refl;
      numbers = (refl, refl, refl);
      short_is = λ number. refl;
      long_is = λ number. refl;
    }

-- ---- the writer

refused_by_14 : (kind : Kind) (number : ℕ) (buffer : List ℕ) → is_frame kind number ≡ true → TooSmall kind buffer
    → write_line kind number buffer ≡ write_done (record { refusal = 14; size = 0 }) buffer
unfolding write_line
refused_by_14 Short number buffer e small = rw (e, lt-ltb (length buffer) 5 small)
refused_by_14 Long number buffer e small = rw (e, lt-ltb (length buffer) 12 small)

not_below : (n m : ℕ) → (n < m → ⊥) → ltb n m ≡ false
not_below n m h = by_test (ltb n m) (λ t. absurd (h (ltb-true n m t))) (λ t. t)

capital_digit : (value : ℕ) → value < 16 → Capital (digit_character value)
unfolding digit_character
capital_digit value h =
    picked_by Capital (ltb value 10)
    (λ t. let figure : value < 10 = ltb-true value 10 t in inl (omega arith, omega arith))
    (λ t. let letter : 10 ≤ value = ltb-false value 10 t in inr (omega arith, omega arith))

capitals_snoc : (characters : List ℕ) (character : ℕ) → Each Capital characters → Capital character → Each Capital (characters ++ (character ∷ []))
capitals_snoc [] character each last = (last, tt)
capitals_snoc (first ∷ characters) character (c, each) last = (c, capitals_snoc characters character each last)

all_capitals : (digits number : ℕ) → Each Capital (hex_digits digits number)
unfolding hex_digits
all_capitals zero number = tt
all_capitals (suc digits) number =
    capitals_snoc (hex_digits digits (number / 16)) (digit_character (number % 16)) (all_capitals digits (number / 16)) (capital_digit (number % 16) (omega arith))

pub line_write_laws : LineWriteLaws
unfolding write_line
line_write_laws =
    record {
      refused_by_12 = λ kind number buffer e. rw e;
      refused_by_14 = refused_by_14;
      short_written = λ number buffer e room. rw (e, not_below (length buffer) 5 room);
      long_written = λ number buffer e room. rw (e, not_below (length buffer) 12 room);
      capitals = all_capitals;
    }

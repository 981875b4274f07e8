-- The decimal digits of a number: those of its tenth, and one more; how many there are. Assumes nothing.
use Rattle.std.proofs.Common.{◌≡◌, ℕ, zero, suc, ◌+◌, ◌/◌, ◌%◌, ◌^◌, ◌<◌, ◌≤◌, cond, ltb, List, [], ◌∷◌, ◌++◌, length, set, refl, ap, pow-suc, arith, length-append, ltb-false, ltb-true, le-ltb, lt-ltb}
use Rattle.laws.proofs.Rules.{picked, by_test}
use Rattle.stored_line.specs.Digits.{digit_character}
use Rattle.line_report.specs.Text.{decimal_up_to, decimal}
use Rattle.line_report.specs.Write.{TextAt}
use Rattle.line_report.proofs.Write.{then_text, kept_length, room_first}

digit_is : (digit : ℕ) → digit < 10 → digit_character digit ≡ 48 + digit
unfolding digit_character
digit_is digit h = rw (lt-ltb digit 10 h) refl

-- a place more changes nothing where the number is below
more_places : (k number : ℕ) → number < 10 ^ suc k → decimal_up_to k number ≡ decimal_up_to (suc k) number
unfolding decimal_up_to
more_places zero number h =
    let same : number % 10 ≡ number = omega arith in
    rw (lt-ltb number 10 h, same) refl
more_places (suc k) number h =
    ap (λ (digits : List ℕ). cond (ltb number 10) (digit_character number ∷ []) (digits ++ (digit_character (number % 10) ∷ [])))
    (more_places k (number / 10) (let top = pow-suc 10 (suc k) in omega arith))

small : (k number : ℕ) → number < 10 → decimal_up_to (suc k) number ≡ (48 + number) ∷ []
unfolding decimal_up_to
small k number h = rw (lt-ltb number 10 h, digit_is number h) refl

large : (k number : ℕ) → 10 ≤ number → number < 10 ^ suc (suc k)
    → decimal_up_to (suc k) number ≡ decimal_up_to (suc k) (number / 10) ++ ((48 + number % 10) ∷ [])
unfolding decimal_up_to
large k number h below =
    rw (le-ltb number 10 h, digit_is (number % 10) (omega arith))
    (ap (λ (digits : List ℕ). digits ++ ((48 + number % 10) ∷ [])) (more_places k (number / 10) (let top = pow-suc 10 (suc k) in omega arith)))

pub one_digit : (number : ℕ) → number < 10 → decimal number ≡ (48 + number) ∷ []
unfolding decimal
one_digit number h = small 18 number h

pub more_digits : (number : ℕ) → 10 ≤ number → number < 2 ^ 64 → decimal number ≡ decimal (number / 10) ++ ((48 + number % 10) ∷ [])
unfolding decimal
more_digits number h below = large 18 number h (omega arith)

-- ---- how many there are

at_most : (more number : ℕ) → length (decimal_up_to more number) ≤ suc more
unfolding decimal_up_to
at_most zero number = omega arith
at_most (suc more) number =
    picked (λ (digits : List ℕ). length digits ≤ suc (suc more)) (ltb number 10) (omega arith)
    (let rest = at_most more (number / 10) in
    let all = length-append (decimal_up_to more (number / 10)) (digit_character (number % 10) ∷ []) in
    omega arith)

pub twenty_digits : (number : ℕ) → length (decimal number) ≤ 20
unfolding decimal
twenty_digits number = at_most 19 number

-- a number below 10^k has at most k digits
pub few_digits : (k number : ℕ) → number < 10 ^ suc k → number < 2 ^ 64 → length (decimal number) ≤ suc k
few_digits zero number h below = omega (arith, ap length (one_digit number h))
few_digits (suc k) number h below =
    by_test (ltb number 10)
    (λ t. omega (arith, ap length (one_digit number (ltb-true _ _ t))))
    (λ t.
    let large : 10 ≤ number = ltb-false _ _ t in
    let rest = few_digits k (number / 10) (let top = pow-suc 10 (suc k) in omega arith) (omega arith) in
    omega (arith, ap length (more_digits number large below), length-append (decimal (number / 10)) ((48 + number % 10) ∷ [])))

-- ---- digits stored one behind the other

pub only_room : (number at : ℕ) {room : ℕ} → number < 10 → at + length (decimal number) ≤ room → at < room
only_room number at h r = omega (arith, ap length (one_digit number h))

one_stored : (digit at : ℕ) (before : List ℕ) → TextAt (at + 1) at (digit ∷ []) before (set before at digit)
one_stored digit at before = record { next_is = refl; stored = refl }

pub only_stored : (number at : ℕ) (before : List ℕ) → number < 10 → TextAt (at + 1) at (decimal number) before (set before at (48 + number))
only_stored number at before h = rw (one_digit number h) (one_stored (48 + number) at before)

module _ (number at : ℕ) (h : 10 ≤ number) (below : number < 2 ^ 64) where
  pub first_room : {room : ℕ} → at + length (decimal number) ≤ room → at + length (decimal (number / 10)) ≤ room
  first_room r = room_first at (decimal (number / 10)) ((48 + number % 10) ∷ []) (rw (more_digits number h below) at r)

  pub last_room : {next : ℕ} {before after : List ℕ} → at + length (decimal number) ≤ length before → TextAt next at (decimal (number / 10)) before after
      → next < length after
  last_room {next} {before} r t =
      let all : length (decimal number) ≡ length (decimal (number / 10)) + 1 =
      rw (more_digits number h below) (length-append (decimal (number / 10)) ((48 + number % 10) ∷ [])) in
      omega (arith, t.next_is, kept_length t)

  pub last_stored : {next : ℕ} {before after : List ℕ} → TextAt next at (decimal (number / 10)) before after
      → TextAt (next + 1) at (decimal number) before (set after next (48 + number % 10))
  last_stored s = rw (more_digits number h below) (then_text (decimal (number / 10)) ((48 + number % 10) ∷ []) s (one_stored _ _ _))

-- One turn of each loop over a table. Assumes nothing.
use mathlib.Core.Path.{◌≡◌, sym, ap, ◌∙◌}
use mathlib.Core.Bool.{cond}
use mathlib.Core.List.{List}
use Prim.Native.Nat.{ℕ, ◌+◌, ◌/◌, ◌%◌, ◌≤◌, ◌<◌}
use native.Mathlib.Numerals.{add-one}
use borrow.Author.Tests.{eq-eqb, ne_eqb}
use lib.Dec.{eqb}
use lib.ListN.{length, get_or, drop, drop_of_length-le}
use lib.Seq.{drop-cons}
use lib.Bits.{bit_xor, xor_zero_r}
use Rattle.laws.proofs.Xor.{xor_assoc}
use Rattle.std.specs.declared.option.Option.TheVariants.{Some, None}
use Rattle.hamming.specs.Code.{check_number, first_from}

-- ---- the check number, gathered so far and still to come

check_next : (cs : List ℕ) (i rest : ℕ) → i < length cs
    → check_number (drop i cs) rest ≡ bit_xor (cond (eqb (rest % 2) 1) (get_or cs i 0) 0) (check_number (drop (i + 1) cs) (rest / 2))
unfolding check_number
check_next cs i rest h = rw (add-one, drop-cons cs i 0)

pub check_turn : (cs : List ℕ) (i rest check added : ℕ) → i < length cs → added ≡ cond (eqb (rest % 2) 1) (get_or cs i 0) 0
    → bit_xor (bit_xor check added) (check_number (drop (i + 1) cs) (rest / 2)) ≡ bit_xor check (check_number (drop i cs) rest)
check_turn cs i rest check added h e =
    xor_assoc check added (check_number (drop (i + 1) cs) (rest / 2))
    ∙ ap (bit_xor check) (ap (λ (x : ℕ). bit_xor x (check_number (drop (i + 1) cs) (rest / 2))) e ∙ sym (check_next cs i rest h))

pub check_end : (cs : List ℕ) (i rest check : ℕ) → length cs ≤ i → bit_xor check (check_number (drop i cs) rest) ≡ check
unfolding check_number
check_end cs i rest check h = rw (drop_of_length-le cs h) (xor_zero_r check)

-- ---- the search, from i on

pub find_here : (cs : List ℕ) (i s : ℕ) → i < length cs → get_or cs i 0 ≡ s → first_from i (drop i cs) s ≡ Some i
unfolding first_from
find_here cs i s h e = rw (drop-cons cs i 0, eq-eqb _ _ e)

pub find_on : (cs : List ℕ) (i s : ℕ) → i < length cs → (get_or cs i 0 ≡ s → ⊥) → first_from i (drop i cs) s ≡ first_from (i + 1) (drop (i + 1) cs) s
unfolding first_from
find_on cs i s h e = rw (add-one, drop-cons cs i 0, ne_eqb _ _ e)

pub find_end : (cs : List ℕ) (i s : ℕ) → length cs ≤ i → first_from i (drop i cs) s ≡ None
unfolding first_from
find_end cs i s h = rw (drop_of_length-le cs h)

-- The numbers that earlier columns took, and one turn of the loop over the columns of a group. Assumes nothing.
use mathlib.Core.Path.{◌≡◌, refl, sym, ◌∙◌}
use mathlib.Core.Bool.{Bool, true, false, not, ◌&&◌}
use mathlib.Core.List.{List, [], ◌∷◌}
use Prim.Native.Nat.{ℕ, ◌+◌, ◌%◌, ◌^◌, ◌<◌, ◌≤◌}
use native.Mathlib.Nat.{add-zero, add-suc, suc-add}
use native.Mathlib.Numerals.{add-one}
use lib.Count.{ones}
use lib.Dec.{eqb, ltb, leb}
use borrow.Author.Tests.{eqb-true, eqb-false, ltb-true}
use native.Mathlib.Omega.{arith}
use lib.ListN.{length, get_or, set, drop, drop_of_length-le}
use lib.Seq.{drop-cons}
use Rattle.laws.specs.Tests.{every}
use Rattle.laws.specs.OneOf.{one_of}
use Rattle.laws.proofs.Rules.{by_test}
use Rattle.laws.proofs.Tests.{test_at}
use Rattle.std.proofs.lemmas.List.{get_or-set_same, get_or-set_other, length-set}
use Rattle.frame.specs.declared.Kind.{Kind}
use Rattle.frame.specs.declared.Kind.TheVariants.{Short, Long}
use Rattle.frame.specs.Numbers.{check_bits}
use Rattle.lent_columns.specs.Check.{column_tests, first_bad}

-- a column is good if it is so by itself, and no earlier one equals it
by_itself : (w : ℕ) (earlier : List ℕ) (c : ℕ) → every (column_tests w earlier c) ≡ (every (column_tests w [] c) && not (one_of earlier c))
unfolding every one_of
by_itself w earlier c = go (eqb (ones c % 2) 1) (leb 3 (ones c)) (ltb c (2 ^ w)) (one_of earlier c)
  where
    go : (a b d e : Bool) → (a && (b && (d && (not e && true)))) ≡ ((a && (b && (d && (true && true)))) && not e)
    go false b d e = refl
    go true false d e = refl
    go true true false e = refl
    go true true true false = refl
    go true true true true = refl

-- the flags of the numbers below 128: those that earlier columns took
abbrev pub Taken : List Bool → List ℕ → Type 0
Taken taken earlier = (n : ℕ) → n < 128 → get_or taken n false ≡ one_of earlier n

-- the columns before `at` are good, and the first bad one is still to come
pub record Going (w : ℕ) (columns : List ℕ) (taken : List Bool) (at : ℕ) : Type 0 where
  pub earlier : List ℕ
  pub flags : Taken taken earlier
  pub size : length taken ≡ 128
  pub to_come : at + first_bad w earlier (drop at columns) ≡ first_bad w [] columns

-- a number that is good for a kind of frame has a flag
pub has_a_flag : (kind : Kind) (c : ℕ) → every (column_tests (check_bits kind) [] c) ≡ true → c < 128
has_a_flag Short c e = omega (arith, ltb-true c (2 ^ 5) (test_at (column_tests 5 [] c) e 2))
has_a_flag Long c e = omega (arith, ltb-true c (2 ^ 7) (test_at (column_tests 7 [] c) e 2))

module _ (w : ℕ) (columns : List ℕ) (taken : List Bool) (at : ℕ) (going : Going w columns taken at) where
  abbrev here : ℕ
  here = get_or columns at 0

  stops : at < length columns → every (column_tests w going.earlier here) ≡ false → at ≡ first_bad w [] columns
  unfolding first_bad
  stops h bad = sym (add-zero at) ∙ rw (drop-cons columns at 0 h, bad) at going.to_come

  pub stops_bad : at < length columns → every (column_tests w [] here) ≡ false → at ≡ first_bad w [] columns
  stops_bad h bad = stops h (by_itself w going.earlier here ∙ rw bad)

  pub stops_taken : at < length columns → here < 128 → get_or taken here false ≡ true → at ≡ first_bad w [] columns
  stops_taken h small t =
      stops h (by_itself w going.earlier here ∙ rw (sym (going.flags here small) ∙ t) (never (every (column_tests w [] here))))
    where
      never : (a : Bool) → (a && false) ≡ false
      never true = refl
      never false = refl

  pub goes_on : at < length columns → here < 128 → every (column_tests w [] here) ≡ true → get_or taken here false ≡ false
      → Going w columns (set taken here true) (at + 1)
  unfolding first_bad one_of
  goes_on h small good free =
      let all_good : every (column_tests w going.earlier here) ≡ true =
      by_itself w going.earlier here ∙ rw (good, sym (going.flags here small) ∙ free) in
      record {
        earlier = here ∷ going.earlier;
        flags = λ n l. by_test (eqb n here)
            (λ e. rw (e, eqb-true n here e) (get_or-set_same taken here true false (rw (sym going.size) at small)))
            (λ e. rw e (get_or-set_other taken here n true false (eqb-false n here e) ∙ going.flags n l));
        size = length-set taken here true ∙ going.size;
        to_come = rw add-one (suc-add at _ ∙ sym (add-suc at _) ∙ (rw (drop-cons columns at 0 h, all_good) at going.to_come));
      }

  pub ends : length columns ≤ at → at ≡ first_bad w [] columns
  unfolding first_bad
  ends h = sym (add-zero at) ∙ rw (drop_of_length-le columns h) at going.to_come

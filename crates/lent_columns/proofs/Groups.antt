-- The columns of a group: the index that the check answers is that of the first bad one. Assumes nothing.
use mathlib.Core.Path.{◌≡◌, refl, sym}
use mathlib.Core.Logic.{◌⊎◌, inl, inr}
use mathlib.Core.Bool.{Bool, true, false, false≢true, not, ◌||◌}
use mathlib.Core.List.{List, [], ◌∷◌}
use Prim.Native.Nat.{ℕ, zero, suc, ◌%◌, ◌^◌, ◌<◌, ◌≤◌}
use native.Mathlib.Nat.{not-suc-le-zero, le_of_suc-le-suc}
use native.Mathlib.Omega.{arith}
use borrow.Author.Tests.{eqb-true, eqb-false, ltb-true, ltb-false, leb-true, leb-false, not-true, not-false}
use lib.Dec.{eqb, ltb, leb}
use lib.Count.{ones}
use lib.ListN.{length, get_or}
use Rattle.laws.specs.Tests.{every}
use Rattle.laws.specs.OneOf.{one_of}
use Rattle.laws.proofs.Rules.{by_test, picked_by}
use Rattle.laws.proofs.Tests.{every→passed}
use Rattle.hamming.specs.Correction.{GoodColumns}
use Rattle.lent_columns.specs.Check.{column_tests, first_bad}

-- ---- one column of a group, and those of the group before it

module _ (w : ℕ) (earlier columns : List ℕ) where
  pub record GoodAt (k : ℕ) : Type 0 where
    pub odd : ones (get_or columns k 0) % 2 ≡ 1
    pub three : 3 ≤ ones (get_or columns k 0)
    pub fits : get_or columns k 0 < 2 ^ w
    pub not_earlier : one_of earlier (get_or columns k 0) ≡ false
    pub distinct : (j : ℕ) → j < k → get_or columns j 0 ≡ get_or columns k 0 → ⊥

  pub data BadAt (k : ℕ) : Type 0 where
    even : ones (get_or columns k 0) % 2 ≡ 0 → BadAt k
    few : ones (get_or columns k 0) < 3 → BadAt k
    wide : 2 ^ w ≤ get_or columns k 0 → BadAt k
    an_earlier : one_of earlier (get_or columns k 0) ≡ true → BadAt k
    equal : (j : ℕ) → j < k → get_or columns j 0 ≡ get_or columns k 0 → BadAt k

  -- what the index answered says of the columns
  pub data Group : ℕ → Type 0 where
    all : ((k : ℕ) → k < length columns → GoodAt k) → Group (length columns)
    bad : (k : ℕ) → k < length columns → BadAt k → ((j : ℕ) → j < k → GoodAt j) → Group k

-- ---- the first column of the group

either : (a b : Bool) → (a || b) ≡ true → (a ≡ true) ⊎ (b ≡ true)
either true b e = inl refl
either false b e = inr e

neither : (a b : Bool) → (a || b) ≡ false → (a ≡ false) × (b ≡ false)
neither true b e = absurd (false≢true (sym e))
neither false b e = (refl, e)

-- the first test of four that fails
data Fails (a b d e : Bool) : Type 0 where
  first : a ≡ false → Fails a b d e
  second : b ≡ false → Fails a b d e
  third : d ≡ false → Fails a b d e
  fourth : e ≡ false → Fails a b d e

fails : (a b d e : Bool) → every (a ∷ b ∷ d ∷ e ∷ []) ≡ false → Fails a b d e
unfolding every
fails false b d e p = first refl
fails true false d e p = second refl
fails true true false e p = third refl
fails true true true false p = fourth refl
fails true true true true p = absurd (false≢true (sym p))

module _ (w : ℕ) (earlier : List ℕ) (c : ℕ) (cs : List ℕ) where
  head_good : every (column_tests w earlier c) ≡ true → GoodAt w earlier (c ∷ cs) 0
  head_good e = let p = every→passed (column_tests w earlier c) e in record {
    odd = eqb-true (ones c % 2) 1 p.0;
    three = leb-true 3 (ones c) p.1.0;
    fits = ltb-true c (2 ^ w) p.1.1.0;
    not_earlier = not-true (one_of earlier c) p.1.1.1.0;
    distinct = λ j h q. not-suc-le-zero h;
  }

  head_bad : every (column_tests w earlier c) ≡ false → BadAt w earlier (c ∷ cs) 0
  head_bad e = go (fails (eqb (ones c % 2) 1) (leb 3 (ones c)) (ltb c (2 ^ w)) (not (one_of earlier c)) e)
    where
      not_odd : (n : ℕ) → (n % 2 ≡ 1 → ⊥) → n % 2 ≡ 0
      not_odd n ne = omega arith

      go : Fails (eqb (ones c % 2) 1) (leb 3 (ones c)) (ltb c (2 ^ w)) (not (one_of earlier c)) → BadAt w earlier (c ∷ cs) 0
      go (first p) = even (not_odd (ones c) (eqb-false (ones c % 2) 1 p))
      go (second p) = few (leb-false 3 (ones c) p)
      go (third p) = wide (ltb-false c (2 ^ w) p)
      go (fourth p) = an_earlier (not-false (one_of earlier c) p)

  -- ---- the others, of which it is an earlier one

  good_later : (k : ℕ) → GoodAt w (c ∷ earlier) cs k → GoodAt w earlier (c ∷ cs) (suc k)
  unfolding one_of
  good_later k g = record {
    odd = g.odd;
    three = g.three;
    fits = g.fits;
    not_earlier = apart.1;
    distinct = differs;
  }
    where
      apart : (eqb (get_or cs k 0) c ≡ false) × (one_of earlier (get_or cs k 0) ≡ false)
      apart = neither (eqb (get_or cs k 0) c) (one_of earlier (get_or cs k 0)) g.not_earlier

      differs : (j : ℕ) → j < suc k → get_or (c ∷ cs) j 0 ≡ get_or cs k 0 → ⊥
      differs zero h q = eqb-false (get_or cs k 0) c apart.0 (sym q)
      differs (suc j) h q = g.distinct j (le_of_suc-le-suc h) q

  bad_later : (k : ℕ) → BadAt w (c ∷ earlier) cs k → BadAt w earlier (c ∷ cs) (suc k)
  unfolding one_of
  bad_later k (even e) = even e
  bad_later k (few h) = few h
  bad_later k (wide h) = wide h
  bad_later k (an_earlier e) = go (either (eqb (get_or cs k 0) c) (one_of earlier (get_or cs k 0)) e)
    where
      go : (eqb (get_or cs k 0) c ≡ true) ⊎ (one_of earlier (get_or cs k 0) ≡ true) → BadAt w earlier (c ∷ cs) (suc k)
      go (inl q) = equal 0 (omega arith) (sym (eqb-true (get_or cs k 0) c q))
      go (inr q) = an_earlier q
  bad_later k (equal j h e) = equal (suc j) (omega arith) e

  goods : GoodAt w earlier (c ∷ cs) 0 → (n : ℕ) → ((k : ℕ) → k < n → GoodAt w (c ∷ earlier) cs k) → (k : ℕ) → k < suc n → GoodAt w earlier (c ∷ cs) k
  goods h n g zero l = h
  goods h n g (suc k) l = good_later k (g k (le_of_suc-le-suc l))

  lifted : GoodAt w earlier (c ∷ cs) 0 → {n : ℕ} → Group w (c ∷ earlier) cs n → Group w earlier (c ∷ cs) (suc n)
  lifted h (all g) = all (goods h (length cs) g)
  lifted h (bad k l b g) = bad (suc k) (omega arith) (bad_later k b) (goods h k g)

pub group : (w : ℕ) (earlier columns : List ℕ) → Group w earlier columns (first_bad w earlier columns)
unfolding first_bad
group w earlier [] = all (λ k h. absurd (not-suc-le-zero h))
group w earlier (c ∷ cs) =
    picked_by (Group w earlier (c ∷ cs)) (every (column_tests w earlier c))
    (λ e. lifted w earlier c cs (head_good w earlier c cs e) (group w (c ∷ earlier) cs))
    (λ e. bad 0 (omega arith) (head_bad w earlier c cs e) (λ j h. absurd (not-suc-le-zero h)))

-- ---- a group of good columns

pub good_columns : (w : ℕ) (columns : List ℕ) → ((k : ℕ) → k < length columns → GoodAt w [] columns k) → GoodColumns w columns
good_columns w columns good = record {
  fit = λ i h. (good i h).fits;
  odd = λ i h. (good i h).odd;
  at_least_three = λ i h. (good i h).three;
  distinct = λ i k h l e. by_test (ltb i k) (λ t. absurd ((good k l).distinct i (ltb-true i k t) e))
      (λ t. by_test (ltb k i) (λ u. absurd ((good i h).distinct k (ltb-true k i u) (sym e)))
      (λ u. let a = ltb-false i k t in let b = ltb-false k i u in omega arith));
}

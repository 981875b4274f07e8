-- What the check of lent columns says of them, from what it says of each group. Assumes nothing.
use mathlib.Core.Path.{◌≡◌, refl, sym, ap, subst, ◌∙◌}
use mathlib.Core.Logic.{◌≢◌}
use mathlib.Core.Bool.{false≢true, cond}
use mathlib.Core.List.{List, []}
use Prim.Native.Nat.{ℕ, ◌+◌, ◌-◌, ◌<◌, ◌≤◌}
use native.Mathlib.Nat.{zero-add}
use native.Mathlib.Omega.{arith}
use borrow.Author.Tests.{ltb-true, ltb-false, lt-ltb, le-ltb, eqb-true, eqb-false}
use lib.Dec.{eqb, ltb}
use lib.Count.{ones}
use lib.ListN.{length, get_or, drop, length-drop}
use lib.Seq.{length-take-le, get_or-take, get_or-drop}
use Rattle.laws.specs.OneOf.{one_of}
use Rattle.laws.proofs.Rules.{by_test, picked_by}
use Rattle.hamming.specs.Correction.{GoodColumns}
use Rattle.frame.specs.declared.Kind.TheVariants.{Short, Long}
use Rattle.frame.specs.Columns.{GoodTables}
use Rattle.lent_columns.specs.declared.ColumnsAnswer.{ColumnsAnswer}
use Rattle.lent_columns.specs.Check.{table_length, lent_short, lent_long, lent_columns, columns_answer, check_columns}
use Rattle.lent_columns.specs.Laws.{group_start, group_width, BadColumn, even, few, wide, equal, FirstBad, CheckTheorem}
use Rattle.lent_columns.proofs.Groups as groups
use Rattle.lent_columns.proofs.Groups.{GoodAt, BadAt, Group, all, bad, group, good_columns}

-- ---- the columns of a group in the table: the group begins at `start`, and k counts within it

module _ (table : List ℕ) where
  -- group and table have the same numbers
  abbrev Lies : ℕ → ℕ → List ℕ → Type 0
  Lies start n columns = (k : ℕ) → k < n → get_or columns k 0 ≡ get_or table (start + k) 0

  module _ (w start n : ℕ) (columns : List ℕ) (lies : Lies start n columns)
      (is_start : (k : ℕ) → k < n → group_start (start + k) ≡ start) (is_width : (k : ℕ) → k < n → group_width (start + k) ≡ w) where
    bad_column : (k : ℕ) → k < n → BadAt w [] columns k → BadColumn table (start + k)
    unfolding one_of
    bad_column k h (groups.even e) = even (rw (sym (lies k h)) e)
    bad_column k h (groups.few l) = few (rw (sym (lies k h)) l)
    bad_column k h (groups.wide l) = wide (rw (is_width k h, sym (lies k h)) l)
    bad_column k h (groups.an_earlier e) = absurd (false≢true e)
    bad_column k h (groups.equal j l e) = equal (start + j) (rw (is_start k h) (omega arith)) (omega arith) (sym (lies j (omega arith)) ∙ e ∙ lies k h)

    -- a column that is good in its group is not bad
    not_bad : (k : ℕ) → k < n → GoodAt w [] columns k → BadColumn table (start + k) → ⊥
    not_bad k h g (even e) = let o = g.odd in let same = ap ones (lies k h) in omega arith
    not_bad k h g (few l) = let o = g.three in let same = ap ones (lies k h) in omega arith
    not_bad k h g (wide l) = let o = g.fits in let same = lies k h in let v = is_width k h in omega (arith, rw v at l)
    not_bad k h g (equal j s l e) = let from : start ≤ j = rw (is_start k h) at s in
        let back : start + (j - start) ≡ j = omega arith in
        g.distinct (j - start) (omega arith) (lies (j - start) (omega arith) ∙ rw back e ∙ sym (lies k h))

  -- ---- both groups

  -- the column of index i is not bad
  abbrev NotBad : ℕ → Type 0
  NotBad i = BadColumn table i → ⊥

  data Outcome : ColumnsAnswer → Type 0 where
    not_40 : length table ≢ table_length → Outcome (columns_answer 27 0)
    first_bad_lem : length table ≡ table_length → (i : ℕ) → FirstBad table i → Outcome (columns_answer 28 i)
    good : length table ≡ table_length → GoodTables (lent_columns table) → Outcome (columns_answer 0 0)

  module _ (whole : length table ≡ table_length) where
    short_length : length (lent_short table) ≡ 8
    short_length = length-take-le 8 table (omega arith)

    long_length : length (lent_long table) ≡ 32
    long_length = length-take-le 32 (drop 8 table) (let l = length-drop 8 table in omega arith)

    short_lies : Lies 0 8 (lent_short table)
    short_lies k h = get_or-take 8 table k 0 h ∙ ap (λ (i : ℕ). get_or table i 0) (sym (zero-add k))

    long_lies : Lies 8 32 (lent_long table)
    long_lies k h = get_or-take 32 (drop 8 table) k 0 h ∙ get_or-drop 8 table k 0

    short_start : (k : ℕ) → k < 8 → group_start (0 + k) ≡ 0
    short_start k h = rw (lt-ltb (0 + k) 8 (omega arith))

    short_width : (k : ℕ) → k < 8 → group_width (0 + k) ≡ 5
    short_width k h = rw (lt-ltb (0 + k) 8 (omega arith))

    long_start : (k : ℕ) → k < 32 → group_start (8 + k) ≡ 8
    long_start k h = rw (le-ltb (8 + k) 8 (omega arith))

    long_width : (k : ℕ) → k < 32 → group_width (8 + k) ≡ 7
    long_width k h = rw (le-ltb (8 + k) 8 (omega arith))

    short_bad : (k : ℕ) → k < 8 → BadAt 5 [] (lent_short table) k → BadColumn table k
    short_bad k h b = subst (BadColumn table) (zero-add k) (bad_column 5 0 8 (lent_short table) short_lies short_start short_width k h b)

    short_good : (k : ℕ) → k < 8 → GoodAt 5 [] (lent_short table) k → NotBad k
    short_good k h g b = not_bad 5 0 8 (lent_short table) short_lies short_start short_width k h g (subst (BadColumn table) (sym (zero-add k)) b)

    long_bad : (k : ℕ) → k < 32 → BadAt 7 [] (lent_long table) k → BadColumn table (8 + k)
    long_bad k h b = bad_column 7 8 32 (lent_long table) long_lies long_start long_width k h b

    long_good : (k : ℕ) → k < 32 → GoodAt 7 [] (lent_long table) k → NotBad (8 + k)
    long_good k h g b = not_bad 7 8 32 (lent_long table) long_lies long_start long_width k h g b

    -- the columns before index 8 + n
    none_before : ((k : ℕ) → k < 8 → NotBad k) → (n : ℕ) → ((k : ℕ) → k < n → NotBad (8 + k)) → (i : ℕ) → i < 8 + n → NotBad i
    none_before short n long i h = by_test (ltb i 8) (λ t. short i (ltb-true i 8 t))
        (λ t. let from = ltb-false i 8 t in let back : 8 + (i - 8) ≡ i = omega arith in subst NotBad back (long (i - 8) (omega arith)))

    by_long : ((k : ℕ) → k < 8 → GoodAt 5 [] (lent_short table) k) → {m : ℕ} → Group 7 [] (lent_long table) m
        → Outcome (cond (ltb m 32) (columns_answer 28 (8 + m)) (columns_answer 0 0))
    by_long short (all g) = rw (le-ltb (length (lent_long table)) 32 (omega (arith, long_length))) (good whole both)
      where
        both : GoodTables (lent_columns table)
        both Short = (short_length, good_columns 5 (lent_short table) (λ k h. short k (omega (arith, short_length))))
        both Long = (long_length, good_columns 7 (lent_long table) g)
    by_long short (bad k h b g) =
        let below : k < 32 = omega (arith, long_length) in
        rw (lt-ltb k 32 below) (first_bad_lem whole (8 + k) (record {
          within = omega arith;
          bad = long_bad k below b;
          least = none_before (λ j l. short_good j l (short j l)) k (λ j l. long_good j (omega arith) (g j l));
        }))

    by_short : {n : ℕ} → Group 5 [] (lent_short table) n → {m : ℕ} → Group 7 [] (lent_long table) m
        → Outcome (cond (ltb n 8) (columns_answer 28 n) (cond (ltb m 32) (columns_answer 28 (8 + m)) (columns_answer 0 0)))
    by_short (all g) long =
        rw (le-ltb (length (lent_short table)) 8 (omega (arith, short_length))) (by_long (λ k h. g k (omega (arith, short_length))) long)
    by_short (bad k h b g) long =
        let below : k < 8 = omega (arith, short_length) in
        rw (lt-ltb k 8 below) (first_bad_lem whole k (record {
          within = omega arith;
          bad = short_bad k below b;
          least = λ j l. short_good j (omega arith) (g j l);
        }))

    -- good columns are not bad
    good_at : (w : ℕ) (columns : List ℕ) → GoodColumns w columns → (k : ℕ) → k < length columns → GoodAt w [] columns k
    unfolding one_of
    good_at w columns g k h = record {
      odd = g.odd k h;
      three = g.at_least_three k h;
      fits = g.fit k h;
      not_earlier = refl;
      distinct = λ j l e. let same = g.distinct j k (omega arith) h e in omega arith;
    }

    not_bad_if_good : GoodTables (lent_columns table) → (i : ℕ) → i < table_length → NotBad i
    not_bad_if_good g i h =
        none_before (λ k l. short_good k l (good_at 5 (lent_short table) (g Short).1 k (omega (arith, short_length)))) 32
        (λ k l. long_good k l (good_at 7 (lent_long table) (g Long).1 k (omega (arith, long_length)))) i h

  outcome : Outcome (check_columns table)
  unfolding check_columns
  outcome = picked_by Outcome (eqb (length table) table_length)
      (λ e. by_short (eqb-true (length table) table_length e) (group 5 [] (lent_short table)) (group 7 [] (lent_long table)))
      (λ e. not_40 (eqb-false (length table) table_length e))

  -- ---- the laws

  -- at most one index is the first
  one_first : (i k : ℕ) → FirstBad table i → FirstBad table k → i ≡ k
  one_first i k f g = by_test (ltb i k) (λ t. absurd (g.least i (ltb-true i k t) f.bad))
      (λ t. by_test (ltb k i) (λ u. absurd (f.least k (ltb-true k i u) g.bad))
      (λ u. let a = ltb-false i k t in let b = ltb-false k i u in omega arith))

  refusal_differs : {a b : ColumnsAnswer} → a ≡ b → a.refusal ≢ b.refusal → ⊥
  refusal_differs e n = n (ap (λ (x : ColumnsAnswer). x.refusal) e)

  to_good : {a : ColumnsAnswer} → Outcome a → a.refusal ≡ 0 → (length table ≡ table_length) × GoodTables (lent_columns table)
  to_good (not_40 n) e = omega arith
  to_good (first_bad_lem l i f) e = omega arith
  to_good (good l g) e = (l, g)

  from_good : {a : ColumnsAnswer} → Outcome a → (length table ≡ table_length) × GoodTables (lent_columns table) → a.refusal ≡ 0
  from_good (not_40 n) h = absurd (n h.0)
  from_good (first_bad_lem l i f) h = absurd (not_bad_if_good l h.1 i f.within f.bad)
  from_good (good l g) h = refl

  to_27 : {a : ColumnsAnswer} → Outcome a → a ≡ columns_answer 27 0 → length table ≢ table_length
  to_27 (not_40 n) e = n
  to_27 (first_bad_lem l i f) e = absurd (refusal_differs e (λ q. omega arith))
  to_27 (good l g) e = absurd (refusal_differs e (λ q. omega arith))

  from_27 : {a : ColumnsAnswer} → Outcome a → length table ≢ table_length → a ≡ columns_answer 27 0
  from_27 (not_40 n) h = refl
  from_27 (first_bad_lem l i f) h = absurd (h l)
  from_27 (good l g) h = absurd (h l)

  to_28 : {a : ColumnsAnswer} → Outcome a → (i : ℕ) → a ≡ columns_answer 28 i → (length table ≡ table_length) × FirstBad table i
  to_28 (not_40 n) i e = absurd (refusal_differs e (λ q. omega arith))
  to_28 (first_bad_lem l k f) i e = (l, subst (FirstBad table) (ap (λ (x : ColumnsAnswer). x.index) e) f)
  to_28 (good l g) i e = absurd (refusal_differs e (λ q. omega arith))

  from_28 : {a : ColumnsAnswer} → Outcome a → (i : ℕ) → (length table ≡ table_length) × FirstBad table i → a ≡ columns_answer 28 i
  from_28 (not_40 n) i h = absurd (n h.0)
  from_28 (first_bad_lem l k f) i h = ap (columns_answer 28) (one_first k i f h.1)
  from_28 (good l g) i h = absurd (not_bad_if_good l g i h.1.within h.1.bad)

  no_other : {a : ColumnsAnswer} → Outcome a → a.refusal ≢ 27 → a.refusal ≢ 28 → a.refusal ≡ 0
  no_other (not_40 n) h k = absurd (h refl)
  no_other (first_bad_lem l i f) h k = absurd (k refl)
  no_other (good l g) h k = refl

  no_index : {a : ColumnsAnswer} → Outcome a → a.refusal ≢ 28 → a.index ≡ 0
  no_index (not_40 n) h = refl
  no_index (first_bad_lem l i f) h = absurd (h refl)
  no_index (good l g) h = refl

pub check_theorem : CheckTheorem
check_theorem table = let o = outcome table in record {
  passes_exactly = (to_good table o, from_good table o);
  refused_by_27 = (to_27 table o, from_27 table o);
  refused_by_28 = λ i. (to_28 table o i, from_28 table o i);
  no_other = no_other table o;
  no_index = no_index table o;
}

-- what a check that was passed says of the table's length, for those who take its parts
pub whole_table : (table : List ℕ) (checked : ColumnsAnswer) → checked ≡ check_columns table → checked.refusal ≡ 0 → length table ≡ table_length
whole_table table checked e passed = (to_good table (outcome table) (ap (λ (x : ColumnsAnswer). x.refusal) (sym e) ∙ passed)).0

-- Document 01's table follows its rule. Assumes nothing.
use mathlib.Core.Path.{◌≡◌, refl, sym, ap, ◌∙◌}
use mathlib.Core.Bool.{Bool, true, false≢true}
use mathlib.Core.List.{List}
use Prim.Native.Nat.{ℕ, ◌^◌, ◌<◌}
use borrow.Author.Tests.{eqb-true, ltb-true}
use lib.ListN.{get_or}
use lib.Count.{ones}
use Rattle.laws.specs.Tests.{every}
use Rattle.laws.specs.Table.{tests_from, every_entry}
use Rattle.laws.proofs.Tests.{test_at}
use Rattle.laws.proofs.Table.{entry}
use Rattle.std.proofs.lemmas.Option.{same_Some}
use Rattle.std.specs.declared.option.Option.{Option}
use Rattle.std.specs.declared.option.Option.TheVariants.{Some, None}
use Rattle.hamming.specs.Code.{first_from, first_equal}
use Rattle.hamming.specs.Columns.{column_table, width_at, is_at, column_tests, TableFollowsRule, TableFacts}

pub table_follows_rule : TableFollowsRule
unfolding every_entry tests_from every first_from ones
table_follows_rule = refl

is_at_lem : (i : ℕ) (f : Option ℕ) → is_at i f ≡ true → f ≡ Some i
is_at_lem i (Some k) e = ap Some (eqb-true k i e)
is_at_lem i None e = absurd (false≢true e)

pub table_facts : TableFacts
table_facts i h = record {
  three = eqb-true (ones (get_or column_table i 0)) 3 (test_at tests passed 0);
  distinct = λ k l e. same (sym (first i h) ∙ ap (first_equal column_table) e ∙ first k l);
  fits = ltb-true (get_or column_table i 0) (2 ^ width_at i) (test_at tests passed 2);
}
  where
    passed_at : (k : ℕ) → k < 32 → every (column_tests k (get_or column_table k 0)) ≡ true
    passed_at k l = entry (λ (n column : ℕ). every (column_tests n column)) column_table table_follows_rule k l

    first : (k : ℕ) → k < 32 → first_equal column_table (get_or column_table k 0) ≡ Some k
    first k l = is_at_lem k (first_equal column_table (get_or column_table k 0)) (test_at (column_tests k (get_or column_table k 0)) (passed_at k l) 1)

    tests : List Bool
    tests = column_tests i (get_or column_table i 0)

    passed : every tests ≡ true
    passed = passed_at i h

    same : {j k : ℕ} → Some j ≡ Some k → j ≡ k
    same e = same_Some _ _ e

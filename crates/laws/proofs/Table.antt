-- A test that is computed over a whole table is a rule at each of its entries. Assumes nothing.
use mathlib.Core.Path.{◌≡◌, refl, sym, ap, ◌∙◌}
use mathlib.Core.Bool.{Bool, true}
use mathlib.Core.List.{List, [], ◌∷◌}
use Prim.Native.Nat.{ℕ, zero, suc, ◌+◌, ◌<◌, suc-le-suc}
use native.Mathlib.Nat.{add-zero, zero-add, add-suc, suc-add, le_of_suc-le-suc, not-suc-le-zero}
use native.Mathlib.Omega.{arith}
use lib.ListN.{length, get_or}
use Rattle.laws.specs.Tests.{every}
use Rattle.laws.specs.Table.{tests_from, every_entry}
use Rattle.laws.proofs.Tests.{test_at}

test_from : (rule : ℕ → ℕ → Bool) (xs : List ℕ) (i k : ℕ) → k < length xs → get_or (tests_from rule i xs) k true ≡ rule (i + k) (get_or xs k 0)
unfolding tests_from
test_from rule [] i k h = absurd (not-suc-le-zero h)
test_from rule (x ∷ xs) i zero h = ap (λ (m : ℕ). rule m x) (sym (add-zero i))
test_from rule (x ∷ xs) i (suc k) h =
    test_from rule xs (suc i) k (le_of_suc-le-suc h) ∙ ap (λ (m : ℕ). rule m (get_or xs k 0)) (suc-add i k ∙ sym (add-suc i k))

tests_from_lem : (rule : ℕ → ℕ → Bool) (xs : List ℕ) (i : ℕ) → ((k : ℕ) → k < length xs → rule (i + k) (get_or xs k 0) ≡ true) → every (tests_from rule i xs) ≡ true
unfolding every tests_from
tests_from_lem rule [] i each = refl
tests_from_lem rule (x ∷ xs) i each =
    let some : 0 < suc (length xs) = omega arith in
    rw (ap (λ (m : ℕ). rule m x) (sym (add-zero i)) ∙ each 0 some)
    (tests_from_lem rule xs (suc i) (λ k h. ap (λ (m : ℕ). rule m (get_or xs k 0)) (suc-add i k ∙ sym (add-suc i k)) ∙ each (suc k) (suc-le-suc h)))

pub entry : (rule : ℕ → ℕ → Bool) (xs : List ℕ) → every_entry rule xs ≡ true → (k : ℕ) → k < length xs → rule k (get_or xs k 0) ≡ true
unfolding every_entry
entry rule xs e k h =
    ap (λ (m : ℕ). rule m (get_or xs k 0)) (sym (zero-add k)) ∙ sym (test_from rule xs 0 k h) ∙ test_at (tests_from rule 0 xs) e k

-- and the rule at each entry is the test
pub all_entries : (rule : ℕ → ℕ → Bool) (xs : List ℕ) → ((k : ℕ) → k < length xs → rule k (get_or xs k 0) ≡ true) → every_entry rule xs ≡ true
unfolding every_entry
all_entries rule xs each = tests_from_lem rule xs 0 (λ k h. ap (λ (m : ℕ). rule m (get_or xs k 0)) (zero-add k) ∙ each k h)

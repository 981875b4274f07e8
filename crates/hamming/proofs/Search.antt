-- What the search for a column says. Assumes nothing.
use mathlib.Core.Path.{◌≡◌, sym, ◌∙◌, subst}
use mathlib.Core.List.{List, [], ◌∷◌}
use Prim.Native.Nat.{ℕ, zero, suc, ◌+◌, ◌<◌, min}
use native.Mathlib.Nat.{add-zero, add-suc, suc-add, le_of_suc-le-suc, not-suc-le-zero}
use native.Mathlib.Omega.{arith}
use borrow.Author.Tests.{eqb-true, eqb-false}
use lib.Dec.{eqb}
use lib.ListN.{length, take, get_or, length-take}
use Rattle.laws.proofs.Rules.{picked_by}
use Rattle.std.specs.declared.option.Option.{Option}
use Rattle.std.specs.declared.option.Option.TheVariants.{Some, None}
use Rattle.hamming.specs.Code.{in_use, first_from, first_equal}
use Rattle.std.proofs.Math.Nat.{min_comm}
use Rattle.std.proofs.lemmas.List.{take_min}
use Rattle.std.proofs.lemmas.Option.{none-some, same_Some}

-- a column that equals s, its bit counted from k; or none does
pub data Searched (columns : List ℕ) (s k : ℕ) : Option ℕ → Type 0 where
  at : (i : ℕ) → i < length columns → get_or columns i 0 ≡ s → Searched columns s k (Some (k + i))
  none : ((i : ℕ) → i < length columns → get_or columns i 0 ≡ s → ⊥) → Searched columns s k None

search_from : (columns : List ℕ) (s k : ℕ) → Searched columns s k (first_from k columns s)
unfolding first_from
search_from [] s k = none (λ i h e. not-suc-le-zero h)
search_from (c ∷ cs) s k =
    picked_by (Searched (c ∷ cs) s k) (eqb c s)
    (λ e. subst (λ (i : ℕ). Searched (c ∷ cs) s k (Some i)) (add-zero k) (at 0 (omega arith) (eqb-true c s e)))
    (λ e. later (eqb-false c s e) (first_from (suc k) cs s) (search_from cs s (suc k)))
  where
    later : (c ≡ s → ⊥) → (f : Option ℕ) → Searched cs s (suc k) f → Searched (c ∷ cs) s k f
    later ne f (at i h e) = subst (λ (n : ℕ). Searched (c ∷ cs) s k (Some n)) (add-suc k i ∙ sym (suc-add k i)) (at (suc i) (omega arith) e)
    later ne f (none h) = none rest
      where
        rest : (i : ℕ) → i < suc (length cs) → get_or (c ∷ cs) i 0 ≡ s → ⊥
        rest zero l e = ne e
        rest (suc i) l e = h i (le_of_suc-le-suc l) e

pub searched : (columns : List ℕ) (s : ℕ) → Searched columns s 0 (first_equal columns s)
searched columns s = search_from columns s 0

pub found_below : (columns : List ℕ) (s i : ℕ) → first_equal columns s ≡ Some i → i < length columns
found_below columns s i e = go (first_equal columns s) e (searched columns s)
  where
    go : (f : Option ℕ) → f ≡ Some i → Searched columns s 0 f → i < length columns
    go f e (at k h q) = omega (arith, same_Some _ _ e)
    go f e (none h) = absurd (none-some _ e)

-- the search finds one of the 32 bits
pub found_in_use : (columns : List ℕ) (s i : ℕ) → first_equal (in_use columns) s ≡ Some i → i < 32
found_in_use columns s i e = omega (arith, found_below (in_use columns) s i e, length-take 32 columns)

-- the columns in use, as a slice of them
pub used : (columns : List ℕ) → take (min (length columns) 32) columns ≡ in_use columns
used columns = rw (min_comm (length columns) 32, take_min 32 columns)

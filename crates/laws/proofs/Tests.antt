-- A list of tests and its facts, both ways. Assumes nothing.
use mathlib.Core.Path.{◌≡◌, refl}
use mathlib.Core.Bool.{Bool, true, ◌&&◌}
use mathlib.Core.List.{List, [], ◌∷◌}
use Prim.Native.Nat.{ℕ, zero, suc}
use lib.ListN.{get_or}
use Rattle.std.proofs.lemmas.Bool.{and_parts}
use Rattle.laws.specs.Tests.{every, Passed}

-- both tests of a conjunction
pub both : (a b : Bool) → (a && b) ≡ true → (a ≡ true) × (b ≡ true)
both = and_parts

-- the test at a place
pub test_at : (ts : List Bool) → every ts ≡ true → (i : ℕ) → get_or ts i true ≡ true
unfolding every
test_at [] e i = refl
test_at (t ∷ ts) e zero = (both t (every ts) e).0
test_at (t ∷ ts) e (suc i) = test_at ts (both t (every ts) e).1 i

-- all of them
pub every→passed : (ts : List Bool) → every ts ≡ true → Passed ts
unfolding every
every→passed [] e = tt
every→passed (t ∷ ts) e = ((both t (every ts) e).0, every→passed ts (both t (every ts) e).1)

pub passed→every : (ts : List Bool) → Passed ts → every ts ≡ true
unfolding every
passed→every [] p = refl
passed→every (t ∷ ts) p = rw p.0 (passed→every ts p.1)

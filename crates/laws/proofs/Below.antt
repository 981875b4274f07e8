-- A test that is computed at each number below n. Assumes nothing.
use mathlib.Core.Path.{◌≡◌}
use mathlib.Core.Bool.{Bool, true, ◌&&◌}
use Prim.Native.Nat.{ℕ, zero, suc, ◌<◌}
use native.Mathlib.Nat.{le_of_suc-le-suc, not-suc-le-zero}
use Rattle.laws.proofs.Tests.{both}

abbrev pub every_below : ℕ → (ℕ → Bool) → Bool
every_below zero test = true
every_below (suc n) test = test zero && every_below n (λ k. test (suc k))

pub below : (n : ℕ) (test : ℕ → Bool) → every_below n test ≡ true → (k : ℕ) → k < n → test k ≡ true
below zero test e k h = absurd (not-suc-le-zero h)
below (suc n) test e zero h = (both (test zero) _ e).0
below (suc n) test e (suc k) h = below n (λ i. test (suc i)) (both (test zero) _ e).1 k (le_of_suc-le-suc h)

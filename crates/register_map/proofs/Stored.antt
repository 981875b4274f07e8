-- A byte stored in register 0, 1, 2 or 3. Assumes nothing.
use mathlib.Core.Path.{◌≡◌, refl, sym, ◌∙◌}
use mathlib.Core.Logic.{◌≢◌}
use mathlib.Core.Bool.{cond}
use Prim.Native.Nat.{ℕ, zero, suc, ◌<◌}
use native.Mathlib.Omega.{arith}
use borrow.Author.Tests.{ne_eqb, eqb-true}
use lib.Dec.{eqb}
use Rattle.laws.proofs.Rules.{by_test}
use Rattle.receiver_state.specs.declared.Core.{Core}
use Rattle.register_map.specs.Map.{register_byte}
use Rattle.register_map.specs.Change.{stored, store_byte}
use Rattle.register_map.specs.Laws.{StoreLaws}

-- a rule for each number below 4
pub below_4 : (P : ℕ → Type 0) → P 0 → P 1 → P 2 → P 3 → (n : ℕ) → n < 4 → P n
below_4 P a b c d zero h = a
below_4 P a b c d (suc zero) h = b
below_4 P a b c d (suc (suc zero)) h = c
below_4 P a b c d (suc (suc (suc zero))) h = d
below_4 P a b c d (suc (suc (suc (suc n)))) h = absurd (omega arith)

stored_back : (core : Core) (number byte : ℕ) → number < 4 → register_byte (store_byte number byte core) number ≡ byte
unfolding register_byte stored
stored_back core number byte h = below_4 (λ (n : ℕ). register_byte (store_byte n byte core) n ≡ byte) refl refl refl refl number h

-- a register that the number is not keeps its byte
kept : (number other at byte old : ℕ) (rest : ℕ) (rest' : ℕ) → other ≢ number → rest ≡ rest'
    → cond (eqb other at) (cond (eqb number at) byte old) rest ≡ cond (eqb other at) old rest'
kept number other at byte old rest rest' d e =
    by_test (eqb other at)
    (λ t. rw (t, ne_eqb number at (λ z. d (eqb-true other at t ∙ sym z))) refl)
    (λ t. rw t e)

others_stay : (core : Core) (number byte other : ℕ) → other ≢ number → register_byte (store_byte number byte core) other ≡ register_byte core other
unfolding register_byte stored
others_stay core number byte other d =
    kept number other 0 byte core.settings.fine1 _ _ d
    (kept number other 1 byte core.settings.fine2 _ _ d
    (kept number other 2 byte core.settings.coarse _ _ d
    (kept number other 3 byte core.settings.control _ _ d refl)))

pub store_laws : StoreLaws
store_laws = record { stored_back = stored_back; others_stay = others_stay }

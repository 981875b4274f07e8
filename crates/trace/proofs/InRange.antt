-- The test that no byte of a block is over 3. Assumes nothing.
use mathlib.Core.Path.{◌≡◌, refl, ap, ◌∙◌}
use mathlib.Core.Bool.{Bool, true, false, ◌&&◌}
use mathlib.Core.List.{List, [], ◌∷◌}
use Prim.Native.Nat.{ℕ, suc, ◌≤◌, ◌<◌, max}
use native.Mathlib.Omega.{arith}
use borrow.Author.Tests.{le-leb, lt-leb, leb-true, leb-false}
use lib.Dec.{leb}
use lib.ListN.{length, get_or}
use Rattle.std.specs.List.{fold}
use Rattle.laws.specs.Tests.{every}
use Rattle.laws.specs.Table.{tests_from, every_entry}
use Rattle.laws.proofs.Rules.{by_test}
use Rattle.laws.proofs.Table.{entry}
use Rattle.trace.specs.Block.{no_byte_over_3}

-- the larger of two passes exactly if both do
larger : (a b : ℕ) → leb (max a b) 3 ≡ (leb a 3 && leb b 3)
larger a b =
    by_test (leb a 3)
    (λ p. by_test (leb b 3)
    (λ q. let l : a ≤ 3 = leb-true a 3 p in let r : b ≤ 3 = leb-true b 3 q in rw (p, q) (le-leb (max a b) 3 (omega arith)))
    (λ q. let r : 3 < b = leb-false b 3 q in rw (p, q) (lt-leb (max a b) 3 (omega arith))))
    (λ p. let l : 3 < a = leb-false a 3 p in rw p (lt-leb (max a b) 3 (omega arith)))

and_assoc : (a b c : Bool) → ((a && b) && c) ≡ (a && (b && c))
and_assoc true b c = refl
and_assoc false b c = refl

and_true : (a : Bool) → a ≡ (a && true)
and_true true = refl
and_true false = refl

-- and so the largest of some bytes
largest : (bytes : List ℕ) (place first : ℕ) → leb (fold (λ (a x : ℕ). max a x) first bytes) 3 ≡ (leb first 3 && every (tests_from (λ place byte. leb byte 3) place bytes))
unfolding every tests_from
largest [] place first = and_true (leb first 3)
largest (byte ∷ bytes) place first =
    largest bytes (suc place) (max first byte)
    ∙ ap (λ (a : Bool). a && every (tests_from (λ place byte. leb byte 3) (suc place) bytes)) (larger first byte)
    ∙ and_assoc (leb first 3) (leb byte 3) _

pub largest_byte : (block : List ℕ) → leb (fold (λ (a x : ℕ). max a x) 0 block) 3 ≡ no_byte_over_3 block
unfolding no_byte_over_3 every_entry
largest_byte block = largest block 0 0

-- so each byte is one of two bits
pub byte_below : (block : List ℕ) → no_byte_over_3 block ≡ true → (i : ℕ) → i < length block → get_or block i 0 < 4
unfolding no_byte_over_3
byte_below block e i h = let small : get_or block i 0 ≤ 3 = leb-true (get_or block i 0) 3 (entry (λ place byte. leb byte 3) block e i h) in omega arith

-- Document 02, Q-8: the place of a bit, of n data bits and w check bits. Proved in proofs/Place.antt.
-- "A corrected frame also reports the flipped bit: 1 to 39 counts the frame's bits after the format bit, in the order sent; it is 0 where the flag is 0."
-- Data bits are sent before check bits, of both the most significant first.
use Rattle.std.specs.Prelude.{ℕ, ◌+◌, ◌-◌, ◌≤◌, ◌≡◌, ◌↔◌, false, cond, eqb, ltb, Option, Some, None}
use Rattle.hamming.specs.declared.WrongBit.{WrongBit}
use Rattle.hamming.specs.declared.WrongBit.TheVariants.{Check, Data}
use Rattle.hamming.specs.Correction.{Protected, NoneOrProtected, flag_of}

-- the place of the bit that the decoder names; a difference is never below 0
abbrev pub place_of : ℕ → ℕ → Option WrongBit → ℕ
place_of n w None = 0
place_of n w (Some (Data i)) = n - i
place_of n w (Some (Check j)) = n + w - j

-- and back: the bit at a place
unfoldable pub bit_at : ℕ → ℕ → ℕ → Option WrongBit
bit_at n w place = cond (eqb place 0) None (cond (ltb n place) (Some (Check (n + w - place))) (Some (Data (n - place))))

-- places and protected bits correspond one to one, and no protected bit has place 0
pub record PlaceLaws (n w : ℕ) : Type 0 where
  pub first : (p : Option WrongBit) → Protected n w p → 1 ≤ place_of n w p
  pub last : (p : Option WrongBit) → place_of n w p ≤ n + w
  pub zero_exactly : (p : Option WrongBit) → NoneOrProtected n w p → (place_of n w p ≡ 0) ↔ (flag_of p ≡ false)
  pub bit_back : (p : Option WrongBit) → NoneOrProtected n w p → bit_at n w (place_of n w p) ≡ p
  pub protected_at : (place : ℕ) → 1 ≤ place → place ≤ n + w → Protected n w (bit_at n w place)
  pub place_back : (place : ℕ) → place ≤ n + w → place_of n w (bit_at n w place) ≡ place
  pub one_to_one : (p q : Option WrongBit) → NoneOrProtected n w p → NoneOrProtected n w q → place_of n w p ≡ place_of n w q → p ≡ q

-- once over any numbers of data and check bits
abbrev pub PlaceTheorem : Type 0
PlaceTheorem = (n w : ℕ) → PlaceLaws n w

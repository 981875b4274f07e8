-- Document 01, "Frames on channel B": the bits of a number in the order sent.
use Rattle.std.specs.Prelude.{ℕ, zero, suc, ◌-◌, ◌/◌, ◌%◌, ◌^◌, ◌<◌, ◌≡◌, true, List, [], ◌∷◌, ◌++◌, length}
use Rattle.frame.specs.declared.Kind.{Kind}
use Rattle.frame.specs.Numbers.{frame_bits, is_frame}

-- the n low bits of a number, "first bit sent = most significant"
unfoldable pub bits_of : ℕ → ℕ → List ℕ
bits_of zero number = []
bits_of (suc n) number = bits_of n (number / 2) ++ (number % 2 ∷ [])

-- every entry is a bit
abbrev pub Bits : List ℕ → Type 0
Bits [] = Unit {0}
Bits (b ∷ bs) = (b < 2) × Bits bs

-- Proved in proofs/Bits.antt.
pub record BitsLaw : Type 0 where
  pub first : (n number : ℕ) → bits_of (suc n) number ≡ number / 2 ^ n % 2 ∷ bits_of n number
  pub all_bits : (n number : ℕ) → Bits (bits_of n number)
  pub count : (n number : ℕ) → length (bits_of n number) ≡ n
  -- the first bit of a frame is the start bit, 0: it adds nothing to the number
  pub start : (kind : Kind) (number : ℕ) → is_frame kind number ≡ true → number / 2 ^ (frame_bits kind - 1) ≡ 0

-- Document 02, Q-8: places in a frame. Proved in proofs/Place.antt.
-- "1 to 39 counts the frame's bits after the format bit, in the order sent"
use Rattle.std.specs.Prelude.{ℕ, ◌+◌, ◌-◌, ◌^◌, ◌≤◌, ◌≡◌, cond, List, eqb, get_or, set, Option}
use Rattle.std.specs.Int.Bits.{bit_xor}
use Rattle.hamming.specs.declared.WrongBit.{WrongBit}
use Rattle.hamming.specs.Place.{place_of}
use Rattle.frame.specs.declared.Kind.{Kind}
use Rattle.frame.specs.declared.Kind.TheVariants.{Long}
use Rattle.frame.specs.Numbers.{data_bits, check_bits, frame_bits}
use Rattle.frame.specs.Bits.{bits_of}

-- how many there are: one for each protected bit
abbrev pub places : Kind → ℕ
places kind = data_bits kind + check_bits kind

-- that of a long frame's last check bit, 39; no place is larger
abbrev pub largest_place : ℕ
largest_place = places Long

-- the place of the bit that the decoder names, 0 for none
abbrev pub place_in : Kind → Option WrongBit → ℕ
place_in kind wrong = place_of (data_bits kind) (check_bits kind) wrong

-- the frame number with the bit at that place flipped, and none at place 0. The stop bit is bit 0 of the number, so the last place is bit 1.
unfoldable pub flip_at : Kind → ℕ → ℕ → ℕ
flip_at kind place number = cond (eqb place 0) number (bit_xor number (2 ^ (places kind + 1 - place)))

-- a list of bits with the bit at that index flipped, from 0 on
abbrev pub flipped_in : ℕ → List ℕ → List ℕ
flipped_in index bits = set bits index (1 - get_or bits index 0)

-- in the order sent the start bit has index 0 and the format bit index 1: so the bit at a place is that many bits after the format bit
abbrev pub InOrderSent : Type 0
InOrderSent =
    (kind : Kind) (place number : ℕ) → 1 ≤ place → place ≤ places kind
    → bits_of (frame_bits kind) (flip_at kind place number) ≡ flipped_in (1 + place) (bits_of (frame_bits kind) number)

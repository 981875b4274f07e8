-- Document 01, "Frames on channel B", with document 02, Q-1: what holds of the bits taken from channel B. Proved in proofs/.
use Rattle.std.specs.Prelude.{◌≡◌, ℕ, suc, ◌+◌, ◌-◌, ◌*◌, ◌/◌, ◌%◌, ◌^◌, ◌<◌, ◌≤◌, true, ◌⊎◌, ◌↔◌}
use Rattle.frame.specs.declared.Kind.{Kind}
use Rattle.frame.specs.Numbers.{frame_bits, stop_bit, is_frame}
use Rattle.receiver_state.specs.declared.Ids.{Ids}
use Rattle.receiver_state.specs.declared.Core.{Core}
use Rattle.receiver_state.specs.declared.Held.{Held}
use Rattle.receiver_state.specs.declared.Receiver.{Receiver}
use Rattle.receiver_state.specs.State.{holding, wanting_ones, nothing_held, is_waiting, receiver, fresh_state}
use Rattle.receiver_state.specs.WellFormed.{well_formed, HeldFacts}
use Rattle.channel_b.specs.declared.Taken.TheVariants.{Unfinished, Finished}
use Rattle.channel_b.specs.TakeBit.{take_bit, held_after, Waits}

-- ---- waiting

-- 01's two halves of "waits" come to: no frame bit is held and no ones are wanted, as the test of a waiting receiver says
pub record WaitsLaw : Type 0 where
  pub holds_nothing : (r : Receiver) → well_formed r ≡ true → Waits r ↔ (r.held ≡ nothing_held)
  pub is_waiting_lem : (r : Receiver) → Waits r ↔ (is_waiting r.held ≡ true)
  -- while ones are wanted a 0 is no start bit
  pub wanting_waits_not : (core : Core) (wanted : ℕ) → 1 ≤ wanted → Waits (receiver core (wanting_ones wanted)) → ⊥

abbrev pub FreshWaits : Type 0
FreshWaits = (own : Ids) → Waits (fresh_state own)

-- ---- the bits of a frame

-- the first n bits of a frame number of the kind, in the order sent, and the bit after them
abbrev pub first_bits : Kind → ℕ → ℕ → Held
first_bits kind number n = holding n (number / 2 ^ (frame_bits kind - n))

abbrev pub bit_after : Kind → ℕ → ℕ → ℕ
bit_after kind number n = number / 2 ^ (frame_bits kind - (n + 1)) % 2

-- while ones are wanted, a 1 lowers their number, after the last the receiver waits, and a 0 sets it to 41; while waiting, a 1 is idle and a 0 the
-- start bit; then every frame is taken bit by bit, and its last bit finishes it
pub record BitLaw : Type 0 where
  pub one_wanted : (wanted : ℕ) → take_bit (wanting_ones wanted) 1 ≡ Unfinished (wanting_ones (wanted - 1))
  pub run_again : (others : ℕ) → take_bit (wanting_ones (suc others)) 0 ≡ Unfinished (wanting_ones 41)
  pub none_wanted : wanting_ones 0 ≡ holding 0 0
  -- where none are wanted, a bit that finishes no frame leaves none wanted
  pub no_new_ones : (held : Held) (bit : ℕ) (after : Held) → held.wanted ≡ 0 → take_bit held bit ≡ Unfinished after → after.wanted ≡ 0
  pub idle_bit : take_bit (holding 0 0) 1 ≡ Unfinished (holding 0 0)
  pub start_bit : take_bit (holding 0 0) 0 ≡ Unfinished (holding 1 0)
  pub next_bit : (kind : Kind) (number n : ℕ) → is_frame kind number ≡ true → 1 ≤ n → n + 1 < frame_bits kind
      → take_bit (first_bits kind number n) (bit_after kind number n) ≡ Unfinished (first_bits kind number (n + 1))
  pub last_bit : (kind : Kind) (number n : ℕ) → is_frame kind number ≡ true → n + 1 ≡ frame_bits kind
      → take_bit (first_bits kind number n) (bit_after kind number n) ≡ Finished kind number
  -- after the bits that a well-formed receiver holds, a bit finishes a frame or is held with them
  pub later_bit : (held : Held) (bit : ℕ) → HeldFacts held → bit < 2 → 1 ≤ held.count
      → ((kind : Kind) × (take_bit held bit ≡ Finished kind (held.bits * 2 + bit)))
      ⊎ (take_bit held bit ≡ Unfinished (holding (held.count + 1) (held.bits * 2 + bit)))

-- start and format of a finished frame are those of its kind
abbrev pub FinishesFrames : Type 0
FinishesFrames =
    (held : Held) (bit : ℕ) (kind : Kind) (number : ℕ) → HeldFacts held → bit < 2 → take_bit held bit ≡ Finished kind number → is_frame kind number ≡ true

-- ---- after a finished frame

pub record AfterFrame : Type 0 where
  -- after a stop bit of 1 "the receiver waits for a start bit"
  pub waits : (core : Core) (number : ℕ) → stop_bit number ≡ 1 → Waits (receiver core (held_after number))
  pub stop_one : (number : ℕ) → stop_bit number ≡ 1 → held_after number ≡ nothing_held
  -- after a stop bit of 0 it wants 41 ones
  pub stop_zero : (number : ℕ) → stop_bit number ≡ 0 → held_after number ≡ wanting_ones 41
  pub is_well_formed : (number : ℕ) → HeldFacts (held_after number)

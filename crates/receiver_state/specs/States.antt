-- Document 01, "Well formed" and "Registers" (fresh), with document 02, Q-1: what holds of such states. Proved in proofs/States.antt,
-- `HeldLaw` and `WaitingLaw` in proofs/HeldBits.antt.
use Rattle.std.specs.Prelude.{ℕ, ◌/◌, ◌-◌, ◌^◌, ◌<◌, ◌≤◌, ◌≡◌, ◌⊎◌, ◌↔◌, true}
use Rattle.frame.specs.declared.Kind.{Kind}
use Rattle.frame.specs.declared.Kind.TheVariants.{Short, Long}
use Rattle.frame.specs.Numbers.{frame_bits, is_frame}
use Rattle.receiver_state.specs.declared.Ids.{Ids}
use Rattle.receiver_state.specs.declared.Held.{Held}
use Rattle.receiver_state.specs.declared.Receiver.{Receiver}
use Rattle.receiver_state.specs.State.{ids, wanting_ones, nothing_held, is_waiting, status_byte, fresh_core, fresh_state, fresh_of, refused_fresh, fresh_answer}
use Rattle.receiver_state.specs.WellFormed.{well_formed, HeldFacts, ReceiverFacts}

-- ---- well formed

-- the tests of refusal 2 and the facts agree
abbrev pub WellFormedLaw : Type 0
WellFormedLaw = (r : Receiver) → (well_formed r ≡ true) ↔ ReceiverFacts r

-- "1 to 15 bits of a short or 1 to 41 of a long frame, start and format as required, and no bits beyond": the first bits of some frame of the
-- kind, in the order sent, and fewer than all
pub record PartOf (kind : Kind) (h : Held) : Type 0 where
  pub some : 1 ≤ h.count
  pub unfinished : h.count < frame_bits kind
  pub number : ℕ
  pub is_a_frame : is_frame kind number ≡ true
  pub first_bits_lem : h.bits ≡ number / 2 ^ (frame_bits kind - h.count)
  pub none_wanted : h.wanted ≡ 0

-- document 02, Q-1: ones are "still wanted", not "over 41", and not "beside held frame bits"
pub record WantsOnes (h : Held) : Type 0 where
  pub some : 1 ≤ h.wanted
  pub at_most_41 : h.wanted ≤ 41
  pub no_bit_held : h ≡ wanting_ones h.wanted

-- the tests of what is held are the papers' words: "the receiver is waiting", or wants ones, "or holds" such bits
abbrev pub HeldLaw : Type 0
HeldLaw = (h : Held) → HeldFacts h ↔ ((h ≡ nothing_held) ⊎ (WantsOnes h ⊎ (PartOf Short h ⊎ PartOf Long h)))

-- a receiver that waits holds no frame bit and wants no ones
abbrev pub WaitingLaw : Type 0
WaitingLaw = (h : Held) → HeldFacts h → (is_waiting h ≡ true) ↔ (h ≡ nothing_held)

-- ---- fresh

-- the state with these IDs, control, Config 2, Config 3 and status bit 5, in which all else is 0
abbrev pub state_of : ℕ → ℕ → ℕ → ℕ → ℕ → ℕ → Receiver
state_of id i2c control config2 config3 status5 =
    record {
      core =
          record {
            ids = record { id = id; i2c = i2c };
            settings = record { fine1 = 0; fine2 = 0; coarse = 0; control = control; config2 = config2; config3 = config3 };
            errors = record { single = 0; double = 0; status5 = status5 };
            counters = record { bunch = 0; event = 0 };
            sequence = record { left = 0; event = 0 };
          };
      held = record { count = 0; wanted = 0; bits = 0 };
    }

pub record FreshLaws : Type 0 where
  -- IDs in range give the fresh state
  pub accepted : (id i2c : ℕ) → 1 ≤ id → id ≤ 16383 → i2c ≤ 63 → fresh_answer id i2c ≡ fresh_of 0 (fresh_state (ids id i2c))
  -- all others are refused, by 3 before 4, with every field 0
  pub refused_3 : (id i2c : ℕ) → (id ≡ 0) ⊎ (16383 < id) → fresh_answer id i2c ≡ refused_fresh 3
  pub refused_4 : (id i2c : ℕ) → 1 ≤ id → id ≤ 16383 → 63 < i2c → fresh_answer id i2c ≡ refused_fresh 4
  pub zeros : refused_fresh ≡ (λ refusal. fresh_of refusal (state_of 0 0 0 0 0 0))
  -- "Fresh: registers 0, 1 and 2 are 0, control 0x93, Config 2 0x85, Config 3 0xA7, all counters 0, waiting, no sequence, status 0xE0."
  pub values : (id i2c : ℕ) → fresh_state (ids id i2c) ≡ state_of id i2c 0x93 0x85 0xA7 1
  pub status : (own : Ids) → status_byte (fresh_core own) ≡ 0xE0
  pub is_well_formed : (id i2c : ℕ) → (fresh_answer id i2c).refusal ≡ 0 → well_formed (fresh_answer id i2c).receiver ≡ true

-- Document 02, Q-8, "Say what was wrong and which bit", over lists of calls: frames with any number of protected bits flipped, and those that can't be
-- corrected, over the columns of each kind of frame.
-- Proved in proofs/Flips.antt. One flip and two are in Demand3.antt.
-- "Shift leaders want to tell two flips from a storm. Verdict 8 is kept for an even number of ones in the syndrome; verdict 11 is given for an odd number
-- that belongs to no bit."
use Rattle.std.specs.Prelude.{ℕ, ◌≡◌, ◌⊎◌, List, length, Option}
use Rattle.hamming.specs.declared.WrongBit.{WrongBit}
use Rattle.frame.specs.declared.Kind.{Kind}
use Rattle.frame.specs.declared.Fields.{Fields}
use Rattle.frame.specs.Columns.{columns_of, GoodTables}
use Rattle.frame.specs.Encode.{encode_fields}
use Rattle.frame.specs.Decode.{decode_frame}
use Rattle.frame.specs.Frames.{InRange, flip_each_protected, EachProtectedIn, FlipsShow}
use Rattle.receiver_state.specs.declared.Receiver.{Receiver}
use Rattle.guarantees.specs.Calls.{Call, clock}
use Rattle.guarantees.specs.FrameLists.{Sends, last_call, AsIdleBefore}
use Rattle.guarantees.specs.Demand3.{UncorrectableFrame}

module _ (columns : Kind → List ℕ) where
  -- ---- any number of flips

  pub record FlipsFrame (r : Receiver) (before : List Call) (trigger bit count : ℕ) : Type 0 where
    pub as_idle_before : AsIdleBefore columns r before
    -- an odd number of flips never gives 8, and an even number never 11; 8 means two or more, 11 three or more
    pub last_shows : FlipsShow count (last_call columns r before (clock trigger bit)).answer.outputs.verdict

  -- the bits `flips` of a properly encoded frame are flipped, one after the other
  abbrev pub AnyFlips : Type 0
  AnyFlips =
      (r : Receiver) (before : List Call) (trigger bit : ℕ) (kind : Kind) (fields : Fields) (flips : List (Option WrongBit))
      → InRange kind fields → EachProtectedIn kind flips
      → Sends r before trigger bit kind (flip_each_protected kind flips (encode_fields (columns kind) kind fields))
      → FlipsFrame r before trigger bit (length flips)

  -- ---- 8 and 11

  -- whatever bits were wrong, also where no frame was sent: a number that decodes to 8 or 11 (`UncorrectableExactly` of the crate `frame` says which do) leaves
  -- what two flips leave. "Both raise the double counter, with flag and word 0".
  abbrev pub DropsUncorrectable : Type 0
  DropsUncorrectable =
      (r : Receiver) (before : List Call) (trigger bit : ℕ) (kind : Kind) (number verdict : ℕ)
      → (verdict ≡ 8) ⊎ (verdict ≡ 11) → (decode_frame (columns kind) kind number).verdict ≡ verdict
      → Sends r before trigger bit kind number
      → UncorrectableFrame columns r before trigger bit verdict

  pub record FlipLaws : Type 0 where
    pub any_flips : AnyFlips
    pub drops_uncorrectable : DropsUncorrectable

abbrev pub FlipTheorem : Type 0
FlipTheorem = (columns : Kind → List ℕ) → GoodTables columns → FlipLaws columns

-- document 01's own columns: the statement to hand over
abbrev pub ReceiverFlips : Type 0
ReceiverFlips = FlipLaws columns_of

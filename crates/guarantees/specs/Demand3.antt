-- Document 01, "Demand 3, over lists of calls", with document 02, Q-1, Q-4 and Q-8: the statement, over the columns of each kind of frame.
-- Proved in proofs/Demand3.antt.
-- "It is one claim about the whole list and not one for each call." What a single call gives is fixed by the definitions that `call` of Calls.antt
-- cites, with `ClockLaws` of the crate `receiver`, `ReadLaws` and `WriteLaws` of `registers` and `ByteLaws` of `register_map`; of these, the record
-- repeats only what a refused call leaves and answers, and that a read leaves the state.
-- Words in quotation marks that document 01 does not have are the customer's demand 3.
use Rattle.std.specs.Prelude.{ℕ, ◌≡◌, ◌≢◌, true, List, ◌++◌, map, replicate, Option}
use Rattle.hamming.specs.declared.WrongBit.{WrongBit}
use Rattle.frame.specs.declared.Kind.{Kind}
use Rattle.frame.specs.declared.Fields.{Fields}
use Rattle.frame.specs.Columns.{columns_of, GoodTables}
use Rattle.frame.specs.Encode.{encode_fields}
use Rattle.frame.specs.Place.{place_in}
use Rattle.frame.specs.Frames.{InRange, flip_protected, ProtectedIn, fields_answer}
use Rattle.receiver_state.specs.declared.Receiver.{Receiver}
use Rattle.receiver_state.specs.Shown.{no_outputs}
use Rattle.receiver_state.specs.WellFormed.{well_formed}
use Rattle.channel_b.specs.TakeBit.{Waits}
use Rattle.guarantees.specs.Calls.{Call, clock, read, CallAnswer, call, run, answers, refusal_of, channel_b}
use Rattle.guarantees.specs.FrameLists.{Sends, SameCalls, last_call, idle_last, AsIdleBefore, OneAfterAnother, WholeList}
use Rattle.guarantees.specs.LastClock.{with_frame, with_correction, with_double_error, CleanLast, CorrectedLast, UncorrectableLast}

module _ (columns : Kind → List ℕ) where
  -- ---- every list

  -- from a well-formed state, whether a call is refused, and by which number, depends on its arguments alone
  abbrev pub Refusals : Type 0
  Refusals =
      (r : Receiver) (calls : List Call) → well_formed r ≡ true
      → map (λ (a : CallAnswer). a.refusal) (answers columns r calls) ≡ map refusal_of calls

  -- "A refused call returns its number with all other result fields 0 .., the state unchanged", also one that is not well formed
  abbrev pub RefusedLaw : Type 0
  RefusedLaw =
      (r : Receiver) (c : Call) → let done = call columns r c in
      done.answer.refusal ≢ 0 → (done.receiver ≡ r) × (done.answer.outputs ≡ no_outputs) × (done.answer.byte ≡ 0)

  -- a read, refused or not, leaves the state as it was: the function gets a copy and returns none, and `call` is defined so
  abbrev pub ReadsLeave : Type 0
  ReadsLeave = (r : Receiver) (number : ℕ) → (call columns r (read number)).receiver ≡ r

  abbrev pub StaysWellFormed : Type 0
  StaysWellFormed = (r : Receiver) (calls : List Call) → well_formed r ≡ true → well_formed (run columns r calls) ≡ true

  -- no call of a list changes the IDs
  abbrev pub IdsStay : Type 0
  IdsStay = (r : Receiver) (calls : List Call) → (run columns r calls).core.ids ≡ r.core.ids

  -- "if channel B was 1 on its last 41 clocks, the receiver then waits for a start bit (a refused call is no clock)"
  abbrev pub FortyOneOnes : Type 0
  FortyOneOnes =
      (r : Receiver) (calls : List Call) (earlier : List ℕ) → well_formed r ≡ true → channel_b calls ≡ earlier ++ replicate 41 1
      → Waits (run columns r calls)

  -- ---- lists that carry a frame

  -- 01's term "properly encoded frame": of any fields in range
  abbrev encoded : Kind → Fields → ℕ
  encoded kind fields = encode_fields (columns kind) kind fields

  -- "no earlier clock finishes a frame, and the last gives it the fate that document 01's table gives its fields"
  pub record CleanFrame (r : Receiver) (before : List Call) (trigger bit : ℕ) (kind : Kind) (fields : Fields) : Type 0 where
    pub as_idle_before : AsIdleBefore columns r before
    pub whole : last_call columns r before (clock trigger bit) ≡ with_frame kind (fields_answer kind 0 0 fields) (idle_last columns r before trigger)
    pub by_name : CleanLast kind fields r.core.ids (idle_last columns r before trigger) (last_call columns r before (clock trigger bit))

  abbrev pub Clean : Type 0
  Clean =
      (r : Receiver) (before : List Call) (trigger bit : ℕ) (kind : Kind) (fields : Fields) → InRange kind fields
      → Sends r before trigger bit kind (encoded kind fields)
      → CleanFrame r before trigger bit kind fields

  -- the list `clean` with the bit `sent` on its last clock carries the clean frame, `flipped` with `bit` the frame with one flip, of the bit at `place`
  pub record OneFlipFrame (r : Receiver) (clean : List Call) (sent : ℕ) (flipped : List Call) (bit trigger place : ℕ) : Type 0 where
    pub as_idle_before : AsIdleBefore columns r flipped
    pub whole : last_call columns r flipped (clock trigger bit) ≡ with_correction place (last_call columns r clean (clock trigger sent))
    pub by_name : CorrectedLast place (last_call columns r clean (clock trigger sent)) (last_call columns r flipped (clock trigger bit))

  -- "With one protected bit flipped and all else the same": p is that bit. Q-8: the place is that of the bit.
  abbrev pub OneFlip : Type 0
  OneFlip =
      (r : Receiver) (clean flipped : List Call) (trigger sent bit : ℕ) (kind : Kind) (fields : Fields) (p : Option WrongBit)
      → InRange kind fields → ProtectedIn kind p
      → Sends r clean trigger sent kind (encoded kind fields)
      → Sends r flipped trigger bit kind (flip_protected kind p (encoded kind fields))
      → SameCalls clean flipped
      → OneFlipFrame r clean sent flipped bit trigger (place_in kind p)

  -- the list carries a frame that can't be corrected
  pub record UncorrectableFrame (r : Receiver) (before : List Call) (trigger bit verdict : ℕ) : Type 0 where
    pub as_idle_before : AsIdleBefore columns r before
    pub whole : last_call columns r before (clock trigger bit) ≡ with_double_error verdict (idle_last columns r before trigger)
    pub by_name : UncorrectableLast verdict (idle_last columns r before trigger) (last_call columns r before (clock trigger bit))

  -- "With two flipped": p and q. Q-8: "two flips always give 8"
  abbrev pub TwoFlips : Type 0
  TwoFlips =
      (r : Receiver) (before : List Call) (trigger bit : ℕ) (kind : Kind) (fields : Fields) (p q : Option WrongBit)
      → InRange kind fields → ProtectedIn kind p → ProtectedIn kind q → p ≢ q
      → Sends r before trigger bit kind (flip_protected kind q (flip_protected kind p (encoded kind fields)))
      → UncorrectableFrame r before trigger bit 8

  pub record Demand3 : Type 0 where
    pub refusals : Refusals
    pub refused_law : RefusedLaw
    pub reads_leave : ReadsLeave
    pub stays_well_formed : StaysWellFormed
    pub ids_stay : IdsStay
    pub forty_one_ones : FortyOneOnes
    pub one_after_another : (r : Receiver) (first second : List Call) → OneAfterAnother columns r first second
    pub whole_list : (r : Receiver) (before : List Call) (trigger bit : ℕ) → WholeList columns r before trigger bit
    pub clean : Clean
    pub one_flip : OneFlip
    pub two_flips : TwoFlips

-- ---- the theorem

abbrev pub Demand3Theorem : Type 0
Demand3Theorem = (columns : Kind → List ℕ) → GoodTables columns → Demand3 columns

-- The statement to hand over: document 01's own columns. It speaks of `clock_answer columns_of`, `read_answer` and `write_answer`; the contracts in
-- crates/receiver/src/lib.rt and crates/registers/src/lib.rt say that the functions give these, for every argument.
abbrev pub ReceiverDemand3 : Type 0
ReceiverDemand3 = Demand3 columns_of

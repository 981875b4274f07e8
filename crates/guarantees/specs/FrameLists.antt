-- Document 01, "Demand 3, over lists of calls": lists that carry a frame, and what holds of them before their last clock.
-- A list that ends on a clock is written as the calls before, and the trigger and the channel B bit of that clock.
-- Words in quotation marks that document 01 does not have are the customer's demand 3.
use Rattle.std.specs.Prelude.{ℕ, ◌≡◌, true, List, [], ◌∷◌, ◌++◌, map}
use Rattle.frame.specs.declared.Kind.{Kind}
use Rattle.frame.specs.Numbers.{frame_bits}
use Rattle.frame.specs.Bits.{bits_of}
use Rattle.receiver_state.specs.declared.Receiver.{Receiver}
use Rattle.receiver_state.specs.WellFormed.{well_formed}
use Rattle.channel_b.specs.TakeBit.{Waits}
use Rattle.guarantees.specs.Calls.{Call, clock, CallAnswer, CallResult, call, run, answers, refusal_of, channel_b, idle}

-- the list "starts from a waiting state, carries on its clocks exactly the bits of" the frame number "and ends on the last of them"
pub record Sends (r : Receiver) (before : List Call) (trigger bit : ℕ) (kind : Kind) (number : ℕ) : Type 0 where
  pub is_well_formed : well_formed r ≡ true
  pub waits : Waits r
  pub ends_on_clock : refusal_of (clock trigger bit) ≡ 0
  pub carries : channel_b (before ++ (clock trigger bit ∷ [])) ≡ bits_of (frame_bits kind) number

-- "The flipped list and the idle list .. have the same calls in the same order; only channel B on the clocks differs": made idle, two lists are equal
abbrev pub SameCalls : List Call → List Call → Type 0
SameCalls one other = idle one ≡ idle other

module _ (columns : Kind → List ℕ) where
  -- what the last call of a list leaves and answers
  unfoldable pub last_call : Receiver → List Call → Call → CallResult
  last_call r before last = call columns (run columns r before) last

  -- what the idle list's last clock leaves and answers
  abbrev pub idle_last : Receiver → List Call → ℕ → CallResult
  idle_last r before trigger = last_call r (idle before) (clock trigger 1)

  -- "each clock before the last has verdict 0, and all outputs, bytes read and refusals before the last clock equal the idle list's"; the state too,
  -- but for the frame bits held and the ones wanted
  pub record AsIdleBefore (r : Receiver) (before : List Call) : Type 0 where
    pub verdict_0 : map (λ (a : CallAnswer). a.outputs.verdict) (answers columns r before) ≡ map (λ (c : Call). 0) before
    pub answers_same : answers columns r before ≡ answers columns r (idle before)
    pub core_same : (run columns r before).core ≡ (run columns r (idle before)).core

  -- one list after another: the second goes on from the state that the first leaves
  pub record OneAfterAnother (r : Receiver) (first second : List Call) : Type 0 where
    pub state : run columns r (first ++ second) ≡ run columns (run columns r first) second
    pub answers_are : answers columns r (first ++ second) ≡ answers columns r first ++ answers columns (run columns r first) second

  -- state and answers of the whole list, by the calls before and the last clock; and its idle list, if that clock is not refused
  pub record WholeList (r : Receiver) (before : List Call) (trigger bit : ℕ) : Type 0 where
    pub state : run columns r (before ++ (clock trigger bit ∷ [])) ≡ (last_call r before (clock trigger bit)).receiver
    pub answers_are : answers columns r (before ++ (clock trigger bit ∷ [])) ≡ answers columns r before ++ ((last_call r before (clock trigger bit)).answer ∷ [])
    pub idle_is : refusal_of (clock trigger bit) ≡ 0 → idle (before ++ (clock trigger bit ∷ [])) ≡ idle before ++ (clock trigger 1 ∷ [])

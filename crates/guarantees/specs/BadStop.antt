-- Document 02, Q-1, "Quiet after a bad stop", over lists of calls: what a frame with verdict 7 leaves, over the columns of each kind of frame. Proved in
-- proofs/BadStop.antt.
-- "After verdict 7 the receiver must see 41 ones in a row on channel B before a 0 counts as a start; a 0 begins that run again."
use Rattle.std.specs.Prelude.{ℕ, suc, ◌-◌, ◌≡◌, ◌⊎◌, true, cond, List, [], ◌∷◌, ◌++◌, eqb, replicate}
use Rattle.frame.specs.declared.Kind.{Kind}
use Rattle.frame.specs.Columns.{columns_of, GoodTables}
use Rattle.frame.specs.Bits.{Bits}
use Rattle.receiver_state.specs.declared.Receiver.{Receiver}
use Rattle.receiver_state.specs.State.{wanting_ones}
use Rattle.receiver_state.specs.WellFormed.{well_formed}
use Rattle.channel_b.specs.TakeBit.{Waits}
use Rattle.guarantees.specs.Calls.{Call, clock, call, run, refusal_of, channel_b, idle}
use Rattle.guarantees.specs.FrameLists.{AsIdleBefore}

-- ---- ones in a row

-- the ones at the end of a list of bits, after so many ones: a 0 begins the count again
unfoldable pub ones_after : ℕ → List ℕ → ℕ
ones_after ones [] = ones
ones_after ones (bit ∷ bits) = ones_after (cond (eqb bit 0) 0 (suc ones)) bits

abbrev pub ones_at_end : List ℕ → ℕ
ones_at_end bits = ones_after 0 bits

-- the list ends with so many ones, and before them stands a 0 or nothing
pub record LastOnes (ones : ℕ) (bits : List ℕ) : Type 0 where
  pub front : List ℕ
  pub is : bits ≡ front ++ replicate ones 1
  pub no_more : (front ≡ []) ⊎ ((earlier : List ℕ) × (front ≡ earlier ++ (0 ∷ [])))

-- of every list of bits `ones_at_end` is that number
abbrev pub OnesAtEndLaw : Type 0
OnesAtEndLaw = (bits : List ℕ) → Bits bits → LastOnes (ones_at_end bits) bits

-- "41 ones in a row" are nowhere in it
abbrev pub No41InARow : List ℕ → Type 0
No41InARow bits = (earlier later : List ℕ) → bits ≡ earlier ++ (replicate 41 1 ++ later) → ⊥

-- the clock after these calls brings the first 41st one in a row
pub record First41st (calls : List Call) (trigger : ℕ) : Type 0 where
  pub none_before : No41InARow (channel_b calls)
  pub is_clock : refusal_of (clock trigger 1) ≡ 0
  pub earlier : List ℕ
  pub last_41 : channel_b (calls ++ (clock trigger 1 ∷ [])) ≡ earlier ++ replicate 41 1

module _ (columns : Kind → List ℕ) where
  -- a clock that has verdict 7, of any receiver, such as one that earlier calls left; `left` is the receiver that it leaves
  pub record BadStop (r : Receiver) (trigger bit : ℕ) (left : Receiver) : Type 0 where
    pub verdict_7 : (call columns r (clock trigger bit)).answer.outputs.verdict ≡ 7
    pub leaves : left ≡ (call columns r (clock trigger bit)).receiver

  -- ---- before 41 ones in a row

  -- what holds after these calls
  pub record Quiet (left : Receiver) (calls : List Call) : Type 0 where
    -- no frame finishes, and answers and core are those of channel B idle (`AsIdleBefore` of all these calls)
    pub as_idle : AsIdleBefore columns left calls
    -- no frame bit is held, and the ones wanted are 41 less the ones that came last
    pub held_is : (run columns left calls).held ≡ wanting_ones (41 - ones_at_end (channel_b calls))
    pub waits_not : Waits (run columns left calls) → ⊥

  -- after verdict 7 and any calls whose channel B has no 41 ones in a row, whatever the triggers, accesses and refused calls
  abbrev pub QuietAfter : Type 0
  QuietAfter =
      (r : Receiver) (trigger bit : ℕ) (left : Receiver) (calls : List Call) → BadStop r trigger bit left
      → No41InARow (channel_b calls) → Quiet left calls

  -- ---- the 41st one

  -- what holds after the calls and the clock of the first 41st one in a row
  pub record WaitsThen (left : Receiver) (calls : List Call) (trigger : ℕ) : Type 0 where
    -- that clock finishes no frame either
    pub as_idle : AsIdleBefore columns left (calls ++ (clock trigger 1 ∷ []))
    -- the receiver waits, in the state that the idle list leaves: what comes after is as from any receiver that waits
    pub waits : Waits (run columns left (calls ++ (clock trigger 1 ∷ [])))
    pub is_well_formed : well_formed (run columns left (calls ++ (clock trigger 1 ∷ []))) ≡ true
    pub same_state : run columns left (calls ++ (clock trigger 1 ∷ [])) ≡ run columns left (idle (calls ++ (clock trigger 1 ∷ [])))

  abbrev pub WaitsAt41st : Type 0
  WaitsAt41st =
      (r : Receiver) (trigger bit : ℕ) (left : Receiver) (calls : List Call) (last : ℕ) → BadStop r trigger bit left
      → First41st calls last → WaitsThen left calls last

  pub record BadStopLaws : Type 0 where
    pub quiet_after : QuietAfter
    pub waits_at_41st : WaitsAt41st

abbrev pub BadStopTheorem : Type 0
BadStopTheorem = (columns : Kind → List ℕ) → GoodTables columns → BadStopLaws columns

-- document 01's own columns: the statement to hand over
abbrev pub ReceiverBadStop : Type 0
ReceiverBadStop = BadStopLaws columns_of

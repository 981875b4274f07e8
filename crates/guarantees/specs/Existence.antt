-- Document 01, "Demand 3, over lists of calls": lists such as Demand3.antt speaks of exist, for every frame and every choice of triggers and accesses. Proved in proofs/Existence.antt.
use Rattle.std.specs.Prelude.{ℕ, ◌≡◌, true, cond, List, [], ◌∷◌, ◌++◌, eqb, length}
use Rattle.frame.specs.declared.Kind.{Kind}
use Rattle.frame.specs.Numbers.{frame_bits}
use Rattle.receiver_state.specs.declared.Receiver.{Receiver}
use Rattle.receiver_state.specs.WellFormed.{well_formed}
use Rattle.channel_b.specs.TakeBit.{Waits}
use Rattle.guarantees.specs.Calls.{Call, clock, read, write, refusal_of, channel_b}
use Rattle.guarantees.specs.FrameLists.{Sends, SameCalls}

-- the same calls, with these bits on their clocks, one after the other
unfoldable pub carry : List ℕ → List Call → List Call
carry bs [] = []
carry [] (c ∷ cs) = c ∷ cs
carry (b ∷ bs) (read number ∷ cs) = read number ∷ carry (b ∷ bs) cs
carry (b ∷ bs) (write number value ∷ cs) = write number value ∷ carry (b ∷ bs) cs
carry (b ∷ bs) (clock trigger other ∷ cs) =
    cond (eqb (refusal_of (clock trigger other)) 0) (clock trigger b ∷ carry bs cs) (clock trigger other ∷ carry (b ∷ bs) cs)

-- a list with the calls of `pattern` that carries the number, its last bit on the last clock
pub record Sending (r : Receiver) (pattern : List Call) (trigger : ℕ) (kind : Kind) (number : ℕ) : Type 0 where
  pub before : List Call
  pub bit : ℕ
  pub sends : Sends r before trigger bit kind number
  pub same_calls : SameCalls before pattern

-- `pattern` and the last clock are any calls with as many clocks as the frame has bits: any triggers, and any accesses and refused calls between.
-- The number is any: a frame clean, with one bit flipped, or with two. Of one pattern, all three have the same calls.
abbrev pub ListsExist : Type 0
ListsExist =
    (r : Receiver) (pattern : List Call) (trigger other : ℕ) (kind : Kind) (number : ℕ)
    → well_formed r ≡ true → Waits r
    → refusal_of (clock trigger other) ≡ 0
    → length (channel_b (pattern ++ (clock trigger other ∷ []))) ≡ frame_bits kind
    → Sending r pattern trigger kind number

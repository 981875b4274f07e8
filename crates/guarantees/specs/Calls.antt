-- Document 01, "Demand 3, over lists of calls": the calls, what a list of them leaves and answers, what channel B carries on its clocks, and
-- the same list with channel B idle.
use Rattle.std.specs.Prelude.{ℕ, cond, List, [], ◌∷◌, ◌++◌, eqb, ltb}
use Rattle.frame.specs.declared.Kind.{Kind}
use Rattle.receiver_state.specs.declared.Receiver.{Receiver}
use Rattle.receiver_state.specs.State.{receiver}
use Rattle.receiver_state.specs.declared.Outputs.{Outputs}
use Rattle.receiver_state.specs.Shown.{no_outputs}
use Rattle.receiver.specs.Clock.{clock_answer}
use Rattle.registers.specs.Access.{read_refusal, read_answer, after_read, write_refusal, write_answer}

-- ---- one call

-- "The calls have any arguments."
pub data Call : Type 0 where
  -- 01's "clock call": the trigger bit and the bit of channel B
  clock : ℕ → ℕ → Call
  -- the register's number
  read : ℕ → Call
  -- the register's number, and the value: in the function's arguments a byte
  write : ℕ → ℕ → Call

-- the number of refusal, a clock's outputs and the byte that a read gives; outputs are all 0 for an access, and the byte for what is no read
pub record CallAnswer : Type 0 where
  pub refusal : ℕ
  pub outputs : Outputs
  pub byte : ℕ

-- the state that a call returns or leaves, and what it answers
pub record CallResult : Type 0 where
  pub receiver : Receiver
  pub answer : CallAnswer

abbrev pub result : Receiver → ℕ → Outputs → ℕ → CallResult
result r refusal outputs byte = record { receiver = r; answer = record { refusal = refusal; outputs = outputs; byte = byte } }

-- The step of a list: "Each call answers, and refuses, exactly as demand 2's rules and the table of refusals say." `clock_answer`, `read_answer` and
-- `write_answer` are what the functions `clock`, `read` and `write` give by their contracts. The function `read` gets a copy of the state: the core is left
-- as `after_read` says, and what is held of channel B stays.
unfoldable pub call : (Kind → List ℕ) → Receiver → Call → CallResult
call columns r (clock trigger bit) =
    let done = clock_answer columns r trigger bit in result done.receiver done.refusal done.outputs 0
call columns r (read number) =
    let done = read_answer r number in result (receiver (after_read r.core number) r.held) done.refusal no_outputs done.byte
call columns r (write number value) =
    let done = write_answer r number value in result done.receiver done.refusal no_outputs 0

-- ---- lists of calls

-- "The first gets the starting state, each later one the state as the call before returned or left it, and nothing else changes it between."
unfoldable pub run : (Kind → List ℕ) → Receiver → List Call → Receiver
run columns r [] = r
run columns r (c ∷ cs) = run columns (call columns r c).receiver cs

unfoldable pub answers : (Kind → List ℕ) → Receiver → List Call → List CallAnswer
answers columns r [] = []
answers columns r (c ∷ cs) = (call columns r c).answer ∷ answers columns (call columns r c).receiver cs

-- ---- clocks and channel B

-- the number by which a well-formed receiver refuses a call, 0 for none. It depends on the arguments alone: `Refusals` of Demand3.antt says so of
-- every call of a list.
unfoldable pub refusal_of : Call → ℕ
refusal_of (clock trigger bit) = cond (ltb 1 trigger) 1 (cond (ltb 1 bit) 1 0)
refusal_of (read number) = read_refusal number
refusal_of (write number value) = write_refusal number value

-- 01's term "clock": "a clock call that isn't refused". The bit of channel B that a call carries, if it is one.
unfoldable pub carried : Call → List ℕ
carried (clock trigger bit) = cond (eqb (refusal_of (clock trigger bit)) 0) (bit ∷ []) []
carried (read number) = []
carried (write number value) = []

-- channel B on the clocks of a list
unfoldable pub channel_b : List Call → List ℕ
channel_b [] = []
channel_b (c ∷ cs) = carried c ++ channel_b cs

-- "The .. idle list": "the same calls in the same order; only channel B on the clocks differs: .. 1 on every clock". A refused call stays as it is.
unfoldable pub idle_call : Call → Call
idle_call (clock trigger bit) = clock trigger (cond (eqb (refusal_of (clock trigger bit)) 0) 1 bit)
idle_call (read number) = read number
idle_call (write number value) = write number value

unfoldable pub idle : List Call → List Call
idle [] = []
idle (c ∷ cs) = idle_call c ∷ idle cs

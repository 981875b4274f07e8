-- Document 02, Q-3: a block of clocks in one call, by the definition of a single clock. `Running` is a struct of src/lib.rt.
use Rattle.std.specs.Prelude.{ℕ, suc, ◌*◌, ◌/◌, ◌%◌, ◌≡◌, ◌≢◌, Bool, cond, not, ◌||◌, List, [], ◌∷◌, ◌++◌, eqb, ltb, leb, length, drop, Result, Ok, Err}
use Rattle.laws.specs.Table.{every_entry}
use Rattle.refusals.specs.declared.Refusal.{Refusal}
use Rattle.refusals.specs.Refusals.{number}
use Rattle.frame.specs.declared.Kind.{Kind}
use Rattle.receiver_state.specs.declared.Receiver.{Receiver}
use Rattle.receiver_state.specs.declared.Outputs.{Outputs}
use Rattle.receiver_state.specs.WellFormed.{well_formed}
use Rattle.receiver.specs.declared.ClockAnswer.{ClockAnswer}
use Rattle.receiver.specs.Clock.{clock_answer}
use Rattle.trace.specs.declared.TraceRecord.{TraceRecord}
use Rattle.trace.specs.declared.Running.{Running}
use Rattle.trace.specs.Record.{trace_record, record_numbers, numbers_of}

-- ---- the clocks of a block, done singly

-- "a byte each: bit 0 the trigger, bit 1 channel B"
abbrev pub trigger_bit : ℕ → ℕ
trigger_bit byte = byte % 2

abbrev pub channel_bit : ℕ → ℕ
channel_bit byte = byte / 2 % 2

abbrev pub byte_clock : (Kind → List ℕ) → Receiver → ℕ → ClockAnswer
byte_clock columns r byte = clock_answer columns r (trigger_bit byte) (channel_bit byte)

-- one clock: its "place in the block", the state before it, and what it answered
pub record SingleClock : Type 0 where
  pub place : ℕ
  pub before : Receiver
  pub answer : ClockAnswer

-- each on the state that the one before left, the first at this place
unfoldable pub singly : (Kind → List ℕ) → ℕ → Receiver → List ℕ → List SingleClock
singly columns place r [] = []
singly columns place r (byte ∷ bytes) =
    record { place = place; before = r; answer = byte_clock columns r byte } ∷ singly columns (suc place) (byte_clock columns r byte).receiver bytes

-- the state that the last one leaves
unfoldable pub state_after : (Kind → List ℕ) → Receiver → List ℕ → Receiver
state_after columns r [] = r
state_after columns r (byte ∷ bytes) = state_after columns (byte_clock columns r byte).receiver bytes

-- ---- records

-- "each clock with a trigger or a verdict other than 0"
unfoldable pub recorded : Outputs → Bool
recorded shown = not (eqb shown.trigger 0) || not (eqb shown.verdict 0)

-- read off the clock, with the counts before it
abbrev pub record_of : SingleClock → TraceRecord
record_of clock = trace_record clock.place clock.before.core.counters clock.answer.outputs

unfoldable pub records_of : List SingleClock → List TraceRecord
records_of [] = []
records_of (clock ∷ clocks) = cond (recorded clock.answer.outputs) (record_of clock ∷ records_of clocks) (records_of clocks)

-- "Each record goes behind the last"
unfoldable pub all_numbers : List TraceRecord → List ℕ
all_numbers [] = []
all_numbers (one ∷ others) = numbers_of one ++ all_numbers others

-- "place in the block (from 0)"
abbrev pub block_records : (Kind → List ℕ) → Receiver → List ℕ → List TraceRecord
block_records columns r block = records_of (singly columns 0 r block)

-- ---- the call

-- what it answers: the number of refusal, "the new state and the number of records"
pub record BlockAnswer : Type 0 where
  pub refusal : ℕ
  pub receiver : Receiver
  pub records : ℕ

-- that, and what the whole lent buffer then holds
pub record BlockDone : Type 0 where
  pub answer : BlockAnswer
  pub buffer : List ℕ

abbrev pub block_done : BlockAnswer → List ℕ → BlockDone
block_done answer buffer = record { answer = answer; buffer = buffer }

abbrev pub block_answer : ℕ → Receiver → ℕ → BlockAnswer
block_answer refusal r records = record { refusal = refusal; receiver = r; records = records }

-- what a block on this state answers: with a refusal the state as it came, and no record
abbrev pub block_outcome : Receiver → Result Running Refusal → BlockAnswer
block_outcome r (Ok run) = block_answer 0 run.receiver run.records
block_outcome r (Err refusal) = block_answer (number refusal) r 0

-- document 01: "all other result fields 0 .., the state unchanged .., and no lent byte written"
abbrev pub refused_block : ℕ → Receiver → List ℕ → BlockDone
refused_block refusal r buffer = block_done (block_answer refusal r 0) buffer

-- "The answer is the new state and the number of records"; "the numbers after the last record stay"
abbrev pub accepted_block : (Kind → List ℕ) → Receiver → List ℕ → List ℕ → BlockDone
accepted_block columns r block buffer =
    let records = block_records columns r block in
    block_done (block_answer 0 (state_after columns r block) (length records)) (all_numbers records ++ drop (length (all_numbers records)) buffer)

-- "blocks of up to 4,096 clocks"
abbrev pub block_clocks : ℕ
block_clocks = 4096

-- no "byte over 3"
unfoldable pub no_byte_over_3 : List ℕ → Bool
no_byte_over_3 block = every_entry (λ place byte. leb byte 3) block

-- "Refusals, in this order after 2: 15 block over 4,096 bytes; 16 fewer than five numbers of room per byte; 1 any byte over 3."
unfoldable pub run_block : (Kind → List ℕ) → Receiver → List ℕ → List ℕ → BlockDone
run_block columns r block buffer =
    cond (well_formed r)
    (cond (ltb block_clocks (length block)) (refused_block 15 r buffer)
    (cond (ltb (length buffer) (record_numbers * length block)) (refused_block 16 r buffer)
    (cond (no_byte_over_3 block) (accepted_block columns r block buffer)
    (refused_block 1 r buffer))))
    (refused_block 2 r buffer)

-- ---- refused blocks

-- a refused block hands the receiver back, counts no record, and leaves the buffer
pub record RefusedKeeps (r : Receiver) (buffer : List ℕ) (done : BlockDone) : Type 0 where
  pub receiver_stays : done.answer.receiver ≡ r
  pub no_records : done.answer.records ≡ 0
  pub buffer_stays : done.buffer ≡ buffer

-- Proved in proofs/Refused.antt.
abbrev pub RefusedLaw : Type 0
RefusedLaw =
    (columns : Kind → List ℕ) (r : Receiver) (block buffer : List ℕ) → let done = run_block columns r block buffer in
    done.answer.refusal ≢ 0 → RefusedKeeps r buffer done

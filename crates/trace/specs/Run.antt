-- For document 02, Q-3: a block in the course of its clocks: the receiver, the records so far, and the buffer. Only private contracts cite it.
use Rattle.std.specs.Prelude.{ℕ, suc, ◌-◌, ◌*◌, ◌≤◌, ◌<◌, ◌≡◌, cond, List, [], ◌∷◌, length, drop}
use Rattle.std.proofs.lemmas.List.Edits.{sets}
use Rattle.frame.specs.declared.Kind.{Kind}
use Rattle.receiver_state.specs.declared.Held.{Held}
use Rattle.receiver_state.specs.declared.Receiver.{Receiver}
use Rattle.receiver_state.specs.State.{wanting_ones, receiver}
use Rattle.receiver_state.specs.WellFormed.{ReceiverFacts}
use Rattle.idle_clock.specs.AtRest.{rest_for}
use Rattle.receiver.specs.declared.ClockAnswer.{ClockAnswer}
use Rattle.trace.specs.declared.TraceRecord.{TraceRecord}
use Rattle.trace.specs.declared.Running.{Running}
use Rattle.trace.specs.declared.Progress.{Progress}
use Rattle.trace.specs.Record.{record_numbers, numbers_of}
use Rattle.trace.specs.Block.{byte_clock, recorded, record_of, block_clocks}

-- `Running`, and the whole buffer
pub record RunDone : Type 0 where
  pub run : Running
  pub buffer : List ℕ

abbrev pub run_done : Receiver → ℕ → List ℕ → RunDone
run_done r records buffer = record { run = record { receiver = r; records = records }; buffer = buffer }

abbrev pub leaves : Running → List ℕ → RunDone
leaves run buffer = record { run = run; buffer = buffer }

-- one record more, after the others
abbrev pub with_record : Receiver → ℕ → TraceRecord → List ℕ → RunDone
with_record r records new buffer = run_done r (suc records) (sets buffer (record_numbers * records) (numbers_of new))

-- a clock was answered
unfoldable pub answered_run : Running → ℕ → ClockAnswer → List ℕ → RunDone
answered_run run place answer buffer =
    cond (recorded answer.outputs)
    (with_record answer.receiver run.records (record_of (record { place = place; before = run.receiver; answer = answer })) buffer)
    (run_done answer.receiver run.records buffer)

-- the clocks of some bytes, the first at this place
unfoldable pub clocks_run : (Kind → List ℕ) → ℕ → Running → List ℕ → List ℕ → RunDone
clocks_run columns place run [] buffer = leaves run buffer
clocks_run columns place run (byte ∷ bytes) buffer =
    let next = answered_run run place (byte_clock columns run.receiver byte) buffer in
    clocks_run columns (suc place) next.run bytes next.buffer

-- ---- how far a block has come: `Progress` of src/lib.rt

abbrev pub at_start : Receiver → Progress
at_start r = record { run = record { receiver = r; records = 0 }; next = 0 }

-- what was checked before the first clock, and what the clocks since then leave true
pub record ProgressFacts (progress : Progress) (block : List ℕ) : Type 0 where
  pub is_well_formed : ReceiverFacts progress.run.receiver
  pub within : progress.next ≤ length block
  pub few : progress.run.records ≤ progress.next
  pub at_most : length block ≤ block_clocks

-- what the clocks still to come leave
abbrev pub remaining : (Kind → List ℕ) → List ℕ → Progress → List ℕ → RunDone
remaining columns block progress buffer = clocks_run columns progress.next progress.run (drop progress.next block) buffer

-- so many clocks at rest that finish no frame, with this held after them: only the bunch counter and what is held move
abbrev pub rest_run : ℕ → Held → Running → Running
rest_run clocks held run = record { receiver = receiver (rest_for clocks run.receiver.core) held; records = run.records }

-- those from the next one up to a place
abbrev pub rest_progress : ℕ → Held → Progress → Progress
rest_progress place held progress = record { run = rest_run (place - progress.next) held progress.run; next = place }

-- the same where each was idle and no frame bit is held: as many ones have come
abbrev pub idle_progress : ℕ → Progress → Progress
idle_progress place progress =
    rest_progress place (wanting_ones (progress.run.receiver.held.wanted - (place - progress.next))) progress

-- some clocks were done, or none, and wrote no record. No frame finished, so this is so whatever the columns are.
pub record Rested (block : List ℕ) (before after : Progress) : Type 0 where
  pub same : (columns : Kind → List ℕ) (buffer : List ℕ) → remaining columns block after buffer ≡ remaining columns block before buffer
  pub going : ProgressFacts after block
  pub onward : before.next ≤ after.next

-- some clocks were done
pub record Advanced (columns : Kind → List ℕ) (block : List ℕ) (before after : Progress) (buffer₀ buffer₁ : List ℕ) : Type 0 where
  pub same : remaining columns block after buffer₁ ≡ remaining columns block before buffer₀
  pub going : ProgressFacts after block
  pub onward : before.next < after.next

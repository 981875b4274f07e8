-- The clocks of a block, one after the other, come to what the block's definition says. Assumes nothing.
use mathlib.Core.Path.{◌≡◌, refl, sym, ap, ap₂, subst, ◌∙◌}
use mathlib.Core.Logic.{◌≢◌}
use mathlib.Core.Bool.{true, false, not}
use mathlib.Core.List.{List, [], ◌∷◌}
use Prim.Native.Nat.{ℕ, suc, ◌+◌, ◌*◌, ◌≤◌, ◌<◌}
use native.Mathlib.Nat.{add-zero, add-suc, suc-add, zero-add, mod-lt}
use native.Mathlib.Numerals.{add-one}
use native.Mathlib.Omega.{arith}
use borrow.Author.Tests.{ne_eqb}
use lib.Dec.{eqb, lit<}
use lib.ListN.{length, get_or, drop, length-append}
use lib.Seq.{sets, drop-cons}
use Rattle.laws.proofs.Rules.{or_true, picked, pick_yes, pick_no, by_test}
use Rattle.laws.proofs.Sets.{sets_append, sets_front}
use Rattle.trace.specs.Record.{record_numbers, trace_record, numbers_of}
use Rattle.frame.specs.declared.Kind.{Kind}
use Rattle.receiver_state.specs.declared.Core.{Core}
use Rattle.receiver_state.specs.declared.Held.{Held}
use Rattle.receiver_state.specs.declared.Receiver.{Receiver}
use Rattle.receiver_state.specs.State.{receiver}
use Rattle.receiver_state.specs.WellFormed.{ReceiverFacts}
use Rattle.receiver_state.specs.declared.Outputs.{Outputs}
use Rattle.receiver_state.specs.declared.Clocked.{Clocked}
use Rattle.verdicts.specs.Finished.{finished_by}
use Rattle.verdicts.proofs.Laws.{not_zero}
use Rattle.receiver.specs.declared.ClockAnswer.{ClockAnswer}
use Rattle.trace.specs.declared.TraceRecord.{TraceRecord}
use Rattle.trace.specs.declared.Running.{Running}
use Rattle.idle_clock.specs.IdleClock.{idle_clock}
use Rattle.receiver.specs.Clock.{clocked_answer, step_answer}
use Rattle.trace.specs.Block.{trigger_bit, channel_bit, byte_clock, singly, state_after, recorded, record_of, records_of, all_numbers, block_done, block_answer, accepted_block}
use Rattle.trace.specs.Run.{RunDone, run_done, leaves, with_record, answered_run, clocks_run}
use Rattle.receiver.proofs.Unchecked.{step_is_clock}
use Rattle.receiver.proofs.Keep.{step_facts}

-- ---- which clocks have a record

pub trigger_recorded : (core : Core) → recorded (idle_clock core 1).outputs ≡ true
unfolding recorded idle_clock
trigger_recorded core = refl

pub nothing_recorded : (core : Core) → recorded (idle_clock core 0).outputs ≡ false
unfolding recorded idle_clock
nothing_recorded core = refl

verdict_recorded : (shown : Outputs) → shown.verdict ≢ 0 → recorded shown ≡ true
unfolding recorded
verdict_recorded shown some = rw (ne_eqb shown.verdict 0 some) (or_true (not (eqb shown.trigger 0)))

pub frame_recorded : (columns : Kind → List ℕ) (kind : Kind) (number : ℕ) (idle : Clocked) → recorded (finished_by columns kind number idle).outputs ≡ true
frame_recorded columns kind number idle =
    verdict_recorded (finished_by columns kind number idle).outputs (not_zero columns kind number idle)

-- ---- one clock

module _ (run : Running) (place : ℕ) (held : Held) (clocked : Clocked) (buffer : List ℕ) (done : RunDone) where
  -- a clock that has a record
  pub with_record_lem : (new : TraceRecord) → recorded clocked.outputs ≡ true → new ≡ trace_record place run.receiver.core.counters clocked.outputs
      → done ≡ with_record (receiver clocked.core held) run.records new buffer → done ≡ answered_run run place (clocked_answer held clocked) buffer
  unfolding answered_run
  with_record_lem new is e d =
      pick_yes (recorded clocked.outputs) _ _ _ is
      (d ∙ ap (λ (x : TraceRecord). with_record (receiver clocked.core held) run.records x buffer) e)

  -- one that has none
  pub without_record : recorded clocked.outputs ≡ false → done ≡ run_done (receiver clocked.core held) run.records buffer
      → done ≡ answered_run run place (clocked_answer held clocked) buffer
  unfolding answered_run
  without_record none d = pick_no (recorded clocked.outputs) _ _ _ none d

module _ (run : Running) (place : ℕ) (answer : ClockAnswer) (buffer : List ℕ) where
  pub answered_receiver : (answered_run run place answer buffer).run.receiver ≡ answer.receiver
  unfolding answered_run
  answered_receiver = picked (λ (d : RunDone). d.run.receiver ≡ answer.receiver) (recorded answer.outputs) refl refl

  pub answered_records : (answered_run run place answer buffer).run.records ≤ run.records + 1
  unfolding answered_run
  answered_records = picked (λ (d : RunDone). d.run.records ≤ run.records + 1) (recorded answer.outputs) (omega arith) (omega arith)

-- the next clock of the block, done by the unchecked step
module _ (columns : Kind → List ℕ) (block : List ℕ) (i : ℕ) (run : Running) (buffer : List ℕ) (here : i < length block) (f : ReceiverFacts run.receiver) where
  abbrev byte : ℕ
  byte = get_or block i 0

  stepped : step_answer columns run.receiver (trigger_bit byte) (channel_bit byte) ≡ byte_clock columns run.receiver byte
  stepped = step_is_clock columns run.receiver (trigger_bit byte) (channel_bit byte) f (mod-lt byte (lit< tt)) (mod-lt _ (lit< tt))

  module _ (next : Running) (buffer' : List ℕ) (done : leaves next buffer' ≡ answered_run run i (step_answer columns run.receiver (trigger_bit byte) (channel_bit byte)) buffer) where
    pub clock_turn : clocks_run columns (i + 1) next (drop (i + 1) block) buffer' ≡ clocks_run columns i run (drop i block) buffer
    unfolding clocks_run
    clock_turn =
        ap (λ (n : ℕ). clocks_run columns n next (drop n block) buffer') (add-one i)
        ∙ ap (λ (d : RunDone). clocks_run columns (suc i) d.run (drop (suc i) block) d.buffer)
        (done ∙ ap (λ (a : ClockAnswer). answered_run run i a buffer) stepped)
        ∙ ap (λ (bytes : List ℕ). clocks_run columns i run bytes buffer) (sym (drop-cons block i 0 here))

    pub turn_facts : ReceiverFacts next.receiver
    turn_facts =
        subst (λ (r : Receiver). ReceiverFacts r)
        (sym (ap (λ (d : RunDone). d.run.receiver) done ∙ answered_receiver run i _ buffer))
        (step_facts columns run.receiver (trigger_bit byte) (channel_bit byte) f (mod-lt _ (lit< tt)))

    pub turn_records : next.records ≤ run.records + 1
    turn_records = subst (λ (n : ℕ). n ≤ run.records + 1) (sym (ap (λ (d : RunDone). d.run.records) done)) (answered_records run i _ buffer)

-- ---- all clocks

module _ (columns : Kind → List ℕ) where
  abbrev records_from : ℕ → Receiver → List ℕ → List TraceRecord
  records_from place r bytes = records_of (singly columns place r bytes)

  -- the clocks of some bytes, on records that are there already
  abbrev after_all : ℕ → Running → List ℕ → List ℕ → RunDone
  after_all place run bytes buffer =
      let records = records_from place run.receiver bytes in
      run_done (state_after columns run.receiver bytes) (run.records + length records) (sets buffer (record_numbers * run.records) (all_numbers records))

  -- the first of them has a record, or has none
  first_recorded : (place : ℕ) (run : Running) (byte : ℕ) (bytes buffer : List ℕ) → recorded (byte_clock columns run.receiver byte).outputs ≡ true
      → let next = answered_run run place (byte_clock columns run.receiver byte) buffer in
      after_all (suc place) next.run bytes next.buffer ≡ after_all place run (byte ∷ bytes) buffer
  unfolding answered_run singly state_after records_of all_numbers
  first_recorded place run byte bytes buffer is =
      let done = byte_clock columns run.receiver byte in
      let new = record_of (record { place = place; before = run.receiver; answer = done }) in
      let records = records_from (suc place) done.receiver bytes in
      let behind : record_numbers * suc run.records ≡ record_numbers * run.records + record_numbers = omega arith in
      rw is
      (ap₂ (run_done (state_after columns done.receiver bytes)) (suc-add run.records (length records) ∙ sym (add-suc run.records (length records)))
      (ap (λ (at : ℕ). sets (sets buffer (record_numbers * run.records) (numbers_of new)) at (all_numbers records)) behind
      ∙ sym (sets_append (numbers_of new) (all_numbers records) buffer (record_numbers * run.records))))

  first_not_recorded : (place : ℕ) (run : Running) (byte : ℕ) (bytes buffer : List ℕ) → recorded (byte_clock columns run.receiver byte).outputs ≡ false
      → let next = answered_run run place (byte_clock columns run.receiver byte) buffer in
      after_all (suc place) next.run bytes next.buffer ≡ after_all place run (byte ∷ bytes) buffer
  unfolding answered_run singly state_after records_of
  first_not_recorded place run byte bytes buffer none = rw none refl

  clocks_leave : (place : ℕ) (run : Running) (bytes buffer : List ℕ) → clocks_run columns place run bytes buffer ≡ after_all place run bytes buffer
  unfolding clocks_run singly state_after records_of all_numbers
  clocks_leave place run [] buffer = ap (λ (n : ℕ). run_done run.receiver n buffer) (sym (add-zero run.records))
  clocks_leave place run (byte ∷ bytes) buffer =
      let next = answered_run run place (byte_clock columns run.receiver byte) buffer in
      clocks_leave (suc place) next.run bytes next.buffer
      ∙ by_test (recorded (byte_clock columns run.receiver byte).outputs) (first_recorded place run byte bytes buffer) (first_not_recorded place run byte bytes buffer)

  -- ---- room

  pub five_each : (records : List TraceRecord) → length (all_numbers records) ≡ record_numbers * length records
  unfolding all_numbers
  five_each [] = refl
  five_each (one ∷ others) = omega (arith, length-append (numbers_of one) (all_numbers others), five_each others)

  -- no clock has more than one record
  pub one_a_clock : (place : ℕ) (r : Receiver) (bytes : List ℕ) → length (records_from place r bytes) ≤ length bytes
  unfolding singly records_of
  one_a_clock place r [] = omega arith
  one_a_clock place r (byte ∷ bytes) =
      let later = one_a_clock (suc place) (byte_clock columns r byte).receiver bytes in
      picked (λ (l : List TraceRecord). length l ≤ suc (length bytes)) (recorded (byte_clock columns r byte).outputs) (omega arith) (omega arith)

  -- from the first clock on
  pub block_leaves : (r : Receiver) (block buffer : List ℕ) (done : RunDone) → record_numbers * length block ≤ length buffer
      → done ≡ clocks_run columns 0 (record { receiver = r; records = 0 }) block buffer
      → block_done (block_answer 0 done.run.receiver done.run.records) done.buffer ≡ accepted_block columns r block buffer
  block_leaves r block buffer done room e =
      let records = records_from 0 r block in
      let fit : length (all_numbers records) ≤ length buffer = omega (arith, five_each records, one_a_clock 0 r block) in
      ap (λ (d : RunDone). block_done (block_answer 0 d.run.receiver d.run.records) d.buffer) (e ∙ clocks_leave 0 (record { receiver = r; records = 0 }) block buffer)
      ∙ ap₂ (λ (n : ℕ) (l : List ℕ). block_done (block_answer 0 (state_after columns r block) n) l) (zero-add (length records)) (sets_front (all_numbers records) buffer fit)

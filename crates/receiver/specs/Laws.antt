-- Document 01, "One clock", with document 02, Q-1, Q-4 and Q-8: what holds of every clock, over the columns of each kind of frame. Proved in proofs/Laws.antt.
use Rattle.std.specs.Prelude.{ℕ, ◌+◌, ◌/◌, ◌%◌, ◌^◌, ◌<◌, ◌≤◌, ◌≡◌, ◌≢◌, ◌⊎◌, ◌↔◌, true, false, List}
use Rattle.frame.specs.declared.Kind.{Kind}
use Rattle.frame.specs.Columns.{columns_of, GoodTables}
use Rattle.frame.specs.Place.{largest_place}
use Rattle.frame.specs.Decode.{decode_frame}
use Rattle.receiver_state.specs.declared.Counters.{Counters}
use Rattle.receiver_state.specs.declared.Held.{Held}
use Rattle.receiver_state.specs.declared.Outputs.{Outputs}
use Rattle.receiver_state.specs.declared.Receiver.{Receiver}
use Rattle.receiver_state.specs.State.{wanting_ones, fresh_state}
use Rattle.receiver_state.specs.Shown.{ShowsNothing, Stands}
use Rattle.receiver_state.specs.WellFormed.{well_formed}
use Rattle.idle_clock.specs.IdleClock.{idle_clock}
use Rattle.idle_clock.specs.Laws.{BusShows, SequenceLeft}
use Rattle.channel_b.specs.declared.Taken.TheVariants.{Unfinished, Finished}
use Rattle.channel_b.specs.TakeBit.{take_bit, held_after, Waits}
use Rattle.verdicts.specs.Table.{executed}
use Rattle.verdicts.specs.Finished.{finished_by}
use Rattle.verdicts.specs.FrameLaws.{ShowsFrame, BitNamed, ErrorsMove, SettingsMove, ExecutedFrame}
use Rattle.receiver.specs.declared.ClockAnswer.{ClockAnswer}
use Rattle.receiver.specs.Clock.{clocked_answer, refused_clock, clock_answer}

-- ---- the bunch and event counters

-- but for RESET: one up, the event counter only with a trigger; the clears of a broadcast "win", and its word shows them
pub record CountersAdvance (before : Counters) (trigger : ℕ) (shown : Outputs) (after : Counters) : Type 0 where
  pub bunch_up : shown.verdict ≢ 1 → shown.verdict ≢ 3 → after.bunch ≡ (before.bunch + 1) % 4096
  pub event_up : shown.verdict ≢ 1 → shown.verdict ≢ 3 → after.event ≡ (before.event + trigger) % 2 ^ 24
  pub bunch_cleared : shown.verdict ≡ 1 → shown.word % 2 ≡ 1 → after.bunch ≡ 0
  pub bunch_not_cleared : shown.verdict ≡ 1 → shown.word % 2 ≡ 0 → after.bunch ≡ (before.bunch + 1) % 4096
  pub event_cleared : shown.verdict ≡ 1 → shown.word / 2 % 2 ≡ 1 → after.event ≡ 0
  pub event_not_cleared : shown.verdict ≡ 1 → shown.word / 2 % 2 ≡ 0 → after.event ≡ (before.event + trigger) % 2 ^ 24

-- ---- refusals

-- 01's term "clock": "a clock call that isn't refused". The state is well formed, and both bits are bits.
abbrev pub Accepted : Receiver → ℕ → ℕ → Type 0
Accepted r trigger bit = (well_formed r ≡ true) × (trigger < 2) × (bit < 2)

module _ (columns : Kind → List ℕ) where
  -- exactly those have number 0
  abbrev pub NothingElseRefused : Type 0
  NothingElseRefused = (r : Receiver) (trigger bit : ℕ) → ((clock_answer columns r trigger bit).refusal ≡ 0) ↔ Accepted r trigger bit

  -- 2 first
  abbrev pub RefusedBy2 : Type 0
  RefusedBy2 = (r : Receiver) (trigger bit : ℕ) → well_formed r ≡ false → clock_answer columns r trigger bit ≡ refused_clock 2 r

  abbrev pub RefusedBy1 : Type 0
  RefusedBy1 =
      (r : Receiver) (trigger bit : ℕ) → well_formed r ≡ true → (1 < trigger) ⊎ (1 < bit)
      → clock_answer columns r trigger bit ≡ refused_clock 1 r

  -- "with all other result fields 0", "the state unchanged"
  abbrev pub RefusedLaw : Type 0
  RefusedLaw =
      (r : Receiver) (trigger bit : ℕ) → let done = clock_answer columns r trigger bit in
      done.refusal ≢ 0 → (done.receiver ≡ r) × ShowsNothing done.outputs

  -- a refused call hands back what it was given, so this is of every call
  abbrev pub StaysWellFormed : Type 0
  StaysWellFormed = (r : Receiver) (trigger bit : ℕ) → well_formed r ≡ true → well_formed (clock_answer columns r trigger bit).receiver ≡ true

-- ---- what is held after a frame

-- "After a finished frame, .. the receiver waits for a start bit; the next bit may be one.", of every verdict but 7
abbrev pub WaitsBut7 : ClockAnswer → Type 0
WaitsBut7 done = done.outputs.verdict ≢ 0 → done.outputs.verdict ≢ 7 → Waits done.receiver

-- document 02, Q-1: "After verdict 7 the receiver must see 41 ones in a row on channel B before a 0 counts as a start"
abbrev pub WantsAfter7 : ClockAnswer → Type 0
WantsAfter7 done = done.outputs.verdict ≡ 7 → done.receiver.held ≡ wanting_ones 41

-- and only then: 41 ones are wanted exactly after verdict 7, and else none
pub record WantsOnlyAfter7 (done : ClockAnswer) : Type 0 where
  pub exactly : (done.outputs.verdict ≡ 7) ↔ (done.receiver.held ≡ wanting_ones 41)
  pub else_none : done.outputs.verdict ≢ 7 → done.receiver.held.wanted ≡ 0

-- ---- the place

pub record PlaceShown (shown : Outputs) : Type 0 where
  pub no_place : shown.corrected ≡ 0 → shown.place ≡ 0
  pub first : shown.corrected ≢ 0 → 1 ≤ shown.place
  pub last : shown.place ≤ largest_place

-- ---- the bit of channel B

-- the bit finishes that frame
abbrev pub Finishes : Receiver → ℕ → Kind → ℕ → Type 0
Finishes r bit kind number = take_bit r.held bit ≡ Finished kind number

module _ (columns : Kind → List ℕ) where
  -- where no frame finishes, a clock is its steps 1 and 2, and what is then held
  abbrev pub NoFrameLaw : Type 0
  NoFrameLaw =
      (r : Receiver) (trigger bit : ℕ) (held : Held) → Accepted r trigger bit → take_bit r.held bit ≡ Unfinished held
      → clock_answer columns r trigger bit ≡ clocked_answer held (idle_clock r.core trigger)

  -- where one finishes, a clock is its steps 1 and 2 with the row of that frame, and what the frame leaves held
  abbrev pub FrameLaw : Type 0
  FrameLaw =
      (r : Receiver) (trigger bit : ℕ) (kind : Kind) (number : ℕ) → Accepted r trigger bit → Finishes r bit kind number
      → clock_answer columns r trigger bit ≡ clocked_answer (held_after number) (finished_by columns kind number (idle_clock r.core trigger))

  -- "Verdict 0: no frame finished on this clock.", and conversely
  abbrev pub VerdictZero : Type 0
  VerdictZero =
      (r : Receiver) (trigger bit : ℕ) → Accepted r trigger bit
      → ((clock_answer columns r trigger bit).outputs.verdict ≡ 0) ↔ ((kind : Kind) (number : ℕ) → Finishes r bit kind number → ⊥)

  -- "For 0, .. the flag is 0. The word shown is 0 for verdicts 0, ..", and the place is 0: refused calls too
  abbrev pub NothingShown : Type 0
  NothingShown =
      (r : Receiver) (trigger bit : ℕ) → let shown = (clock_answer columns r trigger bit).outputs in
      shown.verdict ≡ 0 → (shown.corrected ≡ 0) × (shown.place ≡ 0) × (shown.word ≡ 0)

  -- a finished frame has the verdict of its row, and flag, place and word as decoding without a receiver answers them
  abbrev pub VerdictLaw : Type 0
  VerdictLaw =
      (r : Receiver) (trigger bit : ℕ) (kind : Kind) (number : ℕ) → Accepted r trigger bit → Finishes r bit kind number
      → ShowsFrame kind (decode_frame (columns kind) kind number) r.core.ids.id (clock_answer columns r trigger bit).outputs

  -- and the place names the bit that was corrected: flipped there, the number is the clean frame
  abbrev pub CorrectedBit : Type 0
  CorrectedBit =
      (r : Receiver) (trigger bit : ℕ) (kind : Kind) (number : ℕ) → Accepted r trigger bit → Finishes r bit kind number
      → BitNamed columns kind number (clock_answer columns r trigger bit).outputs

  -- document 02, Q-8: "1 to 39 ..; it is 0 where the flag is 0", refused calls too
  abbrev pub PlaceLaw : Type 0
  PlaceLaw = (r : Receiver) (trigger bit : ℕ) → PlaceShown (clock_answer columns r trigger bit).outputs

  abbrev pub WaitsAfter : Type 0
  WaitsAfter = (r : Receiver) (trigger bit : ℕ) → WaitsBut7 (clock_answer columns r trigger bit)

  abbrev pub WantsAfter : Type 0
  WantsAfter = (r : Receiver) (trigger bit : ℕ) → WantsAfter7 (clock_answer columns r trigger bit)

  -- where no ones were wanted before
  abbrev pub WantsExactly : Type 0
  WantsExactly = (r : Receiver) (trigger bit : ℕ) → Accepted r trigger bit → r.held.wanted ≡ 0 → WantsOnlyAfter7 (clock_answer columns r trigger bit)

  -- ---- steps 1 and 2

  -- whatever frame finishes, the outputs of steps 1 and 2 stand
  abbrev pub OutputsStand : Type 0
  OutputsStand =
      (r : Receiver) (trigger bit : ℕ) → Accepted r trigger bit
      → Stands (clock_answer columns r trigger bit).outputs (idle_clock r.core trigger).outputs

  abbrev pub BusLaw : Type 0
  BusLaw = (r : Receiver) (trigger bit : ℕ) → Accepted r trigger bit → BusShows r.core trigger (clock_answer columns r trigger bit).outputs

  -- RESET apart, which ends it
  abbrev pub SequenceLaw : Type 0
  SequenceLaw =
      (r : Receiver) (trigger bit : ℕ) → Accepted r trigger bit → (clock_answer columns r trigger bit).outputs.verdict ≢ 3
      → SequenceLeft r.core trigger (clock_answer columns r trigger bit).receiver.core.sequence

  abbrev pub AdvanceLaw : Type 0
  AdvanceLaw =
      (r : Receiver) (trigger bit : ℕ) → Accepted r trigger bit → let done = clock_answer columns r trigger bit in
      CountersAdvance r.core.counters trigger done.outputs done.receiver.core.counters

  -- ---- step 3

  -- refused calls too
  abbrev pub ErrorsLaw : Type 0
  ErrorsLaw =
      (r : Receiver) (trigger bit : ℕ) → let done = clock_answer columns r trigger bit in
      ErrorsMove r.core.errors done.outputs done.receiver.core.errors

  abbrev pub SettingsLaw : Type 0
  SettingsLaw =
      (r : Receiver) (trigger bit : ℕ) → let done = clock_answer columns r trigger bit in
      SettingsMove r.core.settings done.outputs done.receiver.core.settings

  -- "RESET": "state becomes the fresh one of the same IDs", a running sequence ended
  abbrev pub ResetIsFresh : Type 0
  ResetIsFresh =
      (r : Receiver) (trigger bit : ℕ) → (clock_answer columns r trigger bit).outputs.verdict ≡ 3
      → (clock_answer columns r trigger bit).receiver ≡ fresh_state r.core.ids

  abbrev pub IdsStay : Type 0
  IdsStay = (r : Receiver) (trigger bit : ℕ) → (clock_answer columns r trigger bit).receiver.core.ids ≡ r.core.ids

  -- which finished frames are executed
  abbrev pub ExecutedExactly : Type 0
  ExecutedExactly =
      (r : Receiver) (trigger bit : ℕ) (kind : Kind) (number : ℕ) → Accepted r trigger bit → Finishes r bit kind number
      → (executed (clock_answer columns r trigger bit).outputs.verdict ≡ true) ↔ ExecutedFrame columns kind number r.core.ids.id

-- ---- all of them

pub record ClockLaws (columns : Kind → List ℕ) : Type 0 where
  pub nothing_else_refused : NothingElseRefused columns
  pub refused_by_2 : RefusedBy2 columns
  pub refused_by_1 : RefusedBy1 columns
  pub refused_law : RefusedLaw columns
  pub stays_well_formed : StaysWellFormed columns
  pub no_frame_law : NoFrameLaw columns
  pub frame_law : FrameLaw columns
  pub verdict_zero : VerdictZero columns
  pub nothing_shown : NothingShown columns
  pub verdict_law : VerdictLaw columns
  pub corrected_bit : CorrectedBit columns
  pub place_law : PlaceLaw columns
  pub waits_after : WaitsAfter columns
  pub wants_after_7 : WantsAfter columns
  pub wants_exactly : WantsExactly columns
  pub outputs_stand : OutputsStand columns
  pub bus_law : BusLaw columns
  pub sequence_law : SequenceLaw columns
  pub advance_law : AdvanceLaw columns
  pub errors_law : ErrorsLaw columns
  pub settings_law : SettingsLaw columns
  pub reset_is_fresh : ResetIsFresh columns
  pub ids_stay : IdsStay columns
  pub executed_exactly : ExecutedExactly columns

abbrev pub ClockTheorem : Type 0
ClockTheorem = (columns : Kind → List ℕ) → GoodTables columns → ClockLaws columns

-- document 01's own columns
abbrev pub ReceiverLaws : Type 0
ReceiverLaws = ClockLaws columns_of

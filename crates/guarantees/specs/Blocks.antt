-- Document 02, Q-3: what holds of every block, over the columns of each kind of frame. Proved in proofs/Blocks.antt.
-- `run_block` of the crate `trace` is what the function `run_block` gives by its contract; `ttcrx_run_block` leaves and answers the same.
use Rattle.std.specs.Prelude.{ℕ, zero, suc, ◌+◌, ◌*◌, ◌/◌, ◌%◌, ◌<◌, ◌≤◌, ◌≡◌, ◌≢◌, ◌⊎◌, ◌↔◌, true, false, cond, List, [], ◌∷◌, ◌++◌, map, length, take, drop, get_or}
use Rattle.frame.specs.declared.Kind.{Kind}
use Rattle.frame.specs.Columns.{columns_of, GoodTables}
use Rattle.receiver_state.specs.declared.Receiver.{Receiver}
use Rattle.receiver_state.specs.WellFormed.{well_formed}
use Rattle.trace.specs.Filled.{filled_part}
use Rattle.trace.specs.Block.{recorded, BlockDone, refused_block, run_block}
use Rattle.guarantees.specs.Calls.{Call, clock, CallAnswer, call, run, answers}

-- ---- the clocks of a block as a list of calls

-- "a byte each: bit 0 the trigger, bit 1 channel B"
abbrev pub clock_call : ℕ → Call
clock_call byte = clock (byte % 2) (byte / 2 % 2)

abbrev pub clock_calls : List ℕ → List Call
clock_calls block = map clock_call block

module _ (columns : Kind → List ℕ) (r : Receiver) (block : List ℕ) where
  -- the state before the clock at a place: the one that the clocks before it leave
  abbrev pub state_before : ℕ → Receiver
  state_before place = run columns r (clock_calls (take place block))

  -- what that clock answers
  abbrev pub answer_at : ℕ → CallAnswer
  answer_at place = (call columns (state_before place) (clock_call (get_or block place 0))).answer

  -- "five 32-bit numbers: place in the block (from 0), bunch and event counts before the clock, a code (verdict + 16 corrected + 32 trigger + 64
  -- missed), the word"
  abbrev pub numbers_at : ℕ → List ℕ
  numbers_at place =
      let shown = (answer_at place).outputs in
      place
      ∷ (state_before place).core.counters.bunch
      ∷ (state_before place).core.counters.event
      ∷ (shown.verdict + 16 * shown.corrected + 32 * shown.trigger + 64 * shown.missed)
      ∷ shown.word
      ∷ []

  -- none for a clock that has no record
  abbrev pub record_at : ℕ → List ℕ
  record_at place = cond (recorded (answer_at place).outputs) (numbers_at place) []

-- the lists of the places below n, one after the other
unfoldable pub below : (ℕ → List ℕ) → ℕ → List ℕ
below at zero = []
below at (suc n) = below at n ++ at n

-- the records of the clocks done singly, in their order
abbrev pub single_records : (Kind → List ℕ) → Receiver → List ℕ → List ℕ
single_records columns r block = below (record_at columns r block) (length block)

-- ---- refusals

-- what is not refused: the state is well formed, the block has at most 4,096 bytes, there are five numbers of room for each, and no byte is over 3
pub record Accepts (r : Receiver) (block buffer : List ℕ) : Type 0 where
  pub is_well_formed : well_formed r ≡ true
  pub at_most_4096 : length block ≤ 4096
  pub room : 5 * length block ≤ length buffer
  pub in_range : (place : ℕ) → place < length block → get_or block place 0 ≤ 3

module _ (columns : Kind → List ℕ) where
  abbrev pub NothingElseRefused : Type 0
  NothingElseRefused = (r : Receiver) (block buffer : List ℕ) → ((run_block columns r block buffer).answer.refusal ≡ 0) ↔ Accepts r block buffer

  -- "in this order after 2": each number where no earlier one fits
  abbrev pub RefusedBy2 : Type 0
  RefusedBy2 = (r : Receiver) (block buffer : List ℕ) → well_formed r ≡ false → run_block columns r block buffer ≡ refused_block 2 r buffer

  abbrev pub RefusedBy15 : Type 0
  RefusedBy15 =
      (r : Receiver) (block buffer : List ℕ) → well_formed r ≡ true → 4096 < length block
      → run_block columns r block buffer ≡ refused_block 15 r buffer

  abbrev pub RefusedBy16 : Type 0
  RefusedBy16 =
      (r : Receiver) (block buffer : List ℕ) → well_formed r ≡ true → length block ≤ 4096 → length buffer < 5 * length block
      → run_block columns r block buffer ≡ refused_block 16 r buffer

  abbrev pub RefusedBy1 : Type 0
  RefusedBy1 =
      (r : Receiver) (block buffer : List ℕ) (place : ℕ) → well_formed r ≡ true → length block ≤ 4096 → 5 * length block ≤ length buffer
      → place < length block → 3 < get_or block place 0 → run_block columns r block buffer ≡ refused_block 1 r buffer

  -- ---- "It must equal the clocks done singly."

  pub record DoneSingly (r : Receiver) (block buffer : List ℕ) (done : BlockDone) : Type 0 where
    -- the state is that of the clocks done singly
    pub state_is : done.answer.receiver ≡ run columns r (clock_calls block)
    -- "the filled part", which the second call hands back, holds their records
    pub filled_is : filled_part done.buffer done.answer.records ≡ single_records columns r block
    pub count_is : 5 * done.answer.records ≡ length (single_records columns r block)
    -- there is room for them, and "the numbers after the last record stay"
    pub fit : 5 * done.answer.records ≤ length buffer
    pub others_stay : drop (5 * done.answer.records) done.buffer ≡ drop (5 * done.answer.records) buffer
    pub same_length : length done.buffer ≡ length buffer

  abbrev pub EqualsSingly : Type 0
  EqualsSingly = (r : Receiver) (block buffer : List ℕ) → Accepts r block buffer → DoneSingly r block buffer (run_block columns r block buffer)

  -- each of those calls is a clock, 01's "clock call that isn't refused"
  abbrev pub NoneRefused : Type 0
  NoneRefused = (r : Receiver) (block : List ℕ) (place : ℕ) → well_formed r ≡ true → (answer_at columns r block place).refusal ≡ 0

  -- "each clock with a trigger or a verdict other than 0" has a record, and no other clock has
  abbrev pub RecordedExactly : Type 0
  RecordedExactly =
      (r : Receiver) (block : List ℕ) (place : ℕ) → well_formed r ≡ true
      → (recorded (answer_at columns r block place).outputs ≡ true) ↔ ((get_or block place 0 % 2 ≡ 1) ⊎ ((answer_at columns r block place).outputs.verdict ≢ 0))

  -- refused or not
  abbrev pub StaysWellFormed : Type 0
  StaysWellFormed =
      (r : Receiver) (block buffer : List ℕ) → well_formed r ≡ true → well_formed (run_block columns r block buffer).answer.receiver ≡ true

  -- a block among other calls is its clocks: the calls after it leave and answer what they do in one list with those clocks, so that what `Demand3`
  -- says of lists is said of them. `left` is the receiver that the block leaves.
  pub record AsItsClocks (r : Receiver) (before : List Call) (block : List ℕ) (left : Receiver) (after : List Call) : Type 0 where
    pub state : run columns left after ≡ run columns r (before ++ (clock_calls block ++ after))
    pub answers_are : answers columns r (before ++ (clock_calls block ++ after)) ≡ answers columns r (before ++ clock_calls block) ++ answers columns left after

  abbrev pub AmongCalls : Type 0
  AmongCalls =
      (r : Receiver) (before after : List Call) (block buffer : List ℕ) → let start = run columns r before in
      Accepts start block buffer → AsItsClocks r before block (run_block columns start block buffer).answer.receiver after

-- ---- a block cut in two

-- so many clocks are added to every fifth number, after the next n
unfoldable pub shifted_after : ℕ → ℕ → List ℕ → List ℕ
shifted_after clocks zero [] = []
shifted_after clocks (suc n) [] = []
shifted_after clocks zero (place ∷ others) = (clocks + place) ∷ shifted_after clocks 4 others
shifted_after clocks (suc n) (number ∷ others) = number ∷ shifted_after clocks n others

-- the same records in a block that began so many clocks earlier: the first number of each is its place
abbrev pub shifted : ℕ → List ℕ → List ℕ
shifted clocks numbers = shifted_after clocks 0 numbers

-- what the two parts give, each with a buffer of its own: the same state, and, with places shifted, the same records
pub record CutInTwo (first : List ℕ) (whole one two : BlockDone) : Type 0 where
  pub first_taken : one.answer.refusal ≡ 0
  pub second_taken : two.answer.refusal ≡ 0
  pub same_state : whole.answer.receiver ≡ two.answer.receiver
  pub same_count : whole.answer.records ≡ one.answer.records + two.answer.records
  pub same_records : filled_part whole.buffer whole.answer.records
      ≡ filled_part one.buffer one.answer.records ++ shifted (length first) (filled_part two.buffer two.answer.records)

abbrev pub CutsNeverShow : (Kind → List ℕ) → Type 0
CutsNeverShow columns =
    (r : Receiver) (first second buffer buffer₁ buffer₂ : List ℕ) → Accepts r (first ++ second) buffer
    → 5 * length first ≤ length buffer₁ → 5 * length second ≤ length buffer₂
    → let one = run_block columns r first buffer₁ in
    CutInTwo first (run_block columns r (first ++ second) buffer) one (run_block columns one.answer.receiver second buffer₂)

-- ---- all of them

pub record BlockLaws (columns : Kind → List ℕ) : Type 0 where
  pub nothing_else_refused : NothingElseRefused columns
  pub refused_by_2 : RefusedBy2 columns
  pub refused_by_15 : RefusedBy15 columns
  pub refused_by_16 : RefusedBy16 columns
  pub refused_by_1 : RefusedBy1 columns
  pub equals_singly : EqualsSingly columns
  pub none_refused : NoneRefused columns
  pub recorded_exactly : RecordedExactly columns
  pub stays_well_formed : StaysWellFormed columns
  pub among_calls : AmongCalls columns
  pub cuts_never_show : CutsNeverShow columns

abbrev pub BlockTheorem : Type 0
BlockTheorem = (columns : Kind → List ℕ) → GoodTables columns → BlockLaws columns

-- document 01's own columns: the statement to hand over
abbrev pub ReceiverBlocks : Type 0
ReceiverBlocks = BlockLaws columns_of

-- What is refused before the columns are used. Assumes nothing.
use mathlib.Core.Path.{◌≡◌, refl, sym, ap, ap₂, ◌∙◌}
use mathlib.Core.Logic.{◌≢◌}
use mathlib.Core.Bool.{true, false}
use mathlib.Core.List.{List, [], ◌∷◌}
use Prim.Native.Nat.{ℕ, ◌*◌}
use native.Mathlib.Omega.{arith}
use borrow.Author.Tests.{eq-eqb}
use lib.Dec.{ltb}
use lib.ListN.{length}
use Rattle.laws.proofs.Rules.{by_test, picked}
use Rattle.std.specs.declared.result.Result.{Result}
use Rattle.std.specs.declared.result.Result.TheVariants.{Ok, Err}
use Rattle.refusals.specs.declared.Refusal.{Refusal}
use Rattle.refusals.specs.declared.Refusal.TheVariants.{State}
use Rattle.refusals.specs.Refusals.{number, index, number_of}
use Rattle.refusals.proofs.Laws.{none_is_success, only_bad_columns_told}
use Rattle.frame.specs.Numbers.{frame_bits, is_frame}
use Rattle.frame.specs.Bits.{bits_of}
use Rattle.frame.specs.declared.Kind.{Kind}
use Rattle.lent_columns.specs.Check.{columns_answer, columns_outcome, check_columns}
use Rattle.lent_columns.specs.Laws.{Passes}
use Rattle.lent_columns.specs.Frames.{unless_refused}
use Rattle.lent_columns.proofs.Frames.{index_0}
use Rattle.receiver_state.specs.declared.Receiver.{Receiver}
use Rattle.receiver_state.specs.WellFormed.{well_formed}
use Rattle.receiver.specs.declared.Stepped.{Stepped}
use Rattle.receiver.specs.declared.ClockAnswer.{ClockAnswer}
use Rattle.receiver.specs.Clock.{step_answer, refused_clock, clock_answer, clock_outcome}
use Rattle.whole_frame.specs.WholeFrame.{clocks_answer, no_clock, receive_answer}
use Rattle.whole_frame.specs.ByFormat.{kind_of, receive_by_format}
use Rattle.trace.specs.declared.Running.{Running}
use Rattle.trace.specs.Record.{record_numbers}
use Rattle.trace.specs.Block.{BlockDone, block_done, block_outcome, block_clocks, no_byte_over_3, refused_block, run_block}
use Rattle.receiver_with_columns.specs.WithColumns.{refused_before, unless_refused_clock, clock_outcome_with, block_outcome_with, BlockDoneWithIndex, block_done_with}
use Rattle.receiver_with_columns.specs.declared.ClockWithIndex.{ClockWithIndex}

-- a state that is not well formed is refused by 2, whatever the columns are
module _ (columns : Kind → List ℕ) (r : Receiver) (bad : well_formed r ≡ false) where
  pub clock_by_2 : (trigger bit : ℕ) → clock_answer columns r trigger bit ≡ refused_clock 2 r
  unfolding clock_answer
  clock_by_2 trigger bit = rw bad

  pub receive_by_2 : (kind : Kind) (number : ℕ) → receive_answer columns r kind number ≡ refused_clock 2 r
  unfolding receive_answer
  receive_by_2 kind number = rw bad

  pub format_by_2 : (format number : ℕ) → receive_by_format columns r format number ≡ refused_clock 2 r
  unfolding receive_by_format
  format_by_2 format number = rw bad

  pub block_by_2 : (block buffer : List ℕ) → run_block columns r block buffer ≡ refused_block 2 r buffer
  unfolding run_block
  block_by_2 block buffer = rw bad

module _ (r : Receiver) (table : List ℕ) where
  -- ---- a table that passes

  index_is_0 : Passes table → (refused_before r table).index ≡ 0
  unfolding refused_before
  index_is_0 p = by_test (well_formed r) (λ w. rw w (index_0 table p)) (λ w. rw w)

  -- what refuses by 2 itself is answered
  answered : {A : Type 0} (refuse : ℕ → A) (answer : A) → Passes table → (well_formed r ≡ false → answer ≡ refuse 2)
      → unless_refused (refused_before r table) refuse answer ≡ answer
  unfolding refused_before
  answered refuse answer p two = by_test (well_formed r) (λ w. rw (w, eq-eqb (check_columns table).refusal 0 p)) (λ w. rw w (sym (two w)))

  pub accepted_clock : (answer : ClockAnswer) → Passes table → (well_formed r ≡ false → answer ≡ refused_clock 2 r)
      → record { answer = answer; index = 0 } ≡ unless_refused_clock r table answer
  accepted_clock answer p two = rw (answered (λ (n : ℕ). refused_clock n r) answer p two, index_is_0 p)

  pub accepted_block_lem : (buffer : List ℕ) (done : BlockDone) → Passes table → (well_formed r ≡ false → done ≡ refused_block 2 r buffer)
      → ◌≡◌ {A = BlockDoneWithIndex} (record { done = done; index = 0 })
      (record { done = unless_refused (refused_before r table) (λ refusal. refused_block refusal r buffer) done; index = (refused_before r table).index })
  accepted_block_lem buffer done p two = rw (answered (λ (n : ℕ). refused_block n r buffer) done p two, index_is_0 p)

  -- what is answered over the lent columns is not refused by 28, so its index is 0
  pub clocked : (given : Result Stepped Refusal) (answer : ClockAnswer) → Passes table → (well_formed r ≡ false → answer ≡ refused_clock 2 r)
      → answer.refusal ≢ 28 → clock_outcome r given ≡ answer → clock_outcome_with r given ≡ unless_refused_clock r table answer
  clocked given answer p two not_28 e =
      ap₂ with_index e (only_bad_columns_told Stepped given (λ z. not_28 (ap (λ (a : ClockAnswer). a.refusal) (sym e) ∙ clock_number given ∙ z)))
      ∙ accepted_clock answer p two
    where
      with_index : ClockAnswer → ℕ → ClockWithIndex
      with_index a i = record { answer = a; index = i }

      clock_number : (given : Result Stepped Refusal) → (clock_outcome r given).refusal ≡ number_of given
      clock_number (Ok done) = refl
      clock_number (Err refusal) = refl

  pub blocked : (given : Result Running Refusal) (buffer : List ℕ) (done : BlockDone) (before : List ℕ) → Passes table
      → (well_formed r ≡ false → done ≡ refused_block 2 r before) → done.answer.refusal ≢ 28 → block_done (block_outcome r given) buffer ≡ done
      → block_done_with (block_outcome_with r given) buffer
      ≡ record { done = unless_refused (refused_before r table) (λ refusal. refused_block refusal r before) done; index = (refused_before r table).index }
  blocked given buffer done before p two not_28 e =
      ap₂ with_index e (only_bad_columns_told Running given (λ z. not_28 (ap (λ (d : BlockDone). d.answer.refusal) (sym e) ∙ block_number given ∙ z)))
      ∙ accepted_block_lem before done p two
    where
      with_index : BlockDone → ℕ → BlockDoneWithIndex
      with_index d i = record { done = d; index = i }

      block_number : (given : Result Running Refusal) → (block_outcome r given).refusal ≡ number_of given
      block_number (Ok run) = refl
      block_number (Err refusal) = refl

  -- ---- a table that is refused

  pub refused_by_columns : (refusal : Refusal) → well_formed r ≡ true → columns_outcome (Err refusal) ≡ check_columns table
      → columns_answer (number refusal) (index refusal) ≡ refused_before r table
  unfolding refused_before
  refused_by_columns refusal w e = rw w e

  pub refused_by_state : well_formed r ≡ false → columns_answer (number State) (index State) ≡ refused_before r table
  unfolding refused_before number index
  refused_by_state w = rw w

  module _ (refusal : Refusal) (before : columns_answer (number refusal) (index refusal) ≡ refused_before r table) where
    pub clock_refused : (answer : ClockAnswer) → clock_outcome_with r (Err refusal) ≡ unless_refused_clock r table answer
    clock_refused answer = rw (sym before, none_is_success refusal)

    pub block_refused : (buffer : List ℕ) (done : BlockDone)
        → block_done_with (block_outcome_with r (Err refusal)) buffer
        ≡ record { done = unless_refused (refused_before r table) (λ n. refused_block n r buffer) done; index = (refused_before r table).index }
    block_refused buffer done = rw (sym before, none_is_success refusal)

-- ---- no clock, frame or block over any columns is refused by 28

module _ (columns : Kind → List ℕ) (r : Receiver) where
  pub clock_not_28 : (trigger bit : ℕ) → (clock_answer columns r trigger bit).refusal ≢ 28
  unfolding clock_answer step_answer
  clock_not_28 trigger bit =
      picked (λ (a : ClockAnswer). a.refusal ≢ 28) (well_formed r)
      (picked (λ (a : ClockAnswer). a.refusal ≢ 28) (ltb 1 trigger) (λ e. omega arith)
      (picked (λ (a : ClockAnswer). a.refusal ≢ 28) (ltb 1 bit) (λ e. omega arith) (λ e. omega arith)))
      (λ e. omega arith)

clocks_not_28 : (columns : Kind → List ℕ) (before : ClockAnswer) (bits : List ℕ) → before.refusal ≢ 28 → (clocks_answer columns before bits).refusal ≢ 28
unfolding clocks_answer
clocks_not_28 columns before [] h = h
clocks_not_28 columns before (bit ∷ bits) h = clocks_not_28 columns (clock_answer columns before.receiver 0 bit) bits (clock_not_28 columns before.receiver 0 bit)

module _ (columns : Kind → List ℕ) (r : Receiver) where
  pub receive_not_28 : (kind : Kind) (number : ℕ) → (receive_answer columns r kind number).refusal ≢ 28
  unfolding receive_answer
  receive_not_28 kind number =
      picked (λ (a : ClockAnswer). a.refusal ≢ 28) (well_formed r)
      (picked (λ (a : ClockAnswer). a.refusal ≢ 28) (is_frame kind number) (clocks_not_28 columns (no_clock r) (bits_of (frame_bits kind) number) (λ e. omega arith))
      (λ e. omega arith))
      (λ e. omega arith)

  pub format_not_28 : (format number : ℕ) → (receive_by_format columns r format number).refusal ≢ 28
  unfolding receive_by_format
  format_not_28 format number =
      picked (λ (a : ClockAnswer). a.refusal ≢ 28) (well_formed r)
      (picked (λ (a : ClockAnswer). a.refusal ≢ 28) (ltb 1 format) (λ e. omega arith) (receive_not_28 (kind_of format) number))
      (λ e. omega arith)

  pub block_not_28 : (block buffer : List ℕ) → (run_block columns r block buffer).answer.refusal ≢ 28
  unfolding run_block
  block_not_28 block buffer =
      picked (λ (d : BlockDone). d.answer.refusal ≢ 28) (well_formed r)
      (picked (λ (d : BlockDone). d.answer.refusal ≢ 28) (ltb block_clocks (length block)) (λ e. omega arith)
      (picked (λ (d : BlockDone). d.answer.refusal ≢ 28) (ltb (length buffer) (record_numbers * length block)) (λ e. omega arith)
      (picked (λ (d : BlockDone). d.answer.refusal ≢ 28) (no_byte_over_3 block) (λ e. omega arith) (λ e. omega arith))))
      (λ e. omega arith)

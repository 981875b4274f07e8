-- Document 02, Q-11: clocks, whole frames and blocks with lent columns. `ClockWithIndex` is a struct of src/lib.rt: the answer without columns, and
-- the index.
use Rattle.std.specs.Prelude.{ℕ, cond, List, Result}
use Rattle.refusals.specs.declared.Refusal.{Refusal}
use Rattle.refusals.specs.Refusals.{index_of}
use Rattle.frame.specs.declared.Kind.{Kind}
use Rattle.lent_columns.specs.declared.ColumnsAnswer.{ColumnsAnswer}
use Rattle.lent_columns.specs.Check.{lent_columns, columns_answer, check_columns}
use Rattle.lent_columns.specs.Frames.{unless_refused}
use Rattle.receiver_state.specs.declared.Receiver.{Receiver}
use Rattle.receiver_state.specs.WellFormed.{well_formed}
use Rattle.receiver.specs.declared.Stepped.{Stepped}
use Rattle.receiver.specs.declared.ClockAnswer.{ClockAnswer}
use Rattle.receiver.specs.Clock.{refused_clock, clock_answer, clock_outcome}
use Rattle.whole_frame.specs.WholeFrame.{receive_answer}
use Rattle.whole_frame.specs.ByFormat.{receive_by_format}
use Rattle.trace.specs.declared.Running.{Running}
use Rattle.trace.specs.Block.{BlockAnswer, BlockDone, block_done, refused_block, block_outcome, run_block}
use Rattle.receiver_with_columns.specs.declared.ClockWithIndex.{ClockWithIndex}

-- "Refusals: 27 not 40 numbers; 28 first bad column, its index told; both after 2 where a state is given, before all others."
unfoldable pub refused_before : Receiver → List ℕ → ColumnsAnswer
refused_before r table = cond (well_formed r) (check_columns table) (columns_answer 2 0)

-- the answer over the lent columns, unless it was refused before; with the index beside it
abbrev pub unless_refused_clock : Receiver → List ℕ → ClockAnswer → ClockWithIndex
unless_refused_clock r table answer = let before = refused_before r table in record {
  answer = unless_refused before (λ refusal. refused_clock refusal r) answer;
  index = before.index;
}

unfoldable pub clock_with_columns : Receiver → List ℕ → ℕ → ℕ → ClockWithIndex
clock_with_columns r table trigger bit = unless_refused_clock r table (clock_answer (lent_columns table) r trigger bit)

unfoldable pub receive_with_columns : Receiver → List ℕ → Kind → ℕ → ClockWithIndex
receive_with_columns r table kind number = unless_refused_clock r table (receive_answer (lent_columns table) r kind number)

unfoldable pub receive_by_format_with_columns : Receiver → List ℕ → ℕ → ℕ → ClockWithIndex
receive_by_format_with_columns r table format number = unless_refused_clock r table (receive_by_format (lent_columns table) r format number)

-- what C is handed: the answer without columns, and the index that a refusal tells, 0 where it tells none
abbrev pub clock_outcome_with : Receiver → Result Stepped Refusal → ClockWithIndex
clock_outcome_with r given = record { answer = clock_outcome r given; index = index_of given }

-- the same of a block
pub record BlockWithIndex : Type 0 where
  pub answer : BlockAnswer
  pub index : ℕ

abbrev pub block_outcome_with : Receiver → Result Running Refusal → BlockWithIndex
block_outcome_with r given = record { answer = block_outcome r given; index = index_of given }

-- what a block leaves and answers, and the index
pub record BlockDoneWithIndex : Type 0 where
  pub done : BlockDone
  pub index : ℕ

abbrev pub block_done_with : BlockWithIndex → List ℕ → BlockDoneWithIndex
block_done_with answered buffer = record { done = block_done answered.answer buffer; index = answered.index }

-- "blocks too"
unfoldable pub run_block_with_columns : Receiver → List ℕ → List ℕ → List ℕ → BlockDoneWithIndex
run_block_with_columns r table block buffer = let before = refused_before r table in record {
  done = unless_refused before (λ refusal. refused_block refusal r buffer) (run_block (lent_columns table) r block buffer);
  index = before.index;
}

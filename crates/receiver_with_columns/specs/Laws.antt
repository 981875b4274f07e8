-- Document 02, Q-11: what holds of clocks, whole frames and blocks with lent columns. Proved in proofs/Laws.antt.
use Rattle.std.specs.Prelude.{ℕ, ◌≡◌, ◌≢◌, true, false, List}
use Rattle.frame.specs.declared.Kind.{Kind}
use Rattle.frame.specs.Numbers.{format_bit}
use Rattle.frame.specs.Columns.{columns_of}
use Rattle.lent_columns.specs.declared.ColumnsAnswer.{ColumnsAnswer}
use Rattle.lent_columns.specs.Check.{lent_columns, columns_answer, check_columns}
use Rattle.lent_columns.specs.Laws.{Passes}
use Rattle.lent_columns.specs.Frames.{own_table}
use Rattle.receiver_state.specs.declared.Held.{Held}
use Rattle.receiver_state.specs.declared.Receiver.{Receiver}
use Rattle.channel_b.specs.declared.Taken.TheVariants.{Unfinished}
use Rattle.channel_b.specs.TakeBit.{take_bit}
use Rattle.receiver_state.specs.Shown.{no_outputs}
use Rattle.receiver_state.specs.WellFormed.{well_formed}
use Rattle.receiver.specs.declared.ClockAnswer.{ClockAnswer}
use Rattle.receiver.specs.Clock.{refused_clock, clock_answer}
use Rattle.receiver.specs.Laws.{Accepted, ClockLaws}
use Rattle.whole_frame.specs.WholeFrame.{receive_answer, WholeFrameLaw}
use Rattle.whole_frame.specs.ByFormat.{receive_by_format, FormatLaws}
use Rattle.trace.specs.Block.{BlockDone, refused_block, run_block, RefusedKeeps}
use Rattle.receiver_with_columns.specs.declared.ClockWithIndex.{ClockWithIndex}
use Rattle.receiver_with_columns.specs.WithColumns.{clock_with_columns, receive_with_columns, receive_by_format_with_columns, BlockDoneWithIndex, run_block_with_columns}

abbrev pub clocked_with : ℕ → ClockAnswer → ClockWithIndex
clocked_with index answer = record { answer = answer; index = index }

abbrev pub done_with : ℕ → BlockDone → BlockDoneWithIndex
done_with index done = record { done = done; index = index }

-- on this receiver and with this table, what the definitions of the functions without columns give over these columns, and index 0
pub record Over (columns : Kind → List ℕ) (r : Receiver) (table : List ℕ) : Type 0 where
  pub clock : (trigger bit : ℕ) → clock_with_columns r table trigger bit ≡ clocked_with 0 (clock_answer columns r trigger bit)
  pub receive : (kind : Kind) (number : ℕ) → receive_with_columns r table kind number ≡ clocked_with 0 (receive_answer columns r kind number)
  pub receive_by_format_lem : (format number : ℕ) → receive_by_format_with_columns r table format number ≡ clocked_with 0 (receive_by_format columns r format number)
  pub run_block_lem : (block buffer : List ℕ) → run_block_with_columns r table block buffer ≡ done_with 0 (run_block columns r block buffer)

-- all are refused, whatever the other arguments are
pub record AllRefused (before : ColumnsAnswer) (r : Receiver) (table : List ℕ) : Type 0 where
  pub clock : (trigger bit : ℕ) → clock_with_columns r table trigger bit ≡ clocked_with before.index (refused_clock before.refusal r)
  pub receive : (kind : Kind) (number : ℕ) → receive_with_columns r table kind number ≡ clocked_with before.index (refused_clock before.refusal r)
  pub receive_by_format_lem : (format number : ℕ)
      → receive_by_format_with_columns r table format number ≡ clocked_with before.index (refused_clock before.refusal r)
  pub run_block_lem : (block buffer : List ℕ) → run_block_with_columns r table block buffer ≡ done_with before.index (refused_block before.refusal r buffer)

-- document 01: "the state unchanged where one was given, and no lent byte written": of a clock and of a block, by whatever number
pub record RefusedLeaves (r : Receiver) (table : List ℕ) : Type 0 where
  pub clock : (trigger bit : ℕ) → let done = (clock_with_columns r table trigger bit).answer in
      done.refusal ≢ 0 → (done.receiver ≡ r) × (done.outputs ≡ no_outputs)
  pub run_block_lem : (block buffer : List ℕ) → let done = (run_block_with_columns r table block buffer).done in
      done.answer.refusal ≢ 0 → RefusedKeeps r buffer done

pub record WithColumns (r : Receiver) (table : List ℕ) : Type 0 where
  -- a table that passes
  pub accepted : Passes table → Over (lent_columns table) r table
  -- "27 .. 28 ..; both after 2 where a state is given, before all others"
  pub refused_first : well_formed r ≡ false → AllRefused (columns_answer 2 0) r table
  pub refused_then : well_formed r ≡ true → (check_columns table).refusal ≢ 0 → AllRefused (check_columns table) r table
  pub leaves : RefusedLeaves r table
  -- the format bit of a kind gives what the kind gives, refused or not
  pub kind_by_format : (kind : Kind) (number : ℕ) → receive_by_format_with_columns r table (format_bit kind) number ≡ receive_with_columns r table kind number

abbrev pub WithColumnsTheorem : Type 0
WithColumnsTheorem = (r : Receiver) (table : List ℕ) → WithColumns r table

-- the laws of clocks and whole frames hold over a table that passes: by `accepted` what they say is said of the functions with columns
pub record LawsOver (table : List ℕ) : Type 0 where
  pub clocks : ClockLaws (lent_columns table)
  pub whole_frames : WholeFrameLaw (lent_columns table)
  pub formats : FormatLaws (lent_columns table)

abbrev pub LawsTheorem : Type 0
LawsTheorem = (table : List ℕ) → Passes table → LawsOver table

-- "passed unchanged at every clock": if it is not, the columns of a clock that finishes no frame do not matter, so those of a frame's last clock decide
abbrev pub LastClockDecides : Type 0
LastClockDecides =
    (r : Receiver) (one other : List ℕ) (trigger bit : ℕ) (held : Held) → Passes one → Passes other → Accepted r trigger bit
    → take_bit r.held bit ≡ Unfinished held → clock_with_columns r one trigger bit ≡ clock_with_columns r other trigger bit

-- with document 01's own columns lent they are the functions without columns
abbrev pub OwnReceiver : Type 0
OwnReceiver = (r : Receiver) → Over columns_of r own_table

-- A refused block leaves the receiver as it was. Assumes nothing.
use Rattle.std.proofs.Common.{◌≡◌, ℕ, List}
use mathlib.Core.Logic.{◌≢◌}
use Rattle.frame.specs.declared.Kind.{Kind}
use Rattle.receiver_state.specs.declared.Receiver.{Receiver}
use Rattle.trace.specs.Block.{run_block}
use Rattle.trace.proofs.Refused.{refused_keeps}
use Rattle.receiver_with_columns.specs.WithColumns.{run_block_with_columns}
use Rattle.receiver_with_columns.proofs.Laws.{with_columns}

pub block_kept : (columns : Kind → List ℕ) (r : Receiver) (block buffer : List ℕ)
    → (run_block columns r block buffer).answer.refusal ≢ 0 → (run_block columns r block buffer).answer.receiver ≡ r
block_kept columns r block buffer some = (refused_keeps columns r block buffer some).receiver_stays

pub block_with_index_kept : (r : Receiver) (table block buffer : List ℕ)
    → (run_block_with_columns r table block buffer).done.answer.refusal ≢ 0 → (run_block_with_columns r table block buffer).done.answer.receiver ≡ r
block_with_index_kept r table block buffer some = ((with_columns r table).leaves.run_block_lem block buffer some).receiver_stays

-- What holds of every finished frame. Assumes nothing.
use mathlib.Core.Logic.{◌≢◌}
use mathlib.Core.List.{List}
use Prim.Native.Nat.{ℕ, ◌≤◌}
use Rattle.frame.specs.declared.Kind.{Kind}
use Rattle.frame.specs.Decode.{judged, finished_answer}
use Rattle.frame.specs.Columns.{GoodTables}
use Rattle.frame.specs.Frames.{FrameFacts}
use Rattle.frame.proofs.Frames.{frame_theorem}
use Rattle.receiver_state.specs.declared.Clocked.{Clocked}
use Rattle.receiver_state.proofs.Shown.{frame_stands}
use Rattle.verdicts.specs.Table.{largest_verdict}
use Rattle.verdicts.specs.Finished.{finished, finished_by}
use Rattle.verdicts.specs.Laws.{VerdictTheorem}
use Rattle.verdicts.proofs.Keep.{finished_facts}
use Rattle.verdicts.proofs.Rows.{row_facts}
use Rattle.verdicts.proofs.Counts.{finished_moves}
use Rattle.verdicts.proofs.Stored.{finished_settings}
use Rattle.verdicts.proofs.Cleared.{finished_counters}
use Rattle.verdicts.proofs.Verdicts.{finished_answer_lem, seven_exactly, shows_frame}
use Rattle.verdicts.proofs.Executed.{executed_law}
use Rattle.verdicts.proofs.Named.{bit_named}

-- of any columns
pub not_zero : (columns : Kind → List ℕ) (kind : Kind) (number : ℕ) (idle : Clocked) → (finished_by columns kind number idle).outputs.verdict ≢ 0
unfolding finished finished_answer
not_zero columns kind number idle = (row_facts kind (judged (columns kind) kind number) idle.core).not_zero

pub not_larger : (columns : Kind → List ℕ) (kind : Kind) (number : ℕ) (idle : Clocked) → (finished_by columns kind number idle).outputs.verdict ≤ largest_verdict
unfolding finished finished_answer
not_larger columns kind number idle = (row_facts kind (judged (columns kind) kind number) idle.core).not_larger

facts : (columns : Kind → List ℕ) → GoodTables columns → (kind : Kind) → FrameFacts (columns kind) kind
facts columns good kind = frame_theorem (columns kind) kind (good kind).0 (good kind).1

pub verdict_theorem : VerdictTheorem
unfolding finished finished_answer
verdict_theorem columns good =
    record {
      stays_well_formed = λ kind number idle f. finished_facts kind (finished_answer columns kind number) idle f;
      not_zero = not_zero columns;
      not_larger = not_larger columns;
      seven_exactly = seven_exactly columns;
      shows_frame = λ kind number idle e. rw (finished_answer_lem columns kind number e) (shows_frame kind (judged (columns kind) kind number) idle);
      bit_named = λ kind number idle. bit_named columns (facts columns good) idle kind number;
      outputs_stand = λ kind number idle. frame_stands _ _ _ _ idle.outputs;
      errors_move = λ kind number idle. finished_moves kind (judged (columns kind) kind number) idle;
      settings_move = λ kind number idle. finished_settings kind (judged (columns kind) kind number) idle;
      counters_move = λ kind number idle. finished_counters kind (judged (columns kind) kind number) idle;
      sequence_stays = λ kind number idle. (row_facts kind (judged (columns kind) kind number) idle.core).sequence_stays;
      ids_stay = λ kind number idle. (row_facts kind (judged (columns kind) kind number) idle.core).ids_stay;
      reset_is_fresh = λ kind number idle. (row_facts kind (judged (columns kind) kind number) idle.core).reset;
      executed_exactly = λ kind number idle e. executed_law columns (facts columns good) idle kind number e;
    }

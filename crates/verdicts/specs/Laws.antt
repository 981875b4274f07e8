-- Document 01, "Fate of a finished frame", with document 02, Q-4 and Q-8: what holds of every finished frame, over the columns of each kind.
-- Proved in proofs/Laws.antt.
use Rattle.std.specs.Prelude.{ℕ, ◌≤◌, ◌≡◌, ◌≢◌, ◌↔◌, true, List}
use Rattle.frame.specs.declared.Kind.{Kind}
use Rattle.frame.specs.Numbers.{stop_bit, is_frame}
use Rattle.frame.specs.Columns.{GoodTables}
use Rattle.frame.specs.Decode.{decode_frame}
use Rattle.receiver_state.specs.declared.Clocked.{Clocked}
use Rattle.receiver_state.specs.State.{fresh_core}
use Rattle.receiver_state.specs.Shown.{Stands}
use Rattle.receiver_state.specs.WellFormed.{CoreFacts}
use Rattle.verdicts.specs.Table.{executed, largest_verdict}
use Rattle.verdicts.specs.Finished.{finished_by}
use Rattle.verdicts.specs.FrameLaws.{ShowsFrame, BitNamed, ErrorsMove, SettingsMove, CountersMove, ExecutedFrame}

pub record VerdictLaws (columns : Kind → List ℕ) : Type 0 where
  pub stays_well_formed : (kind : Kind) (number : ℕ) (idle : Clocked) → CoreFacts idle.core → CoreFacts (finished_by columns kind number idle).core
  pub not_zero : (kind : Kind) (number : ℕ) (idle : Clocked) → (finished_by columns kind number idle).outputs.verdict ≢ 0
  pub not_larger : (kind : Kind) (number : ℕ) (idle : Clocked) → (finished_by columns kind number idle).outputs.verdict ≤ largest_verdict
  -- 7, "stop bit is 0"
  pub seven_exactly : (kind : Kind) (number : ℕ) (idle : Clocked) → ((finished_by columns kind number idle).outputs.verdict ≡ 7) ↔ (stop_bit number ≡ 0)
  -- of a number that is such a frame, the verdict is that of its row, and flag, place and word are as decoding without a receiver answers them
  pub shows_frame : (kind : Kind) (number : ℕ) (idle : Clocked) → is_frame kind number ≡ true
      → ShowsFrame kind (decode_frame (columns kind) kind number) idle.core.ids.id (finished_by columns kind number idle).outputs
  -- and the place names the bit that was corrected
  pub bit_named : (kind : Kind) (number : ℕ) (idle : Clocked) → is_frame kind number ≡ true
      → BitNamed columns kind number (finished_by columns kind number idle).outputs
  pub outputs_stand : (kind : Kind) (number : ℕ) (idle : Clocked) → Stands (finished_by columns kind number idle).outputs idle.outputs
  pub errors_move : (kind : Kind) (number : ℕ) (idle : Clocked) → let done = finished_by columns kind number idle in
      ErrorsMove idle.core.errors done.outputs done.core.errors
  pub settings_move : (kind : Kind) (number : ℕ) (idle : Clocked) → let done = finished_by columns kind number idle in
      SettingsMove idle.core.settings done.outputs done.core.settings
  pub counters_move : (kind : Kind) (number : ℕ) (idle : Clocked) → let done = finished_by columns kind number idle in
      CountersMove idle.core.counters done.outputs done.core.counters
  pub sequence_stays : (kind : Kind) (number : ℕ) (idle : Clocked) → (finished_by columns kind number idle).outputs.verdict ≢ 3
      → (finished_by columns kind number idle).core.sequence ≡ idle.core.sequence
  pub ids_stay : (kind : Kind) (number : ℕ) (idle : Clocked) → (finished_by columns kind number idle).core.ids ≡ idle.core.ids
  -- "RESET": "state becomes the fresh one of the same IDs"
  pub reset_is_fresh : (kind : Kind) (number : ℕ) (idle : Clocked) → (finished_by columns kind number idle).outputs.verdict ≡ 3
      → (finished_by columns kind number idle).core ≡ fresh_core idle.core.ids
  pub executed_exactly : (kind : Kind) (number : ℕ) (idle : Clocked) → is_frame kind number ≡ true
      → (executed (finished_by columns kind number idle).outputs.verdict ≡ true) ↔ ExecutedFrame columns kind number idle.core.ids.id

abbrev pub VerdictTheorem : Type 0
VerdictTheorem = (columns : Kind → List ℕ) → GoodTables columns → VerdictLaws columns

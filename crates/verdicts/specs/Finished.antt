-- Document 01, "Fate of a finished frame": what a finished frame does, as a change of what steps 1 and 2 of the same clock leave and show.
-- So "Its clears and RESET win over steps 1 and 2 in the state; the outputs of this clock stand, and RESET ends a running sequence."
use Rattle.std.specs.Prelude.{ℕ, cond, List, eqb}
use Rattle.frame.specs.declared.Kind.{Kind}
use Rattle.frame.specs.declared.Answer.{Answer}
use Rattle.frame.specs.Decode.{finished_answer}
use Rattle.receiver_state.specs.declared.Core.{Core}
use Rattle.receiver_state.specs.declared.Outputs.{Outputs}
use Rattle.receiver_state.specs.declared.Clocked.{Clocked}
use Rattle.receiver_state.specs.State.{errors, with_errors}
use Rattle.receiver_state.specs.Shown.{showing_frame}
use Rattle.verdicts.specs.declared.Row.{Row}
use Rattle.verdicts.specs.Table.{up_to, table_row}

-- "For verdicts 1 to 6 a corrected frame .. raises the single error counter; RESET then clears it": the counter goes up before the row's effect.
-- Document 02, Q-4, of verdict 10: "corrected flag and single counter as for verdict 2".
-- For 7, 8, 9 and 11 the flag is 0. The single error counter stops "at 65535".
-- "Bit 5 is cleared by verdict 7 and set by any other finished frame."
unfoldable pub count_errors : Answer → Core → Core
count_errors frame core =
    with_errors
    (errors
    (cond (eqb frame.corrected 1) (up_to 65535 core.errors.single) core.errors.single)
    core.errors.double
    (cond (eqb frame.verdict 7) 0 1))
    core

-- "the outputs of this clock stand": a finished frame adds its verdict, corrected flag, place and word to those of steps 1 and 2.
-- "a corrected frame sets the corrected flag"; "The word shown is 0 for verdicts 0, 7 and 8, else the corrected data"; document 02, Q-8: "A corrected frame
-- also reports the flipped bit": as the decoder answers them
abbrev pub shown : Answer → Row → Outputs → Clocked
shown frame done idle = record { core = done.core; outputs = showing_frame done.verdict frame.corrected frame.place frame.word idle }

unfoldable pub finished : Kind → Answer → Clocked → Clocked
finished kind frame idle = shown frame (table_row kind frame (count_errors frame idle.core)) idle.outputs

-- the same of a frame number, over the columns of each kind
abbrev pub finished_by : (Kind → List ℕ) → Kind → ℕ → Clocked → Clocked
finished_by columns kind number idle = finished kind (finished_answer columns kind number) idle

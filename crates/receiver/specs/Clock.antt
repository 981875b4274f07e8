-- Document 01, "One clock" and "Numbers of refusal": one clock of a receiver, over the columns of each kind of frame.
use Rattle.std.specs.Prelude.{ℕ, cond, List, ltb, Result, Ok, Err}
use Rattle.refusals.specs.declared.Refusal.{Refusal}
use Rattle.refusals.specs.Refusals.{number}
use Rattle.frame.specs.declared.Kind.{Kind}
use Rattle.receiver_state.specs.declared.Held.{Held}
use Rattle.receiver_state.specs.declared.Receiver.{Receiver}
use Rattle.receiver_state.specs.declared.Clocked.{Clocked}
use Rattle.receiver_state.specs.State.{receiver}
use Rattle.receiver_state.specs.Shown.{no_outputs}
use Rattle.receiver_state.specs.WellFormed.{well_formed}
use Rattle.idle_clock.specs.IdleClock.{idle_clock}
use Rattle.channel_b.specs.declared.Taken.{Taken}
use Rattle.channel_b.specs.declared.Taken.TheVariants.{Unfinished, Finished}
use Rattle.channel_b.specs.TakeBit.{take_bit, held_after_bit}
use Rattle.verdicts.specs.Finished.{finished_by}
use Rattle.receiver.specs.declared.Stepped.{Stepped}
use Rattle.receiver.specs.declared.ClockAnswer.{ClockAnswer}

-- "Verdict 0: no frame finished on this clock."
abbrev pub apply_frame : (Kind → List ℕ) → Taken → Clocked → Clocked
apply_frame columns (Unfinished held) idle = idle
apply_frame columns (Finished kind number) idle = finished_by columns kind number idle

abbrev pub clocked_answer : Held → Clocked → ClockAnswer
clocked_answer held clocked = record { refusal = 0; receiver = receiver clocked.core held; outputs = clocked.outputs }

-- the three steps: 1 and 2 are the idle clock; 3, "The channel B bit is taken, and a finished frame acts."
unfoldable pub step_answer : (Kind → List ℕ) → Receiver → ℕ → ℕ → ClockAnswer
step_answer columns r trigger bit =
    clocked_answer (held_after_bit (take_bit r.held bit)) (apply_frame columns (take_bit r.held bit) (idle_clock r.core trigger))

-- "A refused call returns its number with all other result fields 0 .., the state unchanged where one was given"
abbrev pub refused_clock : ℕ → Receiver → ClockAnswer
refused_clock refusal r = record { refusal = refusal; receiver = r; outputs = no_outputs }

-- refusal 2, "state not well formed", "first"; 1, "trigger or data bit over 1", "after 2"
unfoldable pub clock_answer : (Kind → List ℕ) → Receiver → ℕ → ℕ → ClockAnswer
clock_answer columns r trigger bit =
    cond (well_formed r)
    (cond (ltb 1 trigger) (refused_clock 1 r)
    (cond (ltb 1 bit) (refused_clock 1 r)
    (step_answer columns r trigger bit)))
    (refused_clock 2 r)

-- what a clock leaves and shows that is not refused, as C is handed it
abbrev pub accepted : Stepped → ClockAnswer
accepted done = record { refusal = 0; receiver = done.receiver; outputs = done.outputs }

-- what C is handed by a clock on this state
abbrev pub clock_outcome : Receiver → Result Stepped Refusal → ClockAnswer
clock_outcome r (Ok done) = accepted done
clock_outcome r (Err refusal) = refused_clock (number refusal) r

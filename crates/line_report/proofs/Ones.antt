-- The 41 ones after a line with verdict 7. Assumes nothing.
use Rattle.std.proofs.Common.{◌≡◌, ℕ, true, ap, arith, eq-eqb, Result, Ok, Err}
use Rattle.frame.specs.Columns.{columns_of}
use Rattle.receiver_state.specs.declared.Receiver.{Receiver}
use Rattle.receiver_state.specs.State.{wanting_ones, nothing_held, receiver}
use Rattle.receiver_state.specs.WellFormed.{well_formed}
use Rattle.receiver.specs.declared.ClockAnswer.{ClockAnswer}
use Rattle.whole_frame.specs.WholeFrame.{LeftWanting, settled_clock}
use Rattle.whole_frame.proofs.WholeFrameLaw.{receiver_whole_frames}
use Rattle.refusals.specs.declared.Refusal.{Refusal}
use Rattle.stored_line.specs.declared.StoredFrame.{StoredFrame}
use Rattle.line_report.specs.Output.{feed_line, ones_sent}

-- what a line with verdict 7 leaves
pub line_wants : (r : Receiver) (line : Result StoredFrame Refusal) → LeftWanting (feed_line columns_of r line)
line_wants r (Ok frame) = receiver_whole_frames.wants_after_7 r frame.kind frame.number
line_wants r (Err refusal) = λ e. absurd (zero_not_7 e)
  where
    zero_not_7 : ◌≡◌ {A = ℕ} 0 7 → ⊥
    zero_not_7 z = omega arith

pub ones_follow : (answer : ClockAnswer) → answer.outputs.verdict ≡ 7 → well_formed answer.receiver ≡ true → answer.receiver.held ≡ wanting_ones 41
    → ones_sent columns_of answer ≡ receiver (settled_clock 41 answer.receiver.core).core nothing_held
unfolding ones_sent
ones_follow answer e w h = rw (eq-eqb _ _ e) (ap (λ (a : ClockAnswer). a.receiver) (receiver_whole_frames.ones_after_7 answer.receiver w h).0)

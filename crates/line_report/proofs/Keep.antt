-- A line, with the ones that may follow it, leaves a well-formed receiver well formed. Assumes nothing.
use Rattle.std.proofs.Common.{◌≡◌, ℕ, true, List, eqb-true, Result, Ok, Err}
use Rattle.laws.proofs.Rules.{picked_by}
use Rattle.frame.specs.declared.Kind.{Kind}
use Rattle.receiver_state.specs.declared.Receiver.{Receiver}
use Rattle.receiver_state.specs.WellFormed.{well_formed}
use Rattle.whole_frame.specs.WholeFrame.{receive_answer, WholeFrameLaw}
use Rattle.refusals.specs.declared.Refusal.{Refusal}
use Rattle.stored_line.specs.declared.StoredFrame.{StoredFrame}
use Rattle.line_report.specs.Output.{ones_sent, after_line}

pub line_keeps : (columns : Kind → List ℕ) (law : WholeFrameLaw columns) (r : Receiver) (line : Result StoredFrame Refusal) → well_formed r ≡ true
    → well_formed (after_line columns r line) ≡ true
unfolding ones_sent
line_keeps columns law r (Err refusal) w = w
line_keeps columns law r (Ok frame) w =
    picked_by (λ (after : Receiver). well_formed after ≡ true) _
    (λ t.
    let left = law.wants_after_7 r frame.kind frame.number (eqb-true _ 7 t) in
    (law.ones_after_7 (receive_answer columns r frame.kind frame.number).receiver left.0 left.1).1)
    (λ t. law.stays_well_formed r frame.kind frame.number w)

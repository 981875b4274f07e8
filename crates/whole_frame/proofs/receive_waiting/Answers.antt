-- `whole_frame::receive_waiting` meets its contract: the clocks one by one come to the same. Assumes nothing.
use mathlib.Core.Path.{◌≡◌, sym, ap₂, ◌∙◌}
use Rattle.receiver_state.specs.declared.Core.{Core}
use Rattle.receiver_state.specs.declared.Outputs.{Outputs}
use Rattle.idle_clock.specs.AtRest.{rest_for}
use Rattle.verdicts.specs.Finished.{finished}
use Rattle.receiver.specs.Clock.{clocked_answer}
use Rattle.whole_frame.specs.WholeFrame.{settled_clock}
use Rattle.whole_frame.proofs.AtOnce.{at_once}
use Rattle.whole_frame.proofs.receive_waiting.Goals as goal

pub returns : goal.returns
returns c =
    let given = c.args in
    let idle : _ ≡ settled_clock _ given.receiver.core =
    ap₂ (λ (core : Core) (outputs : Outputs). record { core = core; outputs = outputs })
    (c.rest_for-core.ensures ∙ ap₂ rest_for c.frame_bits.ensures c.settle.ensures)
    c.no_outputs-outputs.ensures in
    c.answered.ensures
    ∙ ap₂ clocked_answer c.held_after.ensures
    (c.finish.ensures ∙ ap₂ (finished given.kind) c.decode_finished-frame.ensures idle)
    ∙ sym (at_once _ given.receiver given.kind given.number c.requires.0 c.requires.1 c.requires.2)

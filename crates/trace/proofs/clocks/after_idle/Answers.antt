-- `trace::clocks::after_idle` meets its contract: it is made of the definitions that the calls give. Assumes nothing.
use mathlib.Core.Path.{ap, ◌∙◌}
use Rattle.receiver_state.specs.declared.Held.{Held}
use Rattle.trace.specs.Run.{rest_progress}
use Rattle.trace.proofs.clocks.after_idle.Goals as goal

pub returns : goal.returns
returns c =
    let given = c.args in
    c.after_rest.ensures ∙ ap (λ (held : Held). rest_progress given.place held given.progress) c.take_ones-held.ensures

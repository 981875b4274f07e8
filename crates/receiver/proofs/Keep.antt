-- A clock keeps the state well formed. Assumes nothing.
use mathlib.Core.List.{List}
use Prim.Native.Nat.{ℕ, ◌<◌}
use Rattle.frame.specs.declared.Kind.{Kind}
use Rattle.frame.specs.Decode.{finished_answer}
use Rattle.receiver_state.specs.declared.Clocked.{Clocked}
use Rattle.receiver_state.specs.declared.Receiver.{Receiver}
use Rattle.receiver_state.specs.State.{receiver}
use Rattle.receiver_state.specs.WellFormed.{CoreFacts, ReceiverFacts}
use Rattle.idle_clock.specs.IdleClock.{idle_clock}
use Rattle.idle_clock.proofs.Laws.{idle_laws}
use Rattle.channel_b.specs.declared.Taken.{Taken}
use Rattle.channel_b.specs.declared.Taken.TheVariants.{Unfinished, Finished}
use Rattle.channel_b.specs.TakeBit.{take_bit, held_after_bit}
use Rattle.channel_b.proofs.TakeBit.{TakenFacts, taken_facts}
use Rattle.channel_b.proofs.Laws.{after_frame}
use Rattle.verdicts.proofs.Keep.{finished_facts}
use Rattle.receiver.specs.Clock.{apply_frame, step_answer}

after_facts : (columns : Kind → List ℕ) (taken : Taken) (idle : Clocked) → TakenFacts taken → CoreFacts idle.core
    → ReceiverFacts (receiver (apply_frame columns taken idle).core (held_after_bit taken))
after_facts columns (Unfinished held) idle h f = record { of_core = f; of_held = h }
after_facts columns (Finished kind number) idle h f =
    record { of_core = finished_facts kind (finished_answer columns kind number) idle f; of_held = after_frame.is_well_formed number }

pub step_facts : (columns : Kind → List ℕ) (r : Receiver) (trigger bit : ℕ) → ReceiverFacts r → bit < 2
    → ReceiverFacts (step_answer columns r trigger bit).receiver
unfolding step_answer
step_facts columns r trigger bit f b =
    after_facts columns (take_bit r.held bit) (idle_clock r.core trigger)
    (taken_facts r.held bit f.of_held b)
    (idle_laws.stays_well_formed r.core trigger f.of_core)

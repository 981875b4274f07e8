-- Document 01, "Well formed": a core with one part changed. Proved in proofs/Changes.antt.
use Rattle.std.specs.Prelude.{◌≤◌}
use Rattle.receiver_state.specs.declared.Settings.{Settings}
use Rattle.receiver_state.specs.declared.Errors.{Errors}
use Rattle.receiver_state.specs.declared.Counters.{Counters}
use Rattle.receiver_state.specs.declared.Sequence.{Sequence}
use Rattle.receiver_state.specs.declared.Core.{Core}
use Rattle.receiver_state.specs.State.{with_settings, with_errors, with_counters, with_sequence}
use Rattle.receiver_state.specs.WellFormed.{SettingsFacts, CountersFacts, SequenceFacts, CoreFacts}

-- if the new part is well formed, the core stays well formed
pub record OnePartChanged : Type 0 where
  pub settings_changed : (new : Settings) (core : Core) → SettingsFacts new → CoreFacts core → CoreFacts (with_settings new core)
  pub errors_changed : (new : Errors) (core : Core) → new.status5 ≤ 1 → CoreFacts core → CoreFacts (with_errors new core)
  pub counters_changed : (new : Counters) (core : Core) → CountersFacts new → CoreFacts core → CoreFacts (with_counters new core)
  pub sequence_changed : (new : Sequence) (core : Core) → SequenceFacts new → CoreFacts core → CoreFacts (with_sequence new core)

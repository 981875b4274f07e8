-- One part of a core changed keeps the rest well formed. Assumes nothing.
use Prim.Native.Nat.{◌≤◌}
use Rattle.receiver_state.specs.declared.Settings.{Settings}
use Rattle.receiver_state.specs.declared.Errors.{Errors}
use Rattle.receiver_state.specs.declared.Counters.{Counters}
use Rattle.receiver_state.specs.declared.Sequence.{Sequence}
use Rattle.receiver_state.specs.declared.Core.{Core}
use Rattle.receiver_state.specs.State.{with_settings, with_errors, with_counters, with_sequence}
use Rattle.receiver_state.specs.WellFormed.{SettingsFacts, CountersFacts, SequenceFacts, CoreFacts}
use Rattle.receiver_state.specs.Changes.{OnePartChanged}

pub settings_changed : (new : Settings) (core : Core) → SettingsFacts new → CoreFacts core → CoreFacts (with_settings new core)
settings_changed new core g f =
    record { of_ids = f.of_ids; of_settings = g; of_counters = f.of_counters; of_sequence = f.of_sequence; flag = f.flag }

pub errors_changed : (new : Errors) (core : Core) → new.status5 ≤ 1 → CoreFacts core → CoreFacts (with_errors new core)
errors_changed new core g f =
    record { of_ids = f.of_ids; of_settings = f.of_settings; of_counters = f.of_counters; of_sequence = f.of_sequence; flag = g }

pub counters_changed : (new : Counters) (core : Core) → CountersFacts new → CoreFacts core → CoreFacts (with_counters new core)
counters_changed new core g f =
    record { of_ids = f.of_ids; of_settings = f.of_settings; of_counters = g; of_sequence = f.of_sequence; flag = f.flag }

pub sequence_changed : (new : Sequence) (core : Core) → SequenceFacts new → CoreFacts core → CoreFacts (with_sequence new core)
sequence_changed new core g f =
    record { of_ids = f.of_ids; of_settings = f.of_settings; of_counters = f.of_counters; of_sequence = g; flag = f.flag }

pub one_part_changed : OnePartChanged
one_part_changed =
    record {
      settings_changed = settings_changed;
      errors_changed = errors_changed;
      counters_changed = counters_changed;
      sequence_changed = sequence_changed;
    }

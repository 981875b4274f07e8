-- Document 01, "One clock": what steps 1 and 2 leave and show, from the state before the clock. Proved in proofs/Laws.antt.
use Rattle.std.specs.Prelude.{ℕ, ◌+◌, ◌/◌, ◌%◌, ◌^◌, ◌<◌, ◌≡◌}
use Rattle.receiver_state.specs.declared.Sequence.{Sequence}
use Rattle.receiver_state.specs.declared.Core.{Core}
use Rattle.receiver_state.specs.declared.Outputs.{Outputs}
use Rattle.receiver_state.specs.State.{counters}
use Rattle.receiver_state.specs.WellFormed.{CoreFacts}
use Rattle.idle_clock.specs.IdleClock.{idle_clock}

-- ---- the bus

-- "control bits 1..0"
abbrev pub mode_of : Core → ℕ
mode_of core = core.settings.control % 4

-- no sequence is running, and a trigger comes in this mode
pub record StartsIn (core : Core) (trigger mode : ℕ) : Type 0 where
  pub no_words : core.sequence.left ≡ 0
  pub triggered : trigger ≡ 1
  pub in_mode : mode_of core ≡ mode

-- strobe kind and number
pub record Shows (shown : Outputs) (strobe number : ℕ) : Type 0 where
  pub strobe_is : shown.strobe ≡ strobe
  pub number_is : shown.number ≡ number

-- "Both numbers are those before this clock", and not, as in 01's "Traps", "the trigger's new event number, or a bunch number already cleared"
pub record BusShows (core : Core) (trigger : ℕ) (shown : Outputs) : Type 0 where
  -- "trigger output 1"
  pub trigger_shown : shown.trigger ≡ trigger
  -- a running sequence goes on, "and the missed flag is 1" if a trigger comes
  pub missed_if_running : 0 < core.sequence.left → shown.missed ≡ trigger
  pub not_missed : core.sequence.left ≡ 0 → shown.missed ≡ 0
  pub event_low_next : core.sequence.left ≡ 2 → Shows shown 2 (core.sequence.event % 2 ^ 12)
  pub event_high_next : core.sequence.left ≡ 1 → Shows shown 3 (core.sequence.event / 2 ^ 12)
  -- "If no sequence is running, one starts"
  pub mode_0 : StartsIn core trigger 0 → Shows shown 0 0
  pub mode_1 : StartsIn core trigger 1 → Shows shown 1 core.counters.bunch
  pub mode_2 : StartsIn core trigger 2 → Shows shown 2 (core.counters.event % 2 ^ 12)
  pub mode_3 : StartsIn core trigger 3 → Shows shown 1 core.counters.bunch
  pub nothing : core.sequence.left ≡ 0 → trigger ≡ 0 → Shows shown 0 0

-- words left and kept event number
pub record LeftIs (sequence : Sequence) (words event : ℕ) : Type 0 where
  pub words_are : sequence.left ≡ words
  pub event_is : sequence.event ≡ event

-- what is left after the clock; of a running sequence it depends neither on trigger nor on control
pub record SequenceLeft (core : Core) (trigger : ℕ) (after : Sequence) : Type 0 where
  pub one_more : core.sequence.left ≡ 2 → LeftIs after 1 core.sequence.event
  pub no_more : core.sequence.left ≡ 1 → LeftIs after 0 0
  pub from_mode_0 : StartsIn core trigger 0 → LeftIs after 0 0
  pub from_mode_1 : StartsIn core trigger 1 → LeftIs after 0 0
  pub from_mode_2 : StartsIn core trigger 2 → LeftIs after 1 core.counters.event
  pub from_mode_3 : StartsIn core trigger 3 → LeftIs after 2 core.counters.event
  pub still_none : core.sequence.left ≡ 0 → trigger ≡ 0 → LeftIs after 0 0

-- ---- all of them

-- no frame is shown, and only counters and sequence move
pub record OnlyCounts (core : Core) (shown : Outputs) (after : Core) : Type 0 where
  pub no_verdict : shown.verdict ≡ 0
  pub no_flag : shown.corrected ≡ 0
  pub no_place : shown.place ≡ 0
  pub no_word : shown.word ≡ 0
  pub ids_stay : after.ids ≡ core.ids
  pub settings_stay : after.settings ≡ core.settings
  pub errors_stay : after.errors ≡ core.errors

pub record IdleLaws : Type 0 where
  pub bus_shows : (core : Core) (trigger : ℕ) → CoreFacts core → BusShows core trigger (idle_clock core trigger).outputs
  pub sequence_left : (core : Core) (trigger : ℕ) → SequenceLeft core trigger (idle_clock core trigger).core.sequence
  pub counters_advance : (core : Core) (trigger : ℕ) → CoreFacts core → trigger < 2
      → (idle_clock core trigger).core.counters ≡ counters ((core.counters.bunch + 1) % 4096) ((core.counters.event + trigger) % 2 ^ 24)
  pub only_counts : (core : Core) (trigger : ℕ) → OnlyCounts core (idle_clock core trigger).outputs (idle_clock core trigger).core
  pub stays_well_formed : (core : Core) (trigger : ℕ) → CoreFacts core → CoreFacts (idle_clock core trigger).core

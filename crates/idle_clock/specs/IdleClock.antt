-- Document 01, "One clock", steps 1 and 2 alone: what a clock leaves and shows where no frame finishes (`NoFrameLaw` of the crate `receiver`). They
-- depend neither on the frame bits held nor on channel B.
-- "All numbers used are those before the clock."
use Rattle.std.specs.Prelude.{ℕ, ◌+◌, ◌/◌, ◌%◌, ◌^◌, cond, eqb, ltb}
use Rattle.receiver_state.specs.declared.Counters.{Counters}
use Rattle.receiver_state.specs.declared.Sequence.{Sequence}
use Rattle.receiver_state.specs.declared.Core.{Core}
use Rattle.receiver_state.specs.declared.Clocked.{Clocked}
use Rattle.receiver_state.specs.State.{counters, words_left, no_sequence, with_counters, with_sequence}
use Rattle.receiver_state.specs.Shown.{no_outputs, showing_bus}
use Rattle.idle_clock.specs.declared.Bus.{Bus}

-- "Trigger bit 1: trigger output 1 and the event counter goes up modulo 2^24."; "The bunch counter goes up modulo 4096."
unfoldable pub count_clock : Counters → ℕ → Counters
count_clock now trigger =
    counters ((now.bunch + 1) % 4096) (cond (eqb trigger 1) ((now.event + 1) % 2 ^ 24) now.event)

-- "The bus output is a strobe kind (0 none, 1 bunch, 2 event low, 3 event high) and a number, 0 for kind 0."
-- In order: the sequence that is left, strobe kind, number, missed flag.
abbrev pub bus : Sequence → ℕ → ℕ → ℕ → Bus
bus left strobe number missed = record { sequence = left; strobe = strobe; number = number; missed = missed }

abbrev pub no_strobe : Bus
no_strobe = bus no_sequence 0 0 0

-- "low 12 bits of the event number now, high 12 on the next clock"; an event number has 24 bits
abbrev pub event_low : ℕ → ℕ
event_low event = event % 2 ^ 12

abbrev pub event_high : ℕ → ℕ
event_high event = event / 2 ^ 12 % 2 ^ 12

-- "If a sequence is running (words left before this clock), it goes on, as it does on every clock, and the missed flag is 1", if a trigger came.
-- With two words left event low comes, with one left event high. It does not depend on control: "A later write to the control register doesn't alter a
-- running sequence."
unfoldable pub continued : Sequence → ℕ → Bus
continued sequence trigger =
    cond (eqb sequence.left 2)
    (bus (words_left 1 sequence.event) 2 (event_low sequence.event) trigger)
    (bus no_sequence 3 (event_high sequence.event) trigger)

-- "Mode 0: nothing. Mode 1: bunch number now. Mode 2: low 12 bits of the event number now, high 12 on the next clock. Mode 3: bunch now, then
-- low, then high. Both numbers are those before this clock."
unfoldable pub started : Counters → ℕ → Bus
started now mode =
    cond (eqb mode 1) (bus no_sequence 1 now.bunch 0)
    (cond (eqb mode 2) (bus (words_left 1 now.event) 2 (event_low now.event) 0)
    (cond (eqb mode 3) (bus (words_left 2 now.event) 1 now.bunch 0)
    no_strobe))

-- "If no sequence is running, one starts by control bits 1..0."
unfoldable pub bus_step : Sequence → Counters → ℕ → ℕ → Bus
bus_step sequence now control trigger =
    cond (ltb 0 sequence.left) (continued sequence trigger)
    (cond (eqb trigger 1) (started now (control % 2 ^ 2))
    no_strobe)

abbrev pub bus_of : Core → ℕ → Bus
bus_of core trigger = bus_step core.sequence core.counters core.settings.control trigger

-- "trigger output 1" on a trigger; what steps 1 and 2 do not set is 0
unfoldable pub idle_clock : Core → ℕ → Clocked
idle_clock core trigger =
    let next = bus_of core trigger in
    record {
      core = with_sequence next.sequence (with_counters (count_clock core.counters trigger) core);
      outputs = showing_bus trigger next.missed next.strobe next.number no_outputs;
    }

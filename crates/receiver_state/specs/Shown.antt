-- Document 01, "One clock", with document 02, Q-8: what a clock shows. `Outputs` is a struct of src/lib.rt.
use Rattle.std.specs.Prelude.{ℕ, ◌≡◌, ◌↔◌}
use Rattle.receiver_state.specs.declared.Outputs.{Outputs}

-- what no step of a clock sets is 0, and so is every output of a refused call
abbrev pub no_outputs : Outputs
no_outputs = record { trigger = 0; missed = 0; number = 0; strobe = 0; verdict = 0; corrected = 0; place = 0; word = 0 }

-- ---- one part set

-- in order: trigger output, missed flag, and the bus, "a strobe kind (0 none, 1 bunch, 2 event low, 3 event high) and a number, 0 for kind 0"
abbrev pub showing_bus : ℕ → ℕ → ℕ → ℕ → Outputs → Outputs
showing_bus trigger missed strobe number shown =
    record {
      trigger = trigger;
      missed = missed;
      number = number;
      strobe = strobe;
      verdict = shown.verdict;
      corrected = shown.corrected;
      place = shown.place;
      word = shown.word;
    }

-- in order: verdict, corrected flag, place and word of a finished frame
abbrev pub showing_frame : ℕ → ℕ → ℕ → ℕ → Outputs → Outputs
showing_frame verdict corrected place word shown =
    record {
      trigger = shown.trigger;
      missed = shown.missed;
      number = shown.number;
      strobe = shown.strobe;
      verdict = verdict;
      corrected = corrected;
      place = place;
      word = word;
    }

-- ---- by name

-- every output is 0
pub record ShowsNothing (shown : Outputs) : Type 0 where
  pub no_trigger : shown.trigger ≡ 0
  pub no_missed : shown.missed ≡ 0
  pub no_strobe_lem : shown.strobe ≡ 0
  pub no_number : shown.number ≡ 0
  pub no_verdict : shown.verdict ≡ 0
  pub no_flag : shown.corrected ≡ 0
  pub no_place : shown.place ≡ 0
  pub no_word : shown.word ≡ 0

-- "the outputs of this clock stand": of two clocks, all but verdict, corrected flag, place and word are the same
pub record Stands (shown idle : Outputs) : Type 0 where
  pub trigger_stands : shown.trigger ≡ idle.trigger
  pub missed_stands : shown.missed ≡ idle.missed
  pub strobe_stands : shown.strobe ≡ idle.strobe
  pub number_stands : shown.number ≡ idle.number

-- Proved in proofs/Shown.antt.
pub record OutputsLaws : Type 0 where
  pub all_zero : (shown : Outputs) → ShowsNothing shown ↔ (shown ≡ no_outputs)
  pub frame_stands : (verdict corrected place word : ℕ) (shown : Outputs) → Stands (showing_frame verdict corrected place word shown) shown

-- Document 01, "Demand 3, over lists of calls", with document 02, Q-8: what the last clock of a list that carries a frame leaves and answers, as a whole
-- and by name.
-- A result or a core named `idle` is what the last clock of the idle list leaves and answers, or leaves.
-- Words in quotation marks that document 01 does not have are the customer's demand 3.
use Rattle.std.specs.Prelude.{ℕ, ◌/◌, ◌%◌, ◌<◌, ◌≡◌, ◌≢◌, ◌⊎◌, cond, eqb}
use Rattle.frame.specs.declared.Kind.{Kind}
use Rattle.frame.specs.declared.Kind.TheVariants.{Short, Long}
use Rattle.frame.specs.declared.Fields.{Fields}
use Rattle.frame.specs.declared.Answer.{Answer}
use Rattle.frame.specs.Encode.{word_of}
use Rattle.receiver_state.specs.declared.Ids.{Ids}
use Rattle.receiver_state.specs.declared.Core.{Core}
use Rattle.receiver_state.specs.State.{errors, receiver, with_errors, fresh_core, fresh_state}
use Rattle.receiver_state.specs.declared.Clocked.{Clocked}
use Rattle.receiver_state.specs.Shown.{showing_frame, Stands}
use Rattle.verdicts.specs.Table.{up_to}
use Rattle.verdicts.specs.Finished.{finished}
use Rattle.verdicts.specs.FrameLaws.{GoodVerdict, OneHigher, register_of}
use Rattle.channel_b.specs.TakeBit.{Waits}
use Rattle.guarantees.specs.Calls.{CallResult, result}

-- ---- as a whole

-- a result with another core and other outputs
abbrev pub with_clocked : Clocked → CallResult → CallResult
with_clocked clocked done =
    result (receiver clocked.core done.receiver.held) done.answer.refusal clocked.outputs done.answer.byte

-- the table of verdicts on what the idle list's last clock leaves and shows
abbrev pub with_frame : Kind → Answer → CallResult → CallResult
with_frame kind decoded idle =
    with_clocked (finished kind decoded (record { core = idle.receiver.core; outputs = idle.answer.outputs })) idle

-- "apart from the corrected flag and the single error counter (one higher unless full, or cleared by RESET)": verdict 3 is RESET.
-- Q-8: "In demand 3 the place is excepted like the corrected flag"
abbrev pub with_correction : ℕ → CallResult → CallResult
with_correction place clean =
    let core = clean.receiver.core in
    let shown = clean.answer.outputs in
    with_clocked
    (record {
      core = with_errors (errors (cond (eqb shown.verdict 3) 0 (up_to 65535 core.errors.single)) core.errors.double core.errors.status5) core;
      outputs = showing_frame shown.verdict 1 place shown.word shown;
    })
    clean

-- "verdict 8, and the state is the one that the same calls leave with channel B idle, but with the double error counter one higher unless full and
-- status bit 5 at 1"; verdict 11 of Q-8 likewise
abbrev pub with_double_error : ℕ → CallResult → CallResult
with_double_error verdict idle =
    let core = idle.receiver.core in
    let shown = idle.answer.outputs in
    with_clocked
    (record {
      core = with_errors (errors core.errors.single (up_to 255 core.errors.double) 1) core;
      outputs = showing_frame verdict shown.corrected shown.place shown.word shown;
    })
    idle

-- ---- by name

-- "effect of the table's row" of a short frame: "data bit 0 clears the bunch counter, bit 1 the event counter" (the word: `word_is`)
pub record ShortEffect (fields : Fields) (idle after : Core) : Type 0 where
  pub bunch_cleared : fields.«data» % 2 ≡ 1 → after.counters.bunch ≡ 0
  pub bunch_not_cleared : fields.«data» % 2 ≡ 0 → after.counters.bunch ≡ idle.counters.bunch
  pub event_cleared : fields.«data» / 2 % 2 ≡ 1 → after.counters.event ≡ 0
  pub event_not_cleared : fields.«data» / 2 % 2 ≡ 0 → after.counters.event ≡ idle.counters.event

-- and of a long one: of rows 4, 5 and 6 none in the state, and of row 10 (document 02, Q-4) "nothing stored"
pub record LongEffect (fields : Fields) (verdict : ℕ) (idle after : Core) : Type 0 where
  -- 2: "data goes to that register"
  pub stored_byte : verdict ≡ 2 → register_of after.settings fields.sub ≡ fields.«data»
  pub others_stay : verdict ≡ 2 → (number : ℕ) → number < 4 → number ≢ fields.sub → register_of after.settings number ≡ register_of idle.settings number
  pub config_stays : verdict ≡ 2 → (after.settings.config2 ≡ idle.settings.config2) × (after.settings.config3 ≡ idle.settings.config3)
  pub nothing_stored : verdict ≡ 10 → after.settings ≡ idle.settings
  -- 3: "state becomes the fresh one of the same IDs"; `reset_is_fresh` of `CleanLast` says it of what is held too
  pub fresh : verdict ≡ 3 → after ≡ fresh_core idle.ids

abbrev pub EffectOf : Kind → Fields → ℕ → Core → Core → Type 0
EffectOf Short fields verdict idle after = ShortEffect fields idle after
EffectOf Long fields verdict idle after = LongEffect fields verdict idle after

-- ---- all other parts the same

-- which parts of the core a frame may change; each is a condition, `⊥` for never
pub record MayChange : Type 1 where
  pub settings : Type 0
  pub single : Type 0
  pub double : Type 0
  pub status : Type 0
  pub counters : Type 0
  pub sequence : Type 0

-- of two results, all parts but verdict, corrected flag, place and word are the same, save those that may change
pub record OthersSame (may : MayChange) (one other : CallResult) : Type 0 where
  pub refusal_same : other.answer.refusal ≡ one.answer.refusal
  pub outputs_stand : Stands other.answer.outputs one.answer.outputs
  pub byte_same : other.answer.byte ≡ one.answer.byte
  pub ids_same : other.receiver.core.ids ≡ one.receiver.core.ids
  pub settings_same : (may.settings → ⊥) → other.receiver.core.settings ≡ one.receiver.core.settings
  pub single_same : (may.single → ⊥) → other.receiver.core.errors.single ≡ one.receiver.core.errors.single
  pub double_same : (may.double → ⊥) → other.receiver.core.errors.double ≡ one.receiver.core.errors.double
  pub status_same : (may.status → ⊥) → other.receiver.core.errors.status5 ≡ one.receiver.core.errors.status5
  pub counters_same : (may.counters → ⊥) → other.receiver.core.counters ≡ one.receiver.core.counters
  pub sequence_same : (may.sequence → ⊥) → other.receiver.core.sequence ≡ one.receiver.core.sequence
  pub held_same : other.receiver.held ≡ one.receiver.held

-- a clean frame: what the row of its verdict changes, by verdict 1, 2 or 3; and status bit 5
abbrev pub row_may_change : ℕ → MayChange
row_may_change verdict =
    record {
      settings = (verdict ≡ 2) ⊎ (verdict ≡ 3);
      single = verdict ≡ 3;
      double = verdict ≡ 3;
      status = Unit {0};
      counters = (verdict ≡ 1) ⊎ (verdict ≡ 3);
      sequence = verdict ≡ 3;
    }

-- a corrected frame beside the clean one: the single error counter
abbrev pub correction_may_change : MayChange
correction_may_change = record { settings = ⊥; single = Unit {0}; double = ⊥; status = ⊥; counters = ⊥; sequence = ⊥ }

-- a frame that can't be corrected beside the idle list: the double error counter, and status bit 5
abbrev pub double_error_may_change : MayChange
double_error_may_change = record { settings = ⊥; single = ⊥; double = Unit {0}; status = Unit {0}; counters = ⊥; sequence = ⊥ }

-- ---- the last clock, by name

-- "On the last clock a clean frame has verdict and effect of the table's row for its fields .., its 8 data or 32 word bits as the word, flag 0, and
-- status bit 5 becomes 1; the rest of outputs and state is the idle list's." The place is 0 where the flag is (Q-8). `own` are the receiver's IDs.
-- What a later request adds to the effect of a frame belongs in `EffectOf`.
pub record CleanLast (kind : Kind) (fields : Fields) (own : Ids) (idle done : CallResult) : Type 0 where
  pub not_refused : done.answer.refusal ≡ 0
  pub verdict_of_row : GoodVerdict kind fields own.id done.answer.outputs.verdict
  pub effect_of_row : EffectOf kind fields done.answer.outputs.verdict idle.receiver.core done.receiver.core
  pub word_is : done.answer.outputs.word ≡ word_of kind fields
  pub flag_0 : done.answer.outputs.corrected ≡ 0
  pub place_0 : done.answer.outputs.place ≡ 0
  pub reset_is_fresh : done.answer.outputs.verdict ≡ 3 → done.receiver ≡ fresh_state own
  pub status_1 : done.receiver.core.errors.status5 ≡ 1
  pub waits : Waits done.receiver
  -- "the rest of outputs and state is the idle list's"
  pub others_same : OthersSame (row_may_change done.answer.outputs.verdict) idle done

-- one protected bit flipped: "state and outputs after that clock are those of the clean frame, apart from the corrected flag and the single error
-- counter (one higher unless full, or cleared by RESET)"; and apart from the place, which is then that bit's
pub record CorrectedLast (place : ℕ) (clean done : CallResult) : Type 0 where
  pub flag_1 : done.answer.outputs.corrected ≡ 1
  pub place_is : done.answer.outputs.place ≡ place
  pub single_higher : clean.answer.outputs.verdict ≢ 3 → OneHigher 65535 clean.receiver.core.errors.single done.receiver.core.errors.single
  pub single_cleared : clean.answer.outputs.verdict ≡ 3 → done.receiver.core.errors.single ≡ 0
  pub verdict_same : done.answer.outputs.verdict ≡ clean.answer.outputs.verdict
  pub word_same : done.answer.outputs.word ≡ clean.answer.outputs.word
  pub others_same : OthersSame correction_may_change clean done
  pub waits : Waits done.receiver

-- a frame that can't be corrected, with verdict 8 or 11. Of two flips: "With two flips all outputs but the verdict are the idle list's."
pub record UncorrectableLast (verdict : ℕ) (idle done : CallResult) : Type 0 where
  pub verdict_is : done.answer.outputs.verdict ≡ verdict
  pub flag_same : done.answer.outputs.corrected ≡ idle.answer.outputs.corrected
  pub no_flag : done.answer.outputs.corrected ≡ 0
  pub place_same : done.answer.outputs.place ≡ idle.answer.outputs.place
  pub no_place : done.answer.outputs.place ≡ 0
  pub word_same : done.answer.outputs.word ≡ idle.answer.outputs.word
  pub no_word : done.answer.outputs.word ≡ 0
  pub double_higher : OneHigher 255 idle.receiver.core.errors.double done.receiver.core.errors.double
  pub status_1 : done.receiver.core.errors.status5 ≡ 1
  pub others_same : OthersSame double_error_may_change idle done
  pub waits : Waits done.receiver

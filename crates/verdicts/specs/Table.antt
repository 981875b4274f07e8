-- Document 01, "Fate of a finished frame", with document 02, Q-4 and Q-8: the table of verdicts. A row is the verdict, and the core after the effect.
-- `LongRow` and `Row` are an enum and a struct of src/lib.rt.
use Rattle.std.specs.Prelude.{ℕ, ◌+◌, ◌/◌, ◌%◌, Bool, cond, not, ◌&&◌, [], ◌∷◌, eqb, ltb}
use Rattle.laws.specs.OneOf.{one_of}
use Rattle.frame.specs.declared.Kind.{Kind}
use Rattle.frame.specs.declared.Kind.TheVariants.{Short, Long}
use Rattle.frame.specs.declared.Fields.{Fields}
use Rattle.frame.specs.declared.Answer.{Answer}
use Rattle.receiver_state.specs.declared.Core.{Core}
use Rattle.receiver_state.specs.State.{errors, with_errors, fresh_core}
use Rattle.register_map.specs.Map.{without_setting}
use Rattle.register_map.specs.Change.{store_byte, clear_bunch, clear_event}
use Rattle.verdicts.specs.declared.LongRow.{LongRow}
use Rattle.verdicts.specs.declared.LongRow.TheVariants.{Foreign, Outside, WithoutSetting, Store, Reset, Other}
use Rattle.verdicts.specs.declared.Row.{Row}

-- ---- verdicts

-- 01's term "executed": "means verdicts 1 to 4"; document 02, Q-4, of verdict 10: "not counted as executed"
unfoldable pub executed : ℕ → Bool
executed verdict = one_of (1 ∷ 2 ∷ 3 ∷ 4 ∷ []) verdict

-- the verdicts whose effect is "double error counter up": the frame is dropped. Document 02, Q-8, of 8 and 11: "Both raise the double counter"
unfoldable pub dropped : ℕ → Bool
dropped verdict = one_of (7 ∷ 8 ∷ 9 ∷ 11 ∷ []) verdict

-- no verdict is larger (`not_larger` of `VerdictLaws`)
abbrev pub largest_verdict : ℕ
largest_verdict = 11

-- ---- effects

-- a counter that "stops at" its top
unfoldable pub up_to : ℕ → ℕ → ℕ
up_to top n = cond (ltb n top) (n + 1) n

-- "The double error counter (8 bits) stops at 255"
unfoldable pub double_up : Core → Core
double_up core = with_errors (errors core.errors.single (up_to 255 core.errors.double) core.errors.status5) core

-- "data bit 0 clears the bunch counter, bit 1 the event counter"
unfoldable pub cleared_by : ℕ → Core → Core
cleared_by byte core =
    let first = cond (eqb (byte % 2) 1) (clear_bunch core) core in
    cond (eqb (byte / 2 % 2) 1) (clear_event first) first

-- ---- the rows of a good long frame

-- "address neither 0 nor this ID"
unfoldable pub foreign : ℕ → ℕ → Bool
foreign address id = not (eqb address 0) && not (eqb address id)

-- "Tested in this order. The first that holds is the verdict." `id` is this receiver's.
unfoldable pub long_row : Fields → ℕ → LongRow
long_row fields id =
    -- "address neither 0 nor this ID"
    cond (foreign fields.address id) Foreign
    -- "E = 1"
    (cond (eqb fields.e 1) Outside
    -- document 02, Q-4: "an internal frame with such data for them .., tested just before 2"
    (cond (without_setting fields.sub fields.«data») WithoutSetting
    -- "sub-address 0, 1, 2 or 3"
    (cond (ltb fields.sub 4) Store
    -- "sub-address 6 (RESET)"
    (cond (eqb fields.sub 6) Reset
    -- "other sub-address"
    Other))))

abbrev pub row_verdict : LongRow → ℕ
row_verdict Foreign = 5
row_verdict Outside = 4
row_verdict WithoutSetting = 10
row_verdict Store = 2
row_verdict Reset = 3
row_verdict Other = 6

-- "none" for 5 and 6; 4, "word shown outside", has none in the core; 10, "nothing stored"; 2, "data goes to that register"; 3, "state becomes the
-- fresh one of the same IDs"
abbrev pub row_effect : LongRow → Fields → Core → Core
row_effect Foreign fields core = core
row_effect Outside fields core = core
row_effect WithoutSetting fields core = core
row_effect Store fields core = store_byte fields.sub fields.«data» core
row_effect Reset fields core = fresh_core core.ids
row_effect Other fields core = core

-- ---- the table

abbrev pub row : ℕ → Core → Row
row verdict core = record { verdict = verdict; core = core }

-- 1, "short": "data bit 0 clears the bunch counter, bit 1 the event counter"; all 8 bits are in the word. Then the rows of a long frame.
abbrev pub good_row : Kind → Fields → Core → Row
good_row Short fields core = row 1 (cleared_by fields.«data» core)
good_row Long fields core = let chosen = long_row fields core.ids.id in row (row_verdict chosen) (row_effect chosen fields core)

-- 7, 8, 11 and 9 come first: `judged` of the crate `frame` tested them in this order, and they come here as the verdict of its answer. Each has the
-- effect "double error counter up".
unfoldable pub table_row : Kind → Answer → Core → Row
table_row kind frame core = cond (eqb frame.verdict 0) (good_row kind frame.fields core) (row frame.verdict (double_up core))

-- The rows of the table: which one is chosen, and what holds of each. Assumes nothing.
use mathlib.Core.Path.{◌≡◌, refl, sym, ap, ◌∙◌}
use mathlib.Core.Logic.{◌≢◌, ◌⊎◌, inl, inr, ⊎_elim}
use mathlib.Core.Bool.{Bool, true, false, cond, not, ◌&&◌, true≢false}
use Prim.Native.Nat.{ℕ, ◌/◌, ◌%◌, ◌^◌, ◌<◌, ◌≤◌}
use native.Mathlib.Omega.{arith}
use borrow.Author.Tests.{eq-eqb, eqb-true, eqb-false, ltb-true, ltb-false}
use lib.Dec.{eqb, ltb}
use Rattle.laws.specs.OneOf.{one_of}
use Rattle.laws.proofs.Rules.{picked_by, by_test}
use Rattle.frame.specs.declared.Kind.{Kind}
use Rattle.frame.specs.declared.Kind.TheVariants.{Short, Long}
use Rattle.frame.specs.declared.Fields.{Fields}
use Rattle.hamming.specs.Correction.{flag_of}
use Rattle.frame.specs.declared.Judged.{Judged}
use Rattle.frame.specs.declared.Judged.TheVariants.{StopZero, EvenSyndrome, OddSyndrome, FixedZero, Good}
use Rattle.frame.specs.declared.Answer.{Answer}
use Rattle.frame.specs.Encode.{fields_of}
use Rattle.frame.specs.Place.{place_in}
use Rattle.frame.specs.Decode.{bare_answer, good_answer, answer_to}
use Rattle.receiver_state.specs.declared.Counters.{Counters}
use Rattle.receiver_state.specs.declared.Core.{Core}
use Rattle.receiver_state.specs.State.{with_counters, fresh_core}
use Rattle.register_map.specs.Map.{without_setting}
use Rattle.register_map.proofs.Laws.{without_setting_law}
use Rattle.verdicts.specs.declared.LongRow.{LongRow}
use Rattle.verdicts.specs.declared.LongRow.TheVariants.{Foreign, Outside, WithoutSetting, Store, Reset, Other}
use Rattle.verdicts.specs.declared.Row.{Row}
use Rattle.verdicts.specs.Table.{dropped, largest_verdict, double_up, cleared_by, foreign, long_row, row_verdict, row_effect, row, table_row}
use Rattle.verdicts.specs.Finished.{count_errors}
use Rattle.verdicts.specs.FrameLaws.{Ours, DataWithoutSetting}

-- ---- verdicts of dropped frames

-- none of them is this number
pub not_dropped : (v n : ℕ) → dropped v ≡ true → dropped n ≡ false → v ≢ n
not_dropped v n d f e = true≢false (sym d ∙ ap dropped e ∙ f)

-- ---- addresses

foreign_no : (address id : ℕ) → foreign address id ≡ false → (address ≡ 0) ⊎ (address ≡ id)
unfolding foreign
foreign_no address id e =
    by_test (eqb address 0) (λ z. inl (eqb-true address 0 z))
    (λ z. by_test (eqb address id) (λ d. inr (eqb-true address id d)) (λ d. absurd (true≢false (rw (z, d) at e))))

foreign_yes : (address id : ℕ) → foreign address id ≡ true → (address ≡ 0) ⊎ (address ≡ id) → ⊥
unfolding foreign
foreign_yes address id e = ⊎_elim (λ z. true≢false (sym (rw (eq-eqb address 0 z) at e))) (λ d. true≢false (sym e ∙ rw (eq-eqb address id d) (last (not (eqb address 0)))))
  where
    last : (t : Bool) → (t && false) ≡ false
    last true = refl
    last false = refl

-- ---- data without a setting

pub without_data : (fields : Fields) → without_setting fields.sub fields.«data» ≡ true → DataWithoutSetting fields
without_data fields = (without_setting_law fields.sub fields.«data»).0

pub with_data : (fields : Fields) → without_setting fields.sub fields.«data» ≡ false → DataWithoutSetting fields → ⊥
with_data fields e d = true≢false (sym ((without_setting_law fields.sub fields.«data»).1 d) ∙ e)

-- they are for register 0 or 1
pub without_low : (fields : Fields) → DataWithoutSetting fields → fields.sub < 2
without_low fields d = ⊎_elim (λ z. omega arith) (λ z. omega arith) d.0

-- ---- which row is chosen

-- the condition of each row, with what those above it leave
abbrev pub Why : LongRow → Fields → ℕ → Type 0
Why Foreign fields id = Ours fields id → ⊥
Why Outside fields id = Ours fields id × (fields.e ≡ 1)
Why WithoutSetting fields id = Ours fields id × (fields.e ≢ 1) × (without_setting fields.sub fields.«data» ≡ true)
Why Store fields id = Ours fields id × (fields.e ≢ 1) × (without_setting fields.sub fields.«data» ≡ false) × (fields.sub < 4)
Why Reset fields id = Ours fields id × (fields.e ≢ 1) × (4 ≤ fields.sub) × (fields.sub ≡ 6)
Why Other fields id = Ours fields id × (fields.e ≢ 1) × (4 ≤ fields.sub) × (fields.sub ≢ 6)

pub why : (fields : Fields) (id : ℕ) → Why (long_row fields id) fields id
unfolding long_row
why fields id =
    picked_by For (foreign fields.address id) (λ a. foreign_yes fields.address id a)
    (λ a. let ours = foreign_no fields.address id a in
    picked_by For (eqb fields.e 1) (λ e. (ours, eqb-true fields.e 1 e))
    (λ e. let inside = eqb-false fields.e 1 e in
    picked_by For (without_setting fields.sub fields.«data») (λ w. (ours, inside, w))
    (λ w. picked_by For (ltb fields.sub 4) (λ s. (ours, inside, w, ltb-true fields.sub 4 s))
    (λ s. let high = ltb-false fields.sub 4 s in
    picked_by For (eqb fields.sub 6) (λ r. (ours, inside, high, eqb-true fields.sub 6 r)) (λ r. (ours, inside, high, eqb-false fields.sub 6 r))))))
  where
    For : LongRow → Type 0
    For chosen = Why chosen fields id

-- ---- by cases

-- what the answer to a good frame tells
pub record Told : Type 0 where
  pub flag : ℕ
  pub place : ℕ
  pub word : ℕ

abbrev pub good_told : Kind → Told → Answer
good_told kind told = good_answer kind told.flag told.place told.word

-- what holds of a dropped frame, of a broadcast and of each row of a good long frame holds of every frame
pub by_row : (P : Kind → Answer → Row → Type 0) (kind : Kind) (judged : Judged) (core : Core)
    → ((v word : ℕ) → dropped v ≡ true → v ≤ largest_verdict → P kind (bare_answer 0 v word) (row v (double_up (count_errors (bare_answer 0 v word) core))))
    → ((told : Told) → P Short (good_told Short told) (row 1 (cleared_by (told.word % 2 ^ 8) (count_errors (good_told Short told) core))))
    → ((told : Told) (chosen : LongRow) → long_row (fields_of Long told.word) core.ids.id ≡ chosen
    → P Long (good_told Long told) (row (row_verdict chosen) (row_effect chosen (fields_of Long told.word) (count_errors (good_told Long told) core))))
    → P kind (answer_to kind judged) (table_row kind (answer_to kind judged) (count_errors (answer_to kind judged) core))
unfolding table_row count_errors dropped one_of
by_row P kind StopZero core lost short long = lost 7 0 refl (omega arith)
by_row P kind EvenSyndrome core lost short long = lost 8 0 refl (omega arith)
by_row P kind OddSyndrome core lost short long = lost 11 0 refl (omega arith)
by_row P kind (FixedZero word) core lost short long = lost 9 word refl (omega arith)
by_row P Short (Good word wrong) core lost short long = short (record { flag = cond (flag_of wrong) 1 0; place = place_in Short wrong; word = word })
by_row P Long (Good word wrong) core lost short long = long (record { flag = cond (flag_of wrong) 1 0; place = place_in Long wrong; word = word }) _ refl

-- what holds of a core, and with any counters changed, holds after a broadcast
pub cleared_changes : (P : Core → Type 0) (byte : ℕ) (core : Core) → P core → ((new : Counters) → P (with_counters new core)) → P (cleared_by byte core)
unfolding cleared_by
cleared_changes P byte core same any =
    by_test (eqb (byte % 2) 1)
    (λ t. by_test (eqb (byte / 2 % 2) 1) (λ u. rw (t, u) (any _)) (λ u. rw (t, u) (any _)))
    (λ t. by_test (eqb (byte / 2 % 2) 1) (λ u. rw (t, u) (any _)) (λ u. rw (t, u) same))

-- ---- what every row leaves

-- the verdict is not 0 and not larger than the largest; RESET leaves the fresh core, and any other row sequence and IDs as they were
pub record RowFacts (core : Core) (done : Row) : Type 0 where
  pub not_zero : done.verdict ≢ 0
  pub not_larger : done.verdict ≤ largest_verdict
  pub reset : done.verdict ≡ 3 → done.core ≡ fresh_core core.ids
  pub sequence_stays : done.verdict ≢ 3 → done.core.sequence ≡ core.sequence
  pub ids_stay : done.core.ids ≡ core.ids

-- all rows but RESET's
other : (core new : Core) (v : ℕ) → v ≢ 0 → v ≢ 3 → v ≤ largest_verdict → new.sequence ≡ core.sequence → new.ids ≡ core.ids → RowFacts core (row v new)
other core new v z t l s i =
    record { not_zero = z; not_larger = l; reset = λ e. absurd (t e); sequence_stays = λ n. s; ids_stay = i }

long_facts : (core counted : Core) (fields : Fields) (chosen : LongRow) → counted.sequence ≡ core.sequence → counted.ids ≡ core.ids
    → RowFacts core (row (row_verdict chosen) (row_effect chosen fields counted))
long_facts core counted fields Foreign s i = other core counted (row_verdict Foreign) (λ e. omega arith) (λ e. omega arith) (omega arith) s i
long_facts core counted fields Outside s i = other core counted (row_verdict Outside) (λ e. omega arith) (λ e. omega arith) (omega arith) s i
long_facts core counted fields WithoutSetting s i = other core counted (row_verdict WithoutSetting) (λ e. omega arith) (λ e. omega arith) (omega arith) s i
long_facts core counted fields Store s i = other core _ (row_verdict Store) (λ e. omega arith) (λ e. omega arith) (omega arith) s i
long_facts core counted fields Reset s i =
    record { not_zero = λ e. omega arith; not_larger = omega arith; reset = λ e. ap fresh_core i; sequence_stays = λ n. absurd (n refl); ids_stay = i }
long_facts core counted fields Other s i = other core counted (row_verdict Other) (λ e. omega arith) (λ e. omega arith) (omega arith) s i

pub row_facts : (kind : Kind) (judged : Judged) (core : Core) → let frame = answer_to kind judged in RowFacts core (table_row kind frame (count_errors frame core))
unfolding count_errors double_up dropped one_of
row_facts kind judged core =
    by_row (λ kind frame. RowFacts core) kind judged core
    (λ v word d l. other core _ v (not_dropped v 0 d refl) (not_dropped v 3 d refl) l refl refl)
    (λ told. cleared_changes (λ (new : Core). RowFacts core (row 1 new)) (told.word % 2 ^ 8) _
    (other core _ 1 (λ e. omega arith) (λ e. omega arith) (omega arith) refl refl)
    (λ new. other core _ 1 (λ e. omega arith) (λ e. omega arith) (omega arith) refl refl))
    (λ told chosen e. long_facts core _ (fields_of Long told.word) chosen refl refl)

-- What a finished frame does to the bunch and event counters. Assumes nothing.
use mathlib.Core.Path.{◌≡◌, refl, ap, ◌∙◌}
use mathlib.Core.Logic.{◌≢◌}
use mathlib.Core.Bool.{cond}
use Prim.Native.Nat.{ℕ, ◌/◌, ◌%◌, ◌^◌}
use native.Mathlib.Omega.{arith}
use lib.Dec.{eqb}
use lib.Pow.{field}
use Rattle.laws.specs.OneOf.{one_of}
use Rattle.laws.proofs.Rules.{by_test}
use Rattle.frame.specs.declared.Kind.{Kind}
use Rattle.frame.specs.declared.Kind.TheVariants.{Short, Long}
use Rattle.frame.specs.declared.Fields.{Fields}
use Rattle.frame.specs.declared.Judged.{Judged}
use Rattle.frame.specs.declared.Answer.{Answer}
use Rattle.frame.specs.Encode.{fields_of}
use Rattle.frame.specs.Decode.{bare_answer, answer_to}
use Rattle.receiver_state.specs.declared.Counters.{Counters}
use Rattle.receiver_state.specs.declared.Core.{Core}
use Rattle.receiver_state.specs.declared.Clocked.{Clocked}
use Rattle.receiver_state.specs.State.{counters, fresh_core}
use Rattle.register_map.specs.Change.{store_byte}
use Rattle.verdicts.specs.declared.LongRow.{LongRow}
use Rattle.verdicts.specs.declared.LongRow.TheVariants.{Foreign, Outside, WithoutSetting, Store, Reset, Other}
use Rattle.verdicts.specs.declared.Row.{Row}
use Rattle.verdicts.specs.Table.{dropped, double_up, cleared_by, row_verdict, row_effect, row}
use Rattle.verdicts.specs.Finished.{count_errors, shown, finished}
use Rattle.verdicts.specs.FrameLaws.{CountersMove}
use Rattle.verdicts.proofs.Rows.{not_dropped, Told, good_told, by_row}

-- the counters that a byte clears
abbrev cleared : ℕ → Counters → Counters
cleared byte now = counters (cond (eqb (byte % 2) 1) 0 now.bunch) (cond (eqb (byte / 2 % 2) 1) 0 now.event)

-- the counters against those of the idle clock
record Goes (idle : Counters) (done : Clocked) : Type 0 where
  pub stay : done.outputs.verdict ≢ 1 → done.outputs.verdict ≢ 3 → done.core.counters ≡ idle
  pub broadcast : done.outputs.verdict ≡ 1 → done.core.counters ≡ cleared done.outputs.word idle

-- ---- the rows

low_of : (n : ℕ) → n % 2 ^ 7 % 2 ≡ n % 2
low_of n = omega arith

-- a broadcast's fields hold its whole word
cleared_low : (word : ℕ) (now : Counters) → cleared (word % 2 ^ 8) now ≡ cleared word now
cleared_low word now =
    let low : word % 2 ^ 8 % 2 ≡ word % 2 = omega arith in
    let next : word % 2 ^ 8 / 2 % 2 ≡ word / 2 % 2 = ap (λ (x : ℕ). x % 2) (field word 7 1) ∙ low_of (word / 2) in
    rw (low, next) refl

cleared_counters : (byte : ℕ) (core : Core) → (cleared_by byte core).counters ≡ cleared byte core.counters
unfolding cleared_by
cleared_counters byte core =
    by_test (eqb (byte % 2) 1)
    (λ t. by_test (eqb (byte / 2 % 2) 1) (λ u. rw (t, u) refl) (λ u. rw (t, u) refl))
    (λ t. by_test (eqb (byte / 2 % 2) 1) (λ u. rw (t, u) refl) (λ u. rw (t, u) refl))

-- a row that leaves them alone
kept_goes : (v : ℕ) (frame : Answer) (core : Core) (idle : Clocked) → v ≢ 1 → core.counters ≡ idle.core.counters
    → Goes idle.core.counters (shown frame (row v core) idle.outputs)
kept_goes v frame core idle n e = record { stay = λ p q. e; broadcast = λ p. absurd (n p) }

reset_goes : (frame : Answer) (core : Core) (idle : Clocked) → Goes idle.core.counters (shown frame (row 3 core) idle.outputs)
reset_goes frame core idle = record { stay = λ p q. absurd (q refl); broadcast = λ p. absurd (omega arith) }

long_goes : (told : Told) (idle : Clocked) (fields : Fields) (chosen : LongRow) → let frame = good_told Long told in
    Goes idle.core.counters (shown frame (row (row_verdict chosen) (row_effect chosen fields (count_errors frame idle.core))) idle.outputs)
unfolding count_errors
long_goes told idle fields Foreign = kept_goes (row_verdict Foreign) (good_told Long told) (count_errors (good_told Long told) idle.core) idle (λ p. omega arith) refl
long_goes told idle fields Outside = kept_goes (row_verdict Outside) (good_told Long told) (count_errors (good_told Long told) idle.core) idle (λ p. omega arith) refl
long_goes told idle fields WithoutSetting = kept_goes (row_verdict WithoutSetting) (good_told Long told) (count_errors (good_told Long told) idle.core) idle (λ p. omega arith) refl
long_goes told idle fields Store = kept_goes (row_verdict Store) (good_told Long told) (store_byte fields.sub fields.«data» (count_errors (good_told Long told) idle.core)) idle (λ p. omega arith) refl
long_goes told idle fields Reset = reset_goes (good_told Long told) (fresh_core idle.core.ids) idle
long_goes told idle fields Other = kept_goes (row_verdict Other) (good_told Long told) (count_errors (good_told Long told) idle.core) idle (λ p. omega arith) refl

finished_goes : (kind : Kind) (judged : Judged) (idle : Clocked) → Goes idle.core.counters (finished kind (answer_to kind judged) idle)
unfolding finished count_errors double_up dropped one_of
finished_goes kind judged idle =
    by_row (λ kind frame (done : Row). Goes idle.core.counters (shown frame done idle.outputs)) kind judged idle.core
    (λ v word d l. kept_goes v (bare_answer 0 v word) (double_up (count_errors (bare_answer 0 v word) idle.core)) idle (not_dropped v 1 d refl) refl)
    (λ told. record {
      stay = λ p q. absurd (p refl);
      broadcast = λ p. cleared_counters (told.word % 2 ^ 8) (count_errors (good_told Short told) idle.core) ∙ cleared_low told.word idle.core.counters;
    })
    (λ told chosen e. long_goes told idle (fields_of Long told.word) chosen)

-- ---- by name

pub finished_counters : (kind : Kind) (judged : Judged) (idle : Clocked)
    → let done = finished kind (answer_to kind judged) idle in CountersMove idle.core.counters done.outputs done.core.counters
finished_counters kind judged idle =
    let g = finished_goes kind judged idle in
    record {
      counters_stay = g.stay;
      bunch_cleared = λ p b. ap (λ (k : Counters). k.bunch) (g.broadcast p) ∙ rw b refl;
      bunch_not_cleared = λ p b. ap (λ (k : Counters). k.bunch) (g.broadcast p) ∙ rw b refl;
      event_cleared = λ p b. ap (λ (k : Counters). k.event) (g.broadcast p) ∙ rw b refl;
      event_not_cleared = λ p b. ap (λ (k : Counters). k.event) (g.broadcast p) ∙ rw b refl;
    }

-- What a finished frame does to the error counters. Assumes nothing.
use mathlib.Core.Path.{◌≡◌, refl, sym, ap, ◌∙◌}
use mathlib.Core.Logic.{◌≢◌}
use mathlib.Core.Bool.{true, false, true≢false}
use Prim.Native.Nat.{ℕ, ◌%◌, ◌^◌}
use native.Mathlib.Omega.{arith}
use borrow.Author.Tests.{eq-eqb, ne_eqb, lt-ltb, le-ltb}
use Rattle.laws.specs.OneOf.{one_of}
use Rattle.frame.specs.declared.Kind.{Kind}
use Rattle.frame.specs.declared.Kind.TheVariants.{Short, Long}
use Rattle.frame.specs.declared.Fields.{Fields}
use Rattle.frame.specs.declared.Judged.{Judged}
use Rattle.frame.specs.declared.Answer.{Answer}
use Rattle.frame.specs.Encode.{fields_of}
use Rattle.frame.specs.Decode.{bare_answer, answer_to}
use Rattle.receiver_state.specs.declared.Ids.{Ids}
use Rattle.receiver_state.specs.declared.Errors.{Errors}
use Rattle.receiver_state.specs.declared.Core.{Core}
use Rattle.receiver_state.specs.declared.Clocked.{Clocked}
use Rattle.receiver_state.specs.State.{with_counters, fresh_core}
use Rattle.register_map.specs.Change.{store_byte}
use Rattle.verdicts.specs.declared.LongRow.{LongRow}
use Rattle.verdicts.specs.declared.LongRow.TheVariants.{Foreign, Outside, WithoutSetting, Store, Reset, Other}
use Rattle.verdicts.specs.declared.Row.{Row}
use Rattle.verdicts.specs.Table.{dropped, up_to, double_up, row_verdict, row_effect, row}
use Rattle.verdicts.specs.Finished.{count_errors, shown, finished}
use Rattle.verdicts.specs.FrameLaws.{OneHigher, ErrorsMove}
use Rattle.verdicts.proofs.Rows.{not_dropped, Told, good_told, by_row, cleared_changes}

pub one_higher : (top n : ℕ) → OneHigher top n (up_to top n)
unfolding up_to
one_higher top n = record { higher = λ h. rw (lt-ltb _ _ h) refl; full = λ h. rw (le-ltb _ _ h) refl }

abbrev Moves : Errors → Clocked → Type 0
Moves before done = ErrorsMove before done.outputs done.core.errors

-- ---- the three kinds of rows

dropped_moves : (v word : ℕ) (idle : Clocked) → dropped v ≡ true
    → Moves idle.core.errors (shown (bare_answer 0 v word) (row v (double_up (count_errors (bare_answer 0 v word) idle.core))) idle.outputs)
unfolding double_up count_errors dropped one_of
dropped_moves v word idle d =
    record {
      double_up_lem = λ p. one_higher 255 idle.core.errors.double;
      single_up = λ p. absurd (let z : ◌≡◌ {A = ℕ} 0 1 = p.0 in omega arith);
      dropped_flag = λ p. refl;
      reset = λ p. absurd (not_dropped v 3 d refl p);
      double_stays = λ p q. absurd (true≢false (sym d ∙ p));
      single_stays = λ p q. refl;
      status_cleared = λ p. rw (eq-eqb _ _ p) refl;
      status_set = λ p q. rw (ne_eqb _ _ q) refl;
      status_stays = λ p. absurd (not_dropped v 0 d refl p);
    }

reset_moves : (frame : Answer) (own : Ids) (idle : Clocked) → Moves idle.core.errors (shown frame (row 3 (fresh_core own)) idle.outputs)
unfolding dropped one_of
reset_moves frame own idle =
    record {
      double_up_lem = λ p. absurd (true≢false (sym p));
      single_up = λ p. absurd (p.1 refl);
      dropped_flag = λ p. absurd (true≢false (sym p));
      reset = λ p. (refl, refl);
      double_stays = λ p q. absurd (q refl);
      single_stays = λ p q. absurd (q refl);
      status_cleared = λ p. absurd (omega arith);
      status_set = λ p q. refl;
      status_stays = λ p. absurd (omega arith);
    }

-- all others leave the errors as they were counted
other_moves : (v : ℕ) (told : Told) (kind : Kind) (core : Core) (idle : Clocked) → dropped v ≡ false → v ≢ 3 → v ≢ 0
    → core.errors ≡ (count_errors (good_told kind told) idle.core).errors
    → Moves idle.core.errors (shown (good_told kind told) (row v core) idle.outputs)
unfolding count_errors dropped one_of
other_moves v told kind core idle d t z e =
    record {
      double_up_lem = λ p. absurd (true≢false (sym p ∙ d));
      single_up = λ p. rw (e, eq-eqb _ _ p.0) (one_higher 65535 idle.core.errors.single);
      dropped_flag = λ p. absurd (true≢false (sym p ∙ d));
      reset = λ p. absurd (t p);
      double_stays = λ p q. ap (λ (x : Errors). x.double) e;
      single_stays = λ p q. ap (λ (x : Errors). x.single) e ∙ rw (ne_eqb told.flag 1 (λ c. p (c, q))) refl;
      status_cleared = λ p. absurd (true≢false (sym (ap dropped p) ∙ d));
      status_set = λ p q. ap (λ (x : Errors). x.status5) e;
      status_stays = λ p. absurd (z p);
    }

-- ---- the table

long_moves : (told : Told) (idle : Clocked) (fields : Fields) (chosen : LongRow) → let frame = good_told Long told in
    Moves idle.core.errors (shown frame (row (row_verdict chosen) (row_effect chosen fields (count_errors frame idle.core))) idle.outputs)
unfolding count_errors dropped one_of
long_moves told idle fields Foreign = other_moves (row_verdict Foreign) told Long (count_errors (good_told Long told) idle.core) idle refl (λ e. omega arith) (λ e. omega arith) refl
long_moves told idle fields Outside = other_moves (row_verdict Outside) told Long (count_errors (good_told Long told) idle.core) idle refl (λ e. omega arith) (λ e. omega arith) refl
long_moves told idle fields WithoutSetting = other_moves (row_verdict WithoutSetting) told Long (count_errors (good_told Long told) idle.core) idle refl (λ e. omega arith) (λ e. omega arith) refl
long_moves told idle fields Store = other_moves (row_verdict Store) told Long (store_byte fields.sub fields.«data» (count_errors (good_told Long told) idle.core)) idle refl (λ e. omega arith) (λ e. omega arith) refl
long_moves told idle fields Reset = reset_moves (good_told Long told) idle.core.ids idle
long_moves told idle fields Other = other_moves (row_verdict Other) told Long (count_errors (good_told Long told) idle.core) idle refl (λ e. omega arith) (λ e. omega arith) refl

pub finished_moves : (kind : Kind) (judged : Judged) (idle : Clocked) → Moves idle.core.errors (finished kind (answer_to kind judged) idle)
unfolding finished dropped one_of
finished_moves kind judged idle =
    by_row (λ kind frame (done : Row). Moves idle.core.errors (shown frame done idle.outputs)) kind judged idle.core
    (λ v word d l. dropped_moves v word idle d)
    (λ told. cleared_changes (λ (core : Core). Moves idle.core.errors (shown (good_told Short told) (row 1 core) idle.outputs)) (told.word % 2 ^ 8) _
    (other_moves 1 told Short (count_errors (good_told Short told) idle.core) idle refl (λ e. omega arith) (λ e. omega arith) refl)
    (λ new. other_moves 1 told Short (with_counters new (count_errors (good_told Short told) idle.core)) idle refl (λ e. omega arith) (λ e. omega arith) refl))
    (λ told chosen e. long_moves told idle (fields_of Long told.word) chosen)

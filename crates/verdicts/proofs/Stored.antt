-- What a finished frame does to the settings. Assumes nothing.
use mathlib.Core.Path.{◌≡◌, refl, sym, ap}
use mathlib.Core.Logic.{◌≢◌}
use Prim.Native.Nat.{ℕ, zero, suc, ◌/◌, ◌%◌, ◌^◌, ◌<◌}
use native.Mathlib.Omega.{arith}
use borrow.Author.Tests.{ne_eqb}
use Rattle.laws.specs.OneOf.{one_of}
use Rattle.frame.specs.declared.Kind.{Kind}
use Rattle.frame.specs.declared.Kind.TheVariants.{Short, Long}
use Rattle.frame.specs.declared.Judged.{Judged}
use Rattle.frame.specs.declared.Answer.{Answer}
use Rattle.frame.specs.Encode.{fields_of}
use Rattle.frame.specs.Decode.{bare_answer, answer_to}
use Rattle.receiver_state.specs.declared.Settings.{Settings}
use Rattle.receiver_state.specs.declared.Core.{Core}
use Rattle.receiver_state.specs.declared.Clocked.{Clocked}
use Rattle.receiver_state.specs.State.{with_counters, fresh_core}
use Rattle.register_map.specs.Change.{stored, store_byte}
use Rattle.verdicts.specs.declared.LongRow.{LongRow}
use Rattle.verdicts.specs.declared.LongRow.TheVariants.{Foreign, Outside, WithoutSetting, Store, Reset, Other}
use Rattle.verdicts.specs.declared.Row.{Row}
use Rattle.verdicts.specs.Table.{dropped, double_up, row_verdict, row_effect, row}
use Rattle.verdicts.specs.Finished.{count_errors, shown, finished}
use Rattle.verdicts.specs.FrameLaws.{register_of, SettingsMove}
use Rattle.verdicts.proofs.Rows.{not_dropped, Why, why, Told, good_told, by_row, cleared_changes}

abbrev Moves : Settings → Clocked → Type 0
Moves before done = SettingsMove before done.outputs done.core.settings

-- ---- the registers

stored_at : (sub byte : ℕ) (now : Settings) → sub < 4 → register_of (stored sub byte now) sub ≡ byte
unfolding stored
stored_at zero byte now h = refl
stored_at (suc zero) byte now h = refl
stored_at (suc (suc zero)) byte now h = refl
stored_at (suc (suc (suc zero))) byte now h = refl
stored_at (suc (suc (suc (suc n)))) byte now h = absurd (omega arith)

stored_beside : (sub byte number : ℕ) (now : Settings) → number < 4 → number ≢ sub → register_of (stored sub byte now) number ≡ register_of now number
unfolding stored
stored_beside sub byte zero now h n = rw (ne_eqb sub 0 (λ e. n (sym e))) refl
stored_beside sub byte (suc zero) now h n = rw (ne_eqb sub 1 (λ e. n (sym e))) refl
stored_beside sub byte (suc (suc zero)) now h n = rw (ne_eqb sub 2 (λ e. n (sym e))) refl
stored_beside sub byte (suc (suc (suc zero))) now h n = rw (ne_eqb sub 3 (λ e. n (sym e))) refl
stored_beside sub byte (suc (suc (suc (suc k)))) now h n = absurd (omega arith)

stored_config : (sub byte : ℕ) (now : Settings) → ((stored sub byte now).config2 ≡ now.config2) × ((stored sub byte now).config3 ≡ now.config3)
unfolding stored
stored_config sub byte now = (refl, refl)

-- ---- the rows

-- all but 2 and 3
kept_settings : (v : ℕ) (frame : Answer) (core : Core) (idle : Clocked) → v ≢ 2 → core.settings ≡ idle.core.settings
    → Moves idle.core.settings (shown frame (row v core) idle.outputs)
kept_settings v frame core idle n e =
    record {
      stored_byte = λ p. absurd (n p);
      others_stay = λ p. absurd (n p);
      config_stays = λ p. (ap (λ (x : Settings). x.config2) e, ap (λ (x : Settings). x.config3) e);
      settings_stay = λ p q. e;
    }

stored_settings : (told : Told) (core : Core) (idle : Clocked) → core.settings ≡ idle.core.settings → told.word / 2 ^ 8 % 2 ^ 8 < 4
    → Moves idle.core.settings (shown (good_told Long told) (row 2 (store_byte (told.word / 2 ^ 8 % 2 ^ 8) (told.word % 2 ^ 8) core)) idle.outputs)
stored_settings told core idle e h =
    rw e
    (record {
      stored_byte = λ p. stored_at (told.word / 2 ^ 8 % 2 ^ 8) (told.word % 2 ^ 8) _ h;
      others_stay = λ p number l n. stored_beside (told.word / 2 ^ 8 % 2 ^ 8) (told.word % 2 ^ 8) number _ l n;
      config_stays = λ p. stored_config _ _ _;
      settings_stay = λ p q. absurd (p refl);
    })

reset_settings : (frame : Answer) (core : Core) (idle : Clocked) → Moves idle.core.settings (shown frame (row 3 core) idle.outputs)
reset_settings frame core idle =
    record {
      stored_byte = λ p. absurd (omega arith);
      others_stay = λ p. absurd (omega arith);
      config_stays = λ p. absurd (p refl);
      settings_stay = λ p q. absurd (q refl);
    }

long_settings : (told : Told) (id : ℕ) (idle : Clocked) (chosen : LongRow) → Why chosen (fields_of Long told.word) id → let frame = good_told Long told in
    Moves idle.core.settings (shown frame (row (row_verdict chosen) (row_effect chosen (fields_of Long told.word) (count_errors frame idle.core))) idle.outputs)
unfolding count_errors
long_settings told id idle Foreign w = kept_settings (row_verdict Foreign) (good_told Long told) (count_errors (good_told Long told) idle.core) idle (λ e. omega arith) refl
long_settings told id idle Outside w = kept_settings (row_verdict Outside) (good_told Long told) (count_errors (good_told Long told) idle.core) idle (λ e. omega arith) refl
long_settings told id idle WithoutSetting w = kept_settings (row_verdict WithoutSetting) (good_told Long told) (count_errors (good_told Long told) idle.core) idle (λ e. omega arith) refl
long_settings told id idle Store w = stored_settings told (count_errors (good_told Long told) idle.core) idle refl w.3
long_settings told id idle Reset w = reset_settings (good_told Long told) (fresh_core idle.core.ids) idle
long_settings told id idle Other w = kept_settings (row_verdict Other) (good_told Long told) (count_errors (good_told Long told) idle.core) idle (λ e. omega arith) refl

pub finished_settings : (kind : Kind) (judged : Judged) (idle : Clocked) → Moves idle.core.settings (finished kind (answer_to kind judged) idle)
unfolding finished count_errors double_up dropped one_of
finished_settings kind judged idle =
    by_row (λ kind frame (done : Row). Moves idle.core.settings (shown frame done idle.outputs)) kind judged idle.core
    (λ v word d l. kept_settings v (bare_answer 0 v word) (double_up (count_errors (bare_answer 0 v word) idle.core)) idle (not_dropped v 2 d refl) refl)
    (λ told. cleared_changes (λ (core : Core). Moves idle.core.settings (shown (good_told Short told) (row 1 core) idle.outputs)) (told.word % 2 ^ 8) _
    (kept_settings 1 (good_told Short told) (count_errors (good_told Short told) idle.core) idle (λ e. omega arith) refl)
    (λ new. kept_settings 1 (good_told Short told) (with_counters new (count_errors (good_told Short told) idle.core)) idle (λ e. omega arith) refl))
    (λ told chosen e. long_settings told idle.core.ids.id idle chosen (rw e at (why (fields_of Long told.word) idle.core.ids.id)))

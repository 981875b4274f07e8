-- Verdict, flag, place and word of a finished frame. Assumes nothing.
use mathlib.Core.Path.{◌≡◌, refl, sym, ap}
use mathlib.Core.Logic.{◌≢◌, ◌↔◌, ⊎_elim}
use mathlib.Core.Bool.{true, true≢false}
use mathlib.Core.List.{List}
use Prim.Native.Nat.{ℕ, ◌%◌}
use native.Mathlib.Omega.{arith}
use borrow.Author.Tests.{eq-eqb, eqb-true}
use lib.Dec.{eqb}
use Rattle.laws.specs.OneOf.{one_of}
use Rattle.laws.proofs.Rules.{picked, picked_by}
use Rattle.hamming.specs.declared.Word.{Word}
use Rattle.std.specs.declared.option.Option.{Option}
use Rattle.std.specs.declared.option.Option.TheVariants.{Some, None}
use lib.Count.{ones}
use Rattle.hamming.specs.Correction.{syndrome_of, decoded}
use Rattle.frame.specs.declared.Kind.{Kind}
use Rattle.frame.specs.declared.Kind.TheVariants.{Short, Long}
use Rattle.frame.specs.declared.Fields.{Fields}
use Rattle.frame.specs.declared.Judged.{Judged}
use Rattle.frame.specs.declared.Judged.TheVariants.{FixedZero, Good}
use Rattle.frame.specs.Numbers.{stop_bit, received, is_frame}
use Rattle.frame.specs.Encode.{fields_of}
use Rattle.frame.specs.Decode.{fixed_zero, judged_word, judged, answer_to, finished_answer, decode_frame}
use Rattle.receiver_state.specs.declared.Core.{Core}
use Rattle.receiver_state.specs.declared.Clocked.{Clocked}
use Rattle.verdicts.specs.declared.LongRow.{LongRow}
use Rattle.verdicts.specs.declared.LongRow.TheVariants.{Foreign, Outside, WithoutSetting, Store, Reset, Other}
use Rattle.verdicts.specs.declared.Row.{Row}
use Rattle.verdicts.specs.Table.{dropped, long_row, row_verdict, table_row}
use Rattle.verdicts.specs.Finished.{count_errors, shown, finished, finished_by}
use Rattle.verdicts.specs.FrameLaws.{LongVerdict, ShowsFrame}
use Rattle.verdicts.proofs.Rows.{not_dropped, without_data, without_low, with_data, Why, why, by_row}

-- a finished frame is decoded as without a receiver
pub finished_answer_lem : (columns : Kind → List ℕ) (kind : Kind) (number : ℕ) → is_frame kind number ≡ true
    → decode_frame (columns kind) kind number ≡ finished_answer columns kind number
unfolding decode_frame finished_answer
finished_answer_lem columns kind number e = rw e refl

-- ---- the rows of a good long frame

long_verdict : (fields : Fields) (id : ℕ) (chosen : LongRow) → Why chosen fields id → LongVerdict fields id (row_verdict chosen)
long_verdict fields id Foreign w =
    record {
      row_5 = λ a d. refl;
      row_4 = λ o e. absurd (w o);
      row_10 = λ o n d. absurd (w o);
      row_2 = λ o n d h. absurd (w o);
      row_3 = λ o n h. absurd (w o);
      row_6 = λ o n h m. absurd (w o);
    }
long_verdict fields id Outside w =
    record {
      row_5 = λ a d. absurd (⊎_elim a d w.0);
      row_4 = λ o e. refl;
      row_10 = λ o n d. absurd (n w.1);
      row_2 = λ o n d h. absurd (n w.1);
      row_3 = λ o n h. absurd (n w.1);
      row_6 = λ o n h m. absurd (n w.1);
    }
long_verdict fields id WithoutSetting w =
    record {
      row_5 = λ a d. absurd (⊎_elim a d w.0);
      row_4 = λ o e. absurd (w.1 e);
      row_10 = λ o n d. refl;
      row_2 = λ o n d h. absurd (d (without_data fields w.2));
      row_3 = λ o n h. absurd (omega (arith, without_low fields (without_data fields w.2), h));
      row_6 = λ o n h m. absurd (omega (arith, without_low fields (without_data fields w.2), h));
    }
long_verdict fields id Store w =
    record {
      row_5 = λ a d. absurd (⊎_elim a d w.0);
      row_4 = λ o e. absurd (w.1 e);
      row_10 = λ o n d. absurd (with_data fields w.2 d);
      row_2 = λ o n d h. refl;
      row_3 = λ o n h. absurd (omega (arith, w.3, h));
      row_6 = λ o n h m. absurd (omega (arith, w.3, h));
    }
long_verdict fields id Reset w =
    record {
      row_5 = λ a d. absurd (⊎_elim a d w.0);
      row_4 = λ o e. absurd (w.1 e);
      row_10 = λ o n d. absurd (omega (arith, without_low fields d, w.2));
      row_2 = λ o n d h. absurd (omega (arith, w.2, h));
      row_3 = λ o n h. refl;
      row_6 = λ o n h m. absurd (m w.3);
    }
long_verdict fields id Other w =
    record {
      row_5 = λ a d. absurd (⊎_elim a d w.0);
      row_4 = λ o e. absurd (w.1 e);
      row_10 = λ o n d. absurd (omega (arith, without_low fields d, w.2));
      row_2 = λ o n d h. absurd (omega (arith, w.2, h));
      row_3 = λ o n h. absurd (w.3 h);
      row_6 = λ o n h m. refl;
    }

no_row_dropped : (chosen : LongRow) → dropped (row_verdict chosen) ≡ true → ⊥
unfolding dropped one_of
no_row_dropped Foreign e = true≢false (sym e)
no_row_dropped Outside e = true≢false (sym e)
no_row_dropped WithoutSetting e = true≢false (sym e)
no_row_dropped Store e = true≢false (sym e)
no_row_dropped Reset e = true≢false (sym e)
no_row_dropped Other e = true≢false (sym e)

-- ---- verdict 7

-- a frame whose stop bit is 1 has another
abbrev NotSeven : Kind → Core → Judged → Type 0
NotSeven kind core found = let frame = answer_to kind found in (table_row kind frame (count_errors frame core)).verdict ≢ 7

not_seven : (kind : Kind) (s : ℕ) (decoded : Option Word) (core : Core) → let frame = answer_to kind (judged_word kind s decoded) in
    (table_row kind frame (count_errors frame core)).verdict ≢ 7
unfolding table_row count_errors dropped one_of
not_seven kind s None core =
    picked (NotSeven kind core) (eqb (ones s % 2) 0) (λ e. let z : ◌≡◌ {A = ℕ} 8 7 = e in omega arith) (λ e. let z : ◌≡◌ {A = ℕ} 11 7 = e in omega arith)
not_seven kind s (Some w) core = picked (NotSeven kind core) (fixed_zero kind w.«data») nine (good kind)
  where
    nine : NotSeven kind core (FixedZero w.«data»)
    nine e = let z : ◌≡◌ {A = ℕ} 9 7 = e in omega arith

    good : (kind : Kind) → let frame = answer_to kind (Good w.«data» w.wrong) in (table_row kind frame (count_errors frame core)).verdict ≢ 7
    good Short e = let z : ◌≡◌ {A = ℕ} 1 7 = e in omega arith
    good Long e = no_row_dropped (long_row (fields_of Long w.«data») core.ids.id) (ap dropped e)

pub seven_exactly : (columns : Kind → List ℕ) (kind : Kind) (number : ℕ) (idle : Clocked)
    → ((finished_by columns kind number idle).outputs.verdict ≡ 7) ↔ (stop_bit number ≡ 0)
unfolding finished finished_answer judged table_row dropped one_of
seven_exactly columns kind number idle = (
  picked_by (λ found. shown_by found ≡ 7 → stop_bit number ≡ 0) (eqb (stop_bit number) 0)
      (λ t e. eqb-true (stop_bit number) 0 t)
      (λ t e. absurd (not_seven kind (syndrome_of (columns kind) (received kind number)) (decoded (columns kind) (received kind number)) idle.core e)),
  λ z. rw (eq-eqb (stop_bit number) 0 z) refl,
)
  where
    shown_by : Judged → ℕ
    shown_by found = (finished kind (answer_to kind found) idle).outputs.verdict

-- ---- the table

pub shows_frame : (kind : Kind) (judged : Judged) (idle : Clocked)
    → ShowsFrame kind (answer_to kind judged) idle.core.ids.id (finished kind (answer_to kind judged) idle).outputs
unfolding finished dropped one_of
shows_frame kind judged idle =
    by_row (λ kind frame (done : Row). ShowsFrame kind frame idle.core.ids.id (shown frame done idle.outputs).outputs) kind judged idle.core
    (λ v word d l. record {
      not_good = λ n. refl;
      good = λ z. absurd (not_dropped v 0 d refl z);
      dropped_exactly = (λ e. not_dropped v 0 d refl, λ n. d);
      flag_shown = refl;
      place_shown = refl;
      word_shown = refl;
    })
    (λ told. record {
      not_good = λ n. absurd (n refl);
      good = λ z. refl;
      dropped_exactly = (λ e. absurd (true≢false (sym e)), λ n. absurd (n refl));
      flag_shown = refl;
      place_shown = refl;
      word_shown = refl;
    })
    (λ told chosen e. record {
      not_good = λ n. absurd (n refl);
      good = λ z. long_verdict (fields_of Long told.word) idle.core.ids.id chosen (rw e at (why (fields_of Long told.word) idle.core.ids.id));
      dropped_exactly = (λ d. absurd (no_row_dropped chosen d), λ n. absurd (n refl));
      flag_shown = refl;
      place_shown = refl;
      word_shown = refl;
    })

-- Clocks, whole frames and blocks with lent columns: what is answered to a table that passes, and what is refused before. Assumes nothing.
use mathlib.Core.Path.{◌≡◌, refl, sym, ap, ◌∙◌}
use mathlib.Core.Logic.{◌≢◌}
use mathlib.Core.Bool.{true, false}
use mathlib.Core.List.{List}
use Prim.Native.Nat.{ℕ}
use native.Mathlib.Omega.{arith}
use borrow.Author.Tests.{ne_eqb}
use lib.Dec.{eqb, ltb}
use Rattle.laws.proofs.Rules.{by_test, picked}
use Rattle.frame.specs.declared.Kind.{Kind}
use Rattle.lent_columns.specs.declared.ColumnsAnswer.{ColumnsAnswer}
use Rattle.lent_columns.specs.Check.{lent_columns, columns_answer, check_columns}
use Rattle.lent_columns.specs.Laws.{Passes}
use Rattle.lent_columns.specs.Frames.{own_table}
use Rattle.lent_columns.proofs.Laws.{check_theorem}
use Rattle.lent_columns.proofs.Frames.{own_columns}
use Rattle.receiver_state.specs.declared.Receiver.{Receiver}
use Rattle.receiver_state.specs.Shown.{no_outputs}
use Rattle.receiver_state.specs.WellFormed.{well_formed}
use Rattle.receiver.specs.declared.ClockAnswer.{ClockAnswer}
use Rattle.receiver.specs.Clock.{step_answer, clock_answer}
use Rattle.receiver.proofs.Laws.{clock_theorem}
use Rattle.trace.proofs.Refused.{refused_keeps}
use Rattle.whole_frame.proofs.WholeFrameLaw.{whole_frame_theorem}
use Rattle.whole_frame.proofs.ByFormatLaws.{format_theorem}
use Rattle.frame.specs.Numbers.{format_bit}
use Rattle.receiver_with_columns.specs.WithColumns.{refused_before, unless_refused_clock, clock_with_columns, receive_with_columns, receive_by_format_with_columns, run_block_with_columns}
use Rattle.receiver_with_columns.specs.Laws.{Over, AllRefused, RefusedLeaves, WithColumnsTheorem, LawsTheorem, LastClockDecides, OwnReceiver, clocked_with}
use Rattle.receiver_with_columns.proofs.Before.{clock_by_2, receive_by_2, format_by_2, block_by_2, accepted_clock, accepted_block_lem}

module _ (r : Receiver) (table : List ℕ) where
  over : Passes table → Over (lent_columns table) r table
  unfolding clock_with_columns receive_with_columns receive_by_format_with_columns run_block_with_columns
  over p = record {
    clock = λ trigger bit. sym (accepted_clock r table _ p (λ bad. clock_by_2 (lent_columns table) r bad trigger bit));
    receive = λ kind number. sym (accepted_clock r table _ p (λ bad. receive_by_2 (lent_columns table) r bad kind number));
    receive_by_format_lem = λ format number. sym (accepted_clock r table _ p (λ bad. format_by_2 (lent_columns table) r bad format number));
    run_block_lem = λ block buffer. sym (accepted_block_lem r table buffer _ p (λ bad. block_by_2 (lent_columns table) r bad block buffer));
  }

  refused : (before : ColumnsAnswer) → refused_before r table ≡ before → before.refusal ≢ 0 → AllRefused before r table
  unfolding clock_with_columns receive_with_columns receive_by_format_with_columns run_block_with_columns
  refused before is n = record {
    clock = λ trigger bit. rw (is, ne_eqb before.refusal 0 n);
    receive = λ kind number. rw (is, ne_eqb before.refusal 0 n);
    receive_by_format_lem = λ format number. rw (is, ne_eqb before.refusal 0 n);
    run_block_lem = λ block buffer. rw (is, ne_eqb before.refusal 0 n);
  }

  first : well_formed r ≡ false → AllRefused (columns_answer 2 0) r table
  unfolding refused_before
  first bad = refused (columns_answer 2 0) (rw bad) (λ e. omega arith)

  then : well_formed r ≡ true → (check_columns table).refusal ≢ 0 → AllRefused (check_columns table) r table
  unfolding refused_before
  then good n = refused (check_columns table) (rw good) n

  -- of any columns
  abbrev Leaves : ClockAnswer → Type 0
  Leaves done = done.refusal ≢ 0 → (done.receiver ≡ r) × (done.outputs ≡ no_outputs)

  clock_leaves : (columns : Kind → List ℕ) (trigger bit : ℕ) → Leaves (clock_answer columns r trigger bit)
  unfolding clock_answer step_answer
  clock_leaves columns trigger bit =
      picked Leaves (well_formed r)
      (picked Leaves (ltb 1 trigger) (λ n. (refl, refl)) (picked Leaves (ltb 1 bit) (λ n. (refl, refl)) (λ n. absurd (n refl))))
      (λ n. (refl, refl))

  leaves : RefusedLeaves r table
  unfolding clock_with_columns run_block_with_columns
  leaves = record {
    clock = λ trigger bit. by_test (eqb (refused_before r table).refusal 0)
        (λ e. rw e (clock_leaves (lent_columns table) trigger bit))
        (λ e. rw e (λ n. (refl, refl)));
    run_block_lem = λ block buffer. by_test (eqb (refused_before r table).refusal 0)
        (λ e. rw e (refused_keeps (lent_columns table) r block buffer))
        (λ e. rw e (λ n. record { receiver_stays = refl; no_records = refl; buffer_stays = refl }));
  }

  kind_by_format : (kind : Kind) (number : ℕ) → receive_by_format_with_columns r table (format_bit kind) number ≡ receive_with_columns r table kind number
  unfolding receive_by_format_with_columns receive_with_columns
  kind_by_format kind number = ap (unless_refused_clock r table) ((format_theorem (lent_columns table)).of_a_kind r kind number)

pub with_columns : WithColumnsTheorem
with_columns r table = record {
  accepted = over r table;
  refused_first = first r table;
  refused_then = then r table;
  leaves = leaves r table;
  kind_by_format = kind_by_format r table;
}

pub laws_over : LawsTheorem
laws_over table p = let good = ((check_theorem table).passes_exactly.0 p).1 in record {
  clocks = clock_theorem (lent_columns table) good;
  whole_frames = whole_frame_theorem (lent_columns table) good;
  formats = format_theorem (lent_columns table);
}

pub last_clock_decides : LastClockDecides
last_clock_decides r one other trigger bit held p q a e =
    ((with_columns r one).accepted p).clock trigger bit
    ∙ ap (clocked_with 0) ((laws_over one p).clocks.no_frame_law r trigger bit held a e ∙ sym ((laws_over other q).clocks.no_frame_law r trigger bit held a e))
    ∙ sym (((with_columns r other).accepted q).clock trigger bit)

pub own_receiver_lem : OwnReceiver
own_receiver_lem r = over r own_table own_columns.passes

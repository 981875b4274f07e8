-- Lists of calls whose clock calls are lent columns. Assumes nothing.
use mathlib.Core.Path.{◌≡◌, refl, sym, ap, ◌∙◌}
use mathlib.Core.Bool.{true, false}
use mathlib.Core.List.{List, [], ◌∷◌}
use Prim.Native.Nat.{ℕ}
use borrow.Author.Tests.{eqb-true, eqb-false}
use lib.Dec.{eqb}
use Rattle.laws.proofs.Rules.{by_test}
use Rattle.frame.specs.Columns.{GoodTables}
use Rattle.lent_columns.specs.declared.ColumnsAnswer.{ColumnsAnswer}
use Rattle.lent_columns.specs.Check.{lent_columns, check_columns}
use Rattle.lent_columns.specs.Laws.{Passes}
use Rattle.lent_columns.specs.Frames.{own_table}
use Rattle.lent_columns.specs.Examples.{other_table}
use Rattle.lent_columns.proofs.Laws.{check_theorem}
use Rattle.lent_columns.proofs.Frames.{own_columns}
use Rattle.lent_columns.proofs.Examples.{tables}
use Rattle.receiver_state.specs.declared.Receiver.{Receiver}
use Rattle.receiver_state.specs.WellFormed.{well_formed}
use Rattle.receiver_with_columns.proofs.Laws.{with_columns}
use Rattle.guarantees.specs.Calls.{call, run}
use Rattle.guarantees.specs.WithColumns.{ColumnsCall, clock_call_lem, read_call, write_call, ResultWithIndex, call_with_columns, run_with_columns}
use Rattle.guarantees.specs.WithColumns.{Lends, OneTable, kept, kept_calls, answer_over, AsOverColumns, ColumnsTheorem, TwoUses}
use Rattle.guarantees.specs.Demand3.{Demand3}
use Rattle.guarantees.proofs.Demand3.{demand3_theorem}
use Rattle.guarantees.proofs.Blocks.{block_theorem}
use Rattle.guarantees.proofs.BadStop.{bad_stop_theorem}
use Rattle.guarantees.proofs.FineDelays.{fine_delay_theorem}
use Rattle.guarantees.proofs.Flips.{flip_theorem}

module _ (table : List ℕ) (p : Passes table) where
  good : GoodTables (lent_columns table)
  good = ((check_theorem table).passes_exactly.0 p).1

  demand : Demand3 (lent_columns table)
  demand = demand3_theorem (lent_columns table) good

  one_call : (r : Receiver) (c : ColumnsCall) → well_formed r ≡ true → Lends table c → call_with_columns r c ≡ answer_over table r c
  unfolding call_with_columns answer_over call
  one_call r (clock_call_lem columns trigger bit) w lends = by_test (eqb (check_columns columns).refusal 0) taken refused
    where
      taken : eqb (check_columns columns).refusal 0 ≡ true
          → call_with_columns r (clock_call_lem columns trigger bit) ≡ answer_over table r (clock_call_lem columns trigger bit)
      taken t =
          let passes = eqb-true (check_columns columns).refusal 0 t in
          rw (t, ((with_columns r columns).accepted passes).clock trigger bit, lends passes)

      refused : eqb (check_columns columns).refusal 0 ≡ false
          → call_with_columns r (clock_call_lem columns trigger bit) ≡ answer_over table r (clock_call_lem columns trigger bit)
      refused t = rw (t, ((with_columns r columns).refused_then w (eqb-false (check_columns columns).refusal 0 t)).clock trigger bit)
  one_call r (read_call number) w lends = refl
  one_call r (write_call number value) w lends = refl

  -- what it leaves
  one_left : (r : Receiver) (c : ColumnsCall) → (answer_over table r c).plain.receiver ≡ run (lent_columns table) r (kept c)
  unfolding answer_over kept run
  one_left r (clock_call_lem columns trigger bit) = by_test (eqb (check_columns columns).refusal 0) (λ t. rw t) (λ t. rw t)
  one_left r (read_call number) = refl
  one_left r (write_call number value) = refl

  same_state : (r : Receiver) (calls : List ColumnsCall) → well_formed r ≡ true → OneTable table calls
      → run_with_columns r calls ≡ run (lent_columns table) r (kept_calls calls)
  unfolding run_with_columns kept_calls run
  same_state r [] w one = refl
  same_state r (c ∷ cs) w one =
      let left : (call_with_columns r c).plain.receiver ≡ run (lent_columns table) r (kept c) =
      ap (λ (d : ResultWithIndex). d.plain.receiver) (one_call r c w one.0) ∙ one_left r c in
      ap (λ (s : Receiver). run_with_columns s cs) left
      ∙ same_state (run (lent_columns table) r (kept c)) cs (demand.stays_well_formed r (kept c) w) one.1
      ∙ sym (demand.one_after_another r (kept c) (kept_calls cs)).state

  lists : (r : Receiver) (calls : List ColumnsCall) → well_formed r ≡ true → OneTable table calls → AsOverColumns table r calls
  lists r calls w one = let state = same_state r calls w one in record {
    state = state;
    next_call = λ c lends.
        ap (λ (s : Receiver). call_with_columns s c) state
        ∙ one_call (run (lent_columns table) r (kept_calls calls)) c (demand.stays_well_formed r (kept_calls calls) w) lends;
  }

pub columns_theorem : ColumnsTheorem
columns_theorem table p = record {
  lists = lists table p;
  demand3 = demand table p;
  bad_stop = bad_stop_theorem (lent_columns table) (good table p);
  fine_delays = fine_delay_theorem (lent_columns table) (good table p);
  flips = flip_theorem (lent_columns table) (good table p);
  block_is = λ r block buffer. ((with_columns r table).accepted p).run_block_lem block buffer;
  blocks = block_theorem (lent_columns table) (good table p);
}

pub two_uses : TwoUses
two_uses = record {
  own = columns_theorem own_table own_columns.passes;
  own_are = own_columns.columns_are;
  other = columns_theorem other_table (ap (λ (a : ColumnsAnswer). a.refusal) tables.passes);
}

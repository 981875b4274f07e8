-- Document 02, Q-11: "Demands 2 and 3 read the lent table, passed unchanged at every clock": lists of calls whose clock calls are lent columns.
-- Proved in proofs/WithColumns.antt.
use Rattle.std.specs.Prelude.{ℕ, ◌≡◌, true, cond, List, [], ◌∷◌, ◌++◌, eqb}
use Rattle.frame.specs.Columns.{columns_of}
use Rattle.lent_columns.specs.Check.{lent_columns, check_columns}
use Rattle.lent_columns.specs.Laws.{Passes}
use Rattle.lent_columns.specs.Frames.{own_table}
use Rattle.lent_columns.specs.Examples.{other_table}
use Rattle.receiver_state.specs.declared.Receiver.{Receiver}
use Rattle.receiver_state.specs.Shown.{no_outputs}
use Rattle.receiver_state.specs.WellFormed.{well_formed}
use Rattle.trace.specs.Block.{run_block}
use Rattle.receiver_with_columns.specs.WithColumns.{clock_with_columns, run_block_with_columns}
use Rattle.receiver_with_columns.specs.Laws.{done_with}
use Rattle.guarantees.specs.Calls.{Call, clock, read, write, CallResult, result, call, run}
use Rattle.guarantees.specs.Demand3.{Demand3}
use Rattle.guarantees.specs.Blocks.{BlockLaws}
use Rattle.guarantees.specs.BadStop.{BadStopLaws}
use Rattle.guarantees.specs.FineDelays.{FineDelayLaws}
use Rattle.guarantees.specs.Flips.{FlipLaws}

-- ---- the calls

-- "The calls have any arguments.": a clock call is lent columns too, each its own; a read and a write take none
pub data ColumnsCall : Type 0 where
  clock_call_lem : List ℕ → ℕ → ℕ → ColumnsCall
  read_call : ℕ → ColumnsCall
  write_call : ℕ → ℕ → ColumnsCall

-- a call's state and answer, and the index beside it
pub record ResultWithIndex : Type 0 where
  pub plain : CallResult
  pub index : ℕ

abbrev pub with_index : ℕ → CallResult → ResultWithIndex
with_index index plain = record { plain = plain; index = index }

-- The step of a list: a clock call is what the function `clock_with_columns` gives by its contract, the others are those of `call`.
unfoldable pub call_with_columns : Receiver → ColumnsCall → ResultWithIndex
call_with_columns r (clock_call_lem table trigger bit) =
    let done = clock_with_columns r table trigger bit in
    with_index done.index (result done.answer.receiver done.answer.refusal done.answer.outputs 0)
call_with_columns r (read_call number) = with_index 0 (call columns_of r (read number))
call_with_columns r (write_call number value) = with_index 0 (call columns_of r (write number value))

-- the state that a list leaves
unfoldable pub run_with_columns : Receiver → List ColumnsCall → Receiver
run_with_columns r [] = r
run_with_columns r (c ∷ cs) = run_with_columns (call_with_columns r c).plain.receiver cs

-- ---- one table at every clock

-- 01's "clock" is "a clock call that isn't refused". So a clock call is lent this table, or one that does not pass, by which it is no clock.
abbrev pub Lends : List ℕ → ColumnsCall → Type 0
Lends table (clock_call_lem columns trigger bit) = Passes columns → columns ≡ table
Lends table (read_call number) = Unit {0}
Lends table (write_call number value) = Unit {0}

-- "passed unchanged at every clock"
abbrev pub OneTable : List ℕ → List ColumnsCall → Type 0
OneTable table [] = Unit {0}
OneTable table (c ∷ cs) = Lends table c × OneTable table cs

-- the calls without columns, and without the clock calls that are refused by 27 or 28
unfoldable pub kept : ColumnsCall → List Call
kept (clock_call_lem columns trigger bit) = cond (eqb (check_columns columns).refusal 0) (clock trigger bit ∷ []) []
kept (read_call number) = read number ∷ []
kept (write_call number value) = write number value ∷ []

unfoldable pub kept_calls : List ColumnsCall → List Call
kept_calls [] = []
kept_calls (c ∷ cs) = kept c ++ kept_calls cs

-- what a call answers over this table's columns: as `call` says, with index 0; or it is refused by 27 or 28, and leaves the state
unfoldable pub answer_over : List ℕ → Receiver → ColumnsCall → ResultWithIndex
answer_over table r (clock_call_lem columns trigger bit) =
    let checked = check_columns columns in
    cond (eqb checked.refusal 0) (with_index 0 (call (lent_columns table) r (clock trigger bit)))
    (with_index checked.index (result r checked.refusal no_outputs 0))
answer_over table r (read_call number) = with_index 0 (call (lent_columns table) r (read number))
answer_over table r (write_call number value) = with_index 0 (call (lent_columns table) r (write number value))

-- a list leaves what `run` says of the calls kept, and each further call answers so after it: `Demand3` and the others below speak of these
pub record AsOverColumns (table : List ℕ) (r : Receiver) (calls : List ColumnsCall) : Type 0 where
  pub state : run_with_columns r calls ≡ run (lent_columns table) r (kept_calls calls)
  pub next_call : (c : ColumnsCall) → Lends table c → call_with_columns (run_with_columns r calls) c ≡ answer_over table (run (lent_columns table) r (kept_calls calls)) c

-- ---- the statements

-- demand 3, and what else is stated of lists of calls and of blocks
pub record GuaranteesWithColumns (table : List ℕ) : Type 0 where
  pub lists : (r : Receiver) (calls : List ColumnsCall) → well_formed r ≡ true → OneTable table calls → AsOverColumns table r calls
  pub demand3 : Demand3 (lent_columns table)
  pub bad_stop : BadStopLaws (lent_columns table)
  pub fine_delays : FineDelayLaws (lent_columns table)
  pub flips : FlipLaws (lent_columns table)
  -- a block with this table is one over its columns, of which the laws of blocks speak
  pub block_is : (r : Receiver) (block buffer : List ℕ) → run_block_with_columns r table block buffer ≡ done_with 0 (run_block (lent_columns table) r block buffer)
  pub blocks : BlockLaws (lent_columns table)

-- over any table that the check accepts
abbrev pub ColumnsTheorem : Type 0
ColumnsTheorem = (table : List ℕ) → Passes table → GuaranteesWithColumns table

-- two uses: document 01's own columns, which are those of the functions without columns, and others
pub record TwoUses : Type 0 where
  pub own : GuaranteesWithColumns own_table
  pub own_are : lent_columns own_table ≡ columns_of
  pub other : GuaranteesWithColumns other_table

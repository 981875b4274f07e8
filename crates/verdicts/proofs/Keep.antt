-- A finished frame keeps the core well formed. Assumes nothing.
use Prim.Native.Nat.{ℕ, ◌/◌, ◌%◌, ◌≤◌}
use native.Mathlib.Omega.{arith}
use lib.Dec.{eqb}
use Rattle.laws.proofs.Rules.{picked}
use Rattle.frame.specs.declared.Kind.{Kind}
use Rattle.frame.specs.declared.Kind.TheVariants.{Short, Long}
use Rattle.frame.specs.declared.Fields.{Fields}
use Rattle.frame.specs.declared.Answer.{Answer}
use Rattle.receiver_state.specs.declared.Core.{Core}
use Rattle.receiver_state.specs.declared.Clocked.{Clocked}
use Rattle.receiver_state.specs.WellFormed.{CoreFacts}
use Rattle.receiver_state.proofs.Changes.{errors_changed}
use Rattle.receiver_state.proofs.States.{fresh_facts}
use Rattle.register_map.proofs.Keep.{store_keeps, bunch_keeps, event_keeps}
use Rattle.verdicts.specs.declared.LongRow.{LongRow}
use Rattle.verdicts.specs.declared.LongRow.TheVariants.{Foreign, Outside, WithoutSetting, Store, Reset, Other}
use Rattle.verdicts.specs.declared.Row.{Row}
use Rattle.verdicts.specs.Table.{double_up, cleared_by, long_row, row_effect, good_row, table_row}
use Rattle.verdicts.specs.Finished.{count_errors, finished}
use Rattle.verdicts.proofs.Rows.{Why, why}

counted_facts : (frame : Answer) (core : Core) → CoreFacts core → CoreFacts (count_errors frame core)
unfolding count_errors
counted_facts frame core f = errors_changed _ core (picked (λ (n : ℕ). n ≤ 1) (eqb frame.verdict 7) (omega arith) (omega arith)) f

up_facts : (core : Core) → CoreFacts core → CoreFacts (double_up core)
unfolding double_up
up_facts core f = errors_changed _ core f.flag f

cleared_facts : (byte : ℕ) (core : Core) → CoreFacts core → CoreFacts (cleared_by byte core)
unfolding cleared_by
cleared_facts byte core f =
    let first = picked CoreFacts (eqb (byte % 2) 1) (bunch_keeps core f) f in
    picked CoreFacts (eqb (byte / 2 % 2) 1) (event_keeps _ first) first

-- what is stored belongs to a setting: row 10 is tested before
effect_facts : (chosen : LongRow) (fields : Fields) (id : ℕ) (core : Core) → Why chosen fields id → CoreFacts core → CoreFacts (row_effect chosen fields core)
effect_facts Foreign fields id core w f = f
effect_facts Outside fields id core w f = f
effect_facts WithoutSetting fields id core w f = f
effect_facts Store fields id core w f = store_keeps fields.sub fields.«data» core w.2 f
effect_facts Reset fields id core w f = (fresh_facts core.ids f.of_ids).of_core
effect_facts Other fields id core w f = f

abbrev RowWellFormed : Row → Type 0
RowWellFormed done = CoreFacts done.core

good_facts : (kind : Kind) (fields : Fields) (core : Core) → CoreFacts core → RowWellFormed (good_row kind fields core)
good_facts Short fields core f = cleared_facts fields.«data» core f
good_facts Long fields core f = effect_facts (long_row fields core.ids.id) fields core.ids.id core (why fields core.ids.id) f

pub finished_facts : (kind : Kind) (frame : Answer) (idle : Clocked) → CoreFacts idle.core → CoreFacts (finished kind frame idle).core
unfolding finished table_row
finished_facts kind frame idle f =
    let counted = counted_facts frame idle.core f in
    picked RowWellFormed (eqb frame.verdict 0) (good_facts kind frame.fields _ counted) (up_facts _ counted)

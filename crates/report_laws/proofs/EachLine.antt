-- The receiver waits before each line. Assumes nothing.
use mathlib.Core.Path.{◌≡◌, refl, sym, subst}
use mathlib.Core.Logic.{◌≢◌}
use mathlib.Core.Bool.{true, false}
use mathlib.Core.List.{List, [], ◌∷◌}
use Prim.Native.Nat.{ℕ}
use borrow.Author.Tests.{eqb-true, eqb-false}
use lib.Dec.{eqb}
use Rattle.laws.proofs.Rules.{by_test}
use Rattle.frame.specs.declared.Kind.{Kind}
use Rattle.frame.specs.Numbers.{is_frame}
use Rattle.frame.specs.Columns.{columns_of}
use Rattle.frame.proofs.OwnColumns.{tables_good}
use Rattle.receiver_state.specs.declared.Receiver.{Receiver}
use Rattle.receiver_state.specs.WellFormed.{well_formed}
use Rattle.channel_b.specs.TakeBit.{Waits}
use Rattle.channel_b.proofs.Laws.{waits_none}
use Rattle.receiver.specs.declared.ClockAnswer.{ClockAnswer}
use Rattle.receiver.specs.Clock.{refused_clock}
use Rattle.whole_frame.specs.WholeFrame.{receive_answer, WholeFrameLaw}
use Rattle.whole_frame.proofs.WholeFrameLaw.{whole_frame_theorem}
use Rattle.std.specs.Prelude.{Result, Ok, Err}
use Rattle.refusals.specs.declared.Refusal.{Refusal}
use Rattle.stored_line.specs.declared.StoredFrame.{StoredFrame}
use Rattle.stored_line.specs.Read.{read_line}
use Rattle.line_report.specs.Output.{ones_sent, after_line, lines_leave}
use Rattle.line_report.proofs.Keep.{line_keeps}
use Rattle.report_laws.specs.EachLine.{EachLineTheorem, ReportWaits}

abbrev Ready : Receiver → Type 0
Ready r = (well_formed r ≡ true) × Waits r

module _ (columns : Kind → List ℕ) (law : WholeFrameLaw columns) where
  -- a number that is no frame is refused
  no_frame : (r : Receiver) (kind : Kind) (number : ℕ) → well_formed r ≡ true → is_frame kind number ≡ false → receive_answer columns r kind number ≡ refused_clock 12 r
  unfolding receive_answer
  no_frame r kind number w e = rw (w, e) refl

  frame_waits : (r : Receiver) (kind : Kind) (number : ℕ) → Ready r → (receive_answer columns r kind number).outputs.verdict ≢ 7
      → Waits (receive_answer columns r kind number).receiver
  frame_waits r kind number (w, waits) n =
      by_test (is_frame kind number)
      (λ e. law.waits_again r kind number w waits e n)
      (λ e. subst (λ (a : ClockAnswer). Waits a.receiver) (sym (no_frame r kind number w e)) waits)

  -- what a line leaves, and the ones that may follow it: a receiver that waits, if it did before
  line_waits : (r : Receiver) (line : Result StoredFrame Refusal) → Ready r → Waits (after_line columns r line)
  unfolding ones_sent
  line_waits r (Err refusal) ready = ready.1
  line_waits r (Ok frame) ready =
      by_test (eqb (receive_answer columns r frame.kind frame.number).outputs.verdict 7)
      (λ t.
      let left = law.wants_after_7 r frame.kind frame.number (eqb-true _ 7 t) in
      let ones = law.ones_after_7 (receive_answer columns r frame.kind frame.number).receiver left.0 left.1 in
      rw t (subst (λ (a : ClockAnswer). Waits a.receiver) (sym ones.0) (waits_none _)))
      (λ t. rw t (frame_waits r frame.kind frame.number ready (eqb-false _ 7 t)))

  after_line_lem : (r : Receiver) (line : Result StoredFrame Refusal) → Ready r → Ready (after_line columns r line)
  after_line_lem r line ready = (line_keeps columns law r line ready.0, line_waits r line ready)

  lines_wait : (lines : List (List ℕ)) (r : Receiver) → Ready r → Ready (lines_leave columns r lines)
  unfolding lines_leave
  lines_wait [] r ready = ready
  lines_wait (characters ∷ rest) r ready = lines_wait rest (after_line columns r (read_line characters)) (after_line_lem r (read_line characters) ready)

pub each_line : EachLineTheorem
each_line columns good r lines w waits = lines_wait columns (whole_frame_theorem columns good) lines r (w, waits)

pub report_waits : ReportWaits
report_waits = each_line columns_of tables_good

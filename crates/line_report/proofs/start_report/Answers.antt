-- `line_report::start_report` meets its contract: 5 and 5 are IDs in range. Assumes nothing.
use Rattle.std.proofs.Common.{◌≡◌, refl, sym, ap, ap₂, ◌∙◌, Result, Ok, Err, IsOk}
use borrow.Author.Tests.{eqb-false}
use Rattle.refusals.specs.declared.Refusal.{Refusal}
use Rattle.refusals.specs.Refusals.{number}
use Rattle.refusals.proofs.Laws.{none_is_success}
use Rattle.receiver_state.specs.State.{ids, fresh_state, fresh_of, fresh_answer, fresh_made}
use Rattle.receiver_state.specs.declared.FreshAnswer.{FreshAnswer}
use Rattle.receiver_state.specs.declared.Receiver.{Receiver}
use Rattle.line_report.specs.declared.LinePart.{LinePart}
use Rattle.line_report.specs.Report.{report}
use Rattle.line_report.proofs.start_report.Goals as goal

own : fresh_answer 5 5 ≡ fresh_of 0 (fresh_state (ids 5 5))
unfolding fresh_answer
own = refl

-- a state that C is handed as not refused
made : (given : Result Receiver Refusal) → (fresh_made given).refusal ≡ 0 → IsOk given
made (Ok r) e = refl
made (Err refusal) e = absurd (eqb-false (number refusal) 0 (none_is_success refusal) e)

pub unwrap-requires : goal.unwrap-requires
unfolding fresh_answer
unwrap-requires c = made c.fresh.result (ap (λ (a : FreshAnswer). a.refusal) c.fresh.ensures)

pub returns : goal.returns
returns c =
    let start = sym (ap fresh_made c.unwrap.ensures) ∙ c.fresh.ensures in
    ap₂ (λ (start : FreshAnswer) (part : LinePart). report start.receiver 0 part) (start ∙ own) c.empty_part.ensures

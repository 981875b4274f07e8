-- `lent_columns::decode_with_columns` meets its contract: by the check of the columns, then over those lent on. Assumes nothing.
use Rattle.lent_columns.proofs.Outcome.{frame_decoded, frame_said}
use Rattle.lent_columns.proofs.decode_with_columns.Goals as goal

pub returns-clause-answer : goal.returns-clause-answer
returns-clause-answer c = frame_decoded _ c.in_ok-lent.lent c.in_ok-lent.ensures.answer c.in_ok-lent.ensures.lent _ _ _ c.decode.ensures

pub returns-clause-said : goal.returns-clause-said
returns-clause-said c = frame_said _ c.in_ok-lent.lent c.in_ok-lent.ensures.answer c.in_ok-lent.ensures.lent _ _ _ c.decode.ensures

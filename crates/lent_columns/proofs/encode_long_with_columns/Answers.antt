-- `lent_columns::encode_long_with_columns` meets its contract: by the check of the columns, then over those lent on. Assumes nothing.
use Rattle.lent_columns.proofs.Outcome.{long_encoded}
use Rattle.lent_columns.proofs.encode_long_with_columns.Goals as goal

pub returns : goal.returns
returns c = long_encoded _ c.in_ok-lent.lent c.in_ok-lent.ensures.answer c.in_ok-lent.ensures.lent _ _ _ _ _ c.encode_fields.ensures

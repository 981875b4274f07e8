-- `lent_columns::encode_short_with_columns` meets its contract: by the check of the columns; those lent on are the first eight. Assumes nothing.
use Rattle.lent_columns.proofs.Outcome.{short_encoded}
use Rattle.lent_columns.proofs.encode_short_with_columns.Goals as goal

pub returns : goal.returns
returns c = short_encoded _ c.in_ok-lent.lent c.in_ok-lent.ensures.answer c.in_ok-lent.ensures.lent _ _ (rw c.from.ensures at c.encode_word.ensures)

-- `lent_columns::check_columns` meets its contract: the parts lent on are those of the table. Assumes nothing.
use Rattle.lent_columns.proofs.Parts.{lent_in_use}
use Rattle.lent_columns.proofs.check_columns.Goals as goal

pub returns-clause-lent : goal.returns-clause-lent
returns-clause-lent c = lent_in_use c.args.columns.now

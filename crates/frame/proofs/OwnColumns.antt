-- Document 01's own columns are good for each kind of frame. Assumes nothing.
use mathlib.Core.Path.{refl}
use Rattle.hamming.proofs.Uses.{short_columns_good, long_columns_good}
use Rattle.frame.specs.declared.Kind.TheVariants.{Short, Long}
use Rattle.frame.specs.Columns.{TablesGood}

pub tables_good : TablesGood
tables_good Short = (refl, short_columns_good)
tables_good Long = (refl, long_columns_good)

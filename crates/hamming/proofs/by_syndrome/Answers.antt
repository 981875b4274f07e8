-- `hamming::by_syndrome` meets its contract: the bit that the search finds is one of the data. Assumes nothing.
use mathlib.Core.Path.{sym, ◌∙◌}
use Rattle.hamming.proofs.Search.{found_in_use}
use Rattle.hamming.proofs.by_syndrome.Goals as goal

pub flip_bit-requires : goal.flip_bit-requires
flip_bit-requires c = found_in_use _ _ _ (sym c.find_column.ensures ∙ c.in_ok-at.was)

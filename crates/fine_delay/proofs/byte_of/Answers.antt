-- `fine_delay::byte_of` meets its contract: no step overflows, so the integers of the code are those of the definition. Assumes nothing.
use Rattle.std.proofs.Common.{arith, to_z-of_z}
use Rattle.std.proofs.lemmas.Int.{ints}
use Rattle.fine_delay.specs.Delay.{byte_of}
use Rattle.fine_delay.proofs.byte_of.Goals as goal

pub returns : goal.returns
unfolding byte_of
returns c = grind (arith, ints, to_z-of_z)

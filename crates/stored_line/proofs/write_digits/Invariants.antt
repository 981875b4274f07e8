-- `stored_line::write_digits` meets its contract. The invariant: the digits still to be written, before what is in the buffer behind them,
-- are all the digits before what the buffer held behind them. Assumes nothing.
use mathlib.Core.Path.{◌≡◌}
use mathlib.Core.List.{◌++◌}
use lib.ListN.{drop}
use Rattle.stored_line.specs.Digits.{hex_digits}
use Rattle.stored_line.proofs.write_digits.Given as goal

abbrev pub invariant-loop-at : goal.invariant-loop-at
invariant-loop-at l = hex_digits l.at l.rest ++ drop l.at l.buffer ≡ hex_digits l.digits l.number ++ drop l.digits l.initial.buffer

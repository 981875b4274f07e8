-- `stored_line::hex_number` meets its contract. The invariant: the number so far, with the digits that are left, is the number of all, and
-- all are digits exactly if those that are left are. Assumes nothing.
use mathlib.Core.Path.{◌≡◌}
use Prim.Native.Nat.{◌+◌, ◌*◌, ◌^◌, ◌<◌}
use lib.ListN.{length, drop}
use Rattle.stored_line.specs.Digits.{all_digits, hex_number}
use Rattle.stored_line.proofs.hex_number.Given as goal

abbrev pub invariant-loop-character : goal.invariant-loop-character
invariant-loop-character l =
    (l.number < 16 ^ l.character-index)
    × (l.number * 16 ^ length (drop l.character-index l.characters) + hex_number (drop l.character-index l.characters) ≡ hex_number l.characters)
    × (all_digits (drop l.character-index l.characters) ≡ all_digits l.characters)

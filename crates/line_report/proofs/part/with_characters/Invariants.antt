-- `line_report::part::with_characters` meets its contract. The invariant: the characters still to come, behind those taken, are all of them. Assumes nothing.
use Rattle.std.proofs.Common.{◌≡◌, drop}
use Rattle.line_report.specs.Report.{with_characters}
use Rattle.line_report.proofs.part.with_characters.Given as goal

abbrev pub invariant-loop-character : goal.invariant-loop-character
invariant-loop-character l = with_characters l.next (drop l.character-index l.characters) ≡ with_characters l.initial.next l.characters

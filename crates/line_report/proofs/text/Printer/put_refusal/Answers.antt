-- `line_report::text::Printer::put_refusal` meets its contract: the mark, then a field. Assumes nothing.
use Rattle.std.proofs.Common.{[], ◌∷◌}
use Rattle.line_report.specs.Text.{decimal, refusal_text}
use Rattle.line_report.proofs.Write.{puts_then, room_then, room_one}
use Rattle.line_report.proofs.text.Printer.put_refusal.Goals as goal

pub put-requires : goal.put-requires
unfolding refusal_text
put-requires c = room_one _ 33 (32 ∷ decimal c.args.refusal) c.requires

pub put_field-requires : goal.put_field-requires
unfolding refusal_text
put_field-requires c =
    room_then (33 ∷ []) (32 ∷ decimal c.args.refusal) c.requires c.put.ensures

pub returns : goal.returns
unfolding refusal_text
returns c = puts_then (33 ∷ []) _ c.put.ensures c.put_field.ensures

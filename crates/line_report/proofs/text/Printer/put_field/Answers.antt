-- `line_report::text::Printer::put_field` meets its contract: a space, then the digits. Assumes nothing.
use Rattle.std.proofs.Common.{[], ◌∷◌}
use Rattle.line_report.specs.Text.{decimal}
use Rattle.line_report.proofs.Write.{puts_then, room_then, room_one}
use Rattle.line_report.proofs.text.Printer.put_field.Goals as goal

pub put-requires : goal.put-requires
put-requires c = room_one _ 32 (decimal c.args.number) c.requires

pub put_decimal-requires : goal.put_decimal-requires
put_decimal-requires c =
    room_then (32 ∷ []) (decimal c.args.number) c.requires c.put.ensures

pub returns : goal.returns
returns c = puts_then (32 ∷ []) _ c.put.ensures c.put_decimal.ensures

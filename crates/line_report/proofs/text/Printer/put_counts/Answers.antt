-- `line_report::text::Printer::put_counts` meets its contract: four fields. Assumes nothing.
use Rattle.std.proofs.Common.{◌∷◌, ◌++◌}
use Rattle.line_report.specs.Text.{decimal, counts_text}
use Rattle.line_report.proofs.Write.{puts_then, room_first, room_then}
use Rattle.line_report.proofs.text.Printer.put_counts.Goals as goal

pub put_field-requires : goal.put_field-requires
unfolding counts_text
put_field-requires c =
    room_first _ (32 ∷ decimal c.args.errors.single) ((32 ∷ decimal c.args.errors.double) ++ ((32 ∷ decimal c.args.counters.event) ++ ((32 ∷ decimal c.args.counters.bunch)))) c.requires

pub put_field-requires-2 : goal.put_field-requires-2
unfolding counts_text
put_field-requires-2 c =
    let room1 = room_then (32 ∷ decimal c.args.errors.single) ((32 ∷ decimal c.args.errors.double) ++ ((32 ∷ decimal c.args.counters.event) ++ ((32 ∷ decimal c.args.counters.bunch)))) c.requires c.put_field.ensures in
    room_first _ (32 ∷ decimal c.args.errors.double) ((32 ∷ decimal c.args.counters.event) ++ ((32 ∷ decimal c.args.counters.bunch))) (room1)

pub put_field-requires-3 : goal.put_field-requires-3
unfolding counts_text
put_field-requires-3 c =
    let room1 = room_then (32 ∷ decimal c.args.errors.single) ((32 ∷ decimal c.args.errors.double) ++ ((32 ∷ decimal c.args.counters.event) ++ ((32 ∷ decimal c.args.counters.bunch)))) c.requires c.put_field.ensures in
    let room2 = room_then (32 ∷ decimal c.args.errors.double) ((32 ∷ decimal c.args.counters.event) ++ ((32 ∷ decimal c.args.counters.bunch))) (room1) c.put_field-2.ensures in
    room_first _ (32 ∷ decimal c.args.counters.event) ((32 ∷ decimal c.args.counters.bunch)) (room2)

pub put_field-requires-4 : goal.put_field-requires-4
unfolding counts_text
put_field-requires-4 c =
    let room1 = room_then (32 ∷ decimal c.args.errors.single) ((32 ∷ decimal c.args.errors.double) ++ ((32 ∷ decimal c.args.counters.event) ++ ((32 ∷ decimal c.args.counters.bunch)))) c.requires c.put_field.ensures in
    let room2 = room_then (32 ∷ decimal c.args.errors.double) ((32 ∷ decimal c.args.counters.event) ++ ((32 ∷ decimal c.args.counters.bunch))) (room1) c.put_field-2.ensures in
    let room3 = room_then (32 ∷ decimal c.args.counters.event) ((32 ∷ decimal c.args.counters.bunch)) (room2) c.put_field-3.ensures in
    room3

pub returns : goal.returns
unfolding counts_text
returns c =
    puts_then (32 ∷ decimal c.args.errors.single) ((32 ∷ decimal c.args.errors.double) ++ ((32 ∷ decimal c.args.counters.event) ++ ((32 ∷ decimal c.args.counters.bunch)))) c.put_field.ensures
    (puts_then (32 ∷ decimal c.args.errors.double) ((32 ∷ decimal c.args.counters.event) ++ ((32 ∷ decimal c.args.counters.bunch))) c.put_field-2.ensures
    (puts_then (32 ∷ decimal c.args.counters.event) ((32 ∷ decimal c.args.counters.bunch)) c.put_field-3.ensures
    c.put_field-4.ensures))

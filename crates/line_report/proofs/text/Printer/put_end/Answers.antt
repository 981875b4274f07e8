-- `line_report::text::Printer::put_end` meets its contract: three letters, the counts and a line feed. Assumes nothing.
use Rattle.std.proofs.Common.{[], ◌∷◌, ◌++◌, rules}
use Rattle.line_report.specs.Text.{counts_text, end_text}
use Rattle.line_report.proofs.Write.{puts_then, text_below, room_first, room_then, room_one}
use Rattle.line_report.proofs.text.Printer.put_end.Goals as goal

pub put-requires : goal.put-requires
unfolding end_text
put-requires c =
    room_one _ 101 ((110 ∷ []) ++ ((100 ∷ []) ++ ((counts_text c.args.errors.single c.args.errors.double c.args.counters.event c.args.counters.bunch) ++ ((10 ∷ []))))) (c.requires (search rules) (search rules) (search rules) (search rules))

pub put-requires-2 : goal.put-requires-2
unfolding end_text
put-requires-2 c =
    let room1 = room_then (101 ∷ []) ((110 ∷ []) ++ ((100 ∷ []) ++ ((counts_text c.args.errors.single c.args.errors.double c.args.counters.event c.args.counters.bunch) ++ ((10 ∷ []))))) (c.requires (search rules) (search rules) (search rules) (search rules)) c.put.ensures in
    room_one _ 110 ((100 ∷ []) ++ ((counts_text c.args.errors.single c.args.errors.double c.args.counters.event c.args.counters.bunch) ++ ((10 ∷ [])))) (room1)

pub put-requires-3 : goal.put-requires-3
unfolding end_text
put-requires-3 c =
    let room1 = room_then (101 ∷ []) ((110 ∷ []) ++ ((100 ∷ []) ++ ((counts_text c.args.errors.single c.args.errors.double c.args.counters.event c.args.counters.bunch) ++ ((10 ∷ []))))) (c.requires (search rules) (search rules) (search rules) (search rules)) c.put.ensures in
    let room2 = room_then (110 ∷ []) ((100 ∷ []) ++ ((counts_text c.args.errors.single c.args.errors.double c.args.counters.event c.args.counters.bunch) ++ ((10 ∷ [])))) (room1) c.put-2.ensures in
    room_one _ 100 ((counts_text c.args.errors.single c.args.errors.double c.args.counters.event c.args.counters.bunch) ++ ((10 ∷ []))) (room2)

pub put_counts-requires : goal.put_counts-requires
unfolding end_text
put_counts-requires c =
    let room1 = room_then (101 ∷ []) ((110 ∷ []) ++ ((100 ∷ []) ++ ((counts_text c.args.errors.single c.args.errors.double c.args.counters.event c.args.counters.bunch) ++ ((10 ∷ []))))) (c.requires (search rules) (search rules) (search rules) (search rules)) c.put.ensures in
    let room2 = room_then (110 ∷ []) ((100 ∷ []) ++ ((counts_text c.args.errors.single c.args.errors.double c.args.counters.event c.args.counters.bunch) ++ ((10 ∷ [])))) (room1) c.put-2.ensures in
    let room3 = room_then (100 ∷ []) ((counts_text c.args.errors.single c.args.errors.double c.args.counters.event c.args.counters.bunch) ++ ((10 ∷ []))) (room2) c.put-3.ensures in
    room_first _ (counts_text c.args.errors.single c.args.errors.double c.args.counters.event c.args.counters.bunch) ((10 ∷ [])) (room3)

pub put-requires-4 : goal.put-requires-4
unfolding end_text
put-requires-4 c =
    let room1 = room_then (101 ∷ []) ((110 ∷ []) ++ ((100 ∷ []) ++ ((counts_text c.args.errors.single c.args.errors.double c.args.counters.event c.args.counters.bunch) ++ ((10 ∷ []))))) (c.requires (search rules) (search rules) (search rules) (search rules)) c.put.ensures in
    let room2 = room_then (110 ∷ []) ((100 ∷ []) ++ ((counts_text c.args.errors.single c.args.errors.double c.args.counters.event c.args.counters.bunch) ++ ((10 ∷ [])))) (room1) c.put-2.ensures in
    let room3 = room_then (100 ∷ []) ((counts_text c.args.errors.single c.args.errors.double c.args.counters.event c.args.counters.bunch) ++ ((10 ∷ []))) (room2) c.put-3.ensures in
    let room4 = room_then (counts_text c.args.errors.single c.args.errors.double c.args.counters.event c.args.counters.bunch) ((10 ∷ [])) (room3) c.put_counts.ensures in
    room_one _ 10 [] (room4)

pub returns : goal.returns
unfolding end_text
returns c =
    let text =
    puts_then (101 ∷ []) ((110 ∷ []) ++ ((100 ∷ []) ++ ((counts_text c.args.errors.single c.args.errors.double c.args.counters.event c.args.counters.bunch) ++ ((10 ∷ []))))) c.put.ensures
    (puts_then (110 ∷ []) ((100 ∷ []) ++ ((counts_text c.args.errors.single c.args.errors.double c.args.counters.event c.args.counters.bunch) ++ ((10 ∷ [])))) c.put-2.ensures
    (puts_then (100 ∷ []) ((counts_text c.args.errors.single c.args.errors.double c.args.counters.event c.args.counters.bunch) ++ ((10 ∷ []))) c.put-3.ensures
    (puts_then (counts_text c.args.errors.single c.args.errors.double c.args.counters.event c.args.counters.bunch) ((10 ∷ [])) c.put_counts.ensures
    c.put-4.ensures))) in
    record { printed = text; within = text_below text.text_at (c.requires (search rules) (search rules) (search rules) (search rules)) }

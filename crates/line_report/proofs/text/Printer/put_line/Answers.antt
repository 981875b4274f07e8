-- `line_report::text::Printer::put_line` meets its contract: number, space, answer and line feed. Assumes nothing.
use Rattle.std.proofs.Common.{[], ◌∷◌, ◌++◌}
use Rattle.line_report.specs.Text.{decimal, answer_text, line_text}
use Rattle.line_report.proofs.Write.{puts_then, room_first, room_then, room_one}
use Rattle.line_report.proofs.text.Printer.put_line.Goals as goal

pub put_decimal-requires : goal.put_decimal-requires
unfolding line_text
put_decimal-requires c =
    room_first _ (decimal c.args.number) ((32 ∷ []) ++ ((answer_text c.args.digits c.args.answer) ++ ((10 ∷ [])))) c.requires

pub put-requires : goal.put-requires
unfolding line_text
put-requires c =
    let room1 = room_then (decimal c.args.number) ((32 ∷ []) ++ ((answer_text c.args.digits c.args.answer) ++ ((10 ∷ [])))) c.requires c.put_decimal.ensures in
    room_one _ 32 ((answer_text c.args.digits c.args.answer) ++ ((10 ∷ []))) (room1)

pub put_answer-requires : goal.put_answer-requires
unfolding line_text
put_answer-requires c =
    let room1 = room_then (decimal c.args.number) ((32 ∷ []) ++ ((answer_text c.args.digits c.args.answer) ++ ((10 ∷ [])))) c.requires c.put_decimal.ensures in
    let room2 = room_then (32 ∷ []) ((answer_text c.args.digits c.args.answer) ++ ((10 ∷ []))) (room1) c.put.ensures in
    room_first _ (answer_text c.args.digits c.args.answer) ((10 ∷ [])) (room2)

pub put-requires-2 : goal.put-requires-2
unfolding line_text
put-requires-2 c =
    let room1 = room_then (decimal c.args.number) ((32 ∷ []) ++ ((answer_text c.args.digits c.args.answer) ++ ((10 ∷ [])))) c.requires c.put_decimal.ensures in
    let room2 = room_then (32 ∷ []) ((answer_text c.args.digits c.args.answer) ++ ((10 ∷ []))) (room1) c.put.ensures in
    let room3 = room_then (answer_text c.args.digits c.args.answer) ((10 ∷ [])) (room2) c.put_answer.ensures in
    room_one _ 10 [] (room3)

pub returns : goal.returns
unfolding line_text
returns c =
    puts_then (decimal c.args.number) ((32 ∷ []) ++ ((answer_text c.args.digits c.args.answer) ++ ((10 ∷ [])))) c.put_decimal.ensures
    (puts_then (32 ∷ []) ((answer_text c.args.digits c.args.answer) ++ ((10 ∷ []))) c.put.ensures
    (puts_then (answer_text c.args.digits c.args.answer) ((10 ∷ [])) c.put_answer.ensures
    c.put-2.ensures))

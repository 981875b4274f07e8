-- `line_report::text::Printer::put_verdict` meets its contract: verdict, flag, word and place. Assumes nothing.
use Rattle.std.proofs.Common.{[], ◌∷◌, ◌++◌}
use Rattle.line_report.specs.Text.{decimal, word_text, place_text, verdict_text}
use Rattle.line_report.proofs.Write.{puts_then, room_first, room_then, room_one}
use Rattle.line_report.proofs.text.Printer.put_verdict.Goals as goal

pub put_decimal-requires : goal.put_decimal-requires
unfolding verdict_text
put_decimal-requires c =
    room_first _ (decimal c.args.shown.verdict) ((32 ∷ decimal c.args.shown.corrected) ++ ((32 ∷ []) ++ ((word_text c.args.digits c.args.shown) ++ (place_text c.args.shown)))) c.requires

pub put_field-requires : goal.put_field-requires
unfolding verdict_text
put_field-requires c =
    let room1 = room_then (decimal c.args.shown.verdict) ((32 ∷ decimal c.args.shown.corrected) ++ ((32 ∷ []) ++ ((word_text c.args.digits c.args.shown) ++ (place_text c.args.shown)))) c.requires c.put_decimal.ensures in
    room_first _ (32 ∷ decimal c.args.shown.corrected) ((32 ∷ []) ++ ((word_text c.args.digits c.args.shown) ++ (place_text c.args.shown))) room1

pub put-requires : goal.put-requires
unfolding verdict_text
put-requires c =
    let room1 = room_then (decimal c.args.shown.verdict) ((32 ∷ decimal c.args.shown.corrected) ++ ((32 ∷ []) ++ ((word_text c.args.digits c.args.shown) ++ (place_text c.args.shown)))) c.requires c.put_decimal.ensures in
    let room2 = room_then (32 ∷ decimal c.args.shown.corrected) ((32 ∷ []) ++ ((word_text c.args.digits c.args.shown) ++ (place_text c.args.shown))) room1 c.put_field.ensures in
    room_one _ 32 ((word_text c.args.digits c.args.shown) ++ (place_text c.args.shown)) room2

pub put_word-requires : goal.put_word-requires
unfolding verdict_text
put_word-requires c =
    let room1 = room_then (decimal c.args.shown.verdict) ((32 ∷ decimal c.args.shown.corrected) ++ ((32 ∷ []) ++ ((word_text c.args.digits c.args.shown) ++ (place_text c.args.shown)))) c.requires c.put_decimal.ensures in
    let room2 = room_then (32 ∷ decimal c.args.shown.corrected) ((32 ∷ []) ++ ((word_text c.args.digits c.args.shown) ++ (place_text c.args.shown))) room1 c.put_field.ensures in
    let room3 = room_then (32 ∷ []) ((word_text c.args.digits c.args.shown) ++ (place_text c.args.shown)) room2 c.put.ensures in
    room_first _ (word_text c.args.digits c.args.shown) (place_text c.args.shown) room3

pub put_place-requires : goal.put_place-requires
unfolding verdict_text
put_place-requires c =
    let room1 = room_then (decimal c.args.shown.verdict) ((32 ∷ decimal c.args.shown.corrected) ++ ((32 ∷ []) ++ ((word_text c.args.digits c.args.shown) ++ (place_text c.args.shown)))) c.requires c.put_decimal.ensures in
    let room2 = room_then (32 ∷ decimal c.args.shown.corrected) ((32 ∷ []) ++ ((word_text c.args.digits c.args.shown) ++ (place_text c.args.shown))) room1 c.put_field.ensures in
    let room3 = room_then (32 ∷ []) ((word_text c.args.digits c.args.shown) ++ (place_text c.args.shown)) room2 c.put.ensures in
    room_then (word_text c.args.digits c.args.shown) (place_text c.args.shown) room3 c.put_word.ensures

pub returns : goal.returns
unfolding verdict_text
returns c =
    puts_then (decimal c.args.shown.verdict) ((32 ∷ decimal c.args.shown.corrected) ++ ((32 ∷ []) ++ ((word_text c.args.digits c.args.shown) ++ (place_text c.args.shown)))) c.put_decimal.ensures
    (puts_then (32 ∷ decimal c.args.shown.corrected) ((32 ∷ []) ++ ((word_text c.args.digits c.args.shown) ++ (place_text c.args.shown))) c.put_field.ensures
    (puts_then (32 ∷ []) ((word_text c.args.digits c.args.shown) ++ (place_text c.args.shown)) c.put.ensures
    (puts_then (word_text c.args.digits c.args.shown) (place_text c.args.shown) c.put_word.ensures
    c.put_place.ensures)))

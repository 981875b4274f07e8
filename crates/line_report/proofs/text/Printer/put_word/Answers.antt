-- `line_report::text::Printer::put_word` meets its contract: by the test of the verdict, a dash or the digits. Assumes nothing.
use Rattle.std.proofs.Common.{[], refl, arith, rules}
use Rattle.laws.proofs.Rules.{said}
use Rattle.line_report.specs.Text.{word_text}
use Rattle.line_report.proofs.Write.{room_one}
use Rattle.line_report.proofs.Word.{hex_room, hex_stored}
use Rattle.line_report.proofs.text.Printer.put_word.Goals as goal

pub put-requires : goal.put-requires
unfolding word_text
put-requires c =
    room_one _ 45 [] (rw (said _ _ _ c.prints_dash.ensures c.if-prints_dash.true) at c.requires)

pub returns-then-prints_dash : goal.returns-then-prints_dash
unfolding word_text
returns-then-prints_dash c =
    rw (said _ _ _ c.prints_dash.ensures c.if-prints_dash.true) c.put.ensures

pub slice_bounds-write_hex-count : goal.slice_bounds-write_hex-count
slice_bounds-write_hex-count c =
    let room = hex_room _ _ _ (said _ _ _ c.prints_dash.ensures c.if-prints_dash.false) c.requires in
    omega arith

pub slice_bounds-write_hex-start : goal.slice_bounds-write_hex-start
slice_bounds-write_hex-start c =
    let room = hex_room _ _ _ (said _ _ _ c.prints_dash.ensures c.if-prints_dash.false) c.requires in
    search rules

pub overflow_add-self : goal.overflow_add-self
overflow_add-self c =
    let room = hex_room _ _ _ (said _ _ _ c.prints_dash.ensures c.if-prints_dash.false) c.requires in
    search rules

pub returns : goal.returns
returns c =
    record {
      same_buffer = refl;
      text_at = hex_stored _ _ _ _ _ (said _ _ _ c.prints_dash.ensures c.if-prints_dash.false) c.requires c.write_hex.ensures;
    }

-- `trace::records::add_record` meets its contract: the tail of the buffer is lent from the next free place on. Assumes nothing.
use mathlib.Core.Path.{ap₂}
use native.Mathlib.Numerals.{add-one}
use Rattle.trace.specs.Run.{run_done}
use Rattle.trace.proofs.FiveNumbers.{tail_set}
use Rattle.trace.proofs.records.add_record.Goals as goal

pub returns : goal.returns
returns c =
    ap₂ (run_done c.args.receiver) (add-one c.args.records)
    (tail_set c.args.buffer.now _ _ c.args.new c.requires c.put_record.ensures)

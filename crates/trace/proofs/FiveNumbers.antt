-- A record's five numbers in a buffer. Assumes nothing.
use mathlib.Core.Path.{◌≡◌, sym, ◌∙◌}
use mathlib.Core.List.{List, ◌++◌, append-nil, append_assoc}
use Prim.Native.Nat.{ℕ, ◌+◌, ◌-◌, ◌≤◌}
use native.Mathlib.Omega.{arith}
use lib.ListN.{length, take, drop, length-drop, drop_of_length-le}
use lib.Seq.{sets, sets-eq, take_all, drop-drop}
use Rattle.trace.specs.Record.{record_numbers, numbers_of}
use Rattle.trace.specs.declared.TraceRecord.{TraceRecord}

-- the buffer once a record stands at the front of its tail
pub tail_set : (buffer tail : List ℕ) (next : ℕ) (new : TraceRecord) → next + record_numbers ≤ length buffer
    → tail ≡ numbers_of new ++ drop record_numbers (take (length buffer - next) (drop next buffer))
    → take next buffer ++ (tail ++ drop (length buffer - next) (drop next buffer)) ≡ sets buffer next (numbers_of new)
tail_set buffer tail next new room wrote =
    let long : length (drop next buffer) ≤ length buffer - next = omega (arith, length-drop next buffer) in
    rw (drop_of_length-le (drop next buffer) long, append-nil, wrote, take_all (length buffer - next) (drop next buffer) long, drop-drop record_numbers next buffer)
    (sym (sets-eq (numbers_of new) buffer next room ∙ append_assoc (take next buffer) (numbers_of new) (drop (next + record_numbers) buffer)))

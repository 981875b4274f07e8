-- Document 02, Q-3: the record of one clock of a block. `TraceRecord` is a struct of src/lib.rt.
use Rattle.std.specs.Prelude.{ℕ, ◌+◌, ◌*◌, List, [], ◌∷◌}
use Rattle.receiver_state.specs.declared.Counters.{Counters}
use Rattle.receiver_state.specs.declared.Outputs.{Outputs}
use Rattle.trace.specs.declared.TraceRecord.{TraceRecord}

-- "a code (verdict + 16 corrected + 32 trigger + 64 missed)"
abbrev pub code_of : Outputs → ℕ
code_of shown = shown.verdict + 16 * shown.corrected + 32 * shown.trigger + 64 * shown.missed

-- "place in the block (from 0), bunch and event counts before the clock, a code .., the word"
abbrev pub trace_record : ℕ → Counters → Outputs → TraceRecord
trace_record place before shown =
    record { place = place; bunch = before.bunch; event = before.event; code = code_of shown; word = shown.word }

-- "five 32-bit numbers"
abbrev pub record_numbers : ℕ
record_numbers = 5

abbrev pub numbers_of : TraceRecord → List ℕ
numbers_of one = one.place ∷ one.bunch ∷ one.event ∷ one.code ∷ one.word ∷ []

-- For document 01, "Stored lines": a text stored in a buffer from a position on. Only private contracts cite it.
use Rattle.std.specs.Prelude.{◌≡◌, ℕ, ◌+◌, ◌^◌, ◌<◌, ◌≤◌, List, length}
use Rattle.std.proofs.lemmas.List.Edits.{sets}
use Rattle.receiver_state.specs.declared.Errors.{Errors}
use Rattle.receiver_state.specs.declared.Counters.{Counters}
use Rattle.line_report.specs.declared.text.Printer.{Printer}
use Rattle.line_report.specs.Text.{end_text}

-- the position after the text, and what the buffer then holds
pub record TextAt (next at : ℕ) (text before after : List ℕ) : Type 0 where
  pub next_is : next ≡ at + length text
  pub stored : after ≡ sets before at text

-- there is room for a text at the printer's position
abbrev pub HasRoom : List ℕ → Printer → Type 0
HasRoom text printer = printer.at + length text ≤ length printer.out.now

-- the text is stored there, in the same buffer
pub record Puts (text : List ℕ) (before after : Printer) : Type 0 where
  pub same_buffer : after.out.ghost_name ≡ before.out.ghost_name
  pub text_at : TextAt after.at before.at text before.out.now after.out.now

-- there is room for the end, if its numbers fit their types
abbrev pub HasRoomForEnd : Errors → Counters → Printer → Type 0
HasRoomForEnd errors counters printer =
    errors.single < 2 ^ 16 → errors.double < 2 ^ 8 → counters.event < 2 ^ 32 → counters.bunch < 2 ^ 16
    → HasRoom (end_text errors.single errors.double counters.event counters.bunch) printer

-- A whole frame whose kind is given by its format bit, as a stored line that was read answers it.
use Rattle.std.specs.Prelude.{ℕ, ◌<◌, ◌≡◌, true, false, cond, List, eqb, ltb}
use Rattle.frame.specs.declared.Kind.{Kind}
use Rattle.frame.specs.declared.Kind.TheVariants.{Short, Long}
use Rattle.frame.specs.Numbers.{format_bit}
use Rattle.receiver_state.specs.declared.Receiver.{Receiver}
use Rattle.receiver_state.specs.WellFormed.{well_formed}
use Rattle.receiver.specs.declared.ClockAnswer.{ClockAnswer}
use Rattle.receiver.specs.Clock.{refused_clock}
use Rattle.whole_frame.specs.WholeFrame.{receive_answer}

-- "Short frame (broadcast), 16 bits: start 0, format 0"; "Long frame (individually addressed), 42 bits: start 0, format 1"
unfoldable pub kind_of : ℕ → Kind
kind_of format = cond (eqb format 0) Short Long

-- refusal 2, "state not well formed"; then 12, "start, format or leading bits wrong for the length": no frame has a format over 1; else as for a
-- kind
unfoldable pub receive_by_format : (Kind → List ℕ) → Receiver → ℕ → ℕ → ClockAnswer
receive_by_format columns r format number =
    cond (well_formed r)
    (cond (ltb 1 format) (refused_clock 12 r) (receive_answer columns r (kind_of format) number))
    (refused_clock 2 r)

module _ (columns : Kind → List ℕ) where
  -- the format bit of a kind gives what the kind gives, refused or not
  abbrev pub OfAKind : Type 0
  OfAKind = (r : Receiver) (kind : Kind) (number : ℕ) → receive_by_format columns r (format_bit kind) number ≡ receive_answer columns r kind number

  -- a state that is not well formed is refused by 2, whatever the format
  abbrev pub OfBadState : Type 0
  OfBadState = (r : Receiver) (format number : ℕ) → well_formed r ≡ false → receive_by_format columns r format number ≡ refused_clock 2 r

  -- then any other number by 12
  abbrev pub OfNoKind : Type 0
  OfNoKind = (r : Receiver) (format number : ℕ) → well_formed r ≡ true → 1 < format → receive_by_format columns r format number ≡ refused_clock 12 r

-- Proved in proofs/ByFormatLaws.antt.
pub record FormatLaws (columns : Kind → List ℕ) : Type 0 where
  pub of_a_kind : OfAKind columns
  pub of_bad_state : OfBadState columns
  pub of_no_kind : OfNoKind columns

abbrev pub FormatTheorem : Type 0
FormatTheorem = (columns : Kind → List ℕ) → FormatLaws columns

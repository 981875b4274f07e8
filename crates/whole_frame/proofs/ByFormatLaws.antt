-- A kind that is given by its format bit. Assumes nothing.
use mathlib.Core.Path.{◌≡◌, refl, sym}
use mathlib.Core.List.{List}
use Prim.Native.Nat.{ℕ, ◌≤◌}
use native.Mathlib.Omega.{arith}
use borrow.Author.Tests.{lt-ltb, le-ltb}
use Rattle.laws.proofs.Rules.{by_test}
use Rattle.frame.specs.declared.Kind.{Kind}
use Rattle.frame.specs.declared.Kind.TheVariants.{Short, Long}
use Rattle.frame.specs.Numbers.{format_bit}
use Rattle.receiver_state.specs.declared.Receiver.{Receiver}
use Rattle.receiver_state.specs.WellFormed.{well_formed}
use Rattle.whole_frame.specs.WholeFrame.{receive_answer}
use Rattle.whole_frame.specs.ByFormat.{kind_of, receive_by_format, OfAKind, OfBadState, OfNoKind, FormatTheorem}

kind_back : (kind : Kind) → kind_of (format_bit kind) ≡ kind
unfolding kind_of
kind_back Short = refl
kind_back Long = refl

bit_small : (kind : Kind) → format_bit kind ≤ 1
bit_small Short = omega arith
bit_small Long = omega arith

module _ (columns : Kind → List ℕ) where
  -- whether or not the state is well formed
  pub accepted_format : (r : Receiver) (format number : ℕ) → format ≤ 1 → receive_answer columns r (kind_of format) number ≡ receive_by_format columns r format number
  unfolding receive_by_format receive_answer
  accepted_format r format number few =
      by_test (well_formed r) (λ w. rw (w, le-ltb 1 format few) refl) (λ w. rw w refl)

  of_a_kind : OfAKind columns
  of_a_kind r kind number = rw (sym (accepted_format r (format_bit kind) number (bit_small kind)), kind_back kind) refl

  of_bad_state : OfBadState columns
  unfolding receive_by_format
  of_bad_state r format number w = rw w refl

  of_no_kind : OfNoKind columns
  unfolding receive_by_format
  of_no_kind r format number w over = rw (w, lt-ltb 1 format over) refl

pub format_theorem : FormatTheorem
format_theorem columns = record { of_a_kind = of_a_kind columns; of_bad_state = of_bad_state columns; of_no_kind = of_no_kind columns }

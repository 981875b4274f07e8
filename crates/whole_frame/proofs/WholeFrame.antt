-- The clocks that carry a frame's bits, one more at a time. Assumes nothing.
use mathlib.Core.Path.{◌≡◌, sym, ap, ◌∙◌}
use mathlib.Core.List.{List}
use Prim.Native.Nat.{ℕ, suc, ◌/◌, ◌%◌, ◌^◌}
use native.Mathlib.Nat.{mod-lt}
use lib.Dec.{lit<}
use Rattle.frame.specs.declared.Kind.{Kind}
use Rattle.frame.specs.Bits.{bits_of}
use Rattle.frame.proofs.Bits.{bits_law}
use Rattle.receiver_state.specs.WellFormed.{ReceiverFacts}
use Rattle.receiver.specs.declared.ClockAnswer.{ClockAnswer}
use Rattle.receiver.specs.Clock.{step_answer}
use Rattle.receiver.proofs.Unchecked.{step_is_clock}
use Rattle.whole_frame.specs.WholeFrame.{clocks_answer}

-- one clock more, by the unchecked step, with the first of the bits left
pub clock_more : (columns : Kind → List ℕ) (before after : ClockAnswer) (n number bit : ℕ) → ReceiverFacts before.receiver → bit ≡ number / 2 ^ n % 2
    → after ≡ step_answer columns before.receiver 0 bit
    → clocks_answer columns after (bits_of n number) ≡ clocks_answer columns before (bits_of (suc n) number)
unfolding clocks_answer
clock_more columns before after n number bit f b e =
    ap (λ (answer : ClockAnswer). clocks_answer columns answer (bits_of n number))
    (e ∙ ap (step_answer columns before.receiver 0) b ∙ step_is_clock columns before.receiver 0 _ f (lit< tt) (mod-lt _ (lit< tt)))
    ∙ ap (clocks_answer columns before) (sym (bits_law.first n number))

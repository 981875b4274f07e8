-- A whole frame on a receiver that waits is the one that finishes; and what comes after. Assumes nothing.
use mathlib.Core.Path.{◌≡◌, refl, sym, ap, ◌∙◌}
use mathlib.Core.Bool.{true}
use mathlib.Core.List.{List, [], ◌∷◌}
use lib.Dec.{lit≤}
use Prim.Native.Nat.{ℕ}
use native.Mathlib.Omega.{arith}
use Rattle.laws.proofs.Rules.{picked, by_test}
use Rattle.frame.specs.declared.Kind.{Kind}
use Rattle.frame.specs.Numbers.{frame_bits, is_frame}
use Rattle.frame.specs.Columns.{columns_of, GoodTables}
use Rattle.frame.specs.Bits.{bits_of}
use Rattle.frame.proofs.OwnColumns.{tables_good}
use Rattle.receiver_state.specs.declared.Receiver.{Receiver}
use Rattle.receiver_state.specs.State.{receiver}
use Rattle.receiver_state.specs.WellFormed.{well_formed}
use Rattle.receiver_state.proofs.WellFormed.{receiver_facts}
use Rattle.channel_b.proofs.Laws.{waits_law}
use Rattle.verdicts.proofs.Laws.{not_zero}
use Rattle.receiver.specs.declared.ClockAnswer.{ClockAnswer}
use Rattle.receiver.specs.Clock.{refused_clock, clock_answer}
use Rattle.receiver.specs.Laws.{WaitsBut7}
use Rattle.receiver.proofs.Laws.{clock_theorem}
use Rattle.whole_frame.specs.WholeFrame.{clocks_answer, no_clock, receive_answer, SentFrameFinishes, SomeVerdict, WaitsAgain, LeftWanting, WantsAfter, OnesAfter7, WholeFrameTheorem, ReceiverWholeFrames}
use Rattle.whole_frame.proofs.AtOnce.{at_once, ones_at_once}

module _ (columns : Kind → List ℕ) (good : GoodTables columns) where
  sent_frame_finishes : SentFrameFinishes columns
  unfolding receive_answer
  sent_frame_finishes r kind number w waits e = rw (w, e) (at_once columns r kind number (receiver_facts r w) ((waits_law.is_waiting_lem r).0 waits) e)

  some_verdict : SomeVerdict columns
  some_verdict r kind number w waits e = rw (sent_frame_finishes r kind number w waits e) (not_zero columns kind number _)

  -- what holds of every clock, and before the first, holds of the last
  last_clock : (P : ClockAnswer → Type 0) → ((r : Receiver) (bit : ℕ) → P (clock_answer columns r 0 bit)) → (before : ClockAnswer) (bits : List ℕ)
      → P before → P (clocks_answer columns before bits)
  unfolding clocks_answer
  last_clock P clock before [] p = p
  last_clock P clock before (bit ∷ bits) p = last_clock P clock (clock_answer columns before.receiver 0 bit) bits (clock before.receiver bit)

  of_answer : (P : ClockAnswer → Type 0) → ((r : Receiver) (bit : ℕ) → P (clock_answer columns r 0 bit)) → ((r : Receiver) (refusal : ℕ) → P (refused_clock refusal r))
      → (r : Receiver) (kind : Kind) (number : ℕ) → P (receive_answer columns r kind number)
  unfolding receive_answer
  of_answer P clock refused r kind number =
      picked P (well_formed r)
      (picked P (is_frame kind number) (last_clock P clock (no_clock r) (bits_of (frame_bits kind) number) (refused r 0)) (refused r 12))
      (refused r 2)

  waits_again : WaitsAgain columns
  waits_again r kind number w waits e =
      of_answer WaitsBut7
      (λ r bit. (clock_theorem columns good).waits_after r 0 bit)
      (λ r refusal n m. absurd (n refl))
      r kind number (some_verdict r kind number w waits e)

  wants_after_7 : WantsAfter columns
  wants_after_7 =
      of_answer LeftWanting
      (λ r bit e. (after_7 r bit e, (clock_theorem columns good).wants_after_7 r 0 bit e))
      (λ r refusal e. absurd (zero_not_7 e))
    where
      zero_not_7 : ◌≡◌ {A = ℕ} 0 7 → ⊥
      zero_not_7 e = omega arith

      -- a refused clock has verdict 0
      after_7 : (r : Receiver) (bit : ℕ) → (clock_answer columns r 0 bit).outputs.verdict ≡ 7 → well_formed (clock_answer columns r 0 bit).receiver ≡ true
      after_7 r bit e =
          by_test (well_formed r) ((clock_theorem columns good).stays_well_formed r 0 bit)
          (λ t. absurd (zero_not_7 (sym (ap (λ (a : ClockAnswer). a.outputs.verdict) ((clock_theorem columns good).refused_by_2 r 0 bit t)) ∙ e)))

  clocks_stay : (before : ClockAnswer) (bits : List ℕ) → well_formed before.receiver ≡ true → well_formed (clocks_answer columns before bits).receiver ≡ true
  unfolding clocks_answer
  clocks_stay before [] w = w
  clocks_stay before (bit ∷ bits) w =
      clocks_stay (clock_answer columns before.receiver 0 bit) bits ((clock_theorem columns good).stays_well_formed before.receiver 0 bit w)

  ones_after_7 : OnesAfter7 columns
  ones_after_7 r w e = (ones_at_once columns r.core 40 (lit≤ tt) r (receiver_facts r w) (ap (receiver r.core) e), clocks_stay (no_clock r) _ w)

  stays : (r : Receiver) (kind : Kind) (number : ℕ) → well_formed r ≡ true → well_formed (receive_answer columns r kind number).receiver ≡ true
  unfolding receive_answer
  stays r kind number w =
      picked (λ (a : ClockAnswer). well_formed a.receiver ≡ true) (well_formed r)
      (picked (λ (a : ClockAnswer). well_formed a.receiver ≡ true) (is_frame kind number) (clocks_stay (no_clock r) (bits_of (frame_bits kind) number) w) w)
      w

pub whole_frame_theorem : WholeFrameTheorem
whole_frame_theorem columns good =
    record {
      sent_frame_finishes = sent_frame_finishes columns good;
      some_verdict = some_verdict columns good;
      waits_again = waits_again columns good;
      wants_after_7 = wants_after_7 columns good;
      ones_after_7 = ones_after_7 columns good;
      stays_well_formed = stays columns good;
    }

pub receiver_whole_frames : ReceiverWholeFrames
receiver_whole_frames = whole_frame_theorem columns_of tables_good

-- Document 01, "Frames on channel B" and "One clock": a whole frame sent to a receiver, one bit a clock, without triggers.
use Rattle.std.specs.Prelude.{ℕ, ◌≡◌, ◌≢◌, true, cond, List, [], ◌∷◌, replicate}
use Rattle.frame.specs.declared.Kind.{Kind}
use Rattle.frame.specs.Numbers.{frame_bits, is_frame}
use Rattle.frame.specs.Columns.{columns_of, GoodTables}
use Rattle.frame.specs.Bits.{bits_of}
use Rattle.receiver_state.specs.declared.Core.{Core}
use Rattle.receiver_state.specs.declared.Clocked.{Clocked}
use Rattle.receiver_state.specs.declared.Receiver.{Receiver}
use Rattle.receiver_state.specs.State.{wanting_ones, nothing_held}
use Rattle.receiver_state.specs.Shown.{no_outputs}
use Rattle.receiver_state.specs.WellFormed.{well_formed}
use Rattle.idle_clock.specs.AtRest.{settled, rest_for}
use Rattle.channel_b.specs.TakeBit.{held_after, Waits}
use Rattle.verdicts.specs.Finished.{finished_by}
use Rattle.receiver.specs.declared.ClockAnswer.{ClockAnswer}
use Rattle.receiver.specs.Clock.{clocked_answer, refused_clock, clock_answer}

-- clocks with these bits on channel B and trigger bit 0, each on the state that the one before left: the answer of the last, or with no bit the
-- answer given
unfoldable pub clocks_answer : (Kind → List ℕ) → ClockAnswer → List ℕ → ClockAnswer
clocks_answer columns before [] = before
clocks_answer columns before (bit ∷ bits) = clocks_answer columns (clock_answer columns before.receiver 0 bit) bits

-- before the first clock
abbrev pub no_clock : Receiver → ClockAnswer
no_clock r = record { refusal = 0; receiver = r; outputs = no_outputs }

-- refusal 2, "state not well formed", as for a clock; then 12, "start, format or leading bits wrong for the length"; else the answer of the frame's
-- last clock
unfoldable pub receive_answer : (Kind → List ℕ) → Receiver → Kind → ℕ → ClockAnswer
receive_answer columns r kind number =
    cond (well_formed r)
    (cond (is_frame kind number) (clocks_answer columns (no_clock r) (bits_of (frame_bits kind) number))
    (refused_clock 12 r))
    (refused_clock 2 r)

-- document 02, Q-1: after verdict 7 the receiver wants 41 ones
abbrev pub LeftWanting : ClockAnswer → Type 0
LeftWanting done = done.outputs.verdict ≡ 7 → (well_formed done.receiver ≡ true) × (done.receiver.held ≡ wanting_ones 41)

-- ---- on a receiver that waits

-- so many clocks without triggers that finish no frame, more than what was under way lasts: the bunch counter moves on, and nothing is shown
abbrev pub settled_clock : ℕ → Core → Clocked
settled_clock clocks core = record { core = rest_for clocks (settled core); outputs = no_outputs }

module _ (columns : Kind → List ℕ) where
  -- the frame that is sent is the one that finishes, with the verdict and the effect of its row
  abbrev pub SentFrameFinishes : Type 0
  SentFrameFinishes =
      (r : Receiver) (kind : Kind) (number : ℕ) → well_formed r ≡ true → Waits r → is_frame kind number ≡ true
      → receive_answer columns r kind number
      ≡ clocked_answer (held_after number) (finished_by columns kind number (settled_clock (frame_bits kind) r.core))

  abbrev pub SomeVerdict : Type 0
  SomeVerdict =
      (r : Receiver) (kind : Kind) (number : ℕ) → well_formed r ≡ true → Waits r → is_frame kind number ≡ true
      → (receive_answer columns r kind number).outputs.verdict ≢ 0

  -- and of every verdict but 7 the receiver then waits again
  abbrev pub WaitsAgain : Type 0
  WaitsAgain =
      (r : Receiver) (kind : Kind) (number : ℕ) → well_formed r ≡ true → Waits r → is_frame kind number ≡ true
      → let done = receive_answer columns r kind number in
      done.outputs.verdict ≢ 7 → Waits done.receiver

  -- ---- after verdict 7

  -- of every receiver, also where the last bit finished another frame than the one sent
  abbrev pub WantsAfter : Type 0
  WantsAfter = (r : Receiver) (kind : Kind) (number : ℕ) → LeftWanting (receive_answer columns r kind number)

  -- 41 clocks with a 1 on channel B and no trigger, on a receiver that wants 41 ones: it waits, and only the bunch counter and what was under way
  -- have moved
  abbrev pub OnesAfter7 : Type 0
  OnesAfter7 =
      (r : Receiver) → well_formed r ≡ true → r.held ≡ wanting_ones 41 → let done = clocks_answer columns (no_clock r) (replicate 41 1) in
      (done ≡ clocked_answer nothing_held (settled_clock 41 r.core)) × (well_formed done.receiver ≡ true)

-- Proved in proofs/WholeFrameLaw.antt.
pub record WholeFrameLaw (columns : Kind → List ℕ) : Type 0 where
  pub sent_frame_finishes : SentFrameFinishes columns
  pub some_verdict : SomeVerdict columns
  pub waits_again : WaitsAgain columns
  pub wants_after_7 : WantsAfter columns
  pub ones_after_7 : OnesAfter7 columns
  -- waiting or not, refused or not
  pub stays_well_formed : (r : Receiver) (kind : Kind) (number : ℕ) → well_formed r ≡ true → well_formed (receive_answer columns r kind number).receiver ≡ true

abbrev pub WholeFrameTheorem : Type 0
WholeFrameTheorem = (columns : Kind → List ℕ) → GoodTables columns → WholeFrameLaw columns

-- document 01's own columns
abbrev pub ReceiverWholeFrames : Type 0
ReceiverWholeFrames = WholeFrameLaw columns_of

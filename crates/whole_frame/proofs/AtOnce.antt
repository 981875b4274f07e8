-- A whole frame on a waiting receiver, without triggers: its clocks but the last only count, and the last one finishes it. And as many ones as a
-- receiver wants. Assumes nothing.
use mathlib.Core.Path.{◌≡◌, refl, sym, ap, ap₂, subst, ◌∙◌}
use mathlib.Core.Bool.{true}
use mathlib.Core.List.{List}
use lib.ListN.{replicate}
use Prim.Native.Nat.{ℕ, zero, suc, ◌+◌, ◌-◌, ◌/◌, ◌%◌, ◌^◌, ◌≤◌, ◌<◌}
use native.Mathlib.Nat.{add-zero, zero-add, mod-lt}
use native.Mathlib.Numerals.{add-one}
use native.Mathlib.Omega.{arith}
use lib.Dec.{lit<, lit≤}
use Rattle.frame.specs.declared.Kind.{Kind}
use Rattle.frame.specs.declared.Kind.TheVariants.{Short, Long}
use Rattle.frame.specs.Numbers.{frame_bits, is_frame}
use Rattle.frame.specs.Bits.{bits_of}
use Rattle.frame.proofs.Bits.{bits_law}
use Rattle.receiver_state.specs.declared.Core.{Core}
use Rattle.receiver_state.specs.declared.Clocked.{Clocked}
use Rattle.receiver_state.specs.declared.Held.{Held}
use Rattle.receiver_state.specs.declared.Receiver.{Receiver}
use Rattle.receiver_state.specs.State.{holding, wanting_ones, nothing_held, is_waiting, receiver}
use Rattle.receiver_state.specs.Shown.{no_outputs}
use Rattle.receiver_state.specs.WellFormed.{CoreFacts, ReceiverFacts}
use Rattle.receiver_state.proofs.HeldBits.{waiting_law}
use Rattle.idle_clock.specs.IdleClock.{idle_clock}
use Rattle.idle_clock.specs.AtRest.{settled, rest_for, untriggered_clocks, settling_clocks}
use Rattle.idle_clock.proofs.AtRest.{rest_laws}
use Rattle.channel_b.specs.declared.Taken.TheVariants.{Unfinished}
use Rattle.channel_b.specs.TakeBit.{take_bit, held_after}
use Rattle.channel_b.specs.Laws.{first_bits, bit_after}
use Rattle.channel_b.proofs.Bits.{bit_law}
use Rattle.verdicts.specs.Finished.{finished_by}
use Rattle.receiver.specs.declared.ClockAnswer.{ClockAnswer}
use Rattle.receiver.specs.Clock.{clocked_answer, clock_answer}
use Rattle.receiver.proofs.Keep.{step_facts}
use Rattle.receiver.proofs.Unchecked.{step_is_clock, unfinished_step, finished_step}
use Rattle.whole_frame.specs.WholeFrame.{clocks_answer, no_clock, settled_clock}

one_and : (n : ℕ) → 1 + n ≡ suc n
one_and n = omega arith

two_at_least : (kind : Kind) → frame_bits kind ≡ suc (suc (frame_bits kind - 2))
two_at_least Short = refl
two_at_least Long = refl

-- what was under way ends before the last clock of a frame
in_time : (kind : Kind) → settling_clocks ≤ suc (frame_bits kind - 2)
in_time Short = lit≤ tt
in_time Long = lit≤ tt

one_less : (n : ℕ) → suc n - 1 ≡ n
one_less n = omega arith

one_along : (n left : ℕ) → suc n + left ≡ n + suc left
one_along n left = omega arith

-- the last of a frame's clocks comes when all that was under way has ended
last_clock_rests : (n : ℕ) (core : Core) → CoreFacts core → settling_clocks ≤ n → idle_clock (untriggered_clocks n core) 0 ≡ settled_clock (suc n) core
last_clock_rests n core f h =
    let before = rest_for n (settled core) in
    let facts = rest_laws.rest_keeps n (settled core) (rest_laws.settled_keeps core f) in
    ap (λ (c : Core). idle_clock c 0) (rest_laws.settles n core f h)
    ∙ rest_laws.one_clock before facts (rest_laws.stays_at_rest n (settled core) ∙ rest_laws.settled_rests core)
    ∙ ap (λ (c : Core). record { core = c; outputs = no_outputs }) (rest_laws.one_more n (settled core) ∙ ap (λ (k : ℕ). rest_for k (settled core)) (add-one n))

-- ---- the frame, bit by bit

module _ (columns : Kind → List ℕ) (kind : Kind) (number : ℕ) (e : is_frame kind number ≡ true) (core : Core) where
  abbrev done : ℕ → ClockAnswer
  done n = clocked_answer (held_after number) (finished_by columns kind number (idle_clock (untriggered_clocks n core) 0))

  -- the clock of a bit on a state that is known
  module _ (a : ClockAnswer) (f : ReceiverFacts a.receiver) (n bit : ℕ) (small : bit < 2) (r : a.receiver ≡ receiver (untriggered_clocks n core) (first_bits kind number n))
      (b : bit ≡ bit_after kind number n) where
    taken : take_bit a.receiver.held bit ≡ take_bit (first_bits kind number n) (bit_after kind number n)
    taken = ap₂ take_bit (ap (λ (x : Receiver). x.held) r) b

    last_clock : n + 1 ≡ frame_bits kind → clock_answer columns a.receiver 0 bit ≡ done n
    last_clock w =
        sym (step_is_clock columns a.receiver 0 bit f (lit< tt) small)
        ∙ finished_step columns a.receiver 0 bit kind number (taken ∙ bit_law.last_bit kind number n e w)
        ∙ ap (λ (x : Receiver). clocked_answer (held_after number) (finished_by columns kind number (idle_clock x.core 0))) r

    next_clock : 1 ≤ n → n + 1 < frame_bits kind
        → clock_answer columns a.receiver 0 bit ≡ clocked_answer (first_bits kind number (n + 1)) (idle_clock (untriggered_clocks n core) 0)
    next_clock h w =
        sym (step_is_clock columns a.receiver 0 bit f (lit< tt) small)
        ∙ unfinished_step columns a.receiver 0 bit (first_bits kind number (n + 1)) (taken ∙ bit_law.next_bit kind number n e h w)
        ∙ ap (λ (x : Receiver). clocked_answer (first_bits kind number (n + 1)) (idle_clock x.core 0)) r

  clock_facts : (a : ClockAnswer) (bit : ℕ) → ReceiverFacts a.receiver → bit < 2 → ReceiverFacts (clock_answer columns a.receiver 0 bit).receiver
  clock_facts a bit f small =
      subst (λ (x : ClockAnswer). ReceiverFacts x.receiver) (step_is_clock columns a.receiver 0 bit f (lit< tt) small) (step_facts columns a.receiver 0 bit f small)

  place_of : (n left w : ℕ) → n + suc left ≡ w → w - (n + 1) ≡ left
  place_of n left w h = omega arith

  -- n bits are held, and the others come
  from_held : (left n : ℕ) → n + suc left ≡ frame_bits kind → 1 ≤ n → (a : ClockAnswer) → ReceiverFacts a.receiver
      → a.receiver ≡ receiver (untriggered_clocks n core) (first_bits kind number n)
      → clocks_answer columns a (bits_of (suc left) number) ≡ done (n + left)
  unfolding clocks_answer bits_of untriggered_clocks
  from_held zero n w h a f r =
      let b = ap (λ (k : ℕ). number / 2 ^ k % 2) (sym (place_of n 0 (frame_bits kind) w)) in
      ap (clocks_answer columns a) (bits_law.first 0 number)
      ∙ last_clock a f n (number / 2 ^ 0 % 2) (mod-lt _ (lit< tt)) r b w
      ∙ ap done (sym (add-zero n))
  from_held (suc left) n w h a f r =
      let bit = number / 2 ^ suc left % 2 in
      let small : bit < 2 = mod-lt _ (lit< tt) in
      let b = ap (λ (k : ℕ). number / 2 ^ k % 2) (sym (place_of n (suc left) (frame_bits kind) w)) in
      let next = clock_answer columns a.receiver 0 bit in
      let is = next_clock a f n bit small r b h (omega arith) in
      ap (clocks_answer columns a) (bits_law.first (suc left) number)
      ∙ from_held left (suc n) (omega arith) (omega arith) next (clock_facts a bit f small)
      (ap (λ (x : ClockAnswer). x.receiver) is ∙ ap (λ (k : ℕ). receiver (untriggered_clocks (suc n) core) (first_bits kind number k)) (add-one n))
      ∙ ap done (one_along n left)

-- ---- from waiting

module _ (columns : Kind → List ℕ) (r : Receiver) (kind : Kind) (number : ℕ) (f : ReceiverFacts r) (z : is_waiting r.held ≡ true) (e : is_frame kind number ≡ true) where
  first_clock : clock_answer columns r 0 0 ≡ clocked_answer (first_bits kind number 1) (idle_clock r.core 0)
  first_clock =
      sym (step_is_clock columns r 0 0 f (lit< tt) (lit< tt))
      ∙ unfinished_step columns r 0 0 (holding 1 0) (ap (λ (held : Held). take_bit held 0) ((waiting_law r.held f.of_held).0 z) ∙ bit_law.start_bit)
      ∙ ap (λ (bits : ℕ). clocked_answer (holding 1 bits) (idle_clock r.core 0)) (sym (bits_law.start kind number e))

  all_bits : (k : ℕ) → frame_bits kind ≡ suc (suc k) → clocks_answer columns (no_clock r) (bits_of (suc (suc k)) number) ≡ done columns kind number e r.core (suc k)
  unfolding clocks_answer untriggered_clocks
  all_bits k w =
      let place : frame_bits kind - 1 ≡ suc k = omega arith in
      let bit = ap (λ (n : ℕ). number / 2 ^ n % 2) (sym place) ∙ ap (λ (n : ℕ). n % 2) (bits_law.start kind number e) in
      ap (clocks_answer columns (no_clock r)) (bits_law.first (suc k) number)
      ∙ ap (λ (b : ℕ). clocks_answer columns (clock_answer columns r 0 b) (bits_of (suc k) number)) bit
      ∙ from_held columns kind number e r.core k 1 (omega arith) (omega arith) (clock_answer columns r 0 0) (clock_facts columns kind number e r.core (no_clock r) 0 f (lit< tt))
      (ap (λ (x : ClockAnswer). x.receiver) first_clock)
      ∙ ap (done columns kind number e r.core) (one_and k)

  pub at_once : clocks_answer columns (no_clock r) (bits_of (frame_bits kind) number)
      ≡ clocked_answer (held_after number) (finished_by columns kind number (settled_clock (frame_bits kind) r.core))
  at_once =
      let k = frame_bits kind - 2 in
      let size = two_at_least kind in
      ap (λ (n : ℕ). clocks_answer columns (no_clock r) (bits_of n number)) size
      ∙ all_bits k size
      ∙ ap (λ (c : Clocked). clocked_answer (held_after number) (finished_by columns kind number c)) (last_clock_rests (suc k) r.core f.of_core (in_time kind))
      ∙ ap (λ (n : ℕ). clocked_answer (held_after number) (finished_by columns kind number (settled_clock n r.core))) (sym size)

-- ---- as many ones as a receiver wants

module _ (columns : Kind → List ℕ) (core : Core) where
  one_clock : (a : ClockAnswer) (n others : ℕ) → ReceiverFacts a.receiver → a.receiver ≡ receiver (untriggered_clocks n core) (wanting_ones (suc others))
      → clock_answer columns a.receiver 0 1 ≡ clocked_answer (wanting_ones others) (idle_clock (untriggered_clocks n core) 0)
  one_clock a n others f r =
      sym (step_is_clock columns a.receiver 0 1 f (lit< tt) (lit< tt))
      ∙ unfinished_step columns a.receiver 0 1 (wanting_ones others) (ap (λ (x : Receiver). take_bit x.held 1) r ∙ bit_law.one_wanted (suc others) ∙ ap (λ (n : ℕ). Unfinished (wanting_ones n)) (one_less others))
      ∙ ap (λ (x : Receiver). clocked_answer (wanting_ones others) (idle_clock x.core 0)) r

  ones_from : (others n : ℕ) (a : ClockAnswer) → ReceiverFacts a.receiver
      → a.receiver ≡ receiver (untriggered_clocks n core) (wanting_ones (suc others))
      → clocks_answer columns a (replicate (suc others) 1) ≡ clocked_answer nothing_held (idle_clock (untriggered_clocks (n + others) core) 0)
  unfolding clocks_answer untriggered_clocks
  ones_from zero n a f r =
      one_clock a n 0 f r ∙ ap (λ (k : ℕ). clocked_answer nothing_held (idle_clock (untriggered_clocks k core) 0)) (sym (add-zero n))
  ones_from (suc others) n a f r =
      let is = one_clock a n (suc others) f r in
      let next = clock_answer columns a.receiver 0 1 in
      let facts = subst (λ (x : ClockAnswer). ReceiverFacts x.receiver) (step_is_clock columns a.receiver 0 1 f (lit< tt) (lit< tt)) (step_facts columns a.receiver 0 1 f (lit< tt)) in
      ones_from others (suc n) next facts (ap (λ (x : ClockAnswer). x.receiver) is)
      ∙ ap (λ (k : ℕ). clocked_answer nothing_held (idle_clock (untriggered_clocks k core) 0)) (one_along n others)

  pub ones_at_once : (others : ℕ) → settling_clocks ≤ others → (r : Receiver) → ReceiverFacts r → r ≡ receiver core (wanting_ones (suc others))
      → clocks_answer columns (no_clock r) (replicate (suc others) 1) ≡ clocked_answer nothing_held (settled_clock (suc others) core)
  unfolding untriggered_clocks
  ones_at_once others settle r f e =
      ones_from others 0 (no_clock r) f e
      ∙ ap (λ (n : ℕ). clocked_answer nothing_held (idle_clock (untriggered_clocks n core) 0)) (zero-add others)
      ∙ ap (clocked_answer nothing_held) (last_clock_rests others core (subst (λ (x : Receiver). CoreFacts x.core) e f.of_core) settle)

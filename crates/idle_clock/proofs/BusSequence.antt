-- What the bus shows and what is left of a sequence, from the state before the clock. Assumes nothing.
use mathlib.Core.Path.{◌≡◌, refl, ap, ◌∙◌}
use Prim.Native.Nat.{ℕ, ◌/◌, ◌^◌, ◌<◌}
use native.Mathlib.Omega.{arith}
use borrow.Author.Tests.{lt-ltb}
use lib.Dec.{eqb}
use Rattle.laws.proofs.Rules.{picked}
use Rattle.receiver_state.specs.declared.Core.{Core}
use Rattle.receiver_state.specs.declared.Outputs.{Outputs}
use Rattle.receiver_state.specs.State.{words_left, no_sequence}
use Rattle.receiver_state.specs.WellFormed.{CoreFacts}
use Rattle.idle_clock.specs.declared.Bus.{Bus}
use Rattle.idle_clock.specs.IdleClock.{bus, no_strobe, event_low, event_high, continued, started, bus_step, bus_of, idle_clock}
use Rattle.idle_clock.specs.Laws.{mode_of, StartsIn, Shows, BusShows, LeftIs, SequenceLeft}

module _ (core : Core) (trigger : ℕ) where
  -- ---- the step, by what is left and what comes

  two_left : core.sequence.left ≡ 2 → bus_of core trigger ≡ bus (words_left 1 core.sequence.event) 2 (event_low core.sequence.event) trigger
  unfolding bus_step continued
  two_left e = rw e refl

  one_left : core.sequence.left ≡ 1 → bus_of core trigger ≡ bus no_sequence 3 (event_high core.sequence.event) trigger
  unfolding bus_step continued
  one_left e = rw e refl

  starts : core.sequence.left ≡ 0 → trigger ≡ 1 → bus_of core trigger ≡ started core.counters (mode_of core)
  unfolding bus_step
  starts e t = rw (e, t) refl

  starts_in : (mode : ℕ) → StartsIn core trigger mode → bus_of core trigger ≡ started core.counters mode
  starts_in mode s = starts s.no_words s.triggered ∙ ap (started core.counters) s.in_mode

  no_start : core.sequence.left ≡ 0 → trigger ≡ 0 → bus_of core trigger ≡ no_strobe
  unfolding bus_step
  no_start e t = rw (e, t) refl

  missed : 0 < core.sequence.left → (bus_of core trigger).missed ≡ trigger
  unfolding bus_step continued
  missed h = rw (lt-ltb _ _ h) (picked (λ (b : Bus). b.missed ≡ trigger) (eqb core.sequence.left 2) refl refl)

  not_missed : core.sequence.left ≡ 0 → (bus_of core trigger).missed ≡ 0
  unfolding bus_step started
  not_missed e =
      rw e
      (picked Not (eqb trigger 1)
      (picked Not (eqb (mode_of core) 1) refl (picked Not (eqb (mode_of core) 2) refl (picked Not (eqb (mode_of core) 3) refl refl)))
      refl)
    where
      Not : Bus → Type 0
      Not b = b.missed ≡ 0

  -- ---- shown

  shows : (b : Bus) → bus_of core trigger ≡ b → Shows (idle_clock core trigger).outputs b.strobe b.number
  unfolding idle_clock
  shows b e = record { strobe_is = ap (λ (x : Bus). x.strobe) e; number_is = ap (λ (x : Bus). x.number) e }

  pub idle_shows : CoreFacts core → BusShows core trigger (idle_clock core trigger).outputs
  unfolding started idle_clock
  idle_shows f = record {
    trigger_shown = refl;
    missed_if_running = missed;
    not_missed = not_missed;
    event_low_next = λ e. shows _ (two_left e);
    event_high_next = λ e. high (shows _ (one_left e));
    mode_0 = λ s. shows _ (starts_in 0 s);
    mode_1 = λ s. shows _ (starts_in 1 s);
    mode_2 = λ s. shows _ (starts_in 2 s);
    mode_3 = λ s. shows _ (starts_in 3 s);
    nothing = λ e t. shows _ (no_start e t);
  }
    where
      -- an event number has 24 bits
      high : {shown : Outputs} → Shows shown 3 (event_high core.sequence.event) → Shows shown 3 (core.sequence.event / 2 ^ 12)
      high s =
          let below : core.sequence.event < 2 ^ 24 = f.of_sequence.kept_below in
          let whole : event_high core.sequence.event ≡ core.sequence.event / 2 ^ 12 = omega arith in
          record { strobe_is = s.strobe_is; number_is = s.number_is ∙ whole }

  -- ---- left

  left : (b : Bus) → bus_of core trigger ≡ b → LeftIs (idle_clock core trigger).core.sequence b.sequence.left b.sequence.event
  unfolding idle_clock
  left b e = record { words_are = ap (λ (x : Bus). x.sequence.left) e; event_is = ap (λ (x : Bus). x.sequence.event) e }

  pub idle_left : SequenceLeft core trigger (idle_clock core trigger).core.sequence
  unfolding started
  idle_left = record {
    one_more = λ e. left _ (two_left e);
    no_more = λ e. left _ (one_left e);
    from_mode_0 = λ s. left _ (starts_in 0 s);
    from_mode_1 = λ s. left _ (starts_in 1 s);
    from_mode_2 = λ s. left _ (starts_in 2 s);
    from_mode_3 = λ s. left _ (starts_in 3 s);
    still_none = λ e t. left _ (no_start e t);
  }

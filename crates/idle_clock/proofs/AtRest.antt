-- A core at rest, and how every core comes to rest. Assumes nothing.
use mathlib.Core.Path.{◌≡◌, refl, sym, ap, ◌∙◌}
use mathlib.Core.Bool.{true}
use Prim.Native.Nat.{ℕ, zero, suc, ◌+◌, ◌%◌, ◌≤◌, ◌<◌}
use native.Mathlib.Nat.{mod-lt}
use native.Mathlib.Numerals.{add-one}
use native.Mathlib.Omega.{arith}
use borrow.Author.Tests.{eqb-true}
use lib.Dec.{eqb, ltb, lit<}
use Rattle.laws.proofs.Rules.{picked, picked_by}
use Rattle.receiver_state.specs.declared.Counters.{Counters}
use Rattle.receiver_state.specs.declared.Sequence.{Sequence}
use Rattle.receiver_state.specs.declared.Core.{Core}
use Rattle.receiver_state.specs.declared.Clocked.{Clocked}
use Rattle.receiver_state.specs.State.{counters, no_sequence, with_counters, with_sequence}
use Rattle.receiver_state.specs.WellFormed.{SequenceFacts, CoreFacts}
use Rattle.receiver_state.proofs.Changes.{counters_changed, sequence_changed}
use Rattle.idle_clock.specs.declared.Bus.{Bus}
use Rattle.idle_clock.specs.IdleClock.{count_clock, continued, bus_step, bus_of, idle_clock}
use Rattle.idle_clock.specs.AtRest.{at_rest, settled, rest_for, untriggered_clocks, rest_clock, RestLaws}
use Rattle.idle_clock.proofs.Keep.{none_left}

-- ---- clocks at rest

-- no words left, and so no number kept
no_words : (s : Sequence) → SequenceFacts s → s.left ≡ 0 → s ≡ no_sequence
no_words s f z = rw (z, f.none_kept z) refl

one_clock : (core : Core) → CoreFacts core → at_rest core ≡ true → idle_clock core 0 ≡ rest_clock core
unfolding at_rest rest_for idle_clock bus_step count_clock
one_clock core f e =
    let none : core.sequence ≡ no_sequence = no_words core.sequence f.of_sequence (eqb-true core.sequence.left 0 e) in
    ap (λ (s : Sequence). idle_clock (with_sequence s core) 0) none ∙ ap (λ (s : Sequence). rest_clock (with_sequence s core)) (sym none)

one_more : (clocks : ℕ) (core : Core) → rest_for 1 (rest_for clocks core) ≡ rest_for (clocks + 1) core
unfolding rest_for
one_more clocks core = ap (λ (n : ℕ). with_counters (counters n core.counters.event) core) (add_mod core.counters.bunch clocks)
  where
    add_mod : (b k : ℕ) → ((b + k) % 4096 + 1) % 4096 ≡ (b + (k + 1)) % 4096
    add_mod b k = omega arith

no_clocks : (core : Core) → CoreFacts core → rest_for 0 core ≡ core
unfolding rest_for
no_clocks core f =
    ap (λ (n : ℕ). with_counters (counters n core.counters.event) core)
    (let b : core.counters.bunch < 4096 = f.of_counters.bunch_below in omega arith)

rest_keeps : (clocks : ℕ) (core : Core) → CoreFacts core → CoreFacts (rest_for clocks core)
unfolding rest_for
rest_keeps clocks core f =
    counters_changed _ core (record { bunch_below = mod-lt _ (lit< tt); event_below = f.of_counters.event_below }) f

stays_at_rest : (clocks : ℕ) (core : Core) → at_rest (rest_for clocks core) ≡ at_rest core
unfolding rest_for at_rest
stays_at_rest clocks core = refl

-- ---- coming to rest

settled_rests : (core : Core) → at_rest (settled core) ≡ true
unfolding at_rest
settled_rests core = refl

settled_keeps : (core : Core) → CoreFacts core → CoreFacts (settled core)
settled_keeps core f = sequence_changed _ core none_left f

-- two clocks end every sequence
one_left : (s : Sequence) (now : Counters) (control : ℕ) → s.left ≤ 2 → (bus_step s now control 0).sequence.left ≤ 1
unfolding bus_step continued
one_left s now control h =
    picked (λ (b : Bus). b.sequence.left ≤ 1) (ltb 0 s.left)
    (picked (λ (b : Bus). b.sequence.left ≤ 1) (eqb s.left 2) (omega arith) (omega arith)) (omega arith)

none_after : (s : Sequence) (now : Counters) (control : ℕ) → s.left ≤ 1 → (bus_step s now control 0).sequence ≡ no_sequence
unfolding bus_step continued
none_after s now control h =
    picked (λ (b : Bus). b.sequence ≡ no_sequence) (ltb 0 s.left)
    (picked_by (λ (b : Bus). b.sequence ≡ no_sequence) (eqb s.left 2) (λ t. absurd (let two : s.left ≡ 2 = eqb-true _ _ t in omega arith)) (λ t. refl))
    refl

two_clocks : (core : Core) → CoreFacts core → untriggered_clocks 2 core ≡ rest_for 2 (settled core)
unfolding untriggered_clocks idle_clock count_clock rest_for
two_clocks core f =
    ap (λ (s : Sequence). with_sequence s (with_counters (counters (((core.counters.bunch + 1) % 4096 + 1) % 4096) core.counters.event) core))
    (none_after (bus_of core 0).sequence (count_clock core.counters 0) core.settings.control
    (one_left core.sequence core.counters core.settings.control f.of_sequence.few))
    ∙ ap (λ (n : ℕ). with_counters (counters n core.counters.event) (settled core)) (two_more core.counters.bunch)
  where
    two_more : (b : ℕ) → ((b + 1) % 4096 + 1) % 4096 ≡ (b + 2) % 4096
    two_more b = omega arith

settles : (clocks : ℕ) (core : Core) → CoreFacts core → 2 ≤ clocks → untriggered_clocks clocks core ≡ rest_for clocks (settled core)
unfolding untriggered_clocks
settles zero core f h = absurd (omega arith)
settles (suc zero) core f h = absurd (omega arith)
settles (suc (suc zero)) core f h = two_clocks core f
settles (suc (suc (suc n))) core f h =
    let before = rest_for (suc (suc n)) (settled core) in
    ap (λ (c : Core). (idle_clock c 0).core) (settles (suc (suc n)) core f (omega arith))
    ∙ ap (λ (c : Clocked). c.core)
    (one_clock before (rest_keeps (suc (suc n)) (settled core) (settled_keeps core f)) (stays_at_rest (suc (suc n)) (settled core) ∙ settled_rests core))
    ∙ one_more (suc (suc n)) (settled core)
    ∙ ap (λ (k : ℕ). rest_for k (settled core)) (add-one (suc (suc n)))

pub rest_laws : RestLaws
rest_laws =
    record {
      one_clock = one_clock;
      stays_at_rest = stays_at_rest;
      no_clocks = no_clocks;
      one_more = one_more;
      rest_keeps = rest_keeps;
      settles = settles;
      settled_rests = settled_rests;
      settled_keeps = settled_keeps;
    }

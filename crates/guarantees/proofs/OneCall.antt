-- One call on a well-formed state: its refusal, the state it leaves, and what is held after it. Assumes nothing.
use mathlib.Core.Path.{◌≡◌, refl, sym, ap, ◌∙◌}
use mathlib.Core.Logic.{◌⊎◌, inl, inr}
use mathlib.Core.Bool.{Bool, true, false, cond, true≢false}
use mathlib.Core.List.{List}
use Prim.Native.Nat.{ℕ, ◌≤◌, ◌<◌}
use native.Mathlib.Omega.{arith}
use borrow.Author.Tests.{eqb-true, ltb-true, ltb-false, le-ltb, lt-ltb}
use lib.Dec.{eqb, ltb}
use Rattle.laws.proofs.Rules.{by_test}
use Rattle.frame.specs.declared.Kind.{Kind}
use Rattle.receiver_state.specs.declared.Core.{Core}
use Rattle.receiver_state.specs.declared.Held.{Held}
use Rattle.receiver_state.specs.declared.Receiver.{Receiver}
use Rattle.receiver_state.specs.State.{receiver, nothing_held}
use Rattle.receiver_state.specs.WellFormed.{well_formed}
use Rattle.receiver_state.proofs.WellFormed.{receiver_facts, receiver_ok}
use Rattle.receiver_state.proofs.HeldBits.{none_facts}
use Rattle.receiver_state.specs.Shown.{no_outputs}
use Rattle.receiver.specs.declared.ClockAnswer.{ClockAnswer}
use Rattle.channel_b.specs.declared.Taken.{Taken}
use Rattle.channel_b.specs.declared.Taken.TheVariants.{Unfinished, Finished}
use Rattle.channel_b.specs.TakeBit.{take_bit, held_after, held_after_bit}
use Rattle.idle_clock.specs.IdleClock.{idle_clock}
use Rattle.verdicts.specs.Finished.{finished_by}
use Rattle.receiver.specs.Laws.{ClockLaws}
use Rattle.register_map.specs.Map.{register_byte}
use Rattle.register_map.specs.Change.{after_write}
use Rattle.registers.specs.Access.{read_refusal, read_answer, write_refusal, write_answer}
use Rattle.registers.proofs.Laws.{write_laws}
use Rattle.guarantees.specs.Calls.{Call, clock, read, write, CallResult, result, call, refusal_of, carried}
use Rattle.guarantees.proofs.HeldBits.{held_over}

-- ---- the arguments

-- a clock that is not refused has two bits
pub accepted_bits : (trigger bit : ℕ) → refusal_of (clock trigger bit) ≡ 0 → (trigger < 2) × (bit < 2)
unfolding refusal_of
accepted_bits trigger bit e =
    by_test (ltb 1 trigger) (λ t. absurd (let z : ◌≡◌ {A = ℕ} 1 0 = rw t at e in omega arith))
    (λ t. by_test (ltb 1 bit) (λ b. absurd (let z : ◌≡◌ {A = ℕ} 1 0 = rw (t, b) at e in omega arith))
    (λ b. (let h : trigger ≤ 1 = ltb-false 1 trigger t in omega arith, let k : bit ≤ 1 = ltb-false 1 bit b in omega arith)))

pub bits_accepted : (trigger bit : ℕ) → trigger < 2 → bit < 2 → refusal_of (clock trigger bit) ≡ 0
unfolding refusal_of
bits_accepted trigger bit t b =
    let h : trigger ≤ 1 = omega arith in
    let k : bit ≤ 1 = omega arith in
    rw (le-ltb _ _ h, le-ltb _ _ k) refl

-- any other has one that is none
refused_bits : (trigger bit : ℕ) → eqb (refusal_of (clock trigger bit)) 0 ≡ false → (1 < trigger) ⊎ (1 < bit)
unfolding refusal_of
refused_bits trigger bit e =
    by_test (ltb 1 trigger) (λ t. inl (ltb-true 1 trigger t))
    (λ t. by_test (ltb 1 bit) (λ b. inr (ltb-true 1 bit b))
    (λ b. absurd (true≢false (rw (t, b) at e))))

refused_by_1 : (trigger bit : ℕ) → (1 < trigger) ⊎ (1 < bit) → refusal_of (clock trigger bit) ≡ 1
unfolding refusal_of
refused_by_1 trigger bit (inl h) = rw (lt-ltb _ _ h) refl
refused_by_1 trigger bit (inr h) = rw (lt-ltb _ _ h) (same (ltb 1 trigger))
  where
    same : (t : Bool) → ◌≡◌ {A = ℕ} (cond t 1 1) 1
    same true = refl
    same false = refl

-- ---- the state

-- a core that is well formed beside some bits held is so beside none
pub holding_none : (core : Core) (held : Held) → well_formed (receiver core held) ≡ true → well_formed (receiver core nothing_held) ≡ true
holding_none core held e = receiver_ok _ (record { of_core = (receiver_facts _ e).of_core; of_held = none_facts })

-- ---- the calls

-- an access sees and changes the core alone
pub reads : (columns : Kind → List ℕ) (core : Core) (held : Held) (number : ℕ) → well_formed (receiver core held) ≡ true
    → call columns (receiver core held) (read number)
    ≡ result (receiver core held) (read_refusal number) no_outputs (cond (eqb (read_refusal number) 0) (register_byte core number) 0)
unfolding call read_answer
reads columns core held number e =
    by_test (eqb (read_refusal number) 0) (λ t. rw (e, t, eqb-true (read_refusal number) 0 t) refl) (λ t. rw (e, t) refl)

pub writes : (columns : Kind → List ℕ) (core : Core) (held : Held) (number value : ℕ) → well_formed (receiver core held) ≡ true
    → call columns (receiver core held) (write number value)
    ≡ result (receiver (cond (eqb (write_refusal number value) 0) (after_write core number value) core) held) (write_refusal number value) no_outputs 0
unfolding call write_answer
writes columns core held number value e =
    by_test (eqb (write_refusal number value) 0) (λ t. rw (e, t, eqb-true (write_refusal number value) 0 t) refl) (λ t. rw (e, t) refl)

module _ (columns : Kind → List ℕ) (laws : ClockLaws columns) where
  pub refused_clock_lem : (r : Receiver) (trigger bit : ℕ) → well_formed r ≡ true → eqb (refusal_of (clock trigger bit)) 0 ≡ false
      → call columns r (clock trigger bit) ≡ result r 1 no_outputs 0
  unfolding call
  refused_clock_lem r trigger bit e h = rw (laws.refused_by_1 r trigger bit e (refused_bits trigger bit h)) refl

  -- a clock that finishes no frame
  pub unfinished_clock : (core : Core) (held after : Held) (trigger bit : ℕ) → well_formed (receiver core held) ≡ true
      → refusal_of (clock trigger bit) ≡ 0 → take_bit held bit ≡ Unfinished after
      → let idle = idle_clock core trigger in
      call columns (receiver core held) (clock trigger bit) ≡ result (receiver idle.core after) 0 idle.outputs 0
  unfolding call
  unfinished_clock core held after trigger bit e h t =
      let b = accepted_bits trigger bit h in
      rw (laws.no_frame_law (receiver core held) trigger bit after (e, b.0, b.1) t) refl

  pub refuses : (r : Receiver) (c : Call) → well_formed r ≡ true → (call columns r c).answer.refusal ≡ refusal_of c
  unfolding call refusal_of
  refuses r (clock trigger bit) e =
      by_test (eqb (refusal_of (clock trigger bit)) 0)
      (λ t.
      let z = eqb-true (refusal_of (clock trigger bit)) 0 t in
      (laws.nothing_else_refused r trigger bit).1 (e, (accepted_bits trigger bit z).0, (accepted_bits trigger bit z).1) ∙ sym z)
      (λ t.
      let h = refused_bits trigger bit t in
      ap (λ (a : ClockAnswer). a.refusal) (laws.refused_by_1 r trigger bit e h) ∙ sym (refused_by_1 trigger bit h))
  refuses r (read number) e = ap (λ (d : CallResult). d.answer.refusal) (reads columns r.core r.held number e)
  refuses r (write number value) e = ap (λ (d : CallResult). d.answer.refusal) (writes columns r.core r.held number value e)

  pub keeps : (r : Receiver) (c : Call) → well_formed r ≡ true → well_formed (call columns r c).receiver ≡ true
  unfolding call
  keeps r (clock trigger bit) e = laws.stays_well_formed r trigger bit e
  keeps r (read number) e = e
  keeps r (write number value) e = write_laws.stays_well_formed r number value e

  -- a clock that finishes one
  pub finished_clock : (core : Core) (held : Held) (trigger bit : ℕ) (kind : Kind) (number : ℕ) → well_formed (receiver core held) ≡ true
      → refusal_of (clock trigger bit) ≡ 0 → take_bit held bit ≡ Finished kind number
      → let done = finished_by columns kind number (idle_clock core trigger) in
      call columns (receiver core held) (clock trigger bit) ≡ result (receiver done.core (held_after number)) 0 done.outputs 0
  unfolding call
  finished_clock core held trigger bit kind number e h t =
      let b = accepted_bits trigger bit h in
      rw (laws.frame_law (receiver core held) trigger bit kind number (e, b.0, b.1) t) refl

  -- what a call does to what is held
  pub holds_after : (r : Receiver) (c : Call) → well_formed r ≡ true → (call columns r c).receiver.held ≡ held_over r.held (carried c)
  unfolding carried held_over
  holds_after r (read number) e = ap (λ (d : CallResult). d.receiver.held) (reads columns r.core r.held number e)
  holds_after r (write number value) e = ap (λ (d : CallResult). d.receiver.held) (writes columns r.core r.held number value e)
  holds_after r (clock trigger bit) e =
      by_test (eqb (refusal_of (clock trigger bit)) 0)
      (λ t. rw t (by_taken (eqb-true (refusal_of (clock trigger bit)) 0 t) (take_bit r.held bit) refl))
      (λ t. rw t (ap (λ (d : CallResult). d.receiver.held) (refused_clock_lem r trigger bit e t)))
    where
      by_taken : refusal_of (clock trigger bit) ≡ 0 → (taken : Taken) → take_bit r.held bit ≡ taken
          → (call columns r (clock trigger bit)).receiver.held ≡ held_after_bit (take_bit r.held bit)
      by_taken z (Unfinished after) t = rw t (ap (λ (d : CallResult). d.receiver.held) (unfinished_clock r.core r.held after trigger bit e z t))
      by_taken z (Finished kind number) t = rw t (ap (λ (d : CallResult). d.receiver.held) (finished_clock r.core r.held trigger bit kind number e z t))

-- Waiting, finished frames, and what they leave held. Assumes nothing.
use Rattle.std.proofs.Common.{◌≡◌, ℕ, true, eqb, ◌↔◌, sym, refl, ap, subst, arith, eqb-true}
use Rattle.laws.proofs.Rules.{by_test, picked}
use Rattle.laws.proofs.Tests.{both}
use Rattle.frame.specs.Numbers.{stop_bit}
use Rattle.receiver_state.specs.declared.Core.{Core}
use Rattle.receiver_state.specs.declared.Held.{Held}
use Rattle.receiver_state.specs.declared.Receiver.{Receiver}
use Rattle.receiver_state.specs.State.{holding, wanting_ones, nothing_held, is_waiting, receiver, fresh_core}
use Rattle.receiver_state.specs.WellFormed.{HeldFacts}
use Rattle.receiver_state.proofs.WellFormed.{receiver_facts}
use Rattle.receiver_state.proofs.HeldBits.{wanting_facts, none_facts, waiting_law}
use Rattle.channel_b.specs.declared.Taken.{Taken}
use Rattle.channel_b.specs.declared.Taken.TheVariants.{Unfinished}
use Rattle.channel_b.specs.TakeBit.{between_frames, take_bit, held_after, held_after_bit, Waits}
use Rattle.channel_b.specs.Laws.{WaitsLaw, FreshWaits, FinishesFrames, AfterFrame}
use Rattle.channel_b.proofs.TakeBit.{TakenFacts, taken_facts}

pub waits_none : (core : Core) → Waits (receiver core nothing_held)
unfolding take_bit between_frames
waits_none core = record { none_held = refl; start_next = refl }

-- the second half of "waits": no ones are wanted
start_none : (h : Held) → h.count ≡ 0 → take_bit h 0 ≡ Unfinished (holding 1 0) → h.wanted ≡ 0
unfolding take_bit between_frames
start_none h z e =
    by_test (eqb h.wanted 0) (λ t. eqb-true h.wanted 0 t)
    (λ t. absurd (none_one (ap (λ (taken : Taken). (held_after_bit taken).count) (rw (z, t) at e))))
  where
    none_one : ◌≡◌ {A = ℕ} 0 1 → ⊥
    none_one z = omega arith

is_waiting_lem : (r : Receiver) → Waits r ↔ (is_waiting r.held ≡ true)
unfolding take_bit between_frames is_waiting
is_waiting_lem r = (
  λ w. rw (w.none_held, start_none r.held w.none_held w.start_next) refl,
  λ e.
      let z = both (eqb r.held.count 0) (eqb r.held.wanted 0) e in
      record { none_held = eqb-true r.held.count 0 z.0; start_next = rw (z.0, z.1) refl },
)

pub waits_law : WaitsLaw
waits_law =
    record {
      holds_nothing = λ r e. (
        λ w. (waiting_law r.held (receiver_facts r e).of_held).0 ((is_waiting_lem r).0 w),
        λ h. subst (λ (x : Held). Waits (receiver r.core x)) (sym h) (waits_none r.core),
      );
      is_waiting_lem = is_waiting_lem;
      wanting_waits_not = λ core wanted some w. let z = start_none (wanting_ones wanted) w.none_held w.start_next in absurd (omega (arith, z));
    }

pub fresh_waits : FreshWaits
fresh_waits own = waits_none (fresh_core own)

pub finishes_frames : FinishesFrames
finishes_frames held bit kind number f b e = subst TakenFacts e (taken_facts held bit f b)

stop_one : (number : ℕ) → stop_bit number ≡ 1 → held_after number ≡ nothing_held
unfolding held_after
stop_one number e = rw e refl

stop_zero : (number : ℕ) → stop_bit number ≡ 0 → held_after number ≡ wanting_ones 41
unfolding held_after
stop_zero number e = rw e refl

is_well_formed : (number : ℕ) → HeldFacts (held_after number)
unfolding held_after
is_well_formed number = picked HeldFacts (eqb (stop_bit number) 0) (wanting_facts 41 (omega arith)) none_facts

pub after_frame : AfterFrame
after_frame =
    record {
      waits = λ core number e. subst (λ (x : Held). Waits (receiver core x)) (sym (stop_one number e)) (waits_none core);
      stop_one = stop_one;
      stop_zero = stop_zero;
      is_well_formed = is_well_formed;
    }

-- A list of calls beside its idle list: as long as no frame finishes, the states differ in what is held alone, and the answers are the same.
-- Assumes nothing.
use mathlib.Core.Path.{◌≡◌, refl, sym, ap, subst, ◌∙◌}
use mathlib.Core.Bool.{Bool, true, false, cond}
use mathlib.Core.List.{List, [], ◌∷◌, map}
use Prim.Native.Nat.{ℕ}
use native.Mathlib.Omega.{arith}
use borrow.Author.Tests.{eqb-true}
use lib.Dec.{eqb}
use Rattle.frame.specs.declared.Kind.{Kind}
use Rattle.receiver_state.specs.declared.Core.{Core}
use Rattle.receiver_state.specs.declared.Held.{Held}
use Rattle.receiver_state.specs.declared.Receiver.{Receiver}
use Rattle.receiver_state.specs.State.{receiver, nothing_held}
use Rattle.receiver_state.specs.WellFormed.{well_formed}
use Rattle.idle_clock.specs.IdleClock.{idle_clock}
use Rattle.receiver_state.specs.Shown.{no_outputs}
use Rattle.channel_b.proofs.Bits.{bit_law}
use Rattle.receiver.specs.Laws.{ClockLaws}
use Rattle.guarantees.specs.Calls.{Call, clock, read, write, CallAnswer, CallResult, result, call, run, answers, refusal_of, carried, channel_b, idle_call, idle}
use Rattle.guarantees.proofs.OneCall.{accepted_bits, bits_accepted, holding_none, reads, writes, refused_clock_lem, unfinished_clock, keeps}
use Rattle.guarantees.proofs.HeldBits.{Holds, holds_append}

pub idle_accepted : (trigger bit : ℕ) → refusal_of (clock trigger bit) ≡ 0 → refusal_of (clock trigger 1) ≡ 0
idle_accepted trigger bit h = bits_accepted trigger 1 (accepted_bits trigger bit h).0 (omega arith)

module _ (columns : Kind → List ℕ) (laws : ClockLaws columns) where
  -- an idle clock of a receiver that holds no bit
  pub idle_clock_lem : (core : Core) (trigger bit : ℕ) → well_formed (receiver core nothing_held) ≡ true → refusal_of (clock trigger bit) ≡ 0
      → let idle = idle_clock core trigger in
      call columns (receiver core nothing_held) (clock trigger 1) ≡ result (receiver idle.core nothing_held) 0 idle.outputs 0
  idle_clock_lem core trigger bit e h =
      unfinished_clock columns laws core nothing_held nothing_held trigger 1 e (idle_accepted trigger bit h) bit_law.idle_bit

  -- ---- one call

  record Beside (core : Core) (held : Held) (c : Call) (after : Held) : Type 0 where
    pub next : Core
    pub here : (call columns (receiver core held) c).receiver ≡ receiver next after
    pub there : (call columns (receiver core nothing_held) (idle_call c)).receiver ≡ receiver next nothing_held
    pub same : (call columns (receiver core held) c).answer ≡ (call columns (receiver core nothing_held) (idle_call c)).answer
    pub none : (call columns (receiver core held) c).answer.outputs.verdict ≡ 0

  made : (core : Core) (held after : Held) (c : Call) (next : Core) (answer : CallAnswer)
      → call columns (receiver core held) c ≡ record { receiver = receiver next after; answer = answer }
      → call columns (receiver core nothing_held) (idle_call c) ≡ record { receiver = receiver next nothing_held; answer = answer }
      → answer.outputs.verdict ≡ 0 → Beside core held c after
  made core held after c next answer p q v =
      record {
        next = next;
        here = ap (λ (d : CallResult). d.receiver) p;
        there = ap (λ (d : CallResult). d.receiver) q;
        same = ap (λ (d : CallResult). d.answer) p ∙ sym (ap (λ (d : CallResult). d.answer) q);
        none = ap (λ (d : CallResult). d.answer.outputs.verdict) p ∙ v;
      }

  beside : (core : Core) (held after : Held) (c : Call) → well_formed (receiver core held) ≡ true → Holds held (carried c) after → Beside core held c after
  unfolding carried idle_call idle_clock
  beside core held after (read number) e h =
      subst (Beside core held (read number)) h
      (made core held held (read number) core _ (reads columns core held number e) (reads columns core nothing_held number (holding_none core held e)) refl)
  beside core held after (write number value) e h =
      subst (Beside core held (write number value)) h
      (made core held held (write number value) _ _ (writes columns core held number value e)
      (writes columns core nothing_held number value (holding_none core held e)) refl)
  beside core held after (clock trigger bit) e h = by_refusal (eqb (refusal_of (clock trigger bit)) 0) refl h
    where
      by_refusal : (t : Bool) → eqb (refusal_of (clock trigger bit)) 0 ≡ t → Holds held (cond t (bit ∷ []) []) after → Beside core held (clock trigger bit) after
      by_refusal true t (next, taken, same) =
          let z = eqb-true (refusal_of (clock trigger bit)) 0 t in
          subst (Beside core held (clock trigger bit)) same
          (made core held next (clock trigger bit) (idle_clock core trigger).core (result (receiver core held) 0 (idle_clock core trigger).outputs 0).answer
          (unfinished_clock columns laws core held next trigger bit e z taken)
          (rw t (idle_clock_lem core trigger bit (holding_none core held e) z))
          refl)
      by_refusal false t same =
          subst (Beside core held (clock trigger bit)) same
          (made core held held (clock trigger bit) core (result (receiver core held) 1 no_outputs 0).answer
          (refused_clock_lem columns laws (receiver core held) trigger bit e t)
          (rw t (refused_clock_lem columns laws (receiver core nothing_held) trigger bit (holding_none core held e) t))
          refl)

  -- ---- a list of calls that finishes no frame

  pub record Follows (core : Core) (held : Held) (cs : List Call) (after : Held) : Type 0 where
    pub last : Core
    pub here : run columns (receiver core held) cs ≡ receiver last after
    pub there : run columns (receiver core nothing_held) (idle cs) ≡ receiver last nothing_held
    pub same : answers columns (receiver core held) cs ≡ answers columns (receiver core nothing_held) (idle cs)
    pub none : map (λ (a : CallAnswer). a.outputs.verdict) (answers columns (receiver core held) cs) ≡ map (λ (c : Call). 0) cs
    pub is_well_formed : well_formed (receiver last after) ≡ true

  joined : (core : Core) (held between after : Held) (c : Call) (cs : List Call) (one : Beside core held c between)
      → Follows one.next between cs after → Follows core held (c ∷ cs) after
  unfolding run answers idle
  joined core held between after c cs one rest =
      record {
        last = rest.last;
        here = ap (λ (r : Receiver). run columns r cs) one.here ∙ rest.here;
        there = ap (λ (r : Receiver). run columns r (idle cs)) one.there ∙ rest.there;
        same = cc;
        none = cc (one.none, rest.none, one.here);
        is_well_formed = rest.is_well_formed;
      }

  pub follows : (cs : List Call) (core : Core) (held after : Held) → well_formed (receiver core held) ≡ true → Holds held (channel_b cs) after
      → Follows core held cs after
  unfolding run answers idle channel_b
  follows [] core held after e h =
      record {
        last = core;
        here = ap (receiver core) h;
        there = refl;
        same = refl;
        none = refl;
        is_well_formed = subst (λ (x : Held). well_formed (receiver core x) ≡ true) h e;
      }
  follows (c ∷ cs) core held after e h =
      let parts = holds_append (carried c) (channel_b cs) held after h in
      let one = beside core held parts.0 c e parts.1 in
      joined core held parts.0 after c cs one
      (follows cs one.next parts.0 after
      (subst (λ (r : Receiver). well_formed r ≡ true) one.here (keeps columns laws (receiver core held) c e))
      parts.2)

-- The last clock of a list that carries a frame, beside that of its idle list. Assumes nothing.
use mathlib.Core.Path.{◌≡◌, sym, ap, subst, ◌∙◌}
use mathlib.Core.Bool.{true}
use mathlib.Core.List.{List}
use Prim.Native.Nat.{ℕ}
use Rattle.frame.specs.declared.Kind.{Kind}
use Rattle.frame.specs.Numbers.{stop_bit, is_frame}
use Rattle.receiver_state.specs.declared.Core.{Core}
use Rattle.receiver_state.specs.declared.Held.{Held}
use Rattle.receiver_state.specs.declared.Receiver.{Receiver}
use Rattle.receiver_state.specs.State.{receiver, nothing_held}
use Rattle.receiver_state.specs.WellFormed.{well_formed}
use Rattle.idle_clock.specs.IdleClock.{idle_clock}
use Rattle.channel_b.specs.Laws.{first_bits}
use Rattle.channel_b.proofs.Laws.{waits_law, after_frame}
use Rattle.verdicts.specs.Finished.{finished_by}
use Rattle.receiver.specs.Laws.{ClockLaws}
use Rattle.guarantees.specs.Calls.{Call, clock, result, refusal_of, channel_b, idle}
use Rattle.guarantees.specs.FrameLists.{Sends, last_call, AsIdleBefore}
use Rattle.guarantees.proofs.HeldBits.{Holds, lead, lead_held, last_held}
use Rattle.guarantees.proofs.OneCall.{holding_none, finished_clock}
use Rattle.guarantees.proofs.Beside.{idle_clock_lem, follows}
use Rattle.guarantees.proofs.ChannelB.{Parts, parts}

module _ (columns : Kind → List ℕ) (laws : ClockLaws columns) where
  -- the last clock of a list that carries a frame, and that of its idle list, which comes from some core
  pub record Ending (r : Receiver) (before : List Call) (trigger bit : ℕ) (kind : Kind) (number : ℕ) : Type 0 where
    pub as_idle_before : AsIdleBefore columns r before
    pub core : Core
    pub ends : let done = finished_by columns kind number (idle_clock core trigger) in
        last_call columns r before (clock trigger bit) ≡ result (receiver done.core nothing_held) 0 done.outputs 0
    pub idle_ends : let done = idle_clock core trigger in
        last_call columns r (idle before) (clock trigger 1) ≡ result (receiver done.core nothing_held) 0 done.outputs 0

  ending_from : (core : Core) (before : List Call) (trigger bit : ℕ) (kind : Kind) (number : ℕ) → well_formed (receiver core nothing_held) ≡ true
      → is_frame kind number ≡ true → stop_bit number ≡ 1 → refusal_of (clock trigger bit) ≡ 0 → Parts before bit kind number
      → Ending (receiver core nothing_held) before trigger bit kind number
  unfolding last_call
  ending_from core before trigger bit kind number e frame stop h p =
      let taken : Holds nothing_held (channel_b before) (first_bits kind number (lead kind)) = rw p.lead_bits (lead_held kind number frame) in
      let f = follows columns laws before core nothing_held (first_bits kind number (lead kind)) e taken in
      record {
        as_idle_before =
            record {
              verdict_0 = f.none;
              answers_same = f.same;
              core_same = ap (λ (r : Receiver). r.core) f.here ∙ sym (ap (λ (r : Receiver). r.core) f.there);
            };
        core = f.last;
        ends = rw f.here
            (finished_clock columns laws f.last (first_bits kind number (lead kind)) trigger bit kind number f.is_well_formed h
            (rw p.last_bit (last_held kind number frame))
            ∙ ap (λ (held : Held). let done = finished_by columns kind number (idle_clock f.last trigger) in result (receiver done.core held) 0 done.outputs 0)
            (after_frame.stop_one number stop));
        idle_ends = rw f.there (idle_clock_lem columns laws f.last trigger bit (holding_none f.last _ f.is_well_formed) h);
      }

  pub ending : (r : Receiver) (before : List Call) (trigger bit : ℕ) (kind : Kind) (number : ℕ) → is_frame kind number ≡ true → stop_bit number ≡ 1
      → Sends r before trigger bit kind number → Ending r before trigger bit kind number
  ending r before trigger bit kind number frame stop s =
      let none : r.held ≡ nothing_held = (waits_law.holds_nothing r s.is_well_formed).0 s.waits in
      let same : r ≡ receiver r.core nothing_held = ap (receiver r.core) none in
      subst (λ (x : Receiver). Ending x before trigger bit kind number) (sym same)
      (ending_from r.core before trigger bit kind number (subst (λ (x : Receiver). well_formed x ≡ true) same s.is_well_formed) frame stop s.ends_on_clock
      (parts before trigger bit kind number s.ends_on_clock s.carries))

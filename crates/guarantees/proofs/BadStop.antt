-- Quiet after a bad stop, over lists of calls. Assumes nothing.
use mathlib.Core.Path.{◌≡◌, refl, sym, ap, subst, ◌∙◌}
use mathlib.Core.Logic.{inl, inr, ⊎_elim}
use mathlib.Core.Bool.{true}
use mathlib.Core.List.{List, [], ◌∷◌, ◌++◌, append_assoc, append-nil}
use Prim.Native.Nat.{ℕ, zero, suc, ◌+◌, ◌-◌, ◌≤◌}
use native.Mathlib.Omega.{arith}
use borrow.Author.Tests.{eqb-true, eqb-false}
use lib.Dec.{eqb, lit≤}
use lib.ListN.{length, length-append, length-replicate, replicate, replicate-append-replicate}
use Rattle.laws.proofs.Rules.{by_test}
use Rattle.frame.specs.declared.Kind.{Kind}
use Rattle.frame.specs.Columns.{columns_of, GoodTables}
use Rattle.frame.specs.Bits.{Bits}
use Rattle.frame.proofs.OwnColumns.{tables_good}
use Rattle.receiver_state.specs.declared.Core.{Core}
use Rattle.receiver_state.specs.declared.Held.{Held}
use Rattle.receiver_state.specs.declared.Receiver.{Receiver}
use Rattle.receiver_state.specs.State.{wanting_ones, nothing_held, receiver}
use Rattle.receiver_state.specs.WellFormed.{well_formed}
use Rattle.channel_b.specs.declared.Taken.TheVariants.{Unfinished}
use Rattle.channel_b.specs.TakeBit.{take_bit, Waits}
use Rattle.channel_b.proofs.Bits.{bit_law}
use Rattle.channel_b.proofs.Laws.{waits_law}
use Rattle.receiver.specs.declared.ClockAnswer.{ClockAnswer}
use Rattle.receiver.specs.Clock.{clock_answer}
use Rattle.receiver.specs.Laws.{ClockLaws}
use Rattle.receiver.proofs.Laws.{clock_theorem}
use Rattle.guarantees.specs.Calls.{Call, clock, read, write, call, run, answers, refusal_of, carried, channel_b, idle_call, idle}
use Rattle.guarantees.specs.FrameLists.{AsIdleBefore}
use Rattle.guarantees.specs.BadStop.{ones_after, ones_at_end, LastOnes, OnesAtEndLaw, No41InARow, First41st, BadStop, Quiet, WaitsThen, BadStopTheorem, ReceiverBadStop}
use Rattle.guarantees.proofs.HeldBits.{Holds, holds_one_more}
use Rattle.guarantees.proofs.ChannelB.{channel_b_append, channel_b_bits}
use Rattle.guarantees.proofs.EveryList.{stays_well_formed, forty_one_ones}
use Rattle.guarantees.proofs.Beside.{idle_accepted, follows}

-- ---- ones in a row

-- ones before a 1
ones_along : (m : ℕ) (bits : List ℕ) → replicate m 1 ++ (1 ∷ bits) ≡ replicate (suc m) 1 ++ bits
ones_along zero bits = refl
ones_along (suc m) bits = ap (λ (bs : List ℕ). 1 ∷ bs) (ones_along m bits)

last_ones : (bits : List ℕ) (m : ℕ) → Bits bits → LastOnes (ones_after m bits) (replicate m 1 ++ bits)
unfolding ones_after
last_ones [] m b = record { front = []; is = append-nil (replicate m 1); no_more = inl refl }
last_ones (zero ∷ bits) m (b, bs) =
    let rest = last_ones bits 0 bs in
    record {
      front = replicate m 1 ++ (0 ∷ rest.front);
      is = ap (λ (xs : List ℕ). replicate m 1 ++ (0 ∷ xs)) rest.is ∙ sym (append_assoc (replicate m 1) (0 ∷ rest.front) (replicate (ones_after 0 bits) 1));
      no_more = inr (⊎_elim
          (λ e. (replicate m 1, ap (λ (xs : List ℕ). replicate m 1 ++ (0 ∷ xs)) e))
          (λ e. (replicate m 1 ++ (0 ∷ e.0), ap (λ (xs : List ℕ). replicate m 1 ++ (0 ∷ xs)) e.1 ∙ sym (append_assoc (replicate m 1) (0 ∷ e.0) (0 ∷ []))))
          rest.no_more);
    }
last_ones (suc zero ∷ bits) m (b, bs) = subst (LastOnes (ones_after (suc m) bits)) (sym (ones_along m bits)) (last_ones bits (suc m) bs)
last_ones (suc (suc n) ∷ bits) m (b, bs) = absurd (omega arith)

pub ones_at_end_law : OnesAtEndLaw
ones_at_end_law bits b = last_ones bits 0 b

-- what comes after a 0 has no 41 ones in a row
after_zero : (m : ℕ) (bits : List ℕ) → No41InARow (replicate m 1 ++ (0 ∷ bits)) → No41InARow bits
after_zero m bits none_41 earlier later e =
    none_41 (replicate m 1 ++ (0 ∷ earlier)) later
    (ap (λ (xs : List ℕ). replicate m 1 ++ (0 ∷ xs)) e ∙ sym (append_assoc (replicate m 1) (0 ∷ earlier) _))

-- ---- the bits held

-- m ones have come since the bad stop bit or the last 0; the bits come after them
record Wanting (m : ℕ) (bits : List ℕ) : Type 0 where
  pub few : ones_after m bits ≤ 40
  pub holds : Holds (wanting_ones (41 - m)) bits (wanting_ones (41 - ones_after m bits))

wanting : (bits : List ℕ) (m : ℕ) → m ≤ 40 → Bits bits → No41InARow (replicate m 1 ++ bits) → Wanting m bits
unfolding ones_after
wanting [] m h b none_41 = record { few = h; holds = refl }
wanting (zero ∷ bits) m h (b, bs) none_41 =
    let rest = wanting bits 0 (omega arith) bs (after_zero m bits none_41) in
    let some : 41 - m ≡ suc (40 - m) = omega arith in
    record {
      few = rest.few;
      holds = (wanting_ones 41, ap (λ (n : ℕ). take_bit (wanting_ones n) 0) some ∙ bit_law.run_again (40 - m), rest.holds);
    }
wanting (suc zero ∷ bits) m h (b, bs) none_41 =
    let no_more = subst No41InARow (ones_along m bits) none_41 in
    let fewer : suc m ≤ 40 = not_41 m h bits no_more in
    let rest = wanting bits (suc m) fewer bs no_more in
    let one_less : (41 - m) - 1 ≡ 41 - suc m = omega arith in
    record {
      few = rest.few;
      holds = (wanting_ones (41 - suc m), bit_law.one_wanted (41 - m) ∙ ap (λ (n : ℕ). Unfinished (wanting_ones n)) one_less, rest.holds);
    }
  where
    not_41 : (m : ℕ) → m ≤ 40 → (bits : List ℕ) → No41InARow (replicate (suc m) 1 ++ bits) → suc m ≤ 40
    not_41 m h bits none_41 =
        by_test (eqb m 40)
        (λ t. absurd (none_41 [] bits (ap (λ (n : ℕ). replicate (suc n) 1 ++ bits) (eqb-true m 40 t))))
        (λ t. omega (arith, eqb-false m 40 t))
wanting (suc (suc n) ∷ bits) m h (b, bs) none_41 = absurd (omega arith)

-- any ones
holds_ones : (k wanted : ℕ) → Holds (wanting_ones wanted) (replicate k 1) (wanting_ones (wanted - k))
holds_ones zero wanted = ap wanting_ones (let e : wanted ≡ wanted - 0 = omega arith in e)
holds_ones (suc k) wanted =
    (wanting_ones (wanted - 1), bit_law.one_wanted wanted, subst (λ (n : ℕ). Holds (wanting_ones (wanted - 1)) (replicate k 1) (wanting_ones n)) (let e : (wanted - 1) - k ≡ wanted - suc k = omega arith in e) (holds_ones k (wanted - 1)))

-- ---- the idle list

idle_call_twice : (c : Call) → idle_call (idle_call c) ≡ idle_call c
unfolding idle_call
idle_call_twice (read number) = refl
idle_call_twice (write number value) = refl
idle_call_twice (clock trigger bit) =
    by_test (eqb (refusal_of (clock trigger bit)) 0)
    (λ t. rw (t, idle_accepted trigger bit (eqb-true (refusal_of (clock trigger bit)) 0 t)) refl)
    (λ t. rw (t, t) refl)

idle_twice : (calls : List Call) → idle (idle calls) ≡ idle calls
unfolding idle
idle_twice [] = refl
idle_twice (c ∷ cs) = cc (idle_call_twice c, idle_twice cs)

carried_one : (c : Call) → carried (idle_call c) ≡ replicate (length (carried c)) 1
unfolding carried idle_call
carried_one (read number) = refl
carried_one (write number value) = refl
carried_one (clock trigger bit) =
    by_test (eqb (refusal_of (clock trigger bit)) 0)
    (λ t. rw (t, idle_accepted trigger bit (eqb-true (refusal_of (clock trigger bit)) 0 t)) refl)
    (λ t. rw (t, t) refl)

channel_b_ones : (calls : List Call) → channel_b (idle calls) ≡ replicate (length (channel_b calls)) 1
unfolding channel_b idle
channel_b_ones [] = refl
channel_b_ones (c ∷ cs) =
    ap (λ (xs : List ℕ). xs ++ channel_b (idle cs)) (carried_one c)
    ∙ ap (λ (xs : List ℕ). replicate (length (carried c)) 1 ++ xs) (channel_b_ones cs)
    ∙ replicate-append-replicate (length (carried c)) (length (channel_b cs)) 1
    ∙ ap (λ (n : ℕ). replicate n 1) (sym (length-append (carried c) (channel_b cs)))

-- ---- the last clock

one_more : (calls : List Call) (last : ℕ) → refusal_of (clock last 1) ≡ 0 → Wanting 0 (channel_b calls)
    → Holds (wanting_ones 41) (channel_b (calls ++ (clock last 1 ∷ []))) (wanting_ones (40 - ones_at_end (channel_b calls)))
unfolding channel_b carried
one_more calls last accepted wants =
    let m = ones_at_end (channel_b calls) in
    let one_less : (41 - m) - 1 ≡ 40 - m = omega arith in
    let all : channel_b (calls ++ (clock last 1 ∷ [])) ≡ channel_b calls ++ (1 ∷ []) = rw (channel_b_append calls (clock last 1 ∷ []), accepted) refl in
    subst (λ (bits : List ℕ). Holds (wanting_ones 41) bits (wanting_ones (40 - m))) (sym all)
    (holds_one_more (channel_b calls) 1 (wanting_ones 41) (wanting_ones (41 - m)) (wanting_ones (40 - m)) wants.holds
    (bit_law.one_wanted (41 - m) ∙ ap (λ (n : ℕ). Unfinished (wanting_ones n)) one_less))

at_least_41 : (bits earlier : List ℕ) (k : ℕ) → bits ≡ earlier ++ replicate k 1 → 41 ≤ k → 41 - length bits ≡ 0
at_least_41 bits earlier k e h =
    let size : length bits ≡ length earlier + k = ap length e ∙ length-append earlier (replicate k 1) ∙ ap (λ (n : ℕ). length earlier + n) (length-replicate k 1) in
    omega arith

-- ---- lists of calls on a receiver that wants 41 ones

module _ (columns : Kind → List ℕ) (laws : ClockLaws columns) (core : Core) (w : well_formed (receiver core (wanting_ones 41)) ≡ true) where
  abbrev left : Receiver
  left = receiver core (wanting_ones 41)

  -- a list that finishes no frame, beside its idle list
  record Beside41 (calls : List Call) (after : Held) : Type 0 where
    pub as_idle : AsIdleBefore columns left calls
    pub last : Core
    pub here : run columns left calls ≡ receiver last after
    pub idle_here : run columns left (idle calls) ≡ receiver last (wanting_ones (41 - length (channel_b calls)))

  beside_41 : (calls : List Call) (after : Held) → Holds (wanting_ones 41) (channel_b calls) after → Beside41 calls after
  beside_41 calls after h =
      let one = follows columns laws calls core (wanting_ones 41) after w h in
      let ones : Holds (wanting_ones 41) (channel_b (idle calls)) (wanting_ones (41 - length (channel_b calls))) =
      rw (channel_b_ones calls) (holds_ones (length (channel_b calls)) 41) in
      let other = follows columns laws (idle calls) core (wanting_ones 41) (wanting_ones (41 - length (channel_b calls))) w ones in
      let there = subst (λ (cs : List Call). run columns (receiver core nothing_held) cs ≡ receiver other.last nothing_held) (idle_twice calls) other.there in
      let same_last : other.last ≡ one.last = ap (λ (r : Receiver). r.core) (sym there ∙ one.there) in
      let idle_here = other.here ∙ ap (λ (c : Core). receiver c (wanting_ones (41 - length (channel_b calls)))) same_last in
      record {
        as_idle =
            record {
              verdict_0 = one.none;
              answers_same = one.same ∙ sym (other.same ∙ ap (answers columns (receiver core nothing_held)) (idle_twice calls));
              core_same = ap (λ (r : Receiver). r.core) (one.here ∙ sym (ap (λ (c : Core). receiver c after) same_last)) ∙ sym (ap (λ (r : Receiver). r.core) other.here);
            };
        last = one.last;
        here = one.here;
        idle_here = idle_here;
      }

  quiet : (calls : List Call) → No41InARow (channel_b calls) → Quiet columns left calls
  quiet calls none_41 =
      let wants = wanting (channel_b calls) 0 (omega arith) (channel_b_bits calls) none_41 in
      let b = beside_41 calls (wanting_ones (41 - ones_at_end (channel_b calls))) wants.holds in
      record {
        as_idle = b.as_idle;
        held_is = ap (λ (r : Receiver). r.held) b.here;
        waits_not = λ waits. waits_law.wanting_waits_not b.last (41 - ones_at_end (channel_b calls)) (omega (arith, wants.few)) (subst Waits b.here waits);
      }

  waits_then : (calls : List Call) (last : ℕ) → First41st calls last → WaitsThen columns left calls last
  waits_then calls last first =
      let all = calls ++ (clock last 1 ∷ []) in
      let wants = wanting (channel_b calls) 0 (omega arith) (channel_b_bits calls) first.none_before in
      let b = beside_41 all (wanting_ones (40 - ones_at_end (channel_b calls))) (one_more calls last first.is_clock wants) in
      let waits = forty_one_ones columns laws left all first.earlier w first.last_41 in
      let is_well_formed = stays_well_formed columns laws all left w in
      let none : (run columns left all).held ≡ nothing_held = (waits_law.holds_nothing (run columns left all) is_well_formed).0 waits in
      let held_none : wanting_ones (40 - ones_at_end (channel_b calls)) ≡ nothing_held = sym (ap (λ (r : Receiver). r.held) b.here) ∙ none in
      let long : 41 - length (channel_b all) ≡ 0 = at_least_41 (channel_b all) first.earlier 41 first.last_41 (lit≤ tt) in
      record {
        as_idle = b.as_idle;
        waits = waits;
        is_well_formed = is_well_formed;
        same_state = b.here ∙ ap (receiver b.last) (held_none ∙ sym (ap wanting_ones long)) ∙ sym b.idle_here;
      }

-- ---- the theorem

module _ (columns : Kind → List ℕ) (good : GoodTables columns) where
  laws_of : ClockLaws columns
  laws_of = clock_theorem columns good

  -- what a clock with verdict 7 leaves
  wants_41 : (r : Receiver) (trigger bit : ℕ) (left : Receiver) → BadStop columns r trigger bit left → (left.held ≡ wanting_ones 41) × (well_formed left ≡ true)
  unfolding call
  wants_41 r trigger bit left bad =
      rw bad.leaves (laws_of.wants_after_7 r trigger bit bad.verdict_7, keeps_7 bad.verdict_7)
    where
      zero_not_7 : ◌≡◌ {A = ℕ} 0 7 → ⊥
      zero_not_7 e = omega arith

      keeps_7 : (clock_answer columns r trigger bit).outputs.verdict ≡ 7 → well_formed (clock_answer columns r trigger bit).receiver ≡ true
      keeps_7 e =
          by_test (well_formed r) (laws_of.stays_well_formed r trigger bit)
          (λ t. absurd (zero_not_7 (sym (ap (λ (a : ClockAnswer). a.outputs.verdict) (laws_of.refused_by_2 r trigger bit t)) ∙ e)))

  -- so it is the receiver that the lists above start from
  is_left : (P : Receiver → Type 0) (r : Receiver) (trigger bit : ℕ) (left : Receiver) → BadStop columns r trigger bit left
      → (well_formed (receiver left.core (wanting_ones 41)) ≡ true → P (receiver left.core (wanting_ones 41))) → P left
  is_left P r trigger bit left bad p =
      let wants = wants_41 r trigger bit left bad in
      let same : left ≡ receiver left.core (wanting_ones 41) = ap (receiver left.core) wants.0 in
      subst P (sym same) (p (subst (λ (x : Receiver). well_formed x ≡ true) same wants.1))

pub bad_stop_theorem : BadStopTheorem
bad_stop_theorem columns good =
    record {
      quiet_after = λ r trigger bit left calls bad none_41.
          is_left columns good (λ x. Quiet columns x calls) r trigger bit left bad (λ w. quiet columns (clock_theorem columns good) left.core w calls none_41);
      waits_at_41st = λ r trigger bit left calls last bad first.
          is_left columns good (λ x. WaitsThen columns x calls last) r trigger bit left bad
          (λ w. waits_then columns (clock_theorem columns good) left.core w calls last first);
    }

pub receiver_bad_stop : ReceiverBadStop
receiver_bad_stop = bad_stop_theorem columns_of tables_good

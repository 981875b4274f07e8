-- Clocks without a record, done together. Assumes nothing.
use mathlib.Core.Path.{◌≡◌, refl, sym, ap, subst, ◌∙◌}
use mathlib.Core.Bool.{Bool, true, false, not}
use mathlib.Core.List.{List}
use Prim.Native.Nat.{ℕ, zero, suc, ◌+◌, ◌-◌, ◌<◌, ◌≤◌}
use native.Mathlib.Nat.{add-zero, mod-lt}
use native.Mathlib.Omega.{arith}
use lib.Dec.{eqb, ltb, lit<}
use borrow.Author.Tests.{eqb-true, ltb-false}
use lib.ListN.{length, get_or, take, drop, length-drop}
use Rattle.std.specs.List.{position, position_or_len}
use Rattle.std.specs.Option.{unwrap_or}
use Rattle.std.proofs.lemmas.Bool.{not-false}
use Rattle.laws.proofs.Rules.{by_test}
use Rattle.std.proofs.lemmas.List.{take_all, get_or-drop}
use Rattle.std.proofs.lemmas.List.Sums.{prefix_len-le-length, fails_before_first}
use Rattle.frame.specs.declared.Kind.{Kind}
use Rattle.receiver_state.specs.declared.Core.{Core}
use Rattle.receiver_state.specs.declared.Held.{Held}
use Rattle.receiver_state.specs.declared.Clocked.{Clocked}
use Rattle.receiver_state.specs.State.{wanting_ones, receiver}
use Rattle.receiver_state.specs.WellFormed.{ReceiverFacts}
use Rattle.receiver_state.proofs.HeldBits.{no_bit}
use Rattle.idle_clock.specs.IdleClock.{idle_clock}
use Rattle.idle_clock.specs.AtRest.{at_rest}
use Rattle.idle_clock.proofs.AtRest.{rest_laws}
use Rattle.channel_b.specs.declared.Taken.TheVariants.{Unfinished}
use Rattle.channel_b.specs.TakeBit.{take_bit}
use Rattle.channel_b.proofs.TakeBit.{TakenFacts, taken_facts}
use Rattle.channel_b.proofs.Bits.{bit_law}
use Rattle.receiver.specs.declared.ClockAnswer.{ClockAnswer}
use Rattle.receiver.specs.Clock.{clocked_answer, step_answer}
use Rattle.receiver.proofs.Unchecked.{unfinished_step}
use Rattle.trace.specs.declared.Running.{Running}
use Rattle.trace.specs.declared.Progress.{Progress}
use Rattle.trace.specs.Block.{trigger_bit, channel_bit}
use Rattle.trace.specs.Run.{run_done, leaves, answered_run, clocks_run, ProgressFacts, remaining, rest_run, rest_progress, idle_progress, Rested, Advanced}
use Rattle.trace.proofs.Run.{nothing_recorded, without_record, clock_turn, turn_facts, turn_records}

-- clocks one after the other
rest_more : (clocks : ℕ) (held longer : Held) (run : Running) → rest_run 1 longer (rest_run clocks held run) ≡ rest_run (clocks + 1) longer run
rest_more clocks held longer run =
    ap (λ (c : Core). record { receiver = receiver c longer; records = run.records }) (rest_laws.one_more clocks run.receiver.core)

no_rest : (run : Running) → ReceiverFacts run.receiver → rest_run 0 run.receiver.held run ≡ run
no_rest run f =
    ap (λ (c : Core). record { receiver = receiver c run.receiver.held; records = run.records }) (rest_laws.no_clocks run.receiver.core f.of_core)

-- one clock of the block at rest, whose bit finishes no frame
module _ (columns : Kind → List ℕ) (block : List ℕ) (i : ℕ) (run : Running) (here : i < length block) (f : ReceiverFacts run.receiver) (resting : at_rest run.receiver.core ≡ true)
    (longer : Held) (untriggered : trigger_bit (get_or block i 0) ≡ 0) (taken : take_bit run.receiver.held (channel_bit (get_or block i 0)) ≡ Unfinished longer) where
  rest_done : (buffer : List ℕ)
      → leaves (rest_run 1 longer run) buffer ≡ answered_run run i (step_answer columns run.receiver (trigger_bit (get_or block i 0)) (channel_bit (get_or block i 0))) buffer
  rest_done buffer =
      let core = run.receiver.core in
      let byte = get_or block i 0 in
      without_record run i longer (idle_clock core 0) buffer _ (nothing_recorded core)
      (ap (λ (c : Clocked). run_done (receiver c.core longer) run.records buffer) (sym (rest_laws.one_clock core f.of_core resting)))
      ∙ ap (λ (a : ClockAnswer). answered_run run i a buffer)
      (ap (λ (t : ℕ). clocked_answer longer (idle_clock core t)) (sym untriggered) ∙ sym (unfinished_step columns run.receiver (trigger_bit byte) (channel_bit byte) longer taken))

  rest_clock_lem : (buffer : List ℕ) → clocks_run columns (i + 1) (rest_run 1 longer run) (drop (i + 1) block) buffer ≡ clocks_run columns i run (drop i block) buffer
  rest_clock_lem buffer = clock_turn columns block i run buffer here f (rest_run 1 longer run) buffer (rest_done buffer)

-- ---- the loop over such clocks

module _ (progress : Progress) (block : List ℕ) where
  abbrev so_far : Held → ℕ → Running
  so_far held at = rest_run (at - progress.next) held progress.run

  -- the clocks before this place were at rest, and these bits are held
  pub record RestTo (held : Held) (at : ℕ) : Type 0 where
    pub low : progress.next ≤ at
    pub high : at ≤ length block
    pub facts : ReceiverFacts (so_far held at).receiver
    pub same : (columns : Kind → List ℕ) (buffer : List ℕ) → clocks_run columns at (so_far held at) (drop at block) buffer ≡ remaining columns block progress buffer

  pub rest_first : ProgressFacts progress block → RestTo progress.run.receiver.held progress.next
  rest_first g =
      let none : progress.next - progress.next ≡ 0 = omega arith in
      let as_it_was = ap (λ (n : ℕ). rest_run n progress.run.receiver.held progress.run) none ∙ no_rest progress.run g.is_well_formed in
      record {
        low = omega arith;
        high = g.within;
        facts = subst (λ (x : Running). ReceiverFacts x.receiver) (sym as_it_was) g.is_well_formed;
        same = λ columns buffer. ap (λ (x : Running). clocks_run columns progress.next x (drop progress.next block) buffer) as_it_was;
      }

  module _ (whole : ReceiverFacts progress.run.receiver) (held longer : Held) (at : ℕ) (q : RestTo held at) where
    pub rest_next : at_rest progress.run.receiver.core ≡ true → at < length block → trigger_bit (get_or block at 0) ≡ 0
        → take_bit held (channel_bit (get_or block at 0)) ≡ Unfinished longer → RestTo longer (at + 1)
    rest_next resting here untriggered taken =
        let at_rest_then = rest_laws.stays_at_rest (at - progress.next) progress.run.receiver.core ∙ resting in
        let one_more : (at - progress.next) + 1 ≡ (at + 1) - progress.next = omega (arith, q.low) in
        let next = rest_more (at - progress.next) held longer progress.run ∙ ap (λ (n : ℕ). rest_run n longer progress.run) one_more in
        record {
          low = omega (arith, q.low);
          high = omega arith;
          facts =
              record {
                of_core = rest_laws.rest_keeps ((at + 1) - progress.next) progress.run.receiver.core whole.of_core;
                of_held = subst TakenFacts taken (taken_facts held (channel_bit (get_or block at 0)) q.facts.of_held (mod-lt _ (lit< tt)));
              };
          same = λ columns buffer.
              ap (λ (x : Running). clocks_run columns (at + 1) x (drop (at + 1) block) buffer) (sym next)
              ∙ rest_clock_lem columns block at (so_far held at) here q.facts at_rest_then longer untriggered taken buffer
              ∙ q.same columns buffer;
        }

  pub rest_last : (held : Held) (at : ℕ) → ProgressFacts progress block → RestTo held at → (after : Progress) → after ≡ rest_progress at held progress
      → Rested block progress after
  rest_last held at g q after e =
      subst (Rested block progress) (sym e)
      (record {
        same = q.same;
        going = record { is_well_formed = q.facts; within = q.high; few = omega (arith, g.few, q.low); at_most = g.at_most };
        onward = q.low;
      })

-- ---- idle clocks with no frame bit held

-- the clocks before this place were idle
abbrev pub IdleTo : Progress → List ℕ → ℕ → Type 0
IdleTo progress block at = RestTo progress block (wanting_ones (progress.run.receiver.held.wanted - (at - progress.next))) at

module _ (progress : Progress) (block : List ℕ) (g : ProgressFacts progress block) where
  abbrev wanted : ℕ
  wanted = progress.run.receiver.held.wanted

  pub idle_first : progress.run.receiver.held.count ≡ 0 → IdleTo progress block progress.next
  idle_first none =
      let nothing : wanted ≡ wanted - (progress.next - progress.next) = omega arith in
      subst (λ (held : Held). RestTo progress block held progress.next) (no_bit progress.run.receiver.held g.is_well_formed.of_held none ∙ ap wanting_ones nothing)
      (rest_first progress block g)

  -- byte 2 is an idle clock without a trigger
  pub idle_next : at_rest progress.run.receiver.core ≡ true → (at : ℕ) → IdleTo progress block at → at < length block → get_or block at 0 ≡ 2
      → IdleTo progress block (at + 1)
  idle_next resting at q here two =
      let n = wanted - (at - progress.next) in
      let fewer : n - 1 ≡ wanted - ((at + 1) - progress.next) = omega (arith, q.low) in
      rest_next progress block g.is_well_formed (wanting_ones n) (wanting_ones (wanted - ((at + 1) - progress.next))) at q resting here
      (ap trigger_bit two)
      (ap (λ (byte : ℕ). take_bit (wanting_ones n) (channel_bit byte)) two ∙ bit_law.one_wanted n ∙ ap (λ (k : ℕ). Unfinished (wanting_ones k)) fewer)

  -- a byte that ends them
  abbrev ends : ℕ → Bool
  ends byte = not (eqb byte 2)

  -- and so with as many of them as come next
  idle_steps : progress.run.receiver.held.count ≡ 0 → at_rest progress.run.receiver.core ≡ true → (count : ℕ) → progress.next + count ≤ length block
      → ((k : ℕ) → k < count → get_or block (progress.next + k) 0 ≡ 2) → IdleTo progress block (progress.next + count)
  idle_steps none resting zero within each = subst (IdleTo progress block) (sym (add-zero progress.next)) (idle_first none)
  idle_steps none resting (suc count) within each =
      let one_more : progress.next + count + 1 ≡ progress.next + suc count = omega arith in
      let before = idle_steps none resting count (omega arith) (λ k l. each k (omega arith)) in
      subst (IdleTo progress block) one_more (idle_next resting (progress.next + count) before (omega arith) (each count (omega arith)))

  pub idle_run : progress.run.receiver.held.count ≡ 0 → at_rest progress.run.receiver.core ≡ true → (count : ℕ)
      → count ≡ unwrap_or (position ends (take (length block - progress.next) (drop progress.next block))) (length block - progress.next)
      → (progress.next + count ≤ length block) × IdleTo progress block (progress.next + count)
  idle_run none resting count e =
      let tail = drop progress.next block in
      let long : length tail ≡ length block - progress.next = length-drop progress.next block in
      let is = e ∙ ap (λ (bytes : List ℕ). unwrap_or (position ends bytes) (length block - progress.next)) (take_all (length block - progress.next) tail (omega arith))
      ∙ ap (unwrap_or (position ends tail)) (sym long) ∙ first_or_length tail in
      let fits = prefix_len-le-length (λ (byte : ℕ). not (ends byte)) tail in
      let within : progress.next + count ≤ length block = omega (arith, g.within) in (
        within,
        idle_steps none resting count within
            (λ k l. sym (get_or-drop progress.next block k 0) ∙ is_two _ (fails_before_first ends tail k 0 (omega arith))),
      )
    where
      first_or_length : (bytes : List ℕ) → unwrap_or (position ends bytes) (length bytes) ≡ position_or_len ends bytes
      first_or_length bytes =
          by_test (ltb (position_or_len ends bytes) (length bytes)) (λ t. rw t refl)
          (λ t. let most = prefix_len-le-length (λ (byte : ℕ). not (ends byte)) bytes in
          let least : length bytes ≤ position_or_len ends bytes = ltb-false _ _ t in rw t (omega arith))

      is_two : (byte : ℕ) → ends byte ≡ false → byte ≡ 2
      is_two byte e = eqb-true byte 2 (not-false (eqb byte 2) e)

  pub idle_last_lem : at_rest progress.run.receiver.core ≡ true → (at : ℕ) → IdleTo progress block at → (after : Progress) → after ≡ idle_progress at progress
      → (Rested block progress after) × (at_rest after.run.receiver.core ≡ true)
  idle_last_lem resting at q after e = (
    rest_last progress block _ at g q after e,
    subst (λ (x : Progress). at_rest x.run.receiver.core ≡ true) (sym e) (rest_laws.stays_at_rest (at - progress.next) progress.run.receiver.core ∙ resting),
  )

-- one part after another
pub rested_then : (block : List ℕ) (before between after : Progress) → Rested block before between → Rested block between after → Rested block before after
rested_then block before between after p q =
    record {
      same = λ columns buffer. q.same columns buffer ∙ p.same columns buffer;
      going = q.going;
      onward = omega (arith, p.onward, q.onward);
    }

-- ---- clocks at rest, and the clock behind them

module _ (columns : Kind → List ℕ) (block : List ℕ) (before rested : Progress) (buffer : List ℕ) (q : Rested block before rested) where
  -- all clocks to come were at rest
  pub advanced_last : before.next < length block → rested.next ≡ length block → Advanced columns block before rested buffer buffer
  advanced_last some all = record { same = q.same columns buffer; going = q.going; onward = omega arith }

  pub advanced_clock : rested.next < length block → (run : Running) (buffer' : List ℕ)
      → leaves run buffer' ≡ answered_run rested.run rested.next (step_answer columns rested.run.receiver (trigger_bit (get_or block rested.next 0)) (channel_bit (get_or block rested.next 0))) buffer
      → Advanced columns block before (record { run = run; next = rested.next + 1 }) buffer buffer'
  advanced_clock here run buffer' done =
      let g = q.going in
      record {
        same = clock_turn columns block rested.next rested.run buffer here g.is_well_formed run buffer' done ∙ q.same columns buffer;
        going =
            record {
              is_well_formed = turn_facts columns block rested.next rested.run buffer here g.is_well_formed run buffer' done;
              within = omega arith;
              few = omega (arith, g.few, turn_records columns block rested.next rested.run buffer here g.is_well_formed run buffer' done);
              at_most = g.at_most;
            };
        onward = omega (arith, q.onward);
      }

-- One bit keeps what is held well formed, and a finished frame is one. Assumes nothing.
use Rattle.std.proofs.Common.{◌≡◌, ℕ, suc, ◌+◌, ◌-◌, ◌*◌, ◌/◌, ◌%◌, ◌^◌, ◌<◌, ◌≤◌, Bool, true, false, ◌&&◌, eqb, ltb, ◌≢◌, ◌⊎◌, refl, inl, inr, ⊎_elim, pow-suc, arith, pow_mono, pow-add, ltb-false, ltb-true, eq-eqb, eqb-true}
use borrow.Author.Tests.{eqb-false}
use Rattle.laws.proofs.Rules.{picked, picked_by}
use Rattle.laws.proofs.Tests.{both}
use Rattle.frame.specs.declared.Kind.TheVariants.{Short, Long}
use Rattle.frame.specs.Numbers.{frame_bits, is_frame}
use Rattle.receiver_state.specs.declared.Held.{Held}
use Rattle.receiver_state.specs.State.{holding}
use Rattle.receiver_state.specs.WellFormed.{HeldFacts}
use Rattle.receiver_state.proofs.HeldBits.{wanting_facts}
use Rattle.channel_b.specs.declared.Taken.{Taken}
use Rattle.channel_b.specs.declared.Taken.TheVariants.{Unfinished, Finished}
use Rattle.channel_b.specs.TakeBit.{frame_or_part, between_frames, take_bit}

abbrev pub TakenFacts : Taken → Type 0
TakenFacts (Unfinished held) = HeldFacts held
TakenFacts (Finished kind number) = is_frame kind number ≡ true

-- what is known of n bits with the number v once the last has come
record Grown (n v : ℕ) : Type 0 where
  few : n ≤ frame_bits Long
  start : v * 2 < 2 ^ n
  format : (n ≤ frame_bits Short) ⊎ (2 ^ n ≤ v * 4)

long_frame : (n v : ℕ) → n ≡ frame_bits Long → Grown n v → is_frame Long v ≡ true
unfolding is_frame
long_frame n v e g =
    let s : v * 2 < 2 ^ 42 = rw e at g.start in
    let f : 2 ^ 42 ≤ v * 4 = ⊎_elim (λ l. absurd (omega (arith, e))) (λ l. rw e at l) g.format in
    let lead : v / 2 ^ 40 ≡ 1 = omega arith in
    eq-eqb _ _ lead

-- 16 bits that are no short frame have format 1
no_short : (n v : ℕ) → n ≡ frame_bits Short → (eqb n (frame_bits Short) && is_frame Short v) ≡ false → 2 ^ n ≤ v * 4
unfolding is_frame
no_short n v e f =
    let no : ltb v (2 ^ 14) ≡ false = rw (eq-eqb n (frame_bits Short) e) at f in
    let high : 2 ^ 14 ≤ v = ltb-false v (2 ^ 14) no in
    rw e (omega arith)

unfinished : (n v : ℕ) → n ≢ frame_bits Long → (eqb n (frame_bits Short) && is_frame Short v) ≡ false → Grown n v → HeldFacts (holding n v)
unfinished n v e f g =
    record {
      few = omega (arith, g.few, e);
      start = g.start;
      format = by_count (ltb n (frame_bits Short)) refl;
      few_wanted = omega arith;
      none_beside = inr refl;
    }
  where
    by_count : (t : Bool) → ltb n (frame_bits Short) ≡ t → (n < frame_bits Short) ⊎ (2 ^ n ≤ v * 4)
    by_count true d = inl (ltb-true n (frame_bits Short) d)
    by_count false d =
        let many : frame_bits Short ≤ n = ltb-false n (frame_bits Short) d in
        inr (⊎_elim (λ l. no_short n v (omega arith) f) (λ l. l) g.format)

frame_or_part_facts : (n v : ℕ) → Grown n v → TakenFacts (frame_or_part n v)
unfolding frame_or_part
frame_or_part_facts n v g =
    picked_by TakenFacts (eqb n (frame_bits Long)) (λ e. long_frame n v (eqb-true _ _ e) g)
    (λ e. picked_by TakenFacts (eqb n (frame_bits Short) && is_frame Short v)
    (λ f. (both (eqb n _) _ f).1)
    (λ f. unfinished n v (eqb-false _ _ e) f g))

-- one more bit behind the bits held
more : (h : Held) (bit : ℕ) → HeldFacts h → bit < 2 → h.count ≢ 0 → Grown (h.count + 1) (h.bits * 2 + bit)
more h bit f b z =
    let whole : suc (h.count - 1) ≡ h.count = omega (arith, z) in
    let half : h.bits * 2 < 2 ^ suc (h.count - 1) = rw whole f.start in
    let below : h.bits < 2 ^ (h.count - 1) = omega (arith, pow-suc 2 (h.count - 1)) in
    let top : 2 ^ h.count ≡ 2 ^ (h.count - 1) * 2 = rw whole at (pow-suc 2 (h.count - 1)) in
    record {
      few = omega (arith, f.few);
      start = omega (arith, pow-add 2 h.count 1);
      format = ⊎_elim (λ l. inl (omega arith)) (λ l. inr (omega (arith, pow-add 2 h.count 1))) f.format;
    }

-- the numbers of the bits held keep their width
pub in_width : (h : Held) (bit : ℕ) → HeldFacts h → bit < 2
    → frame_or_part ((h.count + 1) % 2 ^ 8) ((h.bits * 2 + bit) % 2 ^ 64) ≡ frame_or_part (h.count + 1) (h.bits * 2 + bit)
in_width h bit f b =
    let few : (h.count + 1) % 2 ^ 8 ≡ h.count + 1 = omega (arith, f.few) in
    let small : (h.bits * 2 + bit) % 2 ^ 64 ≡ h.bits * 2 + bit = omega (arith, f.start, pow_mono f.few) in
    rw (few, small) refl

start_facts : HeldFacts (holding 1 0)
start_facts = record { few = omega arith; start = omega arith; format = inl (omega arith); few_wanted = omega arith; none_beside = inr refl }

between_facts : (wanted bit : ℕ) → wanted ≤ 41 → HeldFacts (between_frames wanted bit)
unfolding between_frames
between_facts wanted bit h =
    picked HeldFacts (eqb bit 0)
    (picked HeldFacts (eqb wanted 0) start_facts (wanting_facts 41 (omega arith)))
    (wanting_facts (wanted - 1) (omega arith))

pub taken_facts : (h : Held) (bit : ℕ) → HeldFacts h → bit < 2 → TakenFacts (take_bit h bit)
unfolding take_bit
taken_facts h bit f b =
    picked_by TakenFacts (eqb h.count 0)
    (λ e. between_facts h.wanted bit f.few_wanted)
    (λ e. rw (in_width h bit f b) (frame_or_part_facts (h.count + 1) (h.bits * 2 + bit) (more h bit f b (eqb-false h.count 0 e))))

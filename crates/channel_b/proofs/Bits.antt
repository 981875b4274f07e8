-- Every frame is taken bit by bit. Assumes nothing.
use Rattle.std.proofs.Common.{◌≡◌, ℕ, suc, ◌+◌, ◌-◌, ◌*◌, ◌/◌, ◌%◌, ◌^◌, ◌<◌, ◌≤◌, Bool, true, false, ◌&&◌, eqb, ◌≢◌, ◌⊎◌, sym, refl, ap, ◌∙◌, subst, inl, inr, mod-eq_of_lt, div-le_self, div-one, arith, shr-shr, ltb-true, le-ltb, ne_eqb, eqb-true}
use Rattle.laws.proofs.Rules.{picked}
use Rattle.frame.specs.declared.Kind.{Kind}
use Rattle.frame.specs.declared.Kind.TheVariants.{Short, Long}
use Rattle.frame.specs.Numbers.{frame_bits, is_frame}
use Rattle.receiver_state.specs.declared.Held.{Held}
use Rattle.receiver_state.specs.State.{holding, wanting_ones}
use Rattle.receiver_state.specs.WellFormed.{HeldFacts}
use Rattle.channel_b.specs.declared.Taken.{Taken}
use Rattle.channel_b.specs.declared.Taken.TheVariants.{Unfinished, Finished}
use Rattle.channel_b.specs.TakeBit.{frame_or_part, between_frames, take_bit}
use Rattle.channel_b.specs.Laws.{first_bits, bit_after, BitLaw}
use Rattle.channel_b.proofs.TakeBit.{in_width}

not_zero : (m : ℕ) → 1 ≤ m → m ≢ 0
not_zero m l z = omega arith

-- one bit more of a number
whole : (y : ℕ) → y / 2 * 2 + y % 2 ≡ y
whole y = omega arith

one_more : (number w n : ℕ) → n + 1 ≤ w → number / 2 ^ (w - n) * 2 + number / 2 ^ (w - (n + 1)) % 2 ≡ number / 2 ^ (w - (n + 1))
one_more number w n h =
    let e : w - n ≡ (w - (n + 1)) + 1 = omega arith in
    ap (λ (x : ℕ). x * 2 + number / 2 ^ (w - (n + 1)) % 2) (ap (λ (k : ℕ). number / 2 ^ k) e ∙ sym (shr-shr number (w - (n + 1)) 1))
    ∙ whole (number / 2 ^ (w - (n + 1)))

frame_below : (kind : Kind) (number : ℕ) → is_frame kind number ≡ true → number < 2 ^ 42
unfolding is_frame
frame_below Short number e = let h : number < 2 ^ 14 = ltb-true number (2 ^ 14) e in omega arith
frame_below Long number e = let h : number / 2 ^ 40 ≡ 1 = eqb-true (number / 2 ^ 40) 1 e in omega arith

few_bits : (kind : Kind) (n : ℕ) → n ≤ frame_bits kind → n ≤ 42
few_bits Short n h = omega arith
few_bits Long n h = omega arith

taken : (kind : Kind) (number n : ℕ) → is_frame kind number ≡ true → 1 ≤ n → n + 1 ≤ frame_bits kind
    → take_bit (first_bits kind number n) (bit_after kind number n) ≡ frame_or_part (n + 1) (number / 2 ^ (frame_bits kind - (n + 1)))
unfolding take_bit
taken kind number n e h k =
    let some : n ≢ 0 = not_zero n h in
    let next = one_more number (frame_bits kind) n k in
    let count : (n + 1) % 2 ^ 8 ≡ n + 1 = omega (arith, few_bits kind (n + 1) k) in
    let small : number / 2 ^ (frame_bits kind - (n + 1)) % 2 ^ 64 ≡ number / 2 ^ (frame_bits kind - (n + 1)) =
    mod-eq_of_lt (omega (arith, frame_below kind number e, div-le_self number (2 ^ (frame_bits kind - (n + 1))))) in
    rw (ne_eqb n 0 some, count) (ap (frame_or_part (n + 1)) (ap (λ (x : ℕ). x % 2 ^ 64) next ∙ small))

-- fewer bits than all are a part
part : (kind : Kind) (number n : ℕ) → is_frame kind number ≡ true → n < frame_bits kind
    → frame_or_part n (number / 2 ^ (frame_bits kind - n)) ≡ Unfinished (first_bits kind number n)
unfolding frame_or_part is_frame
part Short number n e h =
    let long : n ≢ 42 = λ z. omega arith in
    let short : n ≢ 16 = λ z. omega arith in
    rw (ne_eqb n 42 long, ne_eqb n 16 short) refl
part Long number n e h = by_sixteen (eqb n 16) refl
  where
    long : n ≢ 42
    long z = omega arith

    high : n ≡ 16 → 2 ^ 14 ≤ number / 2 ^ (42 - n)
    high z = rw z (let lead : number / 2 ^ 40 ≡ 1 = eqb-true (number / 2 ^ 40) 1 e in omega arith)

    by_sixteen : (t : Bool) → eqb n 16 ≡ t → frame_or_part n (number / 2 ^ (42 - n)) ≡ Unfinished (first_bits Long number n)
    by_sixteen true z = rw (ne_eqb n 42 long, z, le-ltb _ _ (high (eqb-true n 16 z))) refl
    by_sixteen false z = rw (ne_eqb n 42 long, z) refl

-- and all are the frame
all_bits : (kind : Kind) (number : ℕ) → is_frame kind number ≡ true → frame_or_part (frame_bits kind) number ≡ Finished kind number
unfolding frame_or_part
all_bits Short number e = rw e refl
all_bits Long number e = refl

last_bit : (kind : Kind) (number n : ℕ) → is_frame kind number ≡ true → n + 1 ≡ frame_bits kind
    → take_bit (first_bits kind number n) (bit_after kind number n) ≡ Finished kind number
last_bit kind number n e h =
    taken kind number n e (many kind n h) (omega arith) ∙ ap (λ (k : ℕ). frame_or_part k (number / 2 ^ (frame_bits kind - k))) h
    ∙ ap (frame_or_part (frame_bits kind)) (none (frame_bits kind)) ∙ all_bits kind number e
  where
    many : (kind : Kind) (n : ℕ) → n + 1 ≡ frame_bits kind → 1 ≤ n
    many Short n h = omega arith
    many Long n h = omega arith

    none : (w : ℕ) → number / 2 ^ (w - w) ≡ number
    none w = ap (λ (k : ℕ). number / 2 ^ k) (let z : w - w ≡ 0 = omega arith in z) ∙ div-one number

-- a frame, or bits held
abbrev MoreBits : Held → ℕ → Taken → Type 0
MoreBits held bit taken =
    ((kind : Kind) × (taken ≡ Finished kind (held.bits * 2 + bit))) ⊎ (taken ≡ Unfinished (holding (held.count + 1) (held.bits * 2 + bit)))

later_bit : (held : Held) (bit : ℕ) → HeldFacts held → bit < 2 → 1 ≤ held.count → MoreBits held bit (take_bit held bit)
unfolding take_bit frame_or_part
later_bit held bit f b w =
    rw (ne_eqb held.count 0 (not_zero held.count w))
    (rw (in_width held bit f b)
    (picked (MoreBits held bit) (eqb (held.count + 1) 42) (inl (Long, refl))
    (picked (MoreBits held bit) (eqb (held.count + 1) 16 && is_frame Short (held.bits * 2 + bit)) (inl (Short, refl)) (inr refl))))

-- ---- while ones are wanted

run_again : (others : ℕ) → take_bit (wanting_ones (suc others)) 0 ≡ Unfinished (wanting_ones 41)
unfolding take_bit between_frames
run_again others = let some : suc others ≢ 0 = not_zero (suc others) (omega arith) in rw (ne_eqb (suc others) 0 some) refl

abbrev NoneWanted : Taken → Type 0
NoneWanted (Unfinished held) = held.wanted ≡ 0
NoneWanted (Finished kind number) = Unit {0}

part_none : (count bits : ℕ) → NoneWanted (frame_or_part count bits)
unfolding frame_or_part
part_none count bits =
    picked NoneWanted (eqb count (frame_bits Long)) tt (picked NoneWanted (eqb count (frame_bits Short) && is_frame Short bits) tt refl)

no_new : (held : Held) (bit : ℕ) → held.wanted ≡ 0 → NoneWanted (take_bit held bit)
unfolding take_bit between_frames
no_new held bit none =
    picked NoneWanted (eqb held.count 0)
    (rw none (picked (λ (h : Held). h.wanted ≡ 0) (eqb bit 0) refl refl))
    (part_none _ _)

pub bit_law : BitLaw
unfolding take_bit between_frames
bit_law =
    record {
      one_wanted = λ wanted. refl;
      run_again = run_again;
      none_wanted = refl;
      no_new_ones = λ held bit after none e. subst NoneWanted e (no_new held bit none);
      idle_bit = refl;
      start_bit = refl;
      next_bit = λ kind number n e h k. taken kind number n e h (omega arith) ∙ part kind number (n + 1) e k;
      last_bit = last_bit;
      later_bit = later_bit;
    }

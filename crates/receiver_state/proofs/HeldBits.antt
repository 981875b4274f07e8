-- The bits held are the first bits of a frame, or ones are wanted, or neither. Assumes nothing.
use mathlib.Core.Path.{◌≡◌, refl, sym, ap, subst, ◌∙◌}
use mathlib.Core.Logic.{◌≢◌, ◌⊎◌, inl, inr, ⊎_elim}
use mathlib.Core.Bool.{Bool, true, false}
use Prim.Native.Nat.{ℕ, zero, suc, ◌+◌, ◌-◌, ◌*◌, ◌/◌, ◌^◌, ◌<◌, ◌≤◌}
use native.Mathlib.Nat.{pow-suc, le-div_iff_mul-le, div-eq_of_lt-le, mul-le-mul_right}
use native.Mathlib.Omega.{arith}
use borrow.Author.Tests.{eq-eqb, eqb-true, eqb-false, lt-ltb, ltb-true, ltb-false}
use lib.Dec.{eqb, ltb}
use lib.Pow.{pow_pos, pow_mono, pow-add, shl_lt, shr_lt, shl-shr}
use Rattle.laws.proofs.Rules.{by_test}
use Rattle.laws.proofs.Tests.{both}
use Rattle.frame.specs.declared.Kind.TheVariants.{Short, Long}
use Rattle.frame.specs.Numbers.{frame_bits, is_frame}
use Rattle.receiver_state.specs.declared.Held.{Held}
use Rattle.receiver_state.specs.State.{holding, wanting_ones, nothing_held, is_waiting}
use Rattle.receiver_state.specs.WellFormed.{HeldFacts}
use Rattle.receiver_state.specs.States.{PartOf, WantsOnes, HeldLaw, WaitingLaw}

-- a number that 41 bits with a first bit of 0 don't reach
pub over_limit : (count bits : ℕ) → count ≤ 41 → 1099511627776 ≤ bits → 2 ^ count ≤ bits * 2
over_limit count bits few over = omega (arith, pow_mono few)

-- ---- bits held are the first of a frame: it has 0 for the bits still to come

part_short : (n bits : ℕ) → n < 14 → bits < 2 ^ n → PartOf Short (holding (suc (suc n)) bits)
unfolding is_frame
part_short n bits h b =
    let k = frame_bits Short - suc (suc n) in
    let e : n + k ≡ 14 = omega arith in
    record {
      some = omega arith;
      unfinished = omega arith;
      number = bits * 2 ^ k;
      is_a_frame = lt-ltb _ _ (subst (λ (w : ℕ). bits * 2 ^ k < 2 ^ w) e (shl_lt n k b));
      first_bits_lem = sym (shl-shr bits k);
      none_wanted = refl;
    }

part_long : (n bits : ℕ) → n < 40 → 2 ^ n ≤ bits → bits < 2 ^ suc n → PartOf Long (holding (suc (suc n)) bits)
unfolding is_frame
part_long n bits h low b =
    let k = frame_bits Long - suc (suc n) in
    let e : n + k ≡ 40 = omega arith in
    let e' : suc n + k ≡ 41 = omega arith in
    let most : bits * 2 ^ k < 2 ^ 41 = subst (λ (w : ℕ). bits * 2 ^ k < 2 ^ w) e' (shl_lt (suc n) k b) in
    let least : 2 ^ n * 2 ^ k ≤ bits * 2 ^ k = mul-le-mul_right (2 ^ k) low in
    let top : 2 ^ n * 2 ^ k ≡ 2 ^ 40 = sym (pow-add 2 n k) ∙ ap (λ (w : ℕ). 2 ^ w) e in
    record {
      some = omega arith;
      unfinished = omega arith;
      number = bits * 2 ^ k;
      is_a_frame = eq-eqb _ _ (div-eq_of_lt-le {k = 1} (2 ^ 40) {m = bits * 2 ^ k} (omega arith) (omega arith));
      first_bits_lem = sym (shl-shr bits k);
      none_wanted = refl;
    }

-- a single bit held is the start bit
part_start : PartOf Short (holding 1 0)
unfolding is_frame
part_start = record { some = omega arith; unfinished = omega arith; number = 0; is_a_frame = refl; first_bits_lem = refl; none_wanted = refl }

abbrev Paper : Held → Type 0
Paper h = (h ≡ nothing_held) ⊎ (WantsOnes h ⊎ (PartOf Short h ⊎ PartOf Long h))

paper : (count bits : ℕ) → HeldFacts (holding count bits) → Paper (holding count bits)
paper zero bits f = inl (ap (holding 0) (let s : bits * 2 < 2 ^ 0 = f.start in omega arith))
paper (suc zero) bits f =
    inr (inr (inl (subst (λ (b : ℕ). PartOf Short (holding 1 b)) (let s : bits * 2 < 2 ^ 1 = f.start in omega arith) part_start)))
paper (suc (suc n)) bits f = by_format (ltb bits (2 ^ n)) refl
  where
    top : 2 ^ suc (suc n) ≡ 4 * 2 ^ n
    top = omega (arith, pow-suc 2 n, pow-suc 2 (suc n))

    by_format : (t : Bool) → ltb bits (2 ^ n) ≡ t → Paper (holding (suc (suc n)) bits)
    by_format true e =
        let b : bits < 2 ^ n = ltb-true bits (2 ^ n) e in
        inr (inr (inl (part_short n bits (⊎_elim (λ l. omega arith) (λ l. absurd (omega (arith, top, l))) f.format) b)))
    by_format false e =
        let b : 2 ^ n ≤ bits = ltb-false bits (2 ^ n) e in
        inr (inr (inr (part_long n bits (omega (arith, f.few)) b (omega (arith, f.start, pow-suc 2 n, pow-suc 2 (suc n))))))

-- ---- the first bits of a frame

start_of : (c k bits number : ℕ) → 1 ≤ c → bits ≡ number / 2 ^ k → number < 2 ^ ((c - 1) + k) → bits * 2 < 2 ^ c
start_of c k bits number h e b =
    let whole : suc (c - 1) ≡ c = omega arith in
    let below : number / 2 ^ k < 2 ^ (c - 1) = shr_lt (c - 1) k b in
    subst (λ (n : ℕ). bits * 2 < 2 ^ n) whole (omega (arith, pow-suc 2 (c - 1)))

format_of : (c k bits number : ℕ) → 2 ≤ c → bits ≡ number / 2 ^ k → 2 ^ ((c - 2) + k) ≤ number → 2 ^ c ≤ bits * 4
format_of c k bits number h e b =
    let whole : suc (suc (c - 2)) ≡ c = omega arith in
    let above : 2 ^ (c - 2) ≤ number / 2 ^ k = (le-div_iff_mul-le (pow_pos k)).1 (subst (λ (n : ℕ). n ≤ number) (pow-add 2 (c - 2) k) b) in
    subst (λ (n : ℕ). 2 ^ n ≤ bits * 4) whole (omega (arith, pow-suc 2 (c - 2), pow-suc 2 (suc (c - 2))))

short_facts : (h : Held) → PartOf Short h → HeldFacts h
unfolding is_frame
short_facts h p =
    let k = frame_bits Short - h.count in
    let below : p.number < 2 ^ 14 = ltb-true p.number (2 ^ 14) p.is_a_frame in
    let e : (h.count - 1) + k ≡ 15 = omega (arith, p.some, p.unfinished) in
    record {
      few = omega (arith, p.unfinished);
      start = start_of h.count k h.bits p.number p.some p.first_bits_lem (subst (λ (w : ℕ). p.number < 2 ^ w) (sym e) (omega arith));
      format = inl p.unfinished;
      few_wanted = omega (arith, p.none_wanted);
      none_beside = inr p.none_wanted;
    }

long_facts : (h : Held) → PartOf Long h → HeldFacts h
unfolding is_frame
long_facts h p =
    let k = frame_bits Long - h.count in
    let lead : p.number / 2 ^ 40 ≡ 1 = eqb-true (p.number / 2 ^ 40) 1 p.is_a_frame in
    let e : (h.count - 1) + k ≡ 41 = omega (arith, p.some, p.unfinished) in
    record {
      few = omega (arith, p.unfinished);
      start = start_of h.count k h.bits p.number p.some p.first_bits_lem (subst (λ (w : ℕ). p.number < 2 ^ w) (sym e) (omega arith));
      format = by_count (ltb h.count 16) refl;
      few_wanted = omega (arith, p.none_wanted);
      none_beside = inr p.none_wanted;
    }
  where
    by_count : (t : Bool) → ltb h.count 16 ≡ t → (h.count < 16) ⊎ (2 ^ h.count ≤ h.bits * 4)
    by_count true e = inl (ltb-true h.count 16 e)
    by_count false e =
        let many : 16 ≤ h.count = ltb-false h.count 16 e in
        let k = frame_bits Long - h.count in
        let lead : p.number / 2 ^ 40 ≡ 1 = eqb-true (p.number / 2 ^ 40) 1 p.is_a_frame in
        let e' : (h.count - 2) + k ≡ 40 = omega (arith, p.unfinished) in
        inr (format_of h.count k h.bits p.number (omega arith) p.first_bits_lem (subst (λ (w : ℕ). 2 ^ w ≤ p.number) (sym e') (omega arith)))

pub wanting_facts : (wanted : ℕ) → wanted ≤ 41 → HeldFacts (wanting_ones wanted)
wanting_facts wanted h = record { few = omega arith; start = omega arith; format = inl (omega arith); few_wanted = h; none_beside = inl refl }

pub none_facts : HeldFacts nothing_held
none_facts = wanting_facts 0 (omega arith)

-- ---- with no frame bit held, or no ones wanted

-- no frame bit is held
pub no_bit : (h : Held) → HeldFacts h → h.count ≡ 0 → h ≡ wanting_ones h.wanted
no_bit h f z =
    let none : h.bits ≡ 0 = (let s : h.bits * 2 < 2 ^ 0 = rw z at f.start in omega arith) in
    rw (z, none) refl

-- beside frame bits no ones are wanted
pub some_bits : (h : Held) → HeldFacts h → h.count ≢ 0 → h ≡ holding h.count h.bits
some_bits h f n = ⊎_elim (λ z. absurd (n z)) (λ z. rw z refl) f.none_beside

-- ---- waiting

pub waiting_law : WaitingLaw
unfolding is_waiting
waiting_law h f = (
  λ e. let z = both _ _ e in no_bit h f (eqb-true h.count _ z.0) ∙ ap wanting_ones (eqb-true h.wanted _ z.1),
  λ e. rw e refl,
)

-- ---- the law

wants : (h : Held) → HeldFacts h → h.count ≡ 0 → h.wanted ≢ 0 → WantsOnes h
wants h f z n = record { some = omega (arith, n); at_most_41 = f.few_wanted; no_bit_held = no_bit h f z }

of_facts : (h : Held) → HeldFacts h → Paper h
of_facts h f =
    by_test (eqb h.count 0)
    (λ c. by_test (eqb h.wanted 0)
    (λ w. inl (no_bit h f (eqb-true h.count 0 c) ∙ ap wanting_ones (eqb-true h.wanted 0 w)))
    (λ w. inr (inl (wants h f (eqb-true h.count 0 c) (eqb-false h.wanted 0 w)))))
    (λ c.
    let e = some_bits h f (eqb-false h.count 0 c) in
    subst Paper (sym e) (paper h.count h.bits (subst HeldFacts e f)))

wants_facts : (h : Held) → WantsOnes h → HeldFacts h
wants_facts h w = subst HeldFacts (sym w.no_bit_held) (wanting_facts h.wanted w.at_most_41)

pub held_law : HeldLaw
held_law h = (
  of_facts h,
  ⊎_elim (λ e. subst HeldFacts (sym e) none_facts) (⊎_elim (wants_facts h) (⊎_elim (short_facts h) (long_facts h))),
)

-- What is held over a list of bits of channel B: 41 ones, and the bits of a frame. Assumes nothing.
use mathlib.Core.Path.{◌≡◌, refl, sym, ap, ◌∙◌}
use mathlib.Core.Logic.{◌≢◌, ◌⊎◌, inl, inr}
use mathlib.Core.Bool.{true}
use mathlib.Core.List.{List, [], ◌∷◌, ◌++◌}
use Prim.Native.Nat.{ℕ, zero, suc, ◌+◌, ◌-◌, ◌*◌, ◌/◌, ◌%◌, ◌^◌, ◌≤◌, ◌<◌}
use native.Mathlib.Nat.{div-one}
use native.Mathlib.Omega.{arith}
use borrow.Author.Tests.{eqb-true, eqb-false}
use lib.Dec.{eqb}
use lib.ListN.{replicate}
use lib.Pow.{shr-shr}
use Rattle.laws.proofs.Rules.{by_test}
use Rattle.frame.specs.declared.Kind.{Kind}
use Rattle.frame.specs.declared.Kind.TheVariants.{Short, Long}
use Rattle.frame.specs.Numbers.{frame_bits, is_frame}
use Rattle.frame.specs.Bits.{bits_of, Bits}
use Rattle.frame.proofs.Bits.{bits_law}
use Rattle.receiver_state.specs.declared.Held.{Held}
use Rattle.receiver_state.specs.State.{holding, wanting_ones, nothing_held}
use Rattle.receiver_state.specs.WellFormed.{HeldFacts}
use Rattle.receiver_state.proofs.HeldBits.{no_bit}
use Rattle.channel_b.specs.declared.Taken.{Taken}
use Rattle.channel_b.specs.declared.Taken.TheVariants.{Unfinished, Finished}
use Rattle.channel_b.specs.TakeBit.{take_bit, held_after_bit}
use Rattle.channel_b.specs.Laws.{first_bits, bit_after}
use Rattle.channel_b.proofs.TakeBit.{TakenFacts, taken_facts}
use Rattle.channel_b.proofs.Bits.{bit_law}
use Rattle.channel_b.proofs.Laws.{after_frame}

-- ---- the bits held after a list of bits

unfoldable pub held_over : Held → List ℕ → Held
held_over held [] = held
held_over held (b ∷ bs) = held_over (held_after_bit (take_bit held b)) bs

pub held_append : (held : Held) (xs ys : List ℕ) → held_over held (xs ++ ys) ≡ held_over (held_over held xs) ys
unfolding held_over
held_append held [] ys = refl
held_append held (x ∷ xs) ys = held_append (held_after_bit (take_bit held x)) xs ys

pub then_facts : (held : Held) (bit : ℕ) → HeldFacts held → bit < 2 → HeldFacts (held_after_bit (take_bit held bit))
then_facts held bit f b = go (take_bit held bit) (taken_facts held bit f b)
  where
    go : (taken : Taken) → TakenFacts taken → HeldFacts (held_after_bit taken)
    go (Unfinished after) h = h
    go (Finished kind number) h = after_frame.is_well_formed number

pub over_facts : (bs : List ℕ) (held : Held) → Bits bs → HeldFacts held → HeldFacts (held_over held bs)
unfolding held_over
over_facts [] held p f = f
over_facts (b ∷ bs) held (p, q) f = over_facts bs (held_after_bit (take_bit held b)) q (then_facts held b f p)

-- ---- ones

-- k ones are enough for a receiver that wants k or fewer (one that waits wants none), and for one that holds at least 42 - k frame bits
abbrev Near : ℕ → Held → Type 0
Near k held = ((wanted : ℕ) × (held ≡ wanting_ones wanted) × (wanted ≤ k)) ⊎ ((1 ≤ held.count) × (42 ≤ k + held.count))

nearer : (k : ℕ) (held : Held) → HeldFacts held → Near (suc k) held → Near k (held_after_bit (take_bit held 1))
nearer k held f (inl (wanted, z, h)) = rw (z, bit_law.one_wanted wanted) (inl (wanted - 1, refl, omega arith))
nearer k held f (inr (some, h)) = grown (bit_law.later_bit held 1 f (omega arith) some)
  where
    grown : ((kind : Kind) × (take_bit held 1 ≡ Finished kind (held.bits * 2 + 1))) ⊎ (take_bit held 1 ≡ Unfinished (holding (held.count + 1) (held.bits * 2 + 1)))
        → Near k (held_after_bit (take_bit held 1))
    grown (inl (kind, e)) = rw e (inl (0, after_frame.stop_one (held.bits * 2 + 1) (odd held.bits), omega arith))
      where
        odd : (n : ℕ) → (n * 2 + 1) % 2 ≡ 1
        odd n = omega arith
    grown (inr e) = rw e (inr (omega arith, omega arith))

ones_wait : (k : ℕ) (held : Held) → HeldFacts held → Near k held → held_over held (replicate k 1) ≡ nothing_held
unfolding held_over
ones_wait zero held f (inl (wanted, z, h)) = z ∙ ap wanting_ones (let none : wanted ≡ 0 = omega arith in none)
ones_wait zero held f (inr (some, h)) = absurd (omega (arith, f.few))
ones_wait (suc k) held f near = ones_wait k (held_after_bit (take_bit held 1)) (then_facts held 1 f (omega arith)) (nearer k held f near)

-- 41 are enough for every receiver
pub enough_ones : (k : ℕ) (held : Held) → 41 ≤ k → HeldFacts held → held_over held (replicate k 1) ≡ nothing_held
enough_ones k held h f =
    ones_wait k held f
    (by_test (eqb held.count 0)
    (λ t. inl (held.wanted, no_bit held f (eqb-true held.count 0 t), omega (arith, f.few_wanted)))
    (λ t. let n : held.count ≢ 0 = eqb-false held.count 0 t in inr (omega arith, omega arith)))

-- ---- the bits of a frame

-- the bits are taken, no frame finishes, and then `after` is held
abbrev pub Holds : Held → List ℕ → Held → Type 0
Holds held [] after = held ≡ after
Holds held (b ∷ bs) after = (next : Held) × (take_bit held b ≡ Unfinished next) × Holds next bs after

pub holds_append : (xs ys : List ℕ) (held after : Held) → Holds held (xs ++ ys) after → (between : Held) × Holds held xs between × Holds between ys after
holds_append [] ys held after h = (held, refl, h)
holds_append (x ∷ xs) ys held after (next, e, h) = let r = holds_append xs ys next after h in (r.0, (next, e, r.1), r.2)

pub holds_one_more : (bs : List ℕ) (b : ℕ) (held between after : Held) → Holds held bs between → take_bit between b ≡ Unfinished after → Holds held (bs ++ (b ∷ [])) after
holds_one_more [] b held between after h e = (after, rw h e, refl)
holds_one_more (c ∷ bs) b held between after (next, t, h) e = (next, t, holds_one_more bs b next between after h e)

half : (number w n : ℕ) → suc n ≤ w → number / 2 ^ (w - suc n) / 2 ≡ number / 2 ^ (w - n)
half number w n h =
    let e : w - n ≡ (w - suc n) + 1 = omega arith in
    shr-shr number (w - suc n) 1 ∙ ap (λ (k : ℕ). number / 2 ^ k) (sym e)

first_held : (kind : Kind) (number : ℕ) → is_frame kind number ≡ true → (n : ℕ) → suc n < frame_bits kind
    → Holds nothing_held (bits_of (suc n) (number / 2 ^ (frame_bits kind - suc n))) (first_bits kind number (suc n))
unfolding bits_of
first_held kind number e zero h = rw (bits_law.start kind number e) (holding 1 0, bit_law.start_bit, refl)
first_held kind number e (suc n) h =
    let next : take_bit (first_bits kind number (suc n)) (bit_after kind number (suc n)) ≡ Unfinished (first_bits kind number (suc n + 1)) =
    bit_law.next_bit kind number (suc n) e (omega arith) (omega arith) in
    let count : suc n + 1 ≡ suc (suc n) = omega arith in
    holds_one_more (bits_of (suc n) (number / 2 ^ (frame_bits kind - suc (suc n)) / 2)) (number / 2 ^ (frame_bits kind - suc (suc n)) % 2)
    nothing_held (first_bits kind number (suc n)) (first_bits kind number (suc (suc n)))
    (rw (half number (frame_bits kind) (suc n) (omega arith)) (first_held kind number e n (omega arith)))
    (rw count at next)

-- all but the last
abbrev pub lead : Kind → ℕ
lead Short = 15
lead Long = 41

pub by_lead : (kind : Kind) (number : ℕ) → bits_of (frame_bits kind) number ≡ bits_of (lead kind) (number / 2) ++ (number % 2 ∷ [])
unfolding bits_of
by_lead Short number = refl
by_lead Long number = refl

pub lead_held : (kind : Kind) (number : ℕ) → is_frame kind number ≡ true
    → Holds nothing_held (bits_of (lead kind) (number / 2)) (first_bits kind number (lead kind))
lead_held Short number e = first_held Short number e 14 (omega arith)
lead_held Long number e = first_held Long number e 40 (omega arith)

pub last_held : (kind : Kind) (number : ℕ) → is_frame kind number ≡ true → take_bit (first_bits kind number (lead kind)) (number % 2) ≡ Finished kind number
last_held kind number e = ap (λ (x : ℕ). take_bit (first_bits kind number (lead kind)) (x % 2)) (sym (div-one number)) ∙ by_kind kind number e
  where
    by_kind : (kind : Kind) (number : ℕ) → is_frame kind number ≡ true → take_bit (first_bits kind number (lead kind)) (number / 1 % 2) ≡ Finished kind number
    by_kind Short number e = bit_law.last_bit Short number 15 e refl
    by_kind Long number e = bit_law.last_bit Long number 41 e refl

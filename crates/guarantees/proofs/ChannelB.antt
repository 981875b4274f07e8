-- The bits of channel B that a list of calls carries, and its idle list. Assumes nothing.
use mathlib.Core.Path.{◌≡◌, refl, sym, ap, ◌∙◌}
use mathlib.Core.List.{List, [], ◌∷◌, ◌++◌, append_assoc}
use Prim.Native.Nat.{ℕ, ◌/◌, ◌%◌}
use native.Mathlib.Omega.{arith}
use lib.Dec.{eqb}
use lib.ListN.{length, length-append}
use borrow.Author.Tests.{eqb-true}
use Rattle.laws.proofs.Rules.{picked_by}
use Rattle.frame.specs.declared.Kind.{Kind}
use Rattle.frame.specs.Numbers.{frame_bits}
use Rattle.frame.specs.Bits.{bits_of, Bits}
use Rattle.guarantees.specs.Calls.{Call, clock, read, write, refusal_of, carried, channel_b, idle_call, idle}
use Rattle.guarantees.proofs.HeldBits.{lead, by_lead}
use Rattle.guarantees.proofs.OneCall.{accepted_bits}

last_same : (xs ys : List ℕ) (x y : ℕ) → xs ++ (x ∷ []) ≡ ys ++ (y ∷ []) → (xs ≡ ys) × (x ≡ y)
last_same [] [] x y e = (refl, cc)
last_same [] (z ∷ ys) x y e = absurd (omega (arith, simp length-append at (ap length e)))
last_same (z ∷ xs) [] x y e = absurd (omega (arith, simp length-append at (ap length e)))
last_same (w ∷ xs) (z ∷ ys) x y e =
    let tail : xs ++ (x ∷ []) ≡ ys ++ (y ∷ []) = cc in
    let rest = last_same xs ys x y tail in
    let head : w ≡ z = cc in
    (cc (rest.0, head), rest.1)

pub channel_b_append : (cs ds : List Call) → channel_b (cs ++ ds) ≡ channel_b cs ++ channel_b ds
unfolding channel_b
channel_b_append [] ds = refl
channel_b_append (c ∷ cs) ds =
    ap (λ (bs : List ℕ). carried c ++ bs) (channel_b_append cs ds) ∙ sym (append_assoc (carried c) (channel_b cs) (channel_b ds))

pub idle_last_lem : (cs : List Call) (trigger bit : ℕ) → refusal_of (clock trigger bit) ≡ 0 → idle (cs ++ (clock trigger bit ∷ [])) ≡ idle cs ++ (clock trigger 1 ∷ [])
unfolding idle idle_call
idle_last_lem [] trigger bit h = rw h refl
idle_last_lem (c ∷ cs) trigger bit h = ap (λ (ds : List Call). idle_call c ∷ ds) (idle_last_lem cs trigger bit h)

-- what the calls before the last clock carry of a frame, and that clock
pub record Parts (before : List Call) (bit : ℕ) (kind : Kind) (number : ℕ) : Type 0 where
  pub lead_bits : channel_b before ≡ bits_of (lead kind) (number / 2)
  pub last_bit : bit ≡ number % 2

pub parts : (before : List Call) (trigger bit : ℕ) (kind : Kind) (number : ℕ) → refusal_of (clock trigger bit) ≡ 0
    → channel_b (before ++ (clock trigger bit ∷ [])) ≡ bits_of (frame_bits kind) number → Parts before bit kind number
unfolding channel_b carried
parts before trigger bit kind number h e =
    let split : channel_b before ++ (bit ∷ []) ≡ channel_b (before ++ (clock trigger bit ∷ [])) =
    rw (channel_b_append before (clock trigger bit ∷ []), h) refl in
    let both = last_same (channel_b before) (bits_of (lead kind) (number / 2)) bit (number % 2) (split ∙ e ∙ by_lead kind number) in
    record { lead_bits = both.0; last_bit = both.1 }

carried_bits : (c : Call) (bs : List ℕ) → Bits bs → Bits (carried c ++ bs)
unfolding carried
carried_bits (read number) bs h = h
carried_bits (write number value) bs h = h
carried_bits (clock trigger bit) bs h =
    picked_by (λ (xs : List ℕ). Bits (xs ++ bs)) (eqb (refusal_of (clock trigger bit)) 0)
    (λ t. ((accepted_bits trigger bit (eqb-true (refusal_of (clock trigger bit)) 0 t)).1, h))
    (λ t. h)

pub channel_b_bits : (cs : List Call) → Bits (channel_b cs)
unfolding channel_b
channel_b_bits [] = tt
channel_b_bits (c ∷ cs) = carried_bits c (channel_b cs) (channel_b_bits cs)

pub front_bits : (xs ys : List ℕ) → Bits (xs ++ ys) → Bits xs
front_bits [] ys h = tt
front_bits (x ∷ xs) ys (p, h) = (p, front_bits xs ys h)

-- The same calls with other bits on their clocks. Assumes nothing.
use mathlib.Core.Path.{◌≡◌, refl, sym, ap, ◌∙◌}
use mathlib.Core.Bool.{Bool, true, false, cond}
use mathlib.Core.List.{List, [], ◌∷◌, ◌++◌}
use Prim.Native.Nat.{ℕ, ◌+◌, ◌/◌, ◌%◌, ◌<◌}
use native.Mathlib.Nat.{mod-lt}
use native.Mathlib.Omega.{arith}
use borrow.Author.Tests.{eqb-true}
use lib.Dec.{eqb, lit<}
use lib.ListN.{length, length-append}
use Rattle.frame.specs.declared.Kind.{Kind}
use Rattle.frame.specs.declared.Kind.TheVariants.{Short, Long}
use Rattle.frame.specs.Numbers.{frame_bits}
use Rattle.frame.specs.Bits.{bits_of, Bits}
use Rattle.frame.proofs.Bits.{bits_law}
use Rattle.guarantees.specs.Calls.{Call, clock, read, write, refusal_of, carried, channel_b, idle_call, idle}
use Rattle.guarantees.specs.FrameLists.{SameCalls}
use Rattle.guarantees.specs.Existence.{carry, ListsExist}
use Rattle.guarantees.proofs.HeldBits.{lead, by_lead}
use Rattle.guarantees.proofs.OneCall.{accepted_bits, bits_accepted}
use Rattle.guarantees.proofs.ChannelB.{channel_b_append}

record Carried (bs : List ℕ) (pattern calls : List Call) : Type 0 where
  pub bits : channel_b calls ≡ bs
  pub same : SameCalls calls pattern

other_bit : (trigger other bit : ℕ) → refusal_of (clock trigger other) ≡ 0 → bit < 2 → refusal_of (clock trigger bit) ≡ 0
other_bit trigger other bit h b = bits_accepted trigger bit (accepted_bits trigger other h).0 b

carries : (cs : List Call) (bs : List ℕ) → Bits bs → length bs ≡ length (channel_b cs) → Carried bs cs (carry bs cs)
unfolding carry channel_b idle carried idle_call
carries [] [] p e = record { bits = refl; same = refl }
carries [] (b ∷ bs) p e = absurd (omega arith)
carries (c ∷ cs) [] p e = record { bits = nothing (carried c ++ channel_b cs) e; same = refl }
  where
    nothing : (xs : List ℕ) → 0 ≡ length xs → xs ≡ []
    nothing [] z = refl
    nothing (x ∷ xs) z = absurd (omega arith)
carries (read number ∷ cs) (b ∷ bs) p e =
    let rest = carries cs (b ∷ bs) p e in
    record { bits = rest.bits; same = ap (λ (ds : List Call). read number ∷ ds) rest.same }
carries (write number value ∷ cs) (b ∷ bs) p e =
    let rest = carries cs (b ∷ bs) p e in
    record { bits = rest.bits; same = ap (λ (ds : List Call). write number value ∷ ds) rest.same }
carries (clock trigger other ∷ cs) (b ∷ bs) p e =
    by_refusal (eqb (refusal_of (clock trigger other)) 0) refl (λ q. carries cs bs p.1 q) (λ q. carries cs (b ∷ bs) p q) e
  where
    by_refusal : (t : Bool) → eqb (refusal_of (clock trigger other)) 0 ≡ t
        → (length bs ≡ length (channel_b cs) → Carried bs cs (carry bs cs))
        → (length (b ∷ bs) ≡ length (channel_b cs) → Carried (b ∷ bs) cs (carry (b ∷ bs) cs))
        → length (b ∷ bs) ≡ length (cond t (other ∷ []) [] ++ channel_b cs)
        → Carried (b ∷ bs) (clock trigger other ∷ cs) (cond t (clock trigger b ∷ carry bs cs) (clock trigger other ∷ carry (b ∷ bs) cs))
    by_refusal true t one more q =
        let rest = one (omega arith) in
        let z = other_bit trigger other b (eqb-true (refusal_of (clock trigger other)) 0 t) p.0 in
        record {
          bits = rw z (ap (λ (xs : List ℕ). b ∷ xs) rest.bits);
          same = rw (t, z) (ap (λ (ds : List Call). clock trigger 1 ∷ ds) rest.same);
        }
    by_refusal false t one more q =
        let rest = more q in
        record { bits = rw t rest.bits; same = rw t (ap (λ (ds : List Call). clock trigger other ∷ ds) rest.same) }

-- ---- the bits of a number

lead_length : (kind : Kind) (n : ℕ) → n + 1 ≡ frame_bits kind → lead kind ≡ n
lead_length Short n e = omega arith
lead_length Long n e = omega arith

-- the calls and the last clock, with its bit
ends_with : (calls : List Call) (trigger bit : ℕ) → refusal_of (clock trigger bit) ≡ 0 → channel_b (calls ++ (clock trigger bit ∷ [])) ≡ channel_b calls ++ (bit ∷ [])
unfolding channel_b carried
ends_with calls trigger bit h = rw (channel_b_append calls (clock trigger bit ∷ []), h) refl

pub lists_exist : ListsExist
lists_exist r pattern trigger other kind number e w h n =
    let leads = bits_of (lead kind) (number / 2) in
    let all : length (channel_b pattern ++ (other ∷ [])) ≡ frame_bits kind = ap length (sym (ends_with pattern trigger other h)) ∙ n in
    let count = lead_length kind (length (channel_b pattern)) (sym (length-append (channel_b pattern) (other ∷ [])) ∙ all) in
    let c = carries pattern leads (bits_law.all_bits (lead kind) (number / 2)) (bits_law.count (lead kind) (number / 2) ∙ count) in
    let z = other_bit trigger other (number % 2) h (mod-lt number (lit< tt)) in
    record {
      before = carry leads pattern;
      bit = number % 2;
      sends =
          record {
            is_well_formed = e;
            waits = w;
            ends_on_clock = z;
            carries =
                ends_with (carry leads pattern) trigger (number % 2) z ∙ ap (λ (bs : List ℕ). bs ++ (number % 2 ∷ [])) c.bits ∙ sym (by_lead kind number);
          };
      same_calls = c.same;
    }

-- Places and protected bits correspond one to one. Assumes nothing.
use mathlib.Core.Path.{◌≡◌, refl, sym, ap, ◌∙◌}
use mathlib.Core.Logic.{◌↔◌}
use mathlib.Core.Bool.{false}
use Prim.Native.Nat.{ℕ, ◌+◌, ◌≤◌, ◌<◌}
use native.Mathlib.Omega.{arith}
use borrow.Author.Tests.{ne_eqb, eqb-true, lt-ltb, le-ltb, ltb-true, ltb-false}
use lib.Dec.{eqb, ltb}
use Rattle.laws.proofs.Rules.{picked_by}
use Rattle.hamming.specs.declared.WrongBit.{WrongBit}
use Rattle.hamming.specs.declared.WrongBit.TheVariants.{Check, Data}
use Rattle.std.specs.declared.option.Option.{Option}
use Rattle.std.specs.declared.option.Option.TheVariants.{Some, None}
use Rattle.hamming.specs.Correction.{Protected, NoneOrProtected, flag_of}
use Rattle.hamming.specs.Place.{place_of, bit_at, PlaceTheorem}

module _ (n w : ℕ) where
  first : (p : Option WrongBit) → Protected n w p → 1 ≤ place_of n w p
  first None h = absurd h
  first (Some (Check j)) h = omega arith
  first (Some (Data i)) h = omega arith

  last : (p : Option WrongBit) → place_of n w p ≤ n + w
  last None = omega arith
  last (Some (Check j)) = omega arith
  last (Some (Data i)) = omega arith

  bit_back : (p : Option WrongBit) → NoneOrProtected n w p → bit_at n w (place_of n w p) ≡ p
  unfolding bit_at
  bit_back None h = refl
  bit_back (Some (Check j)) h =
      let place = place_of n w (Some (Check j)) in
      let some : place ≡ 0 → ⊥ = λ e. omega arith in
      let after : n < place = omega arith in
      rw (ne_eqb place 0 some, lt-ltb n place after) (ap (λ (x : ℕ). Some (Check x)) (omega arith))
  bit_back (Some (Data i)) h =
      let place = place_of n w (Some (Data i)) in
      let some : place ≡ 0 → ⊥ = λ e. omega arith in
      let before : place ≤ n = omega arith in
      rw (ne_eqb place 0 some, le-ltb n place before) (ap (λ (x : ℕ). Some (Data x)) (omega arith))

  zero_exactly : (p : Option WrongBit) → NoneOrProtected n w p → (place_of n w p ≡ 0) ↔ (flag_of p ≡ false)
  zero_exactly None h = (λ e. refl, λ e. refl)
  zero_exactly (Some (Check j)) h = (λ e. absurd (omega arith), λ e. absurd (let z : ◌≡◌ {A = ℕ} 0 1 = cc in omega arith))
  zero_exactly (Some (Data i)) h = (λ e. absurd (omega arith), λ e. absurd (let z : ◌≡◌ {A = ℕ} 0 1 = cc in omega arith))

pub place_laws : PlaceTheorem
unfolding bit_at
place_laws n w = record {
  first = first n w;
  last = last n w;
  zero_exactly = zero_exactly n w;
  bit_back = bit_back n w;
  protected_at = λ place h k.
      picked_by (Protected n w) (eqb place 0) (λ z. absurd (let none = eqb-true place 0 z in omega arith))
      (λ z. picked_by (Protected n w) (ltb n place)
      (λ t. let after = ltb-true n place t in omega arith)
      (λ t. let before = ltb-false n place t in omega arith));
  place_back = λ place h.
      picked_by (λ (p : Option WrongBit). place_of n w p ≡ place) (eqb place 0) (λ z. sym (eqb-true place 0 z))
      (λ z. picked_by (λ (p : Option WrongBit). place_of n w p ≡ place) (ltb n place)
      (λ t. let after = ltb-true n place t in omega arith)
      (λ t. let before = ltb-false n place t in omega arith));
  one_to_one = λ p q h k e. sym (bit_back n w p h) ∙ ap (bit_at n w) e ∙ bit_back n w q k;
}

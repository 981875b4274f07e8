-- What holds of the register map. Assumes nothing.
use mathlib.Core.Path.{◌≡◌, refl}
use mathlib.Core.Logic.{◌⊎◌, inl, inr}
use mathlib.Core.Bool.{Bool, true, false, cond, not, ◌&&◌, false≢true}
use mathlib.Core.List.{List, [], ◌∷◌}
use Prim.Native.Nat.{ℕ, zero, suc, ◌+◌, ◌*◌, ◌/◌, ◌%◌, ◌^◌, ◌<◌, ◌≤◌}
use native.Mathlib.Omega.{arith}
use native.Mathlib.Nat.{mod-lt}
use borrow.Author.Tests.{ne_eqb, not-true, ltb-true}
use lib.Dec.{ltb, lit<}
use Rattle.laws.specs.OneOf.{one_of}
use Rattle.laws.proofs.Rules.{picked_by}
use Rattle.laws.proofs.Below.{below}
use Rattle.laws.proofs.Tests.{both}
use Rattle.fine_delay.specs.Delay.{has_setting}
use Rattle.fine_delay.proofs.Laws.{setting_laws}
use Rattle.receiver_state.specs.declared.Core.{Core}
use Rattle.register_map.specs.Map.{map_numbers, in_map, register_byte, without_setting}
use Rattle.register_map.specs.Change.{clear_bunch, clear_event}
use Rattle.register_map.specs.Laws.{gaps, MapLaws, ByteLaws, DelayRegister, ByteWithoutSetting, WithoutSettingLaw, ClearLaws}

-- ---- the numbers of the map

-- a number is not among smaller ones
unfoldable all_below : List ℕ → ℕ → Bool
all_below [] n = true
all_below (x ∷ xs) n = ltb x n && all_below xs n

none_of : (xs : List ℕ) (n low : ℕ) → low ≤ n → all_below xs low ≡ true → one_of xs n ≡ false
unfolding one_of all_below
none_of [] n low h e = refl
none_of (x ∷ xs) n low h e =
    let smaller : x < low = ltb-true x low (both (ltb x low) (all_below xs low) e).0 in
    rw (ne_eqb n x (λ z. omega arith)) (none_of xs n low h (both (ltb x low) (all_below xs low) e).1)

agrees : (a b : Bool) → cond b (not a) a ≡ true → a ≡ not b
agrees a true e = not-true a e
agrees a false e = e

pub map_laws : MapLaws
unfolding in_map one_of all_below
map_laws =
    record {
      below_29 = λ number h. agrees (in_map number) (one_of gaps number) (below 29 (λ k. cond (one_of gaps k) (not (in_map k)) (in_map k)) refl number h);
      from_29 = λ number h. none_of map_numbers number 29 h refl;
    }

-- ---- bytes without a setting

-- a number below another, and one test more
both_hold : (number top : ℕ) (rest : Bool) → cond (ltb number top) rest false ≡ true → (number < top) × (rest ≡ true)
both_hold number top rest =
    picked_by (λ (b : Bool). b ≡ true → (number < top) × (rest ≡ true)) (ltb number top)
    (λ low e. (ltb-true number top low, e)) (λ high e. absurd (false≢true e))

below_2 : (number : ℕ) → number < 2 → DelayRegister number
below_2 zero h = inl refl
below_2 (suc zero) h = inr refl
below_2 (suc (suc number)) h = absurd (omega arith)

byte_without : (number byte : ℕ) → without_setting number byte ≡ true → ByteWithoutSetting number byte
unfolding without_setting
byte_without number byte e =
    let b = both_hold number _ _ e in
    (below_2 number b.0, (setting_laws.from_240 byte).0 (not-true (has_setting byte) b.1))

is_without : (number byte : ℕ) → ByteWithoutSetting number byte → without_setting number byte ≡ true
unfolding without_setting
is_without number byte (inl n, h) = rw (n, (setting_laws.from_240 byte).1 h) refl
is_without number byte (inr n, h) = rw (n, (setting_laws.from_240 byte).1 h) refl

pub without_setting_law : WithoutSettingLaw
without_setting_law number byte = (byte_without number byte, is_without number byte)

-- ---- what each register holds

two_bytes : (n : ℕ) → n < 2 ^ 16 → n / 2 ^ 0 % 2 ^ 8 + n / 2 ^ 8 % 2 ^ 8 * 2 ^ 8 ≡ n
two_bytes n h = omega arith

three_bytes : (n : ℕ) → n < 2 ^ 24 → n / 2 ^ 0 % 2 ^ 8 + n / 2 ^ 8 % 2 ^ 8 * 2 ^ 8 + n / 2 ^ 16 % 2 ^ 8 * 2 ^ 16 ≡ n
three_bytes n h = omega arith

pub byte_laws : ByteLaws
unfolding register_byte
byte_laws =
    record {
      single_bytes = λ core h. two_bytes core.errors.single h;
      id_bytes = λ core f. two_bytes core.ids.id (omega (arith, f.of_ids.below));
      bunch_bytes = λ core f. two_bytes core.counters.bunch (omega (arith, f.of_counters.bunch_below));
      event_bytes = λ core f. three_bytes core.counters.event f.of_counters.event_below;
      lower_bytes = λ core. (mod-lt _ (lit< tt), mod-lt _ (lit< tt), mod-lt _ (lit< tt), mod-lt _ (lit< tt), mod-lt _ (lit< tt));
      setting_bytes = λ core. (refl, refl, refl, refl);
      config_bytes = λ core. (refl, refl);
      double_byte = λ core. refl;
      upset_0 = λ core. refl;
      i2c_byte = λ core. refl;
      status_set = λ core e. rw e refl;
      status_cleared = λ core e. rw e refl;
      id_high_6 = λ core f. omega (arith, f.of_ids.below);
    }

-- ---- counters cleared

bunch_zero : (core : Core) (number : ℕ) → (number ≡ 24) ⊎ (number ≡ 25) → register_byte (clear_bunch core) number ≡ 0
unfolding register_byte
bunch_zero core number (inl n) = rw n refl
bunch_zero core number (inr n) = rw n refl

event_zero : (core : Core) (number : ℕ) → (number ≡ 26) ⊎ ((number ≡ 27) ⊎ (number ≡ 28)) → register_byte (clear_event core) number ≡ 0
unfolding register_byte
event_zero core number (inl n) = rw n refl
event_zero core number (inr (inl n)) = rw n refl
event_zero core number (inr (inr n)) = rw n refl

pub clear_laws : ClearLaws
unfolding register_byte
clear_laws =
    record {
      bunch_zero = bunch_zero;
      bunch_alone = λ core number a b. rw (ne_eqb number 24 a, ne_eqb number 25 b) refl;
      event_zero = event_zero;
      event_alone = λ core number a b c. rw (ne_eqb number 26 a, ne_eqb number 27 b, ne_eqb number 28 c) refl;
    }

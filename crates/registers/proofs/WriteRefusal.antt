-- The number that refuses a write, by the tests that lead to it. Assumes nothing.
use mathlib.Core.Path.{◌≡◌, refl}
use mathlib.Core.Logic.{◌≢◌, ◌⊎◌, inl, inr}
use mathlib.Core.Bool.{Bool, true, false, cond}
use Prim.Native.Nat.{ℕ}
use native.Mathlib.Omega.{arith}
use Rattle.register_map.specs.Map.{in_map, read_only, without_setting, config_wrong}
use Rattle.registers.specs.Access.{write_refusal}

-- of each number, the test that gave it: not in the map, read_only_lem, without a setting, a wrong Config byte
pub record Gave (in_map_lem read_only_lem without wrong : Bool) (n : ℕ) : Type 0 where
  pub none : n ≡ 0 → (without ≡ false) × (wrong ≡ false)
  pub not_two : n ≢ 2
  pub five : n ≡ 5 → in_map_lem ≡ false
  pub six : n ≡ 6 → read_only_lem ≡ true
  pub seventeen : n ≡ 17 → without ≡ true
  pub seven : n ≡ 7 → wrong ≡ true
  pub no_other : (n ≡ 0) ⊎ ((n ≡ 2) ⊎ ((n ≡ 5) ⊎ ((n ≡ 6) ⊎ ((n ≡ 17) ⊎ (n ≡ 7)))))

pub gave : (number value : ℕ) → Gave (in_map number) (read_only number) (without_setting number value) (config_wrong number value) (write_refusal number value)
unfolding write_refusal
gave number value = by_tests (in_map number) (read_only number) (without_setting number value) (config_wrong number value)
  where
    by_tests : (a b c d : Bool) → Gave a b c d (cond a (cond b 6 (cond c 17 (cond d 7 0))) 5)
    by_tests false b c d =
        record {
          none = λ e. absurd (omega arith);
          not_two = λ e. omega arith;
          five = λ e. refl;
          six = λ e. absurd (omega arith);
          seventeen = λ e. absurd (omega arith);
          seven = λ e. absurd (omega arith);
          no_other = inr (inr (inl refl));
        }
    by_tests true true c d =
        record {
          none = λ e. absurd (omega arith);
          not_two = λ e. omega arith;
          five = λ e. absurd (omega arith);
          six = λ e. refl;
          seventeen = λ e. absurd (omega arith);
          seven = λ e. absurd (omega arith);
          no_other = inr (inr (inr (inl refl)));
        }
    by_tests true false true d =
        record {
          none = λ e. absurd (omega arith);
          not_two = λ e. omega arith;
          five = λ e. absurd (omega arith);
          six = λ e. absurd (omega arith);
          seventeen = λ e. refl;
          seven = λ e. absurd (omega arith);
          no_other = inr (inr (inr (inr (inl refl))));
        }
    by_tests true false false true =
        record {
          none = λ e. absurd (omega arith);
          not_two = λ e. omega arith;
          five = λ e. absurd (omega arith);
          six = λ e. absurd (omega arith);
          seventeen = λ e. absurd (omega arith);
          seven = λ e. refl;
          no_other = inr (inr (inr (inr (inr refl))));
        }
    by_tests true false false false =
        record {
          none = λ e. (refl, refl);
          not_two = λ e. omega arith;
          five = λ e. absurd (omega arith);
          six = λ e. absurd (omega arith);
          seventeen = λ e. absurd (omega arith);
          seven = λ e. absurd (omega arith);
          no_other = inl refl;
        }

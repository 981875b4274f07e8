-- What holds of well-formed and of fresh states. Assumes nothing.
use mathlib.Core.Path.{◌≡◌, refl}
use mathlib.Core.Bool.{true, false}
use mathlib.Core.Logic.{◌≢◌, ◌⊎◌, ⊎_elim}
use Prim.Native.Nat.{ℕ, ◌<◌, ◌≤◌}
use native.Mathlib.Omega.{arith}
use borrow.Author.Tests.{eqb-false, ltb-false}
use lib.Dec.{eqb, ltb}
use Rattle.laws.proofs.Rules.{picked_by, tests}
use Rattle.fine_delay.specs.Delay.{has_setting}
use Rattle.fine_delay.proofs.Laws.{setting_laws}
use Rattle.receiver_state.specs.declared.Ids.{Ids}
use Rattle.receiver_state.specs.declared.FreshAnswer.{FreshAnswer}
use Rattle.receiver_state.specs.State.{ids, refused_fresh, fresh_state, fresh_answer}
use Rattle.receiver_state.specs.WellFormed.{well_formed, IdsFacts, ReceiverFacts}
use Rattle.receiver_state.specs.States.{WellFormedLaw, FreshLaws}
use Rattle.receiver_state.proofs.WellFormed.{receiver_facts, receiver_ok}
use Rattle.receiver_state.proofs.HeldBits.{none_facts}

pub well_formed_law : WellFormedLaw
well_formed_law r = (receiver_facts r, receiver_ok r)

0-has-setting : has_setting 0 ≡ true
0-has-setting = (setting_laws.below_240 0).1 (omega arith)

pub fresh_facts : (own : Ids) → IdsFacts own → ReceiverFacts (fresh_state own)
fresh_facts own f =
    record {
      of_core =
          record {
            of_ids = f;
            of_settings = record { fine_1 = 0-has-setting; fine_2 = 0-has-setting; config_2 = refl; config_3 = refl };
            of_counters = record { bunch_below = omega arith; event_below = omega arith };
            of_sequence = record { few = omega arith; kept_below = omega arith; none_kept = λ z. refl };
            flag = omega arith;
          };
      of_held = none_facts;
    }

not_zero : (n : ℕ) → 1 ≤ n → n ≢ 0
not_zero n h z = omega arith

refused_3 : (id i2c : ℕ) → (id ≡ 0) ⊎ (16383 < id) → fresh_answer id i2c ≡ refused_fresh 3
unfolding fresh_answer
refused_3 id i2c = ⊎_elim (λ z. search tests) (λ high. let some : id ≢ 0 = not_zero id (omega arith) in search tests)

-- what is not refused is the fresh state of IDs in range
is_well_formed : (id i2c : ℕ) → (fresh_answer id i2c).refusal ≡ 0 → well_formed (fresh_answer id i2c).receiver ≡ true
unfolding fresh_answer
is_well_formed id i2c =
    picked_by WellFormed (eqb id 0) (λ z r. absurd (omega arith))
    (λ some. picked_by WellFormed (ltb 16383 id) (λ high r. absurd (omega arith))
    (λ low. picked_by WellFormed (ltb 63 i2c) (λ high r. absurd (omega arith))
    (λ i2c_low r. receiver_ok (fresh_state (ids id i2c)) (fresh_facts (ids id i2c) (in_range some low i2c_low)))))
  where
    WellFormed : FreshAnswer → Type 0
    WellFormed answer = answer.refusal ≡ 0 → well_formed answer.receiver ≡ true

    in_range : eqb id 0 ≡ false → ltb 16383 id ≡ false → ltb 63 i2c ≡ false → IdsFacts (ids id i2c)
    in_range some low i2c_low =
        record {
          some = let n : id ≢ 0 = eqb-false id 0 some in omega arith;
          below = ltb-false 16383 id low;
          i2c_below = ltb-false 63 i2c i2c_low;
        }

pub fresh_laws : FreshLaws
unfolding fresh_answer
fresh_laws =
    record {
      accepted = λ id i2c least high i2c_high. let some : id ≢ 0 = not_zero id least in search tests;
      refused_3 = refused_3;
      refused_4 = λ id i2c least low high. let some : id ≢ 0 = not_zero id least in search tests;
      zeros = refl;
      values = λ id i2c. refl;
      status = λ own. refl;
      is_well_formed = is_well_formed;
    }

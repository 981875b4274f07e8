-- Which write is refused by which number. Assumes nothing.
use mathlib.Core.Path.{◌≡◌, refl, sym, ap, ◌∙◌}
use mathlib.Core.Logic.{◌≢◌, ◌⊎◌, inl, inr, ⊎_elim}
use mathlib.Core.Bool.{true, true≢false}
use Prim.Native.Nat.{ℕ}
use native.Mathlib.Omega.{arith}
use borrow.Author.Tests.{eqb-true, eqb-false, not-true}
use lib.Dec.{eqb}
use Rattle.laws.specs.OneOf.{one_of}
use Rattle.laws.proofs.Rules.{picked_by, by_test}
use Rattle.receiver_state.specs.declared.Receiver.{Receiver}
use Rattle.receiver_state.specs.WellFormed.{config_ok, well_formed}
use Rattle.register_map.specs.Map.{read_only, config_wrong}
use Rattle.register_map.proofs.Laws.{without_setting_law}
use Rattle.registers.specs.declared.WriteAnswer.{WriteAnswer}
use Rattle.registers.specs.Access.{write_refusal, refused_write, write_answer}
use Rattle.registers.specs.Laws.{ReadOnly, ConfigDiffers, WriteRefusals}
use Rattle.registers.proofs.WriteRefusal.{gave}
use Rattle.registers.proofs.Laws.{write_laws}

abbrev refusal : Receiver → ℕ → ℕ → ℕ
refusal r number value = (write_answer r number value).refusal

-- ---- on a well-formed state it depends on number and value alone

by_arguments : (r : Receiver) (number value : ℕ) → well_formed r ≡ true → refusal r number value ≡ write_refusal number value
unfolding write_answer
by_arguments r number value e =
    picked_by Refuses (well_formed r)
    (λ t. picked_by Refuses (eqb (write_refusal number value) 0) (λ u. sym (eqb-true (write_refusal number value) 0 u)) (λ u. refl))
    (λ t. absurd (true≢false (sym e ∙ t)))
  where
    Refuses : WriteAnswer → Type 0
    Refuses done = done.refusal ≡ write_refusal number value

-- ---- the tests, each by its words

is_read_only : (number : ℕ) → read_only number ≡ true → ReadOnly number
unfolding read_only one_of
is_read_only number e =
    by_test (eqb number 16) (λ t. inl (eqb-true number 16 t))
    (λ a. by_test (eqb number 17) (λ t. inr (inl (eqb-true number 17 t)))
    (λ b. by_test (eqb number 18) (λ t. inr (inr (inl (eqb-true number 18 t))))
    (λ c. by_test (eqb number 22) (λ t. inr (inr (inr (eqb-true number 22 t))))
    (λ d. absurd (true≢false (sym e ∙ rw (a, b, c, d) refl))))))

config_differs : (number value : ℕ) → config_wrong number value ≡ true → ConfigDiffers number value
unfolding config_wrong
config_differs number value e =
    by_test (eqb number 20) (λ t. inl (eqb-true number 20 t, eqb-false _ _ (not-true (config_ok 0x85 value) (rw t at e))))
    (λ t. by_test (eqb number 21) (λ u. inr (eqb-true number 21 u, eqb-false _ _ (not-true (config_ok 0xA7 value) (rw (t, u) at e))))
    (λ u. absurd (true≢false (sym e ∙ rw (t, u) refl))))

-- ---- the law

module _ (r : Receiver) (number value : ℕ) where
  refused : (n : ℕ) → write_answer r number value ≡ refused_write n r → refusal r number value ≡ n
  refused n e = ap (λ (done : WriteAnswer). done.refusal) e

  no_other : (refusal r number value ≡ 0) ⊎ ((refusal r number value ≡ 2) ⊎ ((refusal r number value ≡ 5) ⊎ ((refusal r number value ≡ 6) ⊎ ((refusal r number value ≡ 17) ⊎ (refusal r number value ≡ 7)))))
  no_other =
      by_test (well_formed r)
      (λ e. rw (by_arguments r number value e) (gave number value).no_other)
      (λ e. inr (inl (refused 2 (write_laws.refused_by_2 r number value e))))

  -- 2 is none of the others
  not_2 : well_formed r ≡ true → refusal r number value ≢ 2
  not_2 e = rw (by_arguments r number value e) (gave number value).not_two

pub write_refusals : WriteRefusals
write_refusals =
    record {
      by_2 = λ r number value. (
        λ n. by_test (well_formed r) (λ e. absurd (not_2 r number value e n)) (λ e. e),
        λ e. refused r number value 2 (write_laws.refused_by_2 r number value e),
      );
      by_5 = λ r number value e. (
        λ n. (gave number value).five (sym (by_arguments r number value e) ∙ n),
        λ h. refused r number value 5 (write_laws.refused_by_5 r number value e h),
      );
      by_6 = λ r number value e. (
        λ n. is_read_only number ((gave number value).six (sym (by_arguments r number value e) ∙ n)),
        λ h. refused r number value 6 (write_laws.refused_by_6 r number value e h),
      );
      by_17 = λ r number value e. (
        λ n. (without_setting_law number value).0 ((gave number value).seventeen (sym (by_arguments r number value e) ∙ n)),
        λ h. refused r number value 17 (write_laws.refused_by_17 r number value e h),
      );
      by_7 = λ r number value e. (
        λ n. config_differs number value ((gave number value).seven (sym (by_arguments r number value e) ∙ n)),
        λ h. refused r number value 7 (write_laws.refused_by_7 r number value e h),
      );
      by_no_other = no_other;
      never_both = λ number value low.
          ⊎_elim (λ h. ⊎_elim (λ z. omega (arith, h.0, z)) (λ z. omega (arith, h.0, z)) low.0)
          (λ h. ⊎_elim (λ z. omega (arith, h.0, z)) (λ z. omega (arith, h.0, z)) low.0);
    }

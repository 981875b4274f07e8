-- The refusals of settings and bytes, by the one test of each definition, and which bytes have a setting. Assumes nothing.
use Prim.Native.Nat.{ℕ, ◌≤◌, ◌<◌}
use mathlib.Core.Path.{◌≡◌, sym, ap, ◌∙◌}
use mathlib.Core.Bool.{true, false}
use borrow.Author.Tests.{lt-ltb, le-ltb, ltb-true, ltb-false}
use native.Mathlib.Omega.{arith}
use Rattle.laws.proofs.Rules.{by_test}
use lib.Dec.{ltb}
use Rattle.fine_delay.specs.declared.DelaySetting.{DelaySetting}
use Rattle.fine_delay.specs.Delay.{has_setting, setting_to_byte, byte_to_setting}
use Rattle.fine_delay.specs.Laws.{DelayLaws, SettingLaws}
use Rattle.fine_delay.proofs.Inverse.{byte_answer_lem, setting_answer, byte_back}

refused_9 : (byte : ℕ) → 239 < byte → byte_to_setting byte ≡ record { refusal = 9; setting = 0 }
unfolding byte_to_setting has_setting
refused_9 byte h = rw (le-ltb byte 240 (omega arith))

pub delay_laws : DelayLaws
unfolding setting_to_byte
delay_laws =
    record {
      refused_by_8 = λ k h. rw (lt-ltb 239 k h);
      byte_is = λ k h. byte_answer_lem k (omega arith);
      refused_by_9 = refused_9;
      setting_is = λ byte h. setting_answer byte (omega arith);
    }

-- ---- which bytes have a setting

below : (byte : ℕ) → has_setting byte ≡ true → byte < 240
unfolding has_setting
below byte e = ltb-true byte 240 e

from : (byte : ℕ) → has_setting byte ≡ false → 240 ≤ byte
unfolding has_setting
from byte e = ltb-false byte 240 e

pub setting_laws : SettingLaws
unfolding has_setting
setting_laws =
    record {
      below_240 = λ byte. (below byte, λ h. lt-ltb byte 240 h);
      from_240 = λ byte. (from byte, λ h. le-ltb byte 240 h);
      setting_named = λ byte e. record {
        gives_byte = ap setting_to_byte (sym (ap (λ (a : DelaySetting). a.setting) (setting_answer byte (below byte e)))) ∙ (byte_back byte (below byte e)).1;
        gives_setting = setting_answer byte (below byte e);
      };
      nine_exactly = λ byte. (
        λ e. ap (λ (a : DelaySetting). a.refusal) (refused_9 byte (omega (arith, from byte e))),
        λ e. by_test (ltb byte 240)
            (λ t. absurd (let z : ◌≡◌ {A = ℕ} 0 9 = sym (ap (λ (a : DelaySetting). a.refusal) (setting_answer byte (ltb-true byte 240 t))) ∙ e in omega arith))
            (λ t. t),
      );
    }

-- Settings and bytes are inverse on 0..239: tests computed at each of them. Assumes nothing.
use Prim.Native.Nat.{ℕ, ◌<◌}
use mathlib.Core.Path.{◌≡◌, refl, ap, ◌∙◌}
use native.Mathlib.Nat.{le_of_suc-le-suc}
use native.Mathlib.Omega.{arith}
use borrow.Author.Tests.{eqb-true, lt-ltb, ltb-true, le-ltb}
use lib.Dec.{eqb, ltb}
use Rattle.laws.proofs.Below.{below}
use Rattle.fine_delay.specs.declared.DelayByte.{DelayByte}
use Rattle.fine_delay.specs.declared.DelaySetting.{DelaySetting}
use Rattle.fine_delay.specs.Delay.{byte_of, setting_of, has_setting, setting_to_byte, byte_to_setting}
use Rattle.fine_delay.specs.Inverse.{SettingBack, ByteBack, NoSettingBeyond}

-- ---- the rules

setting_of_byte : (k : ℕ) → k < 240 → setting_of (byte_of k) ≡ k
unfolding byte_of setting_of
setting_of_byte k h = eqb-true (setting_of (byte_of k)) k (below 240 (λ (i : ℕ). eqb (setting_of (byte_of i)) i) refl k h)

byte_of_setting : (byte : ℕ) → byte < 240 → byte_of (setting_of byte) ≡ byte
unfolding byte_of setting_of
byte_of_setting byte h = eqb-true (byte_of (setting_of byte)) byte (below 240 (λ (i : ℕ). eqb (byte_of (setting_of i)) i) refl byte h)

byte_below : (k : ℕ) → k < 240 → byte_of k < 240
unfolding byte_of
byte_below k h = ltb-true (byte_of k) 240 (below 240 (λ (i : ℕ). ltb (byte_of i) 240) refl k h)

setting_below : (byte : ℕ) → setting_of byte < 240
unfolding setting_of
setting_below byte = omega arith

-- ---- the answers

pub byte_answer_lem : (k : ℕ) → k < 240 → setting_to_byte k ≡ record { refusal = 0; byte = byte_of k }
unfolding setting_to_byte
byte_answer_lem k h = rw (le-ltb 239 k (le_of_suc-le-suc h))

pub setting_answer : (byte : ℕ) → byte < 240 → byte_to_setting byte ≡ record { refusal = 0; setting = setting_of byte }
unfolding byte_to_setting has_setting
setting_answer byte h = rw (lt-ltb byte 240 h)

pub setting_back : SettingBack
setting_back k h = (
  ap (λ (a : DelayByte). a.refusal) (byte_answer_lem k h),
  ap (λ (a : DelayByte). byte_to_setting a.byte) (byte_answer_lem k h) ∙ setting_answer (byte_of k) (byte_below k h)
      ∙ ap (λ (s : ℕ). record { refusal = 0; setting = s }) (setting_of_byte k h),
)

pub byte_back : ByteBack
byte_back byte h = (
  ap (λ (a : DelaySetting). a.refusal) (setting_answer byte h),
  ap (λ (a : DelaySetting). setting_to_byte a.setting) (setting_answer byte h) ∙ byte_answer_lem (setting_of byte) (setting_below byte)
      ∙ ap (λ (b : ℕ). record { refusal = 0; byte = b }) (byte_of_setting byte h),
)

pub no_setting_beyond : NoSettingBeyond
no_setting_beyond k h = rw (byte_answer_lem k h) (omega (arith, byte_below k h))

-- The bits of a frame number: what was put there is received, and a flipped bit changes that bit alone. Assumes nothing.
use mathlib.Core.Path.{◌≡◌, refl, sym, ap, ap₂, ◌∙◌}
use mathlib.Core.Bool.{Bool, true, false}
use Prim.Native.Nat.{ℕ, ◌+◌, ◌*◌, ◌/◌, ◌%◌, ◌^◌, ◌<◌}
use native.Mathlib.Nat.{add_assoc, mod-lt, mul_comm}
use native.Mathlib.Omega.{arith}
use borrow.Author.Tests.{eqb-true, ltb-true}
use Rattle.laws.proofs.Rules.{tests}
use lib.Bits.{bit_xor, xor_lt, xor_shr, xor_comm, xor_self}
use lib.Pow.{pow_pos, pow-lt, pow-add, split, high, low, shr-shr, shl-shr}
use Rattle.laws.proofs.Xor.{xor_back, xor_low_bit, xor_high_bit}
use Rattle.hamming.specs.declared.WrongBit.{WrongBit}
use Rattle.hamming.specs.declared.WrongBit.TheVariants.{Check, Data}
use Rattle.std.specs.declared.option.Option.{Option}
use Rattle.std.specs.declared.option.Option.TheVariants.{Some, None}
use Rattle.hamming.specs.Correction.{Coded, flip, NoneOrProtected}
use Rattle.frame.specs.declared.Kind.{Kind}
use Rattle.frame.specs.declared.Kind.TheVariants.{Short, Long}
use Rattle.frame.specs.Numbers.{data_bits, check_bits, format_bit, frame_number, stop_bit, check_bits_of, word_bits, received, is_frame}
use Rattle.frame.specs.Frames.{flip_protected, flip_stop, flip_lead}

-- the word and the check number fit their bits
pub record Fits (kind : Kind) (sent : Coded) : Type 0 where
  pub bits_fit : sent.bits < 2 ^ data_bits kind
  pub check_fits : sent.check < 2 ^ check_bits kind

-- the number without its stop bit, and without its check bits
abbrev upper : Kind → Coded → ℕ
upper kind sent = format_bit kind * 2 ^ data_bits kind + sent.bits

abbrev front : Kind → Coded → ℕ
front kind sent = upper kind sent * 2 ^ check_bits kind + sent.check

-- ---- what was put there is received

pub stop_of : (kind : Kind) (sent : Coded) (stop : ℕ) → stop < 2 → stop_bit (frame_number kind sent stop) ≡ stop
stop_of kind sent stop h = low (front kind sent) 1 h

front_of : (kind : Kind) (sent : Coded) (stop : ℕ) → stop < 2 → frame_number kind sent stop / 2 ≡ front kind sent
front_of kind sent stop h = high (front kind sent) 1 h

pub received_of : (kind : Kind) (sent : Coded) (stop : ℕ) → stop < 2 → Fits kind sent → received kind (frame_number kind sent stop) ≡ sent
received_of kind sent stop h f = ap₂ (λ (b c : ℕ). record { bits = b; check = c }) word check
  where
    check : check_bits_of kind (frame_number kind sent stop) ≡ sent.check
    check = ap (λ (x : ℕ). x % 2 ^ check_bits kind) (front_of kind sent stop h) ∙ low (upper kind sent) (check_bits kind) f.check_fits

    word : word_bits kind (frame_number kind sent stop) ≡ sent.bits
    word =
        ap (λ (x : ℕ). x % 2 ^ data_bits kind)
        (sym (shr-shr (frame_number kind sent stop) 1 (check_bits kind)) ∙ ap (λ (x : ℕ). x / 2 ^ check_bits kind) (front_of kind sent stop h)
        ∙ high (upper kind sent) (check_bits kind) f.check_fits)
        ∙ low (format_bit kind) (data_bits kind) f.bits_fit

-- refusal 12 lets it through
pub is_frame_of : (kind : Kind) (sent : Coded) (stop : ℕ) → stop < 2 → Fits kind sent → is_frame kind (frame_number kind sent stop) ≡ true
unfolding is_frame
is_frame_of Short sent stop h f = let below : frame_number Short sent stop < 2 ^ 14 = omega (arith, f.bits_fit, f.check_fits) in search tests
is_frame_of Long sent stop h f = let lead : frame_number Long sent stop / 2 ^ 40 ≡ 1 = omega (arith, f.bits_fit, f.check_fits) in search tests

-- ---- conversely, a number that refusal 12 lets through is made of what is received

pub received_fits : (kind : Kind) (number : ℕ) → Fits kind (received kind number)
received_fits kind number = record { bits_fit = mod-lt _ (pow_pos (data_bits kind)); check_fits = mod-lt _ (pow_pos (check_bits kind)) }

-- what stands before the word
lead_is : (kind : Kind) (number : ℕ) → is_frame kind number ≡ true → number / 2 ^ (1 + check_bits kind) / 2 ^ data_bits kind ≡ format_bit kind
unfolding is_frame
lead_is Short number e = let h : number < 2 ^ 14 = ltb-true number (2 ^ 14) e in omega arith
lead_is Long number e = shr-shr number 8 32 ∙ eqb-true (number / 2 ^ 40) 1 e

pub made_of_received : (kind : Kind) (number : ℕ) → is_frame kind number ≡ true → frame_number kind (received kind number) (stop_bit number) ≡ number
made_of_received kind number e =
    ap (λ (x : ℕ). x * 2 + stop_bit number)
    (ap (λ (x : ℕ). x * 2 ^ check_bits kind + check_bits_of kind number) (upper_is ∙ sym (shr-shr number 1 (check_bits kind)))
    ∙ split (number / 2) (check_bits kind))
    ∙ split number 1
  where
    upper_is : upper kind (received kind number) ≡ number / 2 ^ (1 + check_bits kind)
    upper_is =
        ap (λ (x : ℕ). x * 2 ^ data_bits kind + word_bits kind number) (sym (lead_is kind number e))
        ∙ split (number / 2 ^ (1 + check_bits kind)) (data_bits kind)

-- ---- flips

pub flipped : (kind : Kind) (sent : Coded) (stop : ℕ) (p : Option WrongBit) → stop < 2 → Fits kind sent → NoneOrProtected (data_bits kind) (check_bits kind) p
    → flip_protected kind p (frame_number kind sent stop) ≡ frame_number kind (flip p sent) stop
flipped kind sent stop None h f b = refl
flipped kind sent stop (Some (Check j)) h f b =
    xor_high_bit 1 (front kind sent) stop j h
    ∙ ap (λ (x : ℕ). x * 2 + stop) (xor_low_bit (check_bits kind) (upper kind sent) sent.check j f.check_fits b)
flipped kind sent stop (Some (Data i)) h f b =
    ap (λ (x : ℕ). bit_xor (frame_number kind sent stop) (2 ^ x)) (add_assoc 1 (check_bits kind) i)
    ∙ xor_high_bit 1 (front kind sent) stop (check_bits kind + i) h
    ∙ ap (λ (x : ℕ). x * 2 + stop)
    (xor_high_bit (check_bits kind) (upper kind sent) sent.check i f.check_fits
    ∙ ap (λ (x : ℕ). x * 2 ^ check_bits kind + sent.check) (xor_low_bit (data_bits kind) (format_bit kind) sent.bits i f.bits_fit b))

pub flipped_fits : (kind : Kind) (sent : Coded) (p : Option WrongBit) → Fits kind sent → NoneOrProtected (data_bits kind) (check_bits kind) p → Fits kind (flip p sent)
flipped_fits kind sent None f b = f
flipped_fits kind sent (Some (Check j)) f b = record { bits_fit = f.bits_fit; check_fits = xor_lt (check_bits kind) _ _ f.check_fits (pow-lt b) }
flipped_fits kind sent (Some (Data i)) f b = record { bits_fit = xor_lt (data_bits kind) _ _ f.bits_fit (pow-lt b); check_fits = f.check_fits }

pub stop_flipped : (kind : Kind) (sent : Coded) → flip_stop (frame_number kind sent 1) ≡ frame_number kind sent 0
stop_flipped kind sent = xor_low_bit 1 (front kind sent) 1 0 (omega arith) (omega arith)

-- ---- the leading bits

-- what stands before the word in a number that was put together
lead_of : (kind : Kind) (sent : Coded) (stop : ℕ) → stop < 2 → Fits kind sent
    → frame_number kind sent stop / 2 ^ (1 + check_bits kind) / 2 ^ data_bits kind ≡ format_bit kind
lead_of kind sent stop h f =
    ap (λ (x : ℕ). x / 2 ^ data_bits kind)
    (sym (shr-shr (frame_number kind sent stop) 1 (check_bits kind)) ∙ ap (λ (x : ℕ). x / 2 ^ check_bits kind) (front_of kind sent stop h)
    ∙ high (upper kind sent) (check_bits kind) f.check_fits)
    ∙ high (format_bit kind) (data_bits kind) f.bits_fit

-- a flip in it is a flip of it
lead_xor : (kind : Kind) (number j : ℕ)
    → flip_lead kind j number / 2 ^ (1 + check_bits kind) / 2 ^ data_bits kind ≡ bit_xor (number / 2 ^ (1 + check_bits kind) / 2 ^ data_bits kind) (2 ^ j)
lead_xor kind number j =
    ap (λ (x : ℕ). x / 2 ^ n) (xor_shr number (2 ^ (k + n + j)) k)
    ∙ xor_shr (number / 2 ^ k) (2 ^ (k + n + j) / 2 ^ k) n
    ∙ ap (bit_xor (number / 2 ^ k / 2 ^ n))
    (shr-shr (2 ^ (k + n + j)) k n ∙ ap (λ (x : ℕ). x / 2 ^ (k + n)) (pow-add 2 (k + n) j ∙ mul_comm (2 ^ (k + n)) (2 ^ j)) ∙ shl-shr (2 ^ j) (k + n))
  where
    k : ℕ
    k = 1 + check_bits kind

    n : ℕ
    n = data_bits kind

-- a flip of a number leaves another one
xor_moves : (a j : ℕ) → bit_xor a (2 ^ j) ≡ a → ⊥
xor_moves a j e =
    let none : 2 ^ j ≡ 0 = sym (xor_back (2 ^ j) a) ∙ ap (λ (x : ℕ). bit_xor x a) (xor_comm (2 ^ j) a ∙ e) ∙ xor_self a in
    omega (arith, pow_pos j)

pub lead_flipped : (kind : Kind) (sent : Coded) (stop j : ℕ) → stop < 2 → Fits kind sent → is_frame kind (flip_lead kind j (frame_number kind sent stop)) ≡ false
lead_flipped kind sent stop j h f = by_test (is_frame kind (flip_lead kind j number)) refl
  where
    number : ℕ
    number = frame_number kind sent stop

    by_test : (t : Bool) → is_frame kind (flip_lead kind j number) ≡ t → t ≡ false
    by_test false e = refl
    by_test true e =
        absurd
        (xor_moves (format_bit kind) j
        (ap (λ (x : ℕ). bit_xor x (2 ^ j)) (sym (lead_of kind sent stop h f)) ∙ sym (lead_xor kind number j) ∙ lead_is kind (flip_lead kind j number) e))

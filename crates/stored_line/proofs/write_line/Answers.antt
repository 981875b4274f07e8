-- `stored_line::write_line` meets its contract: a refusal stores nothing; else the line feed is stored first, then the digits before it.
-- Assumes nothing.
use mathlib.Core.Path.{◌≡◌, ap, ap₂, ◌∙◌}
use mathlib.Core.Bool.{true}
use mathlib.Core.List.{List, ◌++◌}
use Prim.Native.Nat.{ℕ, suc, ◌≤◌, ◌<◌}
use native.Mathlib.Nat.{le_of_lt}
use native.Mathlib.Numerals.{add-one}
use native.Mathlib.Omega.{arith}
use borrow.Author.Tests.{lt-ltb, le-ltb}
use lib.ListN.{length, drop, set, length-set, length-append, length-drop}
use Rattle.frame.specs.declared.Kind.{Kind}
use Rattle.frame.specs.declared.Kind.TheVariants.{Short, Long}
use Rattle.frame.specs.Numbers.{is_frame}
use Rattle.laws.proofs.Rules.{denied, granted}
use Rattle.stored_line.specs.Digits.{hex_digits}
use Rattle.stored_line.specs.Read.{digit_count}
use Rattle.refusals.specs.Refusals.{number as refusal_number}
use Rattle.refusals.specs.declared.Refusal.TheVariants.{LineBuffer}
use Rattle.std.specs.Prelude.{Ok, Err}
use Rattle.stored_line.specs.Write.{written_answer, write_done, line_length, write_line}
use Rattle.stored_line.proofs.Digits.{stored_behind, length_digits}
use Rattle.stored_line.proofs.write_line.Goals as goal

-- ---- the definition at a number d of digits that is that of the kind

too_small : (kind : Kind) (number : ℕ) (buffer : List ℕ) (d : ℕ) → d ≡ digit_count kind → is_frame kind number ≡ true → length buffer ≤ d
    → write_done (written_answer (Err LineBuffer)) buffer ≡ write_line kind number buffer
unfolding write_line refusal_number
too_small kind number buffer d e f h = rw (f, lt-ltb (length buffer) (line_length kind) (omega arith))

large_enough : (kind : Kind) (number : ℕ) (buffer : List ℕ) (d : ℕ) → d ≡ digit_count kind → is_frame kind number ≡ true → d < length buffer
    → write_done (written_answer (Ok (suc d))) (hex_digits d number ++ drop d (set buffer d 10)) ≡ write_line kind number buffer
unfolding write_line
large_enough kind number buffer d e f h =
    rw (f, le-ltb (length buffer) (line_length kind) (omega arith), e)
    (ap (write_done _) (stored_behind buffer (hex_digits (digit_count kind) number) (digit_count kind) 10 (omega arith)))

count_small : (kind : Kind) → digit_count kind ≤ 11
count_small Short = omega arith
count_small Long = omega arith

-- ---- the goals

pub returns-then-not-is_frame : goal.returns-then-not-is_frame
unfolding write_line refusal_number
returns-then-not-is_frame c = rw (denied _ _ c.is_frame.ensures c.if-not-is_frame.true)

pub returns-then-buffer-digits : goal.returns-then-buffer-digits
returns-then-buffer-digits c =
    too_small _ _ _ _ c.digit_count-digits.ensures (granted _ _ c.is_frame.ensures c.if-not-is_frame.false)
    (omega (arith, c.if-buffer-digits.true))

pub write_digits-requires : goal.write_digits-requires
write_digits-requires c = rw length-set (le_of_lt c.if-buffer-digits.false)

pub overflow_cast-result : goal.overflow_cast-result
overflow_cast-result c =
    omega (arith, c.digit_count-digits.ensures, count_small c.args.kind)

pub shape_of-buffer : goal.shape_of-buffer
shape_of-buffer c =
    ap length c.write_digits.ensures
    ∙ rw (length-append, length_digits, length-drop, length-set) (omega (arith, c.if-buffer-digits.false))

pub returns : goal.returns
returns c =
    let digits = c.digit_count-digits in
    ap₂ (λ (n : ℕ) (b : List ℕ). write_done (written_answer (Ok n)) b) (add-one digits.result) c.write_digits.ensures
    ∙ large_enough _ _ _ _ digits.ensures
    (granted _ _ c.is_frame.ensures c.if-not-is_frame.false)
    c.if-buffer-digits.false

-- Numbers stored in a list from a place on. Assumes nothing.
use mathlib.Core.Path.{◌≡◌, sym, ap, ◌∙◌}
use mathlib.Core.List.{List, [], ◌∷◌, ◌++◌}
use Prim.Native.Nat.{ℕ, suc, ◌+◌, ◌≤◌}
use native.Mathlib.Nat.{add-zero, zero-add, add-suc, suc-add}
use native.Mathlib.Omega.{arith}
use lib.ListN.{length, drop}
use lib.Seq.{sets, sets-eq}

-- stored together or one behind the other
pub sets_append : (first second before : List ℕ) (at : ℕ) → sets before at (first ++ second) ≡ sets (sets before at first) (at + length first) second
sets_append [] second before at = ap (λ (n : ℕ). sets before n second) (sym (add-zero at))
sets_append (c ∷ first) second before at =
    sets_append first second _ (suc at)
    ∙ ap (λ (n : ℕ). sets (sets before at (c ∷ first)) n second) (suc-add at (length first) ∙ sym (add-suc at (length first)))

-- stored at the front, with what was beyond
pub sets_front : (front list : List ℕ) → length front ≤ length list → sets list 0 front ≡ front ++ drop (length front) list
sets_front front list h = sets-eq front list 0 (omega arith) ∙ ap (λ (n : ℕ). front ++ drop n list) (zero-add (length front))

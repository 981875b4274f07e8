-- The bit that was corrected, by its place. Assumes nothing.
use mathlib.Core.Path.{◌≡◌, refl, subst}
use mathlib.Core.Bool.{true}
use mathlib.Core.Logic.{◌≢◌}
use mathlib.Core.List.{List}
use Prim.Native.Nat.{ℕ, ◌≤◌}
use native.Mathlib.Omega.{arith}
use Rattle.hamming.proofs.Place.{place_laws}
use Rattle.frame.specs.declared.Kind.{Kind}
use Rattle.frame.specs.declared.Judged.{Judged}
use Rattle.frame.specs.declared.Judged.TheVariants.{StopZero, EvenSyndrome, OddSyndrome, FixedZero, Good}
use Rattle.frame.specs.Numbers.{data_bits, check_bits, is_frame}
use Rattle.frame.specs.Encode.{fields_of}
use Rattle.frame.specs.Place.{places}
use Rattle.frame.specs.Decode.{judged, answer_to, finished_answer}
use Rattle.frame.specs.Frames.{PlaceByFlag, FrameFacts}
use Rattle.receiver_state.specs.declared.Clocked.{Clocked}
use Rattle.verdicts.specs.Finished.{finished, finished_by}
use Rattle.verdicts.specs.FrameLaws.{CleanAt, BitNamed}
use Rattle.verdicts.proofs.Verdicts.{finished_answer_lem}
use Rattle.verdicts.proofs.Executed.{good_encoding}

-- of any columns
pub place_most : (kind : Kind) (found : Judged) → (answer_to kind found).place ≤ places kind
place_most kind StopZero = omega arith
place_most kind EvenSyndrome = omega arith
place_most kind OddSyndrome = omega arith
place_most kind (FixedZero word) = omega arith
place_most kind (Good word wrong) = (place_laws (data_bits kind) (check_bits kind)).last wrong

-- a number other than 0
some_place : (n : ℕ) → n ≢ 0 → 1 ≤ n
some_place n h = omega (arith, h)

module _ (columns : Kind → List ℕ) (facts : (kind : Kind) → FrameFacts (columns kind) kind) (idle : Clocked) where
  -- flipped at its place, a frame with the flag is the clean one
  clean_at : (kind : Kind) (number : ℕ) → is_frame kind number ≡ true → (found : Judged) → judged (columns kind) kind number ≡ found
      → (answer_to kind found).corrected ≢ 0 → CleanAt columns kind number (answer_to kind found).place (answer_to kind found).word
  clean_at kind number h StopZero e n = absurd (n refl)
  clean_at kind number h EvenSyndrome e n = absurd (n refl)
  clean_at kind number h OddSyndrome e n = absurd (n refl)
  clean_at kind number h (FixedZero word) e n = absurd (n refl)
  clean_at kind number h (Good word wrong) e n =
      let p = good_encoding columns facts idle kind number h word wrong e in
      record { fields = fields_of kind word; in_range = p.1.in_range; clean_is = p.1.clean_is; word_is = p.1.word_is }

  pub bit_named : (kind : Kind) (number : ℕ) → is_frame kind number ≡ true → BitNamed columns kind number (finished_by columns kind number idle).outputs
  unfolding finished finished_answer
  bit_named kind number h =
      let p = subst (PlaceByFlag kind) (finished_answer_lem columns kind number h) ((facts kind).place_answered number) in
      record {
        no_place = p.zero_exactly.1;
        first = λ n. some_place _ (λ z. n (p.zero_exactly.0 z));
        last = p.last;
        clean = clean_at kind number h (judged (columns kind) kind number) refl;
      }

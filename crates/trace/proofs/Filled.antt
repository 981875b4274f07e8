-- The filled part of a buffer. Assumes nothing.
use Prim.Native.Nat.{ℕ, ◌*◌, ◌≤◌, ◌<◌}
use mathlib.Core.Path.{◌≡◌, ap, ◌∙◌}
use mathlib.Core.List.{List}
use native.Mathlib.Omega.{arith}
use borrow.Author.Tests.{leb-true, leb-false}
use lib.Dec.{leb}
use lib.ListN.{length, take}
use lib.Seq.{length-take-le}
use Rattle.laws.proofs.Rules.{picked_by}
use Rattle.trace.specs.Record.{record_numbers}
use Rattle.trace.specs.Filled.{filled_length, filled_part, FilledLaws}

module _ (room records : ℕ) where
  five_each : 5 * records ≤ room → filled_length room records ≡ 5 * records
  unfolding filled_length
  five_each h =
      picked_by (λ (n : ℕ). n ≡ 5 * records) (leb (record_numbers * records) room) (λ t. omega arith)
      (λ t. let over : room < record_numbers * records = leb-false _ _ t in omega arith)

  none : room < 5 * records → filled_length room records ≡ 0
  unfolding filled_length
  none h =
      picked_by (λ (n : ℕ). n ≡ 0) (leb (record_numbers * records) room)
      (λ t. let fit : record_numbers * records ≤ room = leb-true _ _ t in omega arith) (λ t. omega arith)

fits : (buffer : List ℕ) (records : ℕ) → 5 * records ≤ length buffer → filled_part buffer records ≡ take (5 * records) buffer
fits buffer records h = ap (λ (n : ℕ). take n buffer) (five_each (length buffer) records h)

pub filled_laws : FilledLaws
filled_laws =
    record {
      filled_part_lem = fits;
      its_length = λ buffer records h. ap length (fits buffer records h) ∙ length-take-le (5 * records) buffer h;
      empty_front = λ buffer records h. ap (λ (n : ℕ). take n buffer) (none (length buffer) records h);
    }

-- it lies within the buffer
pub within : (room records : ℕ) → filled_length room records ≤ room
unfolding filled_length
within room records =
    picked_by (λ (n : ℕ). n ≤ room) (leb (record_numbers * records) room) (λ e. leb-true (record_numbers * records) room e) (λ e. omega arith)

-- Document 01's two uses of the correction theorem, and its trap. Assumes nothing.
use mathlib.Core.Path.{◌≡◌, sym, ◌∙◌}
use mathlib.Core.Logic.{inl, inr}
use Prim.Native.Nat.{ℕ, ◌≤◌, ◌<◌}
use native.Mathlib.Omega.{arith}
use borrow.Author.Tests.{lt-ltb}
use lib.Count.{ones}
use lib.Dec.{ltb, lit≤}
use lib.ListN.{length, take, get_or}
use lib.Seq.{get_or-take, length-take-le}
use lib.Pow.{pow_mono}
use Rattle.laws.proofs.Rules.{picked}
use Rattle.hamming.specs.Code.{first_from, by_syndrome, decode_word}
use Rattle.hamming.specs.Columns.{column_table, width_at, ColumnFacts}
use Rattle.hamming.specs.Correction.{GoodColumns}
use Rattle.hamming.specs.Uses.{ShortColumnsGood, ShortFrames, LongColumnsGood, LongFrames, OddButNoBit}
use Rattle.hamming.proofs.Correction.{correction}
use Rattle.hamming.proofs.Columns.{table_facts}

-- the first n columns are good for w check bits, where each of them fits
good : (n w : ℕ) → n ≤ 32 → ((i : ℕ) → i < n → width_at i ≤ w) → GoodColumns w (take n column_table)
good n w h fit = record {
  fit = λ i l. rw (at i l) (omega (arith, (facts i l).fits, pow_mono (fit i (below i l))));
  odd = λ i l. rw (at i l) (omega (arith, (facts i l).three));
  at_least_three = λ i l. rw (at i l) (omega (arith, (facts i l).three));
  distinct = λ i k l m e. (facts i l).distinct k (omega (arith, below k m)) (sym (at i l) ∙ e ∙ at k m);
}
  where
    below : (i : ℕ) → i < length (take n column_table) → i < n
    below i l = omega (arith, length-take-le n column_table h)

    at : (i : ℕ) → i < length (take n column_table) → get_or (take n column_table) i 0 ≡ get_or column_table i 0
    at i l = get_or-take n column_table i 0 (below i l)

    facts : (i : ℕ) → i < length (take n column_table) → ColumnFacts i
    facts i l = table_facts i (omega (arith, below i l))

pub short_columns_good : ShortColumnsGood
short_columns_good = good 8 _ (lit≤ tt) (λ i l. rw (lt-ltb i 8 l) (lit≤ tt))

pub short_frames : ShortFrames
short_frames = correction _ _ short_columns_good

width_at_lem : (w i : ℕ) → 7 ≤ w → width_at i ≤ w
width_at_lem w i h = picked (λ (x : ℕ). x ≤ w) (ltb i 8) (omega arith) h

pub long_columns_good : LongColumnsGood
long_columns_good = good 32 _ (lit≤ tt) (λ i l. width_at_lem _ i (lit≤ tt))

pub long_frames : LongFrames
long_frames = correction _ _ long_columns_good

pub odd_but_no_bit : OddButNoBit
unfolding by_syndrome first_from decode_word ones
odd_but_no_bit d check s (inl h) e = rw (e ∙ h)
odd_but_no_bit d check s (inr (inl h)) e = rw (e ∙ h)
odd_but_no_bit d check s (inr (inr h)) e = rw (e ∙ h)

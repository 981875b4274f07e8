-- Frames with lent columns: what is answered to a table that passes, and to one that does not. Assumes nothing.
use mathlib.Core.Path.{◌≡◌, refl, ap, ◌∙◌}
use mathlib.Core.Logic.{◌≢◌}
use mathlib.Core.List.{List}
use Prim.Native.Nat.{ℕ}
use native.Mathlib.Omega.{arith}
use borrow.Author.Tests.{eq-eqb, ne_eqb}
use lib.Count.{ones}
use Rattle.laws.specs.Tests.{every}
use Rattle.laws.specs.OneOf.{one_of}
use Rattle.frame.specs.declared.Kind.{Kind}
use Rattle.frame.specs.declared.Kind.TheVariants.{Short, Long}
use Rattle.frame.specs.declared.Fields.{Fields}
use Rattle.frame.specs.Numbers.{check_bits}
use Rattle.frame.specs.Frames.{InRange, encode_frame, fields_answer, FrameFacts}
use Rattle.frame.proofs.Frames.{frame_theorem}
use Rattle.hamming.proofs.Correction.{correction}
use Rattle.lent_columns.specs.declared.EncodedWithIndex.{EncodedWithIndex}
use Rattle.lent_columns.specs.Check.{lent_columns, first_bad, check_columns}
use Rattle.lent_columns.specs.Laws.{Passes}
use Rattle.lent_columns.specs.Frames.{encode_short_with_columns, encode_long_with_columns, decode_with_columns, FramesOver, FramesRefused}
use Rattle.lent_columns.specs.Frames.{encoded_with, decoded_with, encode_with_columns, FramesTheorem, own_table, OwnColumns}
use Rattle.lent_columns.proofs.Laws.{check_theorem}

module _ (table : List ℕ) where
  -- a table that passes is answered with index 0
  pub index_0 : Passes table → (check_columns table).index ≡ 0
  index_0 p = (check_theorem table).no_index (λ e. omega arith)

  over : Passes table → FramesOver (lent_columns table) table
  unfolding encode_short_with_columns encode_long_with_columns decode_with_columns
  over p = record {
    encode_short_lem = λ byte. rw (eq-eqb (check_columns table).refusal 0 p, index_0 p);
    encode_long_lem = λ address e sub byte. rw (eq-eqb (check_columns table).refusal 0 p, index_0 p);
    decode = λ kind number. rw (eq-eqb (check_columns table).refusal 0 p, index_0 p);
  }

  refused : (check_columns table).refusal ≢ 0 → FramesRefused (check_columns table).refusal (check_columns table).index table
  unfolding encode_short_with_columns encode_long_with_columns decode_with_columns
  refused n = record {
    encode_short_lem = λ byte. rw (ne_eqb (check_columns table).refusal 0 n);
    encode_long_lem = λ address e sub byte. rw (ne_eqb (check_columns table).refusal 0 n);
    decode = λ kind number. rw (ne_eqb (check_columns table).refusal 0 n);
  }

  facts : Passes table → (kind : Kind) → FrameFacts (lent_columns table kind) kind
  facts p kind = let good = ((check_theorem table).passes_exactly.0 p).1 kind in frame_theorem (lent_columns table kind) kind good.0 good.1

  encodes : Passes table → (kind : Kind) (fields : Fields) → encode_with_columns table kind fields ≡ encoded_with 0 (encode_frame (lent_columns table kind) kind fields)
  encodes p Short fields = (over p).encode_short_lem fields.«data»
  encodes p Long fields = (over p).encode_long_lem fields.address fields.e fields.sub fields.«data»

  round_trip : Passes table → (kind : Kind) (fields : Fields) → InRange kind fields
      → decode_with_columns table kind (encode_with_columns table kind fields).answer.number ≡ decoded_with 0 (fields_answer kind 0 0 fields)
  round_trip p kind fields h =
      ap (λ (sent : EncodedWithIndex). decode_with_columns table kind sent.answer.number) (encodes p kind fields)
      ∙ (over p).decode kind (encode_frame (lent_columns table kind) kind fields).number
      ∙ ap (decoded_with 0) ((facts p kind).round_trip fields h)

pub frames_theorem : FramesTheorem
frames_theorem table = record {
  accepted = over table;
  corrects = λ p kind. correction (check_bits kind) (lent_columns table kind) (((check_theorem table).passes_exactly.0 p).1 kind).1;
  facts = facts table;
  round_trip = round_trip table;
  refused = refused table;
}

own_passes : Passes own_table
unfolding check_columns first_bad every one_of ones
own_passes = refl

pub own_columns : OwnColumns
own_columns = record {
  passes = own_passes;
  columns_are = refl;
  frames = over own_table own_passes;
}

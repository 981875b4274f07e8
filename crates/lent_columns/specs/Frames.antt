-- Document 02, Q-11: frames encoded and decoded with lent columns. The structs are those of src/lib.rt: the answer without columns, and the index.
-- Proved in proofs/Frames.antt.
use Rattle.std.specs.Prelude.{ℕ, ◌≡◌, ◌≢◌, cond, List, ◌++◌, eqb, Result}
use Rattle.hamming.specs.Columns.{short_columns, long_columns}
use Rattle.hamming.specs.Correction.{Corrects}
use Rattle.refusals.specs.declared.Refusal.{Refusal}
use Rattle.refusals.specs.Refusals.{index_of}
use Rattle.frame.specs.declared.Judged.{Judged}
use Rattle.frame.specs.declared.Kind.{Kind}
use Rattle.frame.specs.declared.Kind.TheVariants.{Short, Long}
use Rattle.frame.specs.declared.Encoded.{Encoded}
use Rattle.frame.specs.declared.Answer.{Answer}
use Rattle.frame.specs.Columns.{columns_of}
use Rattle.frame.specs.Encode.{encode_short, encode_long, encoder_answer}
use Rattle.frame.specs.Decode.{bare_answer, decode_frame, decoder_answer}
use Rattle.frame.specs.declared.Fields.{Fields}
use Rattle.frame.specs.Numbers.{check_bits}
use Rattle.frame.specs.Frames.{InRange, fields_answer, FrameFacts}
use Rattle.lent_columns.specs.declared.ColumnsAnswer.{ColumnsAnswer}
use Rattle.lent_columns.specs.declared.EncodedWithIndex.{EncodedWithIndex}
use Rattle.lent_columns.specs.declared.DecodedWithIndex.{DecodedWithIndex}
use Rattle.lent_columns.specs.Check.{lent_columns, check_columns}
use Rattle.lent_columns.specs.Laws.{Passes}

-- "before all others": an answer, unless it was refused before
abbrev pub unless_refused : {A : Type 0} → ColumnsAnswer → (ℕ → A) → A → A
unless_refused before refuse answer = cond (eqb before.refusal 0) answer (refuse before.refusal)

-- document 01: "its number with all other result fields 0 (save an index that a later request wants told, counted from 0)"
abbrev pub refused_encoded : ℕ → Encoded
refused_encoded refusal = record { refusal = refusal; number = 0 }

abbrev pub refused_decoded : ℕ → Answer
refused_decoded refusal = bare_answer refusal 0 0

-- "Where frames are encoded, decoded or clocked, .. let the caller lend 40 column numbers"
unfoldable pub encode_short_with_columns : List ℕ → ℕ → EncodedWithIndex
encode_short_with_columns table byte = let checked = check_columns table in record {
  answer = unless_refused checked refused_encoded (encode_short (lent_columns table Short) byte);
  index = checked.index;
}

unfoldable pub encode_long_with_columns : List ℕ → ℕ → ℕ → ℕ → ℕ → EncodedWithIndex
encode_long_with_columns table address e sub byte = let checked = check_columns table in record {
  answer = unless_refused checked refused_encoded (encode_long (lent_columns table Long) address e sub byte);
  index = checked.index;
}

unfoldable pub decode_with_columns : List ℕ → Kind → ℕ → DecodedWithIndex
decode_with_columns table kind number = let checked = check_columns table in record {
  answer = unless_refused checked refused_decoded (decode_frame (lent_columns table kind) kind number);
  index = checked.index;
}

-- ---- what the four functions answer: all of them at once

abbrev pub encoded_with : ℕ → Encoded → EncodedWithIndex
encoded_with index answer = record { answer = answer; index = index }

abbrev pub decoded_with : ℕ → Answer → DecodedWithIndex
decoded_with index answer = record { answer = answer; index = index }

-- with this table, what the definitions of the functions without columns give over these columns, and index 0
pub record FramesOver (columns : Kind → List ℕ) (table : List ℕ) : Type 0 where
  pub encode_short_lem : (byte : ℕ) → encode_short_with_columns table byte ≡ encoded_with 0 (encode_short (columns Short) byte)
  pub encode_long_lem : (address e sub byte : ℕ)
      → encode_long_with_columns table address e sub byte ≡ encoded_with 0 (encode_long (columns Long) address e sub byte)
  pub decode : (kind : Kind) (number : ℕ) → decode_with_columns table kind number ≡ decoded_with 0 (decode_frame (columns kind) kind number)

-- with this table all are refused, whatever the other arguments are
pub record FramesRefused (refusal index : ℕ) (table : List ℕ) : Type 0 where
  pub encode_short_lem : (byte : ℕ) → encode_short_with_columns table byte ≡ encoded_with index (refused_encoded refusal)
  pub encode_long_lem : (address e sub byte : ℕ) → encode_long_with_columns table address e sub byte ≡ encoded_with index (refused_encoded refusal)
  pub decode : (kind : Kind) (number : ℕ) → decode_with_columns table kind number ≡ decoded_with index (refused_decoded refusal)

-- what C is handed: a refusal's index beside the answer, 0 where it tells none
abbrev pub encoded_outcome : Result ℕ Refusal → EncodedWithIndex
encoded_outcome given = encoded_with (index_of given) (encoder_answer given)

abbrev pub decoded_outcome : Kind → Result Judged Refusal → DecodedWithIndex
decoded_outcome kind given = decoded_with (index_of given) (decoder_answer kind given)

-- ---- the statements

-- the encoder with columns of each kind of frame
abbrev pub encode_with_columns : List ℕ → Kind → Fields → EncodedWithIndex
encode_with_columns table Short fields = encode_short_with_columns table fields.«data»
encode_with_columns table Long fields = encode_long_with_columns table fields.address fields.e fields.sub fields.«data»

pub record FramesWithColumns (table : List ℕ) : Type 0 where
  -- a table that passes: so all that is said below of the definitions over its columns is said of the functions with columns
  pub accepted : Passes table → FramesOver (lent_columns table) table
  -- "Prove the correction facts once over every such table", and what follows from them of frames
  pub corrects : Passes table → (kind : Kind) → Corrects (check_bits kind) (lent_columns table kind)
  pub facts : Passes table → (kind : Kind) → FrameFacts (lent_columns table kind) kind
  -- demand 2, "decoding what was encoded gives the fields back"
  pub round_trip : Passes table → (kind : Kind) (fields : Fields) → InRange kind fields
      → decode_with_columns table kind (encode_with_columns table kind fields).answer.number ≡ decoded_with 0 (fields_answer kind 0 0 fields)
  pub refused : (check_columns table).refusal ≢ 0 → FramesRefused (check_columns table).refusal (check_columns table).index table

abbrev pub FramesTheorem : Type 0
FramesTheorem = (table : List ℕ) → FramesWithColumns table

-- document 01's own columns as a caller would lend them
abbrev pub own_table : List ℕ
own_table = short_columns ++ long_columns

-- they pass, and with them these functions are those without columns
pub record OwnColumns : Type 0 where
  pub passes : Passes own_table
  pub columns_are : lent_columns own_table ≡ columns_of
  pub frames : FramesOver columns_of own_table

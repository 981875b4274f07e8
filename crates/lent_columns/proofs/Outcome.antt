-- What a refused check of the columns leads to, and what a passed one does, for each function that begins with it. Assumes nothing.
use mathlib.Core.Path.{◌≡◌, refl, sym, ap, ◌∙◌}
use mathlib.Core.Bool.{Bool, true, false, cond}
use mathlib.Core.List.{List}
use lib.Dec.{ltb}
use Prim.Native.Nat.{ℕ}
use Rattle.std.specs.Result.{IfOk}
use Rattle.std.specs.declared.result.Result.{Result}
use Rattle.std.specs.declared.result.Result.TheVariants.{Ok, Err}
use Rattle.refusals.specs.declared.Refusal.{Refusal}
use Rattle.refusals.specs.declared.Refusal.TheVariants.{Frame, Field}
use Rattle.refusals.specs.Refusals.{number, index}
use Rattle.refusals.proofs.Laws.{none_is_success}
use Rattle.hamming.specs.Code.{in_use}
use Rattle.frame.specs.declared.Columns.{Columns}
use Rattle.frame.specs.declared.Judged.{Judged}
use Rattle.frame.specs.declared.Kind.{Kind}
use Rattle.frame.specs.declared.Kind.TheVariants.{Short, Long}
use Rattle.frame.specs.Columns.{tables}
use Rattle.frame.specs.Numbers.{is_frame}
use Rattle.frame.specs.Encode.{encode_word, encode_fields, refused13, encode_long, encode_number}
use Rattle.frame.specs.Decode.{judged, answer_to, bare_answer, decode_frame, decode_number}
use Rattle.lent_columns.specs.Check.{columns_answer, columns_outcome, check_columns, lent_columns}
use Rattle.lent_columns.specs.Frames.{encoded_with, decoded_with, encoded_outcome, decoded_outcome, encode_short_with_columns, encode_long_with_columns, decode_with_columns}

module _ (table : List ℕ) where
  pub short_refused : (byte : ℕ) (refusal : Refusal) → columns_outcome (Err refusal) ≡ check_columns table
      → encoded_outcome (Err refusal) ≡ encode_short_with_columns table byte
  unfolding encode_short_with_columns
  short_refused byte refusal e = rw (sym e, none_is_success refusal)

  pub long_refused : (address e sub byte : ℕ) (refusal : Refusal) → columns_outcome (Err refusal) ≡ check_columns table
      → encoded_outcome (Err refusal) ≡ encode_long_with_columns table address e sub byte
  unfolding encode_long_with_columns
  long_refused address e sub byte refusal r = rw (sym r, none_is_success refusal)

  pub decode_refused : (kind : Kind) (n : ℕ) (refusal : Refusal) → columns_outcome (Err refusal) ≡ check_columns table
      → decoded_outcome kind (Err refusal) ≡ decode_with_columns table kind n
  unfolding decode_with_columns
  decode_refused kind n refusal e = rw (sym e, none_is_success refusal)

  module _ (lent : Columns) (passed : columns_answer 0 0 ≡ check_columns table) (same : tables lent ≡ lent_columns table) where
    pub short_encoded : (byte frame : ℕ) → frame ≡ encode_word (in_use lent.short.now) Short byte
        → encoded_with 0 (record { refusal = 0; number = frame }) ≡ encode_short_with_columns table byte
    unfolding encode_short_with_columns
    short_encoded byte frame e =
        rw (sym passed)
        (ap (λ (n : ℕ). encoded_with 0 (record { refusal = 0; number = n })) (e ∙ ap (λ (columns : Kind → List ℕ). encode_word (columns Short) Short byte) same))

    pub long_encoded : (address e sub byte : ℕ) (given : Result ℕ Refusal) → given ≡ encode_number (in_use lent.long.now) address e sub byte
        → encoded_outcome given ≡ encode_long_with_columns table address e sub byte
    unfolding encode_long_with_columns encode_long encode_number number index
    long_encoded address e sub byte given q =
        rw (sym passed)
        (ap encoded_outcome (q ∙ ap (λ (columns : Kind → List ℕ). encode_number (columns Long) address e sub byte) same) ∙ go (ltb 16383 address) (ltb 1 e))
      where
        sent : ℕ
        sent = encode_fields (lent_columns table Long) Long (record { address = address; e = e; sub = sub; «data» = byte })

        go : (a b : Bool) → encoded_outcome (cond a (Err Field) (cond b (Err Field) (Ok sent)))
            ≡ encoded_with 0 (cond a refused13 (cond b refused13 (record { refusal = 0; number = sent })))
        go true b = refl
        go false true = refl
        go false false = refl

    pub frame_decoded : (kind : Kind) (n : ℕ) (given : Result Judged Refusal) → given ≡ decode_number (tables lent kind) kind n
        → decoded_outcome kind given ≡ decode_with_columns table kind n
    unfolding decode_with_columns decode_frame decode_number number index
    frame_decoded kind n given q =
        rw (sym passed)
        (ap (decoded_outcome kind) (q ∙ ap (λ (columns : Kind → List ℕ). decode_number (columns kind) kind n) same) ∙ go (is_frame kind n))
      where
        said : Judged
        said = judged (lent_columns table kind) kind n

        go : (b : Bool) → decoded_outcome kind (cond b (Ok said) (Err Frame)) ≡ decoded_with 0 (cond b (answer_to kind said) (bare_answer 12 0 0))
        go true = refl
        go false = refl

    -- the wrong bit with it, of which C is told the place alone
    pub frame_said : (kind : Kind) (n : ℕ) (given : Result Judged Refusal) → given ≡ decode_number (tables lent kind) kind n
        → IfOk given (λ said. Ok said ≡ decode_number (lent_columns table kind) kind n)
    frame_said kind n (Ok said) q = q ∙ ap (λ (columns : Kind → List ℕ). decode_number (columns kind) kind n) same
    frame_said kind n (Err refusal) q = tt

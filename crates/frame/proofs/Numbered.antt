-- What C is handed in place of an encoder's answer, and of a decoder's. Assumes nothing.
use mathlib.Core.Path.{◌≡◌, refl}
use mathlib.Core.Bool.{Bool, true, false, cond}
use Rattle.std.specs.declared.result.Result.TheVariants.{Ok, Err}
use Rattle.refusals.specs.declared.Refusal.TheVariants.{Frame, Field}
use Rattle.refusals.specs.Refusals.{number}
use Prim.Native.Nat.{ℕ}
use lib.Dec.{ltb}
use Rattle.frame.specs.declared.Kind.TheVariants.{Long}
use Rattle.frame.specs.Encode.{encode_fields, refused13, encode_long, encode_number, encoder_answer, EncodedAsNumbered}
use Rattle.frame.specs.Numbers.{is_frame}
use Rattle.frame.specs.Decode.{judged, answer_to, bare_answer, decode_number, decode_frame, decoder_answer, DecodedAsNumbered}

pub decoded_as_numbered : DecodedAsNumbered
unfolding decode_number decode_frame number
decoded_as_numbered columns kind n = go (is_frame kind n)
  where
    go : (b : Bool) → decoder_answer kind (cond b (Ok (judged columns kind n)) (Err Frame)) ≡ cond b (answer_to kind (judged columns kind n)) (bare_answer 12 0 0)
    go true = refl
    go false = refl

pub encoded_as_numbered : EncodedAsNumbered
unfolding encode_number encode_long number
encoded_as_numbered columns address e sub byte = go (ltb 16383 address) (ltb 1 e)
  where
    sent : ℕ
    sent = encode_fields columns Long (record { address = address; e = e; sub = sub; «data» = byte })

    go : (a b : Bool) → encoder_answer (cond a (Err Field) (cond b (Err Field) (Ok sent))) ≡ cond a refused13 (cond b refused13 (record { refusal = 0; number = sent }))
    go true b = refl
    go false true = refl
    go false false = refl

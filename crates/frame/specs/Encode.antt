-- Document 01, "Frames on channel B": the fields of a frame, its word, and the encoders, over any columns.
use Rattle.std.specs.Prelude.{ℕ, ◌+◌, ◌*◌, ◌/◌, ◌%◌, ◌^◌, ◌≡◌, cond, List, ltb, Result, Ok, Err}
use Rattle.hamming.specs.Correction.{encoded}
use Rattle.refusals.specs.declared.Refusal.{Refusal}
use Rattle.refusals.specs.declared.Refusal.TheVariants.{Field}
use Rattle.refusals.specs.Refusals.{number}
use Rattle.frame.specs.declared.Kind.{Kind}
use Rattle.frame.specs.declared.Kind.TheVariants.{Short, Long}
use Rattle.frame.specs.declared.Fields.{Fields}
use Rattle.frame.specs.declared.Encoded.{Encoded}
use Rattle.frame.specs.Numbers.{frame_number}

-- "The word is address (bits 31..18), E (17), a fixed 1 (16), sub-address (15..8), data (7..0)."
abbrev pub word_of : Kind → Fields → ℕ
word_of Short fields = fields.«data»
word_of Long fields = fields.address * 2 ^ 18 + fields.e * 2 ^ 17 + 2 ^ 16 + fields.sub * 2 ^ 8 + fields.«data»

-- and back
abbrev pub fields_of : Kind → ℕ → Fields
fields_of Short word = record { address = 0; e = 0; sub = 0; «data» = word % 2 ^ 8 }
fields_of Long word = record { address = word / 2 ^ 18; e = word / 2 ^ 17 % 2; sub = word / 2 ^ 8 % 2 ^ 8; «data» = word % 2 ^ 8 }

-- a word with its check number and stop bit 1
abbrev pub encode_word : List ℕ → Kind → ℕ → ℕ
encode_word columns kind word = frame_number kind (encoded columns word) 1

-- 01's term "properly encoded frame": of any fields in range, "the fixed bit 1 if long, and start, format, check number and stop as above"
abbrev pub encode_fields : List ℕ → Kind → Fields → ℕ
encode_fields columns kind fields = encode_word columns kind (word_of kind fields)

-- a short frame has data alone
abbrev pub broadcast : ℕ → Fields
broadcast byte = record { address = 0; e = 0; sub = 0; «data» = byte }

-- what C is handed by an encoder: the number of refusal, and the frame, 0 where refused
abbrev pub encoder_answer : Result ℕ Refusal → Encoded
encoder_answer (Ok frame) = record { refusal = 0; number = frame }
encoder_answer (Err refusal) = record { refusal = number refusal; number = 0 }

abbrev pub encode_short : List ℕ → ℕ → Encoded
encode_short columns byte = record { refusal = 0; number = encode_fields columns Short (broadcast byte) }

-- refusal 13: "address over 16383 or E over 1"
abbrev pub refused13 : Encoded
refused13 = record { refusal = 13; number = 0 }

unfoldable pub encode_long : List ℕ → ℕ → ℕ → ℕ → ℕ → Encoded
encode_long columns address e sub byte =
    cond (ltb 16383 address) refused13
    (cond (ltb 1 e) refused13
    (record { refusal = 0; number = encode_fields columns Long (record { address = address; e = e; sub = sub; «data» = byte }) }))

-- what the encoder answers: refusal 13, or the frame
unfoldable pub encode_number : List ℕ → ℕ → ℕ → ℕ → ℕ → Result ℕ Refusal
encode_number columns address e sub byte =
    cond (ltb 16383 address) (Err Field)
    (cond (ltb 1 e) (Err Field)
    (Ok (encode_fields columns Long (record { address = address; e = e; sub = sub; «data» = byte }))))

-- it is the answer as the papers number it. Proved in proofs/Numbered.antt.
abbrev pub EncodedAsNumbered : Type 0
EncodedAsNumbered =
    (columns : List ℕ) (address e sub byte : ℕ) → encoder_answer (encode_number columns address e sub byte) ≡ encode_long columns address e sub byte

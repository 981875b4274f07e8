-- Document 01, "Examples to be proved, one statement over the list", with document 02, Q-8. Proved in proofs/Examples.antt.
use Rattle.std.specs.Prelude.{ℕ, ◌≡◌, List, [], ◌∷◌, map}
use Rattle.hamming.specs.Code.{syndrome}
use Rattle.hamming.specs.Columns.{short_columns, long_columns}
use Rattle.frame.specs.declared.Kind.TheVariants.{Short, Long}
use Rattle.frame.specs.declared.Encoded.{Encoded}
use Rattle.frame.specs.declared.Answer.{Answer}
use Rattle.frame.specs.Numbers.{word_bits, check_bits_of}
use Rattle.frame.specs.Encode.{encode_short, encode_long}
use Rattle.frame.specs.Decode.{decode_frame}
use Rattle.fine_delay.specs.Delay.{setting_to_byte}

-- an example: what is given, then what is expected of it
pub data Example : Type 0 where
  -- a broadcast's byte; the frame
  broadcast : (byte frame : ℕ) → Example
  -- address, E, sub-address, data; the frame
  long : (address e sub byte frame : ℕ) → Example
  -- a short frame; the byte, after a correction, and the place of the corrected bit
  corrected : (frame byte place : ℕ) → Example
  -- a short frame that can't be corrected; its verdict
  uncorrectable : (frame verdict : ℕ) → Example
  -- a long frame that can't be corrected; its syndrome and its verdict
  uncorrectable_long : (frame syndrome_is verdict : ℕ) → Example
  -- a fine delay setting; its byte
  setting : (k byte : ℕ) → Example

-- what the definitions answer: refusal and frame
abbrev sent : Encoded → List ℕ
sent answer = answer.refusal ∷ answer.number ∷ []

-- refusal, verdict, corrected flag, place, word, address, E, sub-address and data
abbrev numbers_in : Answer → List ℕ
numbers_in answer =
    answer.refusal ∷ answer.verdict ∷ answer.corrected ∷ answer.place ∷ answer.word
    ∷ answer.fields.address ∷ answer.fields.e ∷ answer.fields.sub ∷ answer.fields.«data» ∷ []

abbrev pub answered : Example → List ℕ
answered (broadcast byte frame) = sent (encode_short short_columns byte)
answered (long address e sub byte frame) = sent (encode_long long_columns address e sub byte)
answered (corrected frame byte place) = numbers_in (decode_frame short_columns Short frame)
answered (uncorrectable frame verdict) = numbers_in (decode_frame short_columns Short frame)
answered (uncorrectable_long frame s verdict) = syndrome long_columns (word_bits Long frame) (check_bits_of Long frame) ∷ numbers_in (decode_frame long_columns Long frame)
answered (setting k byte) = (setting_to_byte k).refusal ∷ (setting_to_byte k).byte ∷ []

-- what the paper expects, in the same order; no example is refused
abbrev pub expected : Example → List ℕ
expected (broadcast byte frame) = 0 ∷ frame ∷ []
expected (long address e sub byte frame) = 0 ∷ frame ∷ []
expected (corrected frame byte place) = 0 ∷ 0 ∷ 1 ∷ place ∷ byte ∷ 0 ∷ 0 ∷ 0 ∷ byte ∷ []
expected (uncorrectable frame verdict) = 0 ∷ verdict ∷ 0 ∷ 0 ∷ 0 ∷ 0 ∷ 0 ∷ 0 ∷ 0 ∷ []
expected (uncorrectable_long frame s verdict) = s ∷ 0 ∷ verdict ∷ 0 ∷ 0 ∷ 0 ∷ 0 ∷ 0 ∷ 0 ∷ 0 ∷ []
expected (setting k byte) = 0 ∷ byte ∷ []

abbrev pub examples : List Example
examples =
    -- "broadcast 00 is 0001, 01 is 004F, 02 is 0097, 03 is 00D9, FF is 3FCD"
    broadcast 0x00 0x0001
    ∷ broadcast 0x01 0x004F
    ∷ broadcast 0x02 0x0097
    ∷ broadcast 0x03 0x00D9
    ∷ broadcast 0xFF 0x3FCD
    -- "address 0, E 0, sub 2, data 35 is 10001023543; address 5, RESET, data 0 is 100150600F3; address 5, E 1, sub 10, data AA (hexadecimal)
    -- is 1001710AAB7"
    ∷ long 0 0 2 0x35 0x10001023543
    ∷ long 5 0 6 0 0x100150600F3
    ∷ long 5 1 0x10 0xAA 0x1001710AAB7
    -- "0095 gives 02 corrected; 0039 can't be corrected; 1FFFFFFFFFF, one stray 0 in idle, has syndrome 124 and can't be corrected".
    -- Document 02, Q-8: "0039 and 1FFFFFFFFFF now get 11". The wrong bit of 0095 is the last check bit, at place 13.
    ∷ corrected 0x0095 0x02 13
    ∷ uncorrectable 0x0039 11
    ∷ uncorrectable_long 0x1FFFFFFFFFF 124 11
    -- "0, 1, 15, 30, 239 give bytes 14, 29, 15, 0, 239"
    ∷ setting 0 14
    ∷ setting 1 29
    ∷ setting 15 15
    ∷ setting 30 0
    ∷ setting 239 239
    ∷ []

-- the one statement
abbrev pub ExamplesHold : Type 0
ExamplesHold = map answered examples ≡ map expected examples

-- Document 01, "Frames on channel B", with document 02, Q-8: what decoding answers to a frame that was encoded, clean or damaged, and conversely; over both kinds
-- and any good columns.
-- Proved in proofs/Frames.antt from the facts of the code.
use Rattle.std.specs.Prelude.{ℕ, ◌+◌, ◌/◌, ◌%◌, ◌^◌, ◌≤◌, ◌<◌, ◌≡◌, ◌≢◌, ◌⊎◌, ◌↔◌, true, false, cond, List, [], ◌∷◌, length, Option, Some, None}
use Rattle.std.specs.Int.Bits.{bit_xor}
use Rattle.std.specs.Int.Count.{ones}
use Rattle.hamming.specs.declared.WrongBit.{WrongBit}
use Rattle.hamming.specs.declared.WrongBit.TheVariants.{Check, Data}
use Rattle.hamming.specs.Columns.{short_columns, long_columns}
use Rattle.hamming.specs.Correction.{Protected, NoneOrProtected, EachProtected, flag_of, syndrome_of, GoodColumns}
use Rattle.frame.specs.declared.Kind.{Kind}
use Rattle.frame.specs.declared.Kind.TheVariants.{Short, Long}
use Rattle.frame.specs.declared.Fields.{Fields}
use Rattle.frame.specs.declared.Encoded.{Encoded}
use Rattle.frame.specs.declared.Judged.TheVariants.{Good}
use Rattle.frame.specs.declared.Answer.{Answer}
use Rattle.frame.specs.Numbers.{data_bits, check_bits, stop_bit, received, is_frame}
use Rattle.frame.specs.Encode.{word_of, encode_word, encode_fields, broadcast, encode_short, encode_long}
use Rattle.frame.specs.Place.{places, place_in, flip_at}
use Rattle.frame.specs.Decode.{judged, bare_answer, decode_frame}

-- "any fields in range"; a short frame has data alone
abbrev pub InRange : Kind → Fields → Type 0
InRange Short fields = (fields ≡ broadcast fields.«data») × (fields.«data» < 2 ^ 8)
InRange Long fields = (fields.address < 2 ^ 14) × (fields.e < 2) × (fields.sub < 2 ^ 8) × (fields.«data» < 2 ^ 8)

-- the frame number with that protected bit flipped. The stop bit is bit 0 of the number, the check bits follow, then the data bits.
abbrev pub flip_protected : Kind → Option WrongBit → ℕ → ℕ
flip_protected kind None number = number
flip_protected kind (Some (Check j)) number = bit_xor number (2 ^ (1 + j))
flip_protected kind (Some (Data i)) number = bit_xor number (2 ^ (1 + check_bits kind + i))

abbrev pub flip_stop : ℕ → ℕ
flip_stop number = bit_xor number (2 ^ 0)

-- a protected bit of such a frame: one of its data or check bits
abbrev pub ProtectedIn : Kind → Option WrongBit → Type 0
ProtectedIn kind p = Protected (data_bits kind) (check_bits kind) p

-- these bits flipped, one after the other
abbrev pub flip_each_protected : Kind → List (Option WrongBit) → ℕ → ℕ
flip_each_protected kind [] number = number
flip_each_protected kind (p ∷ ps) number = flip_protected kind p (flip_each_protected kind ps number)

abbrev pub EachProtectedIn : Kind → List (Option WrongBit) → Type 0
EachProtectedIn kind flips = EachProtected (data_bits kind) (check_bits kind) flips

-- a leading bit flipped, none of which is protected: number 0 is the format bit, 1 the start bit, and the others lie above the frame
abbrev pub flip_lead : Kind → ℕ → ℕ → ℕ
flip_lead kind j number = bit_xor number (2 ^ (1 + check_bits kind + data_bits kind + j))

-- the encoders of the two kinds
abbrev pub encode_frame : List ℕ → Kind → Fields → Encoded
encode_frame columns Short fields = encode_short columns fields.«data»
encode_frame columns Long fields = encode_long columns fields.address fields.e fields.sub fields.«data»

-- the fields are answered, with the corrected flag, the place, and the word that holds them
abbrev pub fields_answer : Kind → ℕ → ℕ → Fields → Answer
fields_answer kind flag place fields = record { refusal = 0; verdict = 0; corrected = flag; place = place; word = word_of kind fields; fields = fields }

-- ---- the facts

-- the encoders take all fields in range, and give the properly encoded frame
abbrev pub EncodesInRange : List ℕ → Kind → Type 0
EncodesInRange columns kind =
    (fields : Fields) → InRange kind fields
    → encode_frame columns kind fields ≡ record { refusal = 0; number = encode_fields columns kind fields }

-- and refuse any others: a broadcast's byte has no range to leave
abbrev pub OutOfRange : Kind → Fields → Type 0
OutOfRange Short fields = ⊥
OutOfRange Long fields = (16383 < fields.address) ⊎ (1 < fields.e)

abbrev pub RefusesOutOfRange : List ℕ → Kind → Type 0
RefusesOutOfRange columns kind = (fields : Fields) → OutOfRange kind fields → encode_frame columns kind fields ≡ record { refusal = 13; number = 0 }

-- decoding what was encoded gives the fields back, with flag 0 and no place
abbrev pub RoundTrip : List ℕ → Kind → Type 0
RoundTrip columns kind =
    (fields : Fields) → InRange kind fields
    → decode_frame columns kind (encode_frame columns kind fields).number ≡ fields_answer kind 0 0 fields

-- one protected bit flipped: the same fields, with flag 1 and the place of that bit
abbrev pub OneFlip : List ℕ → Kind → Type 0
OneFlip columns kind =
    (fields : Fields) (p : Option WrongBit) → InRange kind fields → ProtectedIn kind p
    → decode_frame columns kind (flip_protected kind p (encode_fields columns kind fields)) ≡ fields_answer kind 1 (place_in kind p) fields

-- two different ones, of any encoded word, also one whose fixed bit is 0: verdict 8
abbrev pub TwoFlips : List ℕ → Kind → Type 0
TwoFlips columns kind =
    (word : ℕ) (p q : Option WrongBit) → word < 2 ^ data_bits kind → ProtectedIn kind p → ProtectedIn kind q → p ≢ q
    → decode_frame columns kind (flip_protected kind q (flip_protected kind p (encode_word columns kind word))) ≡ bare_answer 0 8 0

-- any number of protected bits flipped, of any encoded word: an odd number never gives 8, and an even number never 11; 8 means two or more, 11 three or
-- more
pub record FlipsShow (count verdict : ℕ) : Type 0 where
  pub odd_not_8 : count % 2 ≡ 1 → verdict ≢ 8
  pub even_not_11 : count % 2 ≡ 0 → verdict ≢ 11
  pub two_or_more : verdict ≡ 8 → 2 ≤ count
  pub three_or_more : verdict ≡ 11 → 3 ≤ count

-- the number is still a frame, with stop bit 1
pub record Flipped (columns : List ℕ) (kind : Kind) (count number : ℕ) : Type 0 where
  pub is_a_frame : is_frame kind number ≡ true
  pub stop_1 : stop_bit number ≡ 1
  pub shows : FlipsShow count (decode_frame columns kind number).verdict

abbrev pub AnyFlips : List ℕ → Kind → Type 0
AnyFlips columns kind =
    (word : ℕ) (flips : List (Option WrongBit)) → word < 2 ^ data_bits kind → EachProtectedIn kind flips
    → Flipped columns kind (length flips) (flip_each_protected kind flips (encode_word columns kind word))

-- a bit flipped is the bit at its place flipped
abbrev pub FlipsAtPlace : Kind → Type 0
FlipsAtPlace kind =
    (number : ℕ) (p : Option WrongBit) → NoneOrProtected (data_bits kind) (check_bits kind) p → flip_at kind (place_in kind p) number ≡ flip_protected kind p number

-- of every number, refused ones too: the place "is 0 where the flag is 0", and only there; no place is beyond the frame's last check bit
pub record PlaceByFlag (kind : Kind) (answer : Answer) : Type 0 where
  pub zero_exactly : (answer.place ≡ 0) ↔ (answer.corrected ≡ 0)
  pub last : answer.place ≤ places kind

abbrev pub PlaceAnswered : List ℕ → Kind → Type 0
PlaceAnswered columns kind = (number : ℕ) → PlaceByFlag kind (decode_frame columns kind number)

-- the stop bit flipped: verdict 7
abbrev pub StopFlip : List ℕ → Kind → Type 0
StopFlip columns kind =
    (fields : Fields) → InRange kind fields
    → decode_frame columns kind (flip_stop (encode_fields columns kind fields)) ≡ bare_answer 0 7 0

-- a leading bit flipped: refusal 12
abbrev pub LeadFlip : List ℕ → Kind → Type 0
LeadFlip columns kind =
    (fields : Fields) (j : ℕ) → InRange kind fields
    → decode_frame columns kind (flip_lead kind j (encode_fields columns kind fields)) ≡ bare_answer 12 0 0

-- with verdicts 7, 8 and 11 all else that is answered is 0
abbrev pub VerdictAlone : List ℕ → Kind → Type 0
VerdictAlone columns kind =
    (number verdict : ℕ) → (verdict ≡ 7) ⊎ ((verdict ≡ 8) ⊎ (verdict ≡ 11)) → (decode_frame columns kind number).verdict ≡ verdict
    → decode_frame columns kind number ≡ bare_answer 0 verdict 0

-- whatever the other bits are: a number that is no such frame is refused by 12
abbrev pub RefusesOthers : List ℕ → Kind → Type 0
RefusesOthers columns kind = (number : ℕ) → is_frame kind number ≡ false → decode_frame columns kind number ≡ bare_answer 12 0 0

-- and a frame gets verdict 7 exactly when its stop bit is 0, before word and check bits count
abbrev pub StopExactly : List ℕ → Kind → Type 0
StopExactly columns kind =
    (number : ℕ) → is_frame kind number ≡ true
    → (decode_frame columns kind number ≡ bare_answer 0 7 0) ↔ (stop_bit number ≡ 0)

-- a word whose fixed bit, bit 16, is 0; a short frame has no fixed bit
abbrev pub FixedIsZero : Kind → ℕ → Type 0
FixedIsZero Short word = ⊥
FixedIsZero Long word = word / 2 ^ 16 % 2 ≡ 0

-- such a word encoded, with no bit or one protected bit flipped: verdict 9, with that word
abbrev pub FixedBitZero : List ℕ → Kind → Type 0
FixedBitZero columns kind =
    (word : ℕ) (p : Option WrongBit) → word < 2 ^ data_bits kind → FixedIsZero kind word → NoneOrProtected (data_bits kind) (check_bits kind) p
    → decode_frame columns kind (flip_protected kind p (encode_word columns kind word)) ≡ bare_answer 0 9 word

-- no encoded word is within one flip of the number
abbrev pub NoneNear : List ℕ → Kind → ℕ → Type 0
NoneNear columns kind number =
    (word : ℕ) (p : Option WrongBit) → word < 2 ^ data_bits kind → NoneOrProtected (data_bits kind) (check_bits kind) p
    → number ≡ flip_protected kind p (encode_word columns kind word) → ⊥

-- a frame whose stop bit is 1 gets verdict 8 or 11 exactly when that is so, by the number of ones in its syndrome: 8 if it is even, 11 if it is odd
pub record UncorrectableBy (columns : List ℕ) (kind : Kind) (number : ℕ) : Type 0 where
  pub eight : (decode_frame columns kind number ≡ bare_answer 0 8 0) ↔ (NoneNear columns kind number × (ones (syndrome_of columns (received kind number)) % 2 ≡ 0))
  pub eleven : (decode_frame columns kind number ≡ bare_answer 0 11 0) ↔ (NoneNear columns kind number × (ones (syndrome_of columns (received kind number)) % 2 ≡ 1))

abbrev pub UncorrectableExactly : List ℕ → Kind → Type 0
UncorrectableExactly columns kind =
    (number : ℕ) → is_frame kind number ≡ true → stop_bit number ≡ 1 → UncorrectableBy columns kind number

-- conversely: the number has stop bit 1 and is the encoding of these fields with bit p flipped, which is none or a protected one, and is
-- the bit that the decoder of the word names; flipped at its place, it is the clean frame
pub record EncodingOf (columns : List ℕ) (kind : Kind) (number flag place word : ℕ) (fields : Fields) (p : Option WrongBit) : Type 0 where
  pub stop : stop_bit number ≡ 1
  pub number_is : number ≡ flip_protected kind p (encode_fields columns kind fields)
  pub bit : NoneOrProtected (data_bits kind) (check_bits kind) p
  pub named : judged columns kind number ≡ Good word p
  pub flag_is : flag ≡ cond (flag_of p) 1 0
  pub place_is : place ≡ place_in kind p
  pub clean_is : flip_at kind place number ≡ encode_fields columns kind fields
  pub word_is : word ≡ word_of kind fields
  pub in_range : InRange kind fields

-- whatever decodes to fields is such a number
abbrev pub DecodedOnlyIf : List ℕ → Kind → Type 0
DecodedOnlyIf columns kind =
    (number flag place word : ℕ) (fields : Fields)
    → decode_frame columns kind number ≡ record { refusal = 0; verdict = 0; corrected = flag; place = place; word = word; fields = fields }
    → (p : Option WrongBit) × EncodingOf columns kind number flag place word fields p

pub record FrameFacts (columns : List ℕ) (kind : Kind) : Type 0 where
  pub encodes_in_range : EncodesInRange columns kind
  pub refuses_out_of_range : RefusesOutOfRange columns kind
  pub round_trip : RoundTrip columns kind
  pub one_flip : OneFlip columns kind
  pub two_flips : TwoFlips columns kind
  pub any_flips : AnyFlips columns kind
  pub flips_at_place : FlipsAtPlace kind
  pub place_answered : PlaceAnswered columns kind
  pub stop_flip : StopFlip columns kind
  pub lead_flip : LeadFlip columns kind
  pub refuses_others : RefusesOthers columns kind
  pub stop_exactly : StopExactly columns kind
  pub verdict_alone : VerdictAlone columns kind
  pub fixed_bit_zero : FixedBitZero columns kind
  pub uncorrectable_exactly : UncorrectableExactly columns kind
  pub decoded_only_if : DecodedOnlyIf columns kind

-- the theorem, once over both kinds and any good columns, one for each data bit
abbrev pub FrameTheorem : Type 0
FrameTheorem = (columns : List ℕ) (kind : Kind) → length columns ≡ data_bits kind → GoodColumns (check_bits kind) columns → FrameFacts columns kind

-- document 01's own columns
abbrev pub ShortFrameFacts : Type 0
ShortFrameFacts = FrameFacts short_columns Short

abbrev pub LongFrameFacts : Type 0
LongFrameFacts = FrameFacts long_columns Long

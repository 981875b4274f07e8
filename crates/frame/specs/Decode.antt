-- Document 01, "Frames on channel B" and "Fate of a finished frame", with document 02, Q-8: what decoding a frame number answers, over any columns.
-- "Decoding a frame number without a receiver answers 7, 8 or 9 of the next table, with word and flag as there; else the fields and the
-- corrected flag." Q-8 divides 8 into 8 and 11, and adds the place. `Judged` and `Answer` are an enum and a struct of src/lib.rt.
use Rattle.std.specs.Prelude.{ℕ, ◌≡◌, ◌/◌, ◌%◌, ◌^◌, Bool, false, cond, List, eqb, Option, Some, None, Result, Ok, Err}
use Rattle.std.specs.Int.Count.{ones}
use Rattle.hamming.specs.declared.Word.{Word}
use Rattle.hamming.specs.Correction.{Coded, syndrome_of, decoded, flag_of}
use Rattle.refusals.specs.declared.Refusal.{Refusal}
use Rattle.refusals.specs.declared.Refusal.TheVariants.{Frame}
use Rattle.refusals.specs.Refusals.{number}
use Rattle.frame.specs.declared.Kind.{Kind}
use Rattle.frame.specs.declared.Kind.TheVariants.{Short, Long}
use Rattle.frame.specs.declared.Judged.{Judged}
use Rattle.frame.specs.declared.Judged.TheVariants.{StopZero, EvenSyndrome, OddSyndrome, FixedZero, Good}
use Rattle.frame.specs.declared.Answer.{Answer}
use Rattle.frame.specs.Numbers.{stop_bit, received, is_frame}
use Rattle.frame.specs.Encode.{fields_of, broadcast}
use Rattle.frame.specs.Place.{place_in}

-- verdict 9, "long, fixed bit 0 after correction": the fixed bit is bit 16 of the word
abbrev pub fixed_zero : Kind → ℕ → Bool
fixed_zero Short word = false
fixed_zero Long word = eqb (word / 2 ^ 16 % 2) 0

-- rows 8, 11 and 9 of the table: by the syndrome s, and by what the decoder of the word answers to it.
-- Q-8: "Verdict 8 is kept for an even number of ones in the syndrome; verdict 11 is given for an odd number that belongs to no bit."
abbrev pub judged_word : Kind → ℕ → Option Word → Judged
judged_word kind s None = cond (eqb (ones s % 2) 0) EvenSyndrome OddSyndrome
judged_word kind s (Some word) = cond (fixed_zero kind word.«data») (FixedZero word.«data») (Good word.«data» word.wrong)

-- the same of a word as received
abbrev pub judged_received : List ℕ → Kind → Coded → Judged
judged_received columns kind word = judged_word kind (syndrome_of columns word) (decoded columns word)

-- "Tested in this order. The first that holds is the verdict": rows 7, 8 and 11, and 9
unfoldable pub judged : List ℕ → Kind → ℕ → Judged
judged columns kind number = cond (eqb (stop_bit number) 0) StopZero (judged_received columns kind (received kind number))

-- an answer without flag, place and fields: they are all 0
abbrev pub bare_answer : ℕ → ℕ → ℕ → Answer
bare_answer refusal verdict word = record { refusal = refusal; verdict = verdict; corrected = 0; place = 0; word = word; fields = broadcast 0 }

-- the answer to a good frame, with its fields
abbrev pub good_answer : Kind → ℕ → ℕ → ℕ → Answer
good_answer kind flag place word = record { refusal = 0; verdict = 0; corrected = flag; place = place; word = word; fields = fields_of kind word }

-- the papers' number and values for each case. For 7, 8 and 9 "the flag is 0"; Q-8, of 8 and 11, "with flag and word 0". "The word shown is 0" for 7
-- and 8, "else the corrected data". The place is that of the wrong bit, "0 where the flag is 0".
-- A good frame has no verdict until a receiver gives it one: the verdict is 0, and flag, place, word and fields are in the answer.
abbrev pub answer_to : Kind → Judged → Answer
answer_to kind StopZero = bare_answer 0 7 0
answer_to kind EvenSyndrome = bare_answer 0 8 0
answer_to kind OddSyndrome = bare_answer 0 11 0
answer_to kind (FixedZero word) = bare_answer 0 9 word
answer_to kind (Good word wrong) = good_answer kind (cond (flag_of wrong) 1 0) (place_in kind wrong) word

-- a frame whose start and format were tested before, over the columns of each kind
unfoldable pub finished_answer : (Kind → List ℕ) → Kind → ℕ → Answer
finished_answer columns kind number = answer_to kind (judged (columns kind) kind number)

-- refusal 12, "start, format or leading bits wrong for the length", is tested "first"
unfoldable pub decode_frame : List ℕ → Kind → ℕ → Answer
decode_frame columns kind number = cond (is_frame kind number) (answer_to kind (judged columns kind number)) (bare_answer 12 0 0)

-- what a decoder answers: refusal 12, or what the frame is judged to be
unfoldable pub decode_number : List ℕ → Kind → ℕ → Result Judged Refusal
decode_number columns kind number = cond (is_frame kind number) (Ok (judged columns kind number)) (Err Frame)

-- what C is handed in its place
abbrev pub decoder_answer : Kind → Result Judged Refusal → Answer
decoder_answer kind (Ok judged) = answer_to kind judged
decoder_answer kind (Err refusal) = bare_answer (number refusal) 0 0

-- it is the answer as the papers number it. Proved in proofs/Numbered.antt.
abbrev pub DecodedAsNumbered : Type 0
DecodedAsNumbered =
    (columns : List ℕ) (kind : Kind) (number : ℕ) → decoder_answer kind (decode_number columns kind number) ≡ decode_frame columns kind number

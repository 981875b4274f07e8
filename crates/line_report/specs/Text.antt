-- Document 01, "Stored lines", with document 02, Q-8: the text that `ttclines` prints of a line, and at the end, as lists of characters' codes.
-- "One space stands between fields."
use Rattle.std.specs.Prelude.{ℕ, zero, suc, ◌/◌, ◌%◌, Bool, cond, List, [], ◌∷◌, ◌++◌, ◌==◌, nat_lt, Result, Ok, Err}
use Rattle.laws.specs.OneOf.{one_of}
use Rattle.frame.specs.declared.Kind.{Kind}
use Rattle.frame.specs.declared.Kind.TheVariants.{Short, Long}
use Rattle.receiver_state.specs.declared.Core.{Core}
use Rattle.receiver_state.specs.declared.Outputs.{Outputs}
use Rattle.receiver.specs.declared.ClockAnswer.{ClockAnswer}
use Rattle.refusals.specs.declared.Refusal.{Refusal}
use Rattle.stored_line.specs.declared.StoredFrame.{StoredFrame}
use Rattle.stored_line.specs.Digits.{digit_character, hex_digits}

-- a number below 10^(more + 1), without leading zeros
unfoldable pub decimal_up_to : ℕ → ℕ → List ℕ
decimal_up_to zero number = digit_character (number % 10) ∷ []
decimal_up_to (suc more) number =
    cond (nat_lt number 10) (digit_character number ∷ []) (decimal_up_to more (number / 10) ++ (digit_character (number % 10) ∷ []))

-- "in decimal": 20 digits are enough for every number below 2^64
unfoldable pub decimal : ℕ → List ℕ
decimal number = decimal_up_to 19 number

-- "2 or 8 capital digits"
abbrev pub kind_digits : Kind → ℕ
kind_digits Short = 2
kind_digits Long = 8

-- by the kind of the line's own frame, whatever frame its last bit finishes; a refused line has no word
abbrev pub word_digits : Result StoredFrame Refusal → ℕ
word_digits (Ok frame) = kind_digits frame.kind
word_digits (Err refusal) = 0

-- "`-` for 7 and 8"; document 02, Q-8, of 8 and 11: "print `-`"
unfoldable pub prints_dash : ℕ → Bool
prints_dash verdict = one_of (7 ∷ 8 ∷ 11 ∷ []) verdict

-- "word (2 or 8 capital digits, `-` for 7 and 8)"
unfoldable pub word_text : ℕ → Outputs → List ℕ
word_text digits shown = cond (prints_dash shown.verdict) (45 ∷ []) (hex_digits digits shown.word)

-- Q-8: "`ttclines` prints that place as a last field for verdicts 1 to 6, 9 and 10."
unfoldable pub prints_place : ℕ → Bool
prints_place verdict = one_of (1 ∷ 2 ∷ 3 ∷ 4 ∷ 5 ∷ 6 ∷ 9 ∷ 10 ∷ []) verdict

unfoldable pub place_text : Outputs → List ℕ
place_text shown = cond (prints_place shown.verdict) (32 ∷ decimal shown.place) []

-- "verdict, corrected flag, word", and the place
unfoldable pub verdict_text : ℕ → Outputs → List ℕ
verdict_text digits shown =
    decimal shown.verdict ++ ((32 ∷ decimal shown.corrected) ++ (32 ∷ (word_text digits shown ++ place_text shown)))

-- "`!`, refusal"
unfoldable pub refusal_text : ℕ → List ℕ
refusal_text refusal = 33 ∷ 32 ∷ decimal refusal

-- what the clock of the line's last bit shows, or the refusal
unfoldable pub answer_text : ℕ → ClockAnswer → List ℕ
answer_text digits answer = cond (answer.refusal == 0) (verdict_text digits answer.outputs) (refusal_text answer.refusal)

-- "line number, verdict, corrected flag, word ..; or line number, `!`, refusal", the place after the word, and a line feed
unfoldable pub line_text : ℕ → ℕ → ClockAnswer → List ℕ
line_text number digits answer = decimal number ++ (32 ∷ (answer_text digits answer ++ (10 ∷ [])))

-- "single errors, double errors, event count, bunch count, in decimal": the receiver's own counters, which stop at their tops and which RESET
-- zeroes
unfoldable pub counts_text : ℕ → ℕ → ℕ → ℕ → List ℕ
counts_text single double event bunch = (32 ∷ decimal single) ++ ((32 ∷ decimal double) ++ ((32 ∷ decimal event) ++ (32 ∷ decimal bunch)))

-- "Last: `end`", the counts, and a line feed
unfoldable pub end_text : ℕ → ℕ → ℕ → ℕ → List ℕ
end_text single double event bunch = 101 ∷ 110 ∷ 100 ∷ (counts_text single double event bunch ++ (10 ∷ []))

-- the same of a receiver's counters
abbrev pub core_end_text : Core → List ℕ
core_end_text core = end_text core.errors.single core.errors.double core.counters.event core.counters.bunch

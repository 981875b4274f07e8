-- Document 01, "Stored lines", with document 02, Q-1 and Q-8: its example of `ttclines`, "Input and whole output". Proved in proofs/Example.antt.
use Rattle.std.specs.Prelude.{ℕ, ◌≡◌, List, [], ◌∷◌, ◌++◌}
use Rattle.frame.specs.Columns.{columns_of}
use Rattle.line_report.specs.Output.{output_of}

-- lines one after the other, each with its line feed
abbrev pub ended_lines : List (List ℕ) → List ℕ
ended_lines [] = []
ended_lines (line ∷ lines) = (line ++ (10 ∷ [])) ++ ended_lines lines

-- ---- the input, as characters' codes

-- 004F
abbrev pub line1 : List ℕ
line1 = 48 ∷ 48 ∷ 52 ∷ 70 ∷ []

-- 2097
abbrev pub line2 : List ℕ
line2 = 50 ∷ 48 ∷ 57 ∷ 55 ∷ []

-- 004E
abbrev pub line3 : List ℕ
line3 = 48 ∷ 48 ∷ 52 ∷ 69 ∷ []

-- 304F
abbrev pub line4 : List ℕ
line4 = 51 ∷ 48 ∷ 52 ∷ 70 ∷ []

-- 100150235AD
abbrev pub line5 : List ℕ
line5 = 49 ∷ 48 ∷ 48 ∷ 49 ∷ 53 ∷ 48 ∷ 50 ∷ 51 ∷ 53 ∷ 65 ∷ 68 ∷ []

-- 180150235AD
abbrev pub line6 : List ℕ
line6 = 49 ∷ 56 ∷ 48 ∷ 49 ∷ 53 ∷ 48 ∷ 50 ∷ 51 ∷ 53 ∷ 65 ∷ 68 ∷ []

-- 100190235B5
abbrev pub line7 : List ℕ
line7 = 49 ∷ 48 ∷ 48 ∷ 49 ∷ 57 ∷ 48 ∷ 50 ∷ 51 ∷ 53 ∷ 66 ∷ 53 ∷ []

-- 4001
abbrev pub line8 : List ℕ
line8 = 52 ∷ 48 ∷ 48 ∷ 49 ∷ []

abbrev pub example_lines : List (List ℕ)
example_lines = line1 ∷ line2 ∷ line3 ∷ line4 ∷ line5 ∷ line6 ∷ line7 ∷ line8 ∷ []

-- ---- the output

-- Q-8: "In the example lines 2 and 6 get place 1, and lines 1, 5 and 7 place 0."

-- 1 1 0 01 0
abbrev pub text1 : List ℕ
text1 = 49 ∷ 32 ∷ 49 ∷ 32 ∷ 48 ∷ 32 ∷ 48 ∷ 49 ∷ 32 ∷ 48 ∷ []

-- 2 1 1 02 1
abbrev pub text2 : List ℕ
text2 = 50 ∷ 32 ∷ 49 ∷ 32 ∷ 49 ∷ 32 ∷ 48 ∷ 50 ∷ 32 ∷ 49 ∷ []

-- 3 7 0 -
abbrev pub text3 : List ℕ
text3 = 51 ∷ 32 ∷ 55 ∷ 32 ∷ 48 ∷ 32 ∷ 45 ∷ []

-- 4 8 0 -
abbrev pub text4 : List ℕ
text4 = 52 ∷ 32 ∷ 56 ∷ 32 ∷ 48 ∷ 32 ∷ 45 ∷ []

-- 5 2 0 00150235 0
abbrev pub text5 : List ℕ
text5 = 53 ∷ 32 ∷ 50 ∷ 32 ∷ 48 ∷ 32 ∷ 48 ∷ 48 ∷ 49 ∷ 53 ∷ 48 ∷ 50 ∷ 51 ∷ 53 ∷ 32 ∷ 48 ∷ []

-- 6 2 1 00150235 1
abbrev pub text6 : List ℕ
text6 = 54 ∷ 32 ∷ 50 ∷ 32 ∷ 49 ∷ 32 ∷ 48 ∷ 48 ∷ 49 ∷ 53 ∷ 48 ∷ 50 ∷ 51 ∷ 53 ∷ 32 ∷ 49 ∷ []

-- 7 5 0 00190235 0
abbrev pub text7 : List ℕ
text7 = 55 ∷ 32 ∷ 53 ∷ 32 ∷ 48 ∷ 32 ∷ 48 ∷ 48 ∷ 49 ∷ 57 ∷ 48 ∷ 50 ∷ 51 ∷ 53 ∷ 32 ∷ 48 ∷ []

-- 8 ! 12
abbrev pub text8 : List ℕ
text8 = 56 ∷ 32 ∷ 33 ∷ 32 ∷ 49 ∷ 50 ∷ []

-- end 2 2 0 215: document 02, Q-1, "In the example the bunch count becomes 215."
abbrev pub text9 : List ℕ
text9 = 101 ∷ 110 ∷ 100 ∷ 32 ∷ 50 ∷ 32 ∷ 50 ∷ 32 ∷ 48 ∷ 32 ∷ 50 ∷ 49 ∷ 53 ∷ []

abbrev pub example_texts : List (List ℕ)
example_texts = text1 ∷ text2 ∷ text3 ∷ text4 ∷ text5 ∷ text6 ∷ text7 ∷ text8 ∷ text9 ∷ []

-- ---- the statement

abbrev pub ExampleOutput : Type 0
ExampleOutput = output_of columns_of (ended_lines example_lines) ≡ ended_lines example_texts

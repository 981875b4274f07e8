-- Document 02, Q-11: one more table that passes, and tables that are refused, one for each reason. Proved in proofs/Examples.antt.
use Rattle.std.specs.Prelude.{ℕ, ◌≡◌, List, [], ◌∷◌, ◌++◌, take, get_or, set}
use Rattle.std.specs.Int.Count.{ones}
use Rattle.frame.specs.declared.Kind.TheVariants.{Short}
use Rattle.frame.specs.Encode.{broadcast}
use Rattle.frame.specs.Frames.{fields_answer}
use Rattle.lent_columns.specs.declared.ColumnsAnswer.{ColumnsAnswer}
use Rattle.lent_columns.specs.Check.{columns_answer, check_columns}
use Rattle.lent_columns.specs.Frames.{encode_short_with_columns, decode_with_columns, encoded_with, decoded_with}

-- columns with three, five and seven ones
abbrev pub other_table : List ℕ
other_table =
    31 ∷ 28 ∷ 26 ∷ 25 ∷ 22 ∷ 21 ∷ 19 ∷ 14
    ∷ 127 ∷ 31 ∷ 47 ∷ 55 ∷ 59 ∷ 61 ∷ 62 ∷ 79 ∷ 87 ∷ 91 ∷ 93 ∷ 94 ∷ 103 ∷ 107 ∷ 109 ∷ 110
    ∷ 115 ∷ 117 ∷ 118 ∷ 121 ∷ 122 ∷ 124 ∷ 7 ∷ 11 ∷ 13 ∷ 14 ∷ 19 ∷ 21 ∷ 22 ∷ 25 ∷ 26 ∷ 28 ∷ []

-- what the check answers to it with another number at an index
abbrev pub with_number : ℕ → ℕ → ColumnsAnswer
with_number index number = check_columns (set other_table index number)

pub record Tables : Type 0 where
  pub passes : check_columns other_table ≡ columns_answer 0 0
  pub five_ones : ones (get_or other_table 0 0) ≡ 5
  pub seven_ones : ones (get_or other_table 8 0) ≡ 7
  -- the broadcast of byte 1 has check number 31, with document 01's columns 7
  pub another_frame : encode_short_with_columns other_table 1 ≡ encoded_with 0 (record { refusal = 0; number = 0x007F })
  -- and is given back with its least data bit flipped: flag 1 and place 8
  pub corrected : decode_with_columns other_table Short 0x003F ≡ decoded_with 0 (fields_answer Short 1 8 (broadcast 1))
  -- 27
  pub too_few : check_columns (take 39 other_table) ≡ columns_answer 27 0
  pub too_many : check_columns (other_table ++ (7 ∷ [])) ≡ columns_answer 27 0
  pub no_columns : check_columns [] ≡ columns_answer 27 0
  -- 28: four ones; one; none; over 5 bits in the group of short frames; over 7 in that of long ones
  pub four_ones : with_number 3 15 ≡ columns_answer 28 3
  pub one_one : with_number 20 64 ≡ columns_answer 28 20
  pub no_ones : with_number 39 0 ≡ columns_answer 28 39
  pub over_5_bits : with_number 7 35 ≡ columns_answer 28 7
  pub over_7_bits : with_number 8 131 ≡ columns_answer 28 8
  -- of two equal columns the later: 14 stands at 7 and at 33, in different groups, so here at 4 and 7, and at 10 and 33
  pub equal_short : with_number 4 14 ≡ columns_answer 28 7
  pub equal_long : with_number 10 14 ≡ columns_answer 28 33
  -- of two bad ones the first
  pub two_bad : check_columns (set (set other_table 30 0) 12 3) ≡ columns_answer 28 12

-- The example tables, computed. Assumes nothing.
use mathlib.Core.Path.{refl}
use lib.Count.{ones}
use Rattle.laws.specs.Tests.{every}
use Rattle.laws.specs.OneOf.{one_of}
use Rattle.hamming.specs.Code.{check_number, syndrome, decode_word, by_syndrome, first_from}
use Rattle.frame.specs.Numbers.{is_frame}
use Rattle.frame.specs.Decode.{judged, decode_frame}
use Rattle.lent_columns.specs.Frames.{encode_short_with_columns, decode_with_columns}
use Rattle.lent_columns.specs.Check.{first_bad, check_columns}
use Rattle.lent_columns.specs.Examples.{Tables}

pub tables : Tables
unfolding check_columns first_bad every one_of ones check_number encode_short_with_columns decode_with_columns decode_frame is_frame judged syndrome decode_word by_syndrome first_from
tables = record {
  passes = refl;
  five_ones = refl;
  seven_ones = refl;
  another_frame = refl;
  corrected = refl;
  too_few = refl;
  too_many = refl;
  no_columns = refl;
  four_ones = refl;
  one_one = refl;
  no_ones = refl;
  over_5_bits = refl;
  over_7_bits = refl;
  equal_short = refl;
  equal_long = refl;
  two_bad = refl;
}

-- Document 01's examples, computed. Assumes nothing.
use mathlib.Core.Path.{refl}
use lib.Count.{ones, count_trailing_zeros}
use Rattle.laws.specs.LowestOne.{lowest_one}
use Rattle.hamming.specs.Code.{check_number, syndrome, first_from, by_syndrome, decode_word}
use Rattle.frame.specs.Numbers.{is_frame}
use Rattle.frame.specs.Encode.{encode_long}
use Rattle.frame.specs.Decode.{judged, decode_frame}
use Rattle.fine_delay.specs.Delay.{byte_of, setting_to_byte}
use Rattle.examples.specs.Examples.{ExamplesHold}

pub examples_hold : ExamplesHold
unfolding ones count_trailing_zeros lowest_one check_number syndrome first_from by_syndrome decode_word is_frame encode_long judged decode_frame byte_of setting_to_byte
examples_hold = refl

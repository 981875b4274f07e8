-- A line's text of 38 bytes, and an end of 66, computed. Assumes nothing.
use mathlib.Core.Path.{refl}
use lib.Count.{ones, count_trailing_zeros}
use Rattle.laws.specs.Tests.{every}
use Rattle.laws.specs.OneOf.{one_of}
use Rattle.laws.specs.LowestOne.{lowest_one}
use Rattle.hamming.specs.Code.{check_number, syndrome, first_from, by_syndrome, decode_word}
use Rattle.frame.specs.Numbers.{is_frame}
use Rattle.frame.specs.Bits.{bits_of}
use Rattle.frame.specs.Decode.{judged, finished_answer}
use Rattle.fine_delay.specs.Delay.{has_setting}
use Rattle.receiver_state.specs.WellFormed.{ids_ok, settings_ok, counters_ok, sequence_ok, core_ok, bits_ok, wanted_ok, held_ok, well_formed}
use Rattle.register_map.specs.Map.{without_setting}
use Rattle.register_map.specs.Change.{stored}
use Rattle.verdicts.specs.Table.{up_to, double_up, cleared_by, foreign, long_row, table_row}
use Rattle.verdicts.specs.Finished.{count_errors, finished}
use Rattle.channel_b.specs.TakeBit.{frame_or_part, between_frames, take_bit, held_after}
use Rattle.idle_clock.specs.IdleClock.{count_clock, continued, started, bus_step, idle_clock}
use Rattle.receiver.specs.Clock.{step_answer, clock_answer}
use Rattle.whole_frame.specs.WholeFrame.{clocks_answer, receive_answer}
use Rattle.stored_line.specs.Digits.{digit_value, all_digits, hex_number, hex_answer, digit_character, hex_digits}
use Rattle.stored_line.specs.Read.{read_line}
use Rattle.line_report.specs.Text.{decimal_up_to, decimal, prints_dash, word_text, prints_place, place_text, verdict_text, refusal_text, answer_text, line_text, counts_text, end_text}
use Rattle.line_report.specs.Output.{ones_sent}
use Rattle.line_report.specs.Report.{read_part, byte_prints, after_last, last_prints}
use Rattle.report_laws.specs.Cuts.{LongestReached}

pub longest_reached : LongestReached
unfolding has_setting every ones count_trailing_zeros lowest_one check_number syndrome first_from by_syndrome decode_word is_frame judged ids_ok settings_ok counters_ok sequence_ok core_ok bits_ok wanted_ok held_ok well_formed up_to double_up cleared_by without_setting stored foreign long_row table_row count_errors finished finished_answer frame_or_part between_frames take_bit held_after count_clock continued started bus_step idle_clock step_answer clock_answer bits_of clocks_answer receive_answer digit_value all_digits hex_number hex_answer digit_character hex_digits read_line decimal_up_to decimal one_of prints_dash word_text prints_place place_text verdict_text refusal_text answer_text line_text counts_text end_text read_part byte_prints after_last last_prints ones_sent
longest_reached = record { line = refl; full_is_well_formed = refl; end = refl }

-- Lists of calls whose answers are computed. Assumes nothing.
use mathlib.Core.Path.{◌≡◌, refl, ap, ◌∙◌}
use mathlib.Core.List.{List, [], ◌++◌}
use Prim.Native.Nat.{ℕ, suc, ◌+◌, ◌≤◌}
use native.Mathlib.Omega.{arith}
use lib.Count.{ones, count_trailing_zeros}
use lib.Dec.{lit≤}
use lib.ListN.{length, length-append, replicate}
use Rattle.laws.specs.Tests.{every}
use Rattle.laws.specs.LowestOne.{lowest_one}
use Rattle.hamming.specs.Code.{check_number, syndrome, first_from, by_syndrome, decode_word}
use Rattle.frame.specs.Numbers.{is_frame}
use Rattle.frame.specs.Bits.{bits_of}
use Rattle.frame.specs.Decode.{judged, finished_answer}
use Rattle.fine_delay.specs.Delay.{has_setting}
use Rattle.receiver_state.specs.WellFormed.{ids_ok, settings_ok, counters_ok, sequence_ok, core_ok, bits_ok, wanted_ok, held_ok, well_formed}
use Rattle.receiver_state.specs.State.{holding, wanting_ones, is_waiting}
use Rattle.register_map.specs.Change.{stored, after_write}
use Rattle.verdicts.specs.Table.{up_to, double_up, cleared_by, long_row, table_row}
use Rattle.verdicts.specs.Finished.{count_errors, finished}
use Rattle.channel_b.specs.declared.Taken.{Taken}
use Rattle.channel_b.specs.declared.Taken.TheVariants.{Unfinished}
use Rattle.channel_b.specs.TakeBit.{frame_or_part, between_frames, take_bit, held_after, held_after_bit}
use Rattle.idle_clock.specs.IdleClock.{count_clock, continued, started, bus_step, idle_clock}
use Rattle.receiver.specs.Clock.{step_answer, clock_answer}
use Rattle.laws.specs.OneOf.{one_of}
use Rattle.register_map.specs.Map.{in_map, register_byte, read_only, without_setting, config_wrong}
use Rattle.registers.specs.Access.{read_refusal, read_answer, write_refusal, write_answer}
use Rattle.guarantees.specs.Calls.{call, run, answers, refusal_of, carried, channel_b}
use Rattle.guarantees.specs.FrameLists.{last_call}
use Rattle.guarantees.specs.Existence.{carry}
use Rattle.guarantees.specs.Examples.{idle_clocks, TwentyCalls, MoreFlips, FortyOnes, AfterBadStop}
use Rattle.guarantees.specs.BadStop.{First41st}

pub twenty_calls : TwentyCalls
unfolding ones count_trailing_zeros lowest_one check_number syndrome first_from by_syndrome decode_word is_frame judged every has_setting ids_ok settings_ok counters_ok sequence_ok core_ok bits_ok wanted_ok held_ok well_formed up_to double_up cleared_by without_setting stored long_row table_row count_errors finished finished_answer is_waiting frame_or_part between_frames take_bit held_after count_clock continued started bus_step idle_clock step_answer clock_answer one_of in_map register_byte read_only config_wrong after_write read_refusal read_answer write_refusal write_answer call run answers refusal_of carried channel_b bits_of carry
twenty_calls =
    record {
      frame_is = refl;
      carries = refl;
      idle = record { answers_are = refl; leaves = refl };
      clean = record { answers_are = refl; leaves = refl };
      one_flip = record { answers_are = refl; leaves = refl };
      check_flip = record { answers_are = refl; leaves = refl };
      two_flips = record { answers_are = refl; leaves = refl };
    }

pub more_flips : MoreFlips
unfolding ones count_trailing_zeros lowest_one check_number syndrome first_from by_syndrome decode_word is_frame judged every has_setting ids_ok settings_ok counters_ok sequence_ok core_ok bits_ok wanted_ok held_ok well_formed up_to double_up cleared_by without_setting stored long_row table_row count_errors finished finished_answer is_waiting frame_or_part between_frames take_bit held_after count_clock continued started bus_step idle_clock step_answer clock_answer one_of in_map register_byte read_only config_wrong after_write read_refusal read_answer write_refusal write_answer call run answers refusal_of carried channel_b bits_of carry
more_flips =
    record {
      three_flips = record { answers_are = refl; leaves = refl };
      three_as_one = record { answers_are = refl; leaves = refl };
      four_as_two = record { answers_are = refl; leaves = refl };
      four_as_none = record { answers_are = refl; leaves = refl };
    }

some : {n : ℕ} → suc n ≡ 0 → ⊥
some e = omega arith

pub forty_ones : FortyOnes
unfolding is_frame every has_setting ids_ok settings_ok counters_ok sequence_ok core_ok bits_ok wanted_ok held_ok well_formed is_waiting frame_or_part between_frames take_bit held_after count_clock continued started bus_step idle_clock step_answer clock_answer call run refusal_of carried channel_b
forty_ones = record { is_well_formed = refl; forty = refl; holds_41 = refl; waits_not = λ w. some w.none_held }

one : {n : ℕ} → Unfinished (wanting_ones 41) ≡ Unfinished (holding 1 n) → ⊥
one e = zero_one (ap (λ (taken : Taken). (held_after_bit taken).count) e)
  where
    zero_one : ◌≡◌ {A = ℕ} 0 1 → ⊥
    zero_one z = omega arith

-- 40 bits have no room for 41
too_few : (bits earlier later : List ℕ) → length bits ≤ 40 → bits ≡ earlier ++ (replicate 41 1 ++ later) → ⊥
too_few bits earlier later h e =
    let size : length bits ≡ length earlier + (41 + length later) =
    ap length e ∙ length-append earlier (replicate 41 1 ++ later) ∙ ap (λ (n : ℕ). length earlier + n) (length-append (replicate 41 1) later) in
    absurd (omega arith)

first_41st : First41st (idle_clocks 40) 0
unfolding channel_b carried refusal_of
first_41st = record { none_before = λ earlier later. too_few (channel_b (idle_clocks 40)) earlier later (lit≤ tt); is_clock = refl; earlier = []; last_41 = refl }

pub after_bad_stop : AfterBadStop
unfolding ones lowest_one check_number syndrome first_from by_syndrome decode_word is_frame judged every has_setting ids_ok settings_ok counters_ok sequence_ok core_ok bits_ok wanted_ok held_ok well_formed up_to double_up cleared_by without_setting stored long_row table_row count_errors finished finished_answer frame_or_part between_frames take_bit held_after count_clock continued started bus_step idle_clock step_answer clock_answer call run last_call
after_bad_stop =
    record {
      bad_stop = record { verdict_7 = refl; leaves = refl };
      first_41st = first_41st;
      verdict_7 = refl;
      wants_41 = refl;
      wants_1 = refl;
      waits_not = λ w. one w.start_next;
      begins_again = refl;
      waits = record { none_held = refl; start_next = refl };
      start_bit = refl;
    }

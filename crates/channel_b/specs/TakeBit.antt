-- Document 01, "Frames on channel B", with document 02, Q-1: one bit of channel B on what is held. It depends on no trigger, register or counter.
-- `Taken` is the enum of src/lib.rt: no frame finished, and what is then held; or a finished frame's kind and number.
use Rattle.std.specs.Prelude.{◌≡◌, ℕ, ◌+◌, ◌-◌, ◌*◌, ◌%◌, ◌^◌, cond, ◌&&◌, ◌==◌}
use Rattle.frame.specs.declared.Kind.TheVariants.{Short, Long}
use Rattle.frame.specs.Numbers.{frame_bits, stop_bit, is_frame}
use Rattle.receiver_state.specs.declared.Held.{Held}
use Rattle.receiver_state.specs.declared.Receiver.{Receiver}
use Rattle.receiver_state.specs.State.{holding, wanting_ones, nothing_held}
use Rattle.channel_b.specs.declared.Taken.{Taken}
use Rattle.channel_b.specs.declared.Taken.TheVariants.{Unfinished, Finished}

-- what that many bits, read as this number, are: a long frame has 42 bits, a short one 16, with start 0 and format 0. 16 or more are held only
-- with format 1 ("Well formed"), so at 42 the format needs no test (`FinishesFrames` of Laws.antt).
unfoldable pub frame_or_part : ℕ → ℕ → Taken
frame_or_part count bits =
    cond (count == frame_bits Long) (Finished Long bits)
    (cond (count == frame_bits Short && is_frame Short bits) (Finished Short bits)
    (Unfinished (holding count bits)))

-- no frame bit is held, and so many ones are wanted. A 1 is one of them, or idle ("Idle is 1") if none are wanted (0 less 1 is 0). A 0 is the start
-- bit if none are wanted. Else, document 02, Q-1: "the receiver must see 41 ones in a row on channel B before a 0 counts as a start; a 0 begins
-- that run again".
unfoldable pub between_frames : ℕ → ℕ → Held
between_frames wanted bit =
    cond (bit == 0)
    (cond (wanted == 0) (holding 1 0) (wanting_ones 41))
    (wanting_ones (wanted - 1))

-- one bit: with frame bits held it comes after them ("first bit sent = most significant").
-- Numbers have 8 and 64 bits: of a well-formed receiver the remainders change nothing.
unfoldable pub take_bit : Held → ℕ → Taken
take_bit held bit =
    cond (held.count == 0)
    (Unfinished (between_frames held.wanted bit))
    (frame_or_part ((held.count + 1) % 2 ^ 8) ((held.bits * 2 + bit) % 2 ^ 64))

-- what a finished frame leaves held, by its stop bit alone. Document 01: "After a finished frame, of every verdict, the receiver waits for a start
-- bit; the next bit may be one." Document 02, Q-1, changes it for a stop bit of 0: "After verdict 7 the receiver must see 41 ones in a row".
-- `WantsExactly` of the crate `receiver` says that this is verdict 7 and no other.
unfoldable pub held_after : ℕ → Held
held_after number = cond (stop_bit number == 0) (wanting_ones 41) nothing_held

-- what a bit leaves held
abbrev pub held_after_bit : Taken → Held
held_after_bit (Unfinished held) = held
held_after_bit (Finished kind number) = held_after number

-- 01's term "waits": "when it holds no frame bit and a 0 on the next clock would be a start bit"
pub record Waits (r : Receiver) : Type 0 where
  pub none_held : r.held.count ≡ 0
  pub start_next : take_bit r.held 0 ≡ Unfinished (holding 1 0)

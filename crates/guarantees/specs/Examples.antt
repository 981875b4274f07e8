-- Document 01, "Demand 3, over lists of calls", and document 02, Q-1 and Q-8: lists of calls whose answers are computed, from the fresh state of
-- ID 5 and I2C ID 5. Proved in proofs/Examples.antt.
use Rattle.std.specs.Prelude.{ℕ, zero, suc, ◌≡◌, true, List, [], ◌∷◌, ◌++◌, map, replicate, Some}
use Rattle.hamming.specs.declared.WrongBit.TheVariants.{Data, Check}
use Rattle.frame.specs.declared.Kind.TheVariants.{Short}
use Rattle.frame.specs.Numbers.{frame_bits}
use Rattle.frame.specs.Columns.{columns_of}
use Rattle.frame.specs.Bits.{bits_of}
use Rattle.frame.specs.Encode.{broadcast, encode_fields}
use Rattle.frame.specs.Frames.{flip_protected, flip_each_protected}
use Rattle.receiver_state.specs.declared.Receiver.{Receiver}
use Rattle.receiver_state.specs.State.{ids, holding, wanting_ones, receiver, fresh_core, fresh_state}
use Rattle.receiver_state.specs.WellFormed.{well_formed}
use Rattle.channel_b.specs.TakeBit.{Waits}
use Rattle.guarantees.specs.Calls.{Call, clock, read, write, CallAnswer, run, answers, channel_b}
use Rattle.guarantees.specs.FrameLists.{last_call}
use Rattle.guarantees.specs.BadStop.{First41st, BadStop}
use Rattle.guarantees.specs.Existence.{carry}

-- ---- twenty calls that carry a broadcast

-- 16 clocks with channel B idle, two of them with a trigger; a clock that is refused by 1, a read, a write of the control register, and a write that is
-- refused by 5
abbrev pub pattern : List Call
pattern =
    clock 1 1 ∷ clock 2 1 ∷ clock 0 1 ∷ read 26 ∷ clock 0 1 ∷ write 3 1 ∷ clock 1 1 ∷ write 99 1
    ∷ clock 0 1 ∷ clock 0 1 ∷ clock 0 1 ∷ clock 0 1 ∷ clock 0 1 ∷ clock 0 1
    ∷ clock 0 1 ∷ clock 0 1 ∷ clock 0 1 ∷ clock 0 1 ∷ clock 0 1 ∷ clock 0 1 ∷ []

abbrev pub start : Receiver
start = fresh_state (ids 5 5)

abbrev pub sending : ℕ → List Call
sending number = carry (bits_of (frame_bits Short) number) pattern

-- the broadcast of byte 1, which clears the bunch counter: 004F
abbrev pub frame : ℕ
frame = encode_fields (columns_of Short) Short (broadcast 1)

-- the broadcast of byte 0: 0001
abbrev pub zero_frame : ℕ
zero_frame = encode_fields (columns_of Short) Short (broadcast 0)

-- single errors, double errors, status bit 5, bunch count, event count, control, how many frame bits are held
abbrev pub state_numbers : Receiver → List ℕ
state_numbers r =
    r.core.errors.single ∷ r.core.errors.double ∷ r.core.errors.status5
    ∷ r.core.counters.bunch ∷ r.core.counters.event ∷ r.core.settings.control ∷ r.held.count ∷ []

-- refusal, byte, trigger output, missed flag, strobe, number on the bus, verdict, corrected flag, place, word
abbrev pub answer_numbers : CallAnswer → List ℕ
answer_numbers a =
    a.refusal ∷ a.byte ∷ a.outputs.trigger ∷ a.outputs.missed ∷ a.outputs.strobe ∷ a.outputs.number
    ∷ a.outputs.verdict ∷ a.outputs.corrected ∷ a.outputs.place ∷ a.outputs.word ∷ []

abbrev nothing : List ℕ
nothing = 0 ∷ 0 ∷ 0 ∷ 0 ∷ 0 ∷ 0 ∷ 0 ∷ 0 ∷ 0 ∷ 0 ∷ []

-- what the last call answers if a broadcast is executed: flag, place and word; and if a frame is dropped: the verdict
abbrev broadcast_last : ℕ → ℕ → ℕ → List ℕ
broadcast_last flag place word = 0 ∷ 0 ∷ 0 ∷ 0 ∷ 0 ∷ 0 ∷ 1 ∷ flag ∷ place ∷ word ∷ []

abbrev dropped_last : ℕ → List ℕ
dropped_last verdict = 0 ∷ 0 ∷ 0 ∷ 0 ∷ 0 ∷ 0 ∷ verdict ∷ 0 ∷ 0 ∷ 0 ∷ []

-- what the calls before the last answer: bunch 0, event low 0 and event high 0 from the first trigger on (mode 3); with control 1 (mode 1) bunch 3 on
-- the second
abbrev pub answers_before : List (List ℕ)
answers_before =
    (0 ∷ 0 ∷ 1 ∷ 0 ∷ 1 ∷ 0 ∷ 0 ∷ 0 ∷ 0 ∷ 0 ∷ [])
    ∷ (1 ∷ 0 ∷ 0 ∷ 0 ∷ 0 ∷ 0 ∷ 0 ∷ 0 ∷ 0 ∷ 0 ∷ [])
    ∷ (0 ∷ 0 ∷ 0 ∷ 0 ∷ 2 ∷ 0 ∷ 0 ∷ 0 ∷ 0 ∷ 0 ∷ [])
    ∷ (0 ∷ 1 ∷ 0 ∷ 0 ∷ 0 ∷ 0 ∷ 0 ∷ 0 ∷ 0 ∷ 0 ∷ [])
    ∷ (0 ∷ 0 ∷ 0 ∷ 0 ∷ 3 ∷ 0 ∷ 0 ∷ 0 ∷ 0 ∷ 0 ∷ [])
    ∷ nothing
    ∷ (0 ∷ 0 ∷ 1 ∷ 0 ∷ 1 ∷ 3 ∷ 0 ∷ 0 ∷ 0 ∷ 0 ∷ [])
    ∷ (5 ∷ 0 ∷ 0 ∷ 0 ∷ 0 ∷ 0 ∷ 0 ∷ 0 ∷ 0 ∷ 0 ∷ [])
    ∷ nothing ∷ nothing ∷ nothing ∷ nothing ∷ nothing ∷ nothing ∷ nothing ∷ nothing ∷ nothing ∷ nothing ∷ nothing ∷ []

-- what the twenty calls answer, and what they leave in those seven numbers of the state
pub record Gives (calls : List Call) (last state : List ℕ) : Type 0 where
  pub answers_are : map answer_numbers (answers columns_of start calls) ≡ answers_before ++ (last ∷ [])
  pub leaves : state_numbers (run columns_of start calls) ≡ state

pub record TwentyCalls : Type 0 where
  pub frame_is : frame ≡ 0x004F
  pub carries : channel_b (sending frame) ≡ 0 ∷ 0 ∷ 0 ∷ 0 ∷ 0 ∷ 0 ∷ 0 ∷ 0 ∷ 0 ∷ 1 ∷ 0 ∷ 0 ∷ 1 ∷ 1 ∷ 1 ∷ 1 ∷ []
  -- idle: 16 clocks, two triggers
  pub idle : Gives pattern nothing (0 ∷ 0 ∷ 1 ∷ 16 ∷ 2 ∷ 1 ∷ 0 ∷ [])
  -- clean: verdict 1, word 1, and the bunch counter cleared
  pub clean : Gives (sending frame) (broadcast_last 0 0 1) (0 ∷ 0 ∷ 1 ∷ 0 ∷ 2 ∷ 1 ∷ 0 ∷ [])
  -- one flip, of the first data bit: the same with flag 1, place 1 and one single error
  pub one_flip : Gives (sending (flip_protected Short (Some (Data 7)) frame)) (broadcast_last 1 1 1) (1 ∷ 0 ∷ 1 ∷ 0 ∷ 2 ∷ 1 ∷ 0 ∷ [])
  -- and of the last check bit: place 13
  pub check_flip : Gives (sending (flip_protected Short (Some (Check 0)) frame)) (broadcast_last 1 13 1) (1 ∷ 0 ∷ 1 ∷ 0 ∷ 2 ∷ 1 ∷ 0 ∷ [])
  -- two flips: verdict 8, and the idle list's numbers with one double error
  pub two_flips : Gives (sending (flip_each_protected Short (Some (Check 0) ∷ Some (Data 7) ∷ []) frame)) (dropped_last 8) (0 ∷ 1 ∷ 1 ∷ 16 ∷ 2 ∷ 1 ∷ 0 ∷ [])

-- ---- more flips

-- more than two flips, of which demand 3 claims nothing: what 8 and 11 show of them, and what they do not
pub record MoreFlips : Type 0 where
  -- three, of data bits 0, 1 and 6: the syndrome is 26, which belongs to no bit; verdict 11
  pub three_flips : Gives (sending (flip_each_protected Short (Some (Data 0) ∷ Some (Data 1) ∷ Some (Data 6) ∷ []) frame)) (dropped_last 11) (0 ∷ 1 ∷ 1 ∷ 16 ∷ 2 ∷ 1 ∷ 0 ∷ [])
  -- three others look like one: the broadcast of byte 0, sent with data bits 0, 1 and 2 flipped, is taken for that of byte 7 with a wrong check bit, is
  -- executed, and clears the bunch and the event counter. The place is that of a check bit, which was not flipped.
  pub three_as_one : Gives (sending (flip_each_protected Short (Some (Data 2) ∷ Some (Data 1) ∷ Some (Data 0) ∷ []) zero_frame)) (broadcast_last 1 13 7) (1 ∷ 0 ∷ 1 ∷ 0 ∷ 0 ∷ 1 ∷ 0 ∷ [])
  -- four look like two: verdict 8
  pub four_as_two : Gives (sending (flip_each_protected Short (Some (Check 0) ∷ Some (Data 7) ∷ Some (Data 6) ∷ Some (Data 5) ∷ []) frame)) (dropped_last 8) (0 ∷ 1 ∷ 1 ∷ 16 ∷ 2 ∷ 1 ∷ 0 ∷ [])
  -- four others look like none: the broadcast of byte 0 becomes that of byte 7
  pub four_as_none : Gives (sending (flip_each_protected Short (Some (Check 0) ∷ Some (Data 2) ∷ Some (Data 1) ∷ Some (Data 0) ∷ []) zero_frame)) (broadcast_last 0 0 7) (0 ∷ 0 ∷ 1 ∷ 0 ∷ 0 ∷ 1 ∷ 0 ∷ [])

-- ---- 40 ones are not enough

-- a receiver that has just taken a start bit
abbrev pub after_start_bit : Receiver
after_start_bit = receiver (fresh_core (ids 5 5)) (holding 1 0)

abbrev pub idle_clocks : ℕ → List Call
idle_clocks zero = []
idle_clocks (suc n) = clock 0 1 ∷ idle_clocks n

-- 41 bits of a long frame are held then
pub record FortyOnes : Type 0 where
  pub is_well_formed : well_formed after_start_bit ≡ true
  pub forty : channel_b (idle_clocks 40) ≡ replicate 40 1
  pub holds_41 : (run columns_of after_start_bit (idle_clocks 40)).held.count ≡ 41
  pub waits_not : Waits (run columns_of after_start_bit (idle_clocks 40)) → ⊥

-- ---- 40 ones are not enough after verdict 7

abbrev pub zero_clocks : ℕ → List Call
zero_clocks zero = []
zero_clocks (suc n) = clock 0 0 ∷ zero_clocks n

-- sixteen zeros are a short frame whose stop bit is 0
pub record AfterBadStop : Type 0 where
  -- so what `BadStopLaws` asks for is met
  pub bad_stop : BadStop columns_of (run columns_of start (zero_clocks 15)) 0 0 (run columns_of start (zero_clocks 16))
  pub first_41st : First41st (idle_clocks 40) 0
  pub verdict_7 : (last_call columns_of start (zero_clocks 15) (clock 0 0)).answer.outputs.verdict ≡ 7
  pub wants_41 : (run columns_of start (zero_clocks 16)).held ≡ wanting_ones 41
  pub wants_1 : (run columns_of start (zero_clocks 16 ++ idle_clocks 40)).held ≡ wanting_ones 1
  pub waits_not : Waits (run columns_of start (zero_clocks 16 ++ idle_clocks 40)) → ⊥
  -- a 0 in place of the 41st one is no start bit, and the run begins again
  pub begins_again : (run columns_of start (zero_clocks 16 ++ (idle_clocks 40 ++ (clock 0 0 ∷ [])))).held ≡ wanting_ones 41
  pub waits : Waits (run columns_of start (zero_clocks 16 ++ idle_clocks 41))
  -- and a 0 after it is one
  pub start_bit : (run columns_of start (zero_clocks 16 ++ (idle_clocks 41 ++ (clock 0 0 ∷ [])))).held ≡ holding 1 0

-- Demand 3 over lists of calls. Assumes nothing.
use mathlib.Core.Path.{◌≡◌, refl, sym, ap, ◌∙◌}
use mathlib.Core.Logic.{◌≢◌, ◌⊎◌, inl, inr}
use mathlib.Core.Bool.{true}
use mathlib.Core.List.{List}
use Prim.Native.Nat.{ℕ}
use native.Mathlib.Omega.{arith}
use Rattle.laws.proofs.Rules.{by_test}
use Rattle.frame.specs.declared.Kind.{Kind}
use Rattle.frame.specs.declared.Fields.{Fields}
use Rattle.frame.specs.declared.Answer.{Answer}
use Rattle.frame.specs.declared.Encoded.{Encoded}
use Rattle.frame.specs.Numbers.{stop_bit, is_frame}
use Rattle.frame.specs.Columns.{columns_of, GoodTables}
use Rattle.frame.specs.Encode.{word_of, encode_fields}
use Rattle.frame.specs.Place.{place_in}
use Rattle.frame.specs.Decode.{decode_frame, finished_answer}
use Rattle.frame.specs.Frames.{InRange, flip_protected, fields_answer, FrameFacts}
use Rattle.frame.proofs.OwnColumns.{tables_good}
use Rattle.frame.proofs.Frames.{frame_theorem}
use Rattle.frame.proofs.Words.{word_fits}
use Rattle.receiver_state.specs.declared.Receiver.{Receiver}
use Rattle.receiver_state.specs.State.{receiver, nothing_held}
use Rattle.verdicts.specs.Laws.{VerdictLaws}
use Rattle.verdicts.proofs.Laws.{verdict_theorem}
use Rattle.channel_b.specs.TakeBit.{Waits}
use Rattle.idle_clock.specs.IdleClock.{idle_clock}
use Rattle.receiver.specs.Laws.{ClockLaws}
use Rattle.channel_b.proofs.Laws.{waits_none}
use Rattle.receiver.proofs.Laws.{clock_theorem}
use Rattle.guarantees.specs.Calls.{Call, clock, CallResult, result, idle}
use Rattle.guarantees.specs.FrameLists.{last_call}
use Rattle.guarantees.specs.LastClock.{with_frame, with_correction, with_double_error}
use Rattle.guarantees.specs.Demand3 as demand
use Rattle.guarantees.specs.Flips as flips
use Rattle.guarantees.proofs.LastClock.{corrected_last, uncorrectable_last, corrected_frame, uncorrectable_frame}
use Rattle.guarantees.proofs.CleanLast.{DecodesTo, clean_last}
use Rattle.guarantees.proofs.ChannelB.{idle_last_lem}
use Rattle.guarantees.proofs.EveryList.{refusals, refused_law, reads_leave, ids_stay, ids_last, stays_well_formed, forty_one_ones, run_behind, answers_behind, run_last, answers_last}
use Rattle.guarantees.proofs.Ending.{Ending, ending}

-- ---- frames

-- a number that decodes without a refusal is a frame
is_a_frame : (columns : List ℕ) (kind : Kind) (number : ℕ) → FrameFacts columns kind → (decode_frame columns kind number).refusal ≡ 0 → is_frame kind number ≡ true
is_a_frame columns kind number facts e =
    by_test (is_frame kind number) (λ t. t)
    (λ t. absurd (twelve (sym (ap (λ (a : Answer). a.refusal) (facts.refuses_others number t)) ∙ e)))
  where
    twelve : ◌≡◌ {A = ℕ} 12 0 → ⊥
    twelve z = omega arith

-- one that is not dropped for its stop bit has stop bit 1
stop_one : (columns : List ℕ) (kind : Kind) (number : ℕ) → FrameFacts columns kind → is_frame kind number ≡ true → (decode_frame columns kind number).verdict ≢ 7
    → stop_bit number ≡ 1
stop_one columns kind number facts frame n =
    let some : stop_bit number ≢ 0 = λ z. n (ap (λ (a : Answer). a.verdict) ((facts.stop_exactly number frame).1 z)) in
    omega (arith, some)

answer_of : (columns : Kind → List ℕ) (kind : Kind) (number : ℕ) → is_frame kind number ≡ true → decode_frame (columns kind) kind number ≡ finished_answer columns kind number
unfolding decode_frame finished_answer
answer_of columns kind number e = rw e refl

module _ (columns : Kind → List ℕ) (good : GoodTables columns) where
  facts : (kind : Kind) → FrameFacts (columns kind) kind
  facts kind = frame_theorem (columns kind) kind (good kind).0 (good kind).1

  verdicts : VerdictLaws columns
  verdicts = verdict_theorem columns good

  laws : ClockLaws columns
  laws = clock_theorem columns good

  decodes_to : (kind : Kind) (number flag place : ℕ) (fields : Fields) → InRange kind fields
      → decode_frame (columns kind) kind number ≡ fields_answer kind flag place fields → DecodesTo columns kind number flag place fields
  decodes_to kind number flag place fields range e =
      let frame = is_a_frame (columns kind) kind number (facts kind) (ap (λ (a : Answer). a.refusal) e) in
      record { in_range = range; is_a_frame = frame; decoded = e; answered = sym (answer_of columns kind number frame) ∙ e }

  -- decoding what was encoded gives the fields back
  encoded_decodes : (kind : Kind) (fields : Fields) → InRange kind fields → DecodesTo columns kind (encode_fields (columns kind) kind fields) 0 0 fields
  encoded_decodes kind fields range =
      decodes_to kind (encode_fields (columns kind) kind fields) 0 0 fields range
      (ap (λ (e : Encoded). decode_frame (columns kind) kind e.number) (sym ((facts kind).encodes_in_range fields range)) ∙ (facts kind).round_trip fields range)

  decoded_stop : (kind : Kind) (number flag place : ℕ) (fields : Fields) → DecodesTo columns kind number flag place fields → stop_bit number ≡ 1
  decoded_stop kind number flag place fields d =
      stop_one (columns kind) kind number (facts kind) d.is_a_frame (λ z. zero_not_7 (sym (ap (λ (a : Answer). a.verdict) d.decoded) ∙ z))
    where
      zero_not_7 : ◌≡◌ {A = ℕ} 0 7 → ⊥
      zero_not_7 z = omega arith

  -- the table of verdicts on the idle list's last clock
  whole : (r : Receiver) (before : List Call) (trigger bit : ℕ) (kind : Kind) (number flag place : ℕ) (fields : Fields)
      → DecodesTo columns kind number flag place fields → Ending columns laws r before trigger bit kind number
      → last_call columns r before (clock trigger bit) ≡ with_frame kind (fields_answer kind flag place fields) (last_call columns r (idle before) (clock trigger 1))
  whole r before trigger bit kind number flag place fields d e =
      rw e.idle_ends
      (e.ends
      ∙ ap (λ (a : Answer). with_frame kind a (result (receiver (idle_clock e.core trigger).core nothing_held) 0 (idle_clock e.core trigger).outputs 0)) d.answered)

  clean : demand.Clean columns
  clean r before trigger bit kind fields range s =
      let d = encoded_decodes kind fields range in
      let e = ending columns laws r before trigger bit kind (encode_fields (columns kind) kind fields) d.is_a_frame (decoded_stop kind _ 0 0 fields d) s in
      record {
        as_idle_before = e.as_idle_before;
        whole = whole r before trigger bit kind (encode_fields (columns kind) kind fields) 0 0 fields d e;
        by_name =
            rw (e.ends, e.idle_ends)
            (clean_last columns verdicts kind (encode_fields (columns kind) kind fields) fields r.core.ids (idle_clock e.core trigger) d
            (sym (ap (λ (x : CallResult). x.receiver.core.ids) e.idle_ends) ∙ ids_last columns laws r (idle before) (clock trigger 1)));
      }

  one_flip : demand.OneFlip columns
  one_flip r sound flipped trigger sent bit kind fields p range protected s t same =
      let number = encode_fields (columns kind) kind fields in
      let wrong = flip_protected kind p number in
      let place = place_in kind p in
      let c = clean r sound trigger sent kind fields range s in
      let f = decodes_to kind wrong 1 place fields range ((facts kind).one_flip fields p range protected) in
      let e = ending columns laws r flipped trigger bit kind wrong f.is_a_frame (decoded_stop kind wrong 1 place fields f) t in
      let equal : last_call columns r flipped (clock trigger bit) ≡ with_correction place (last_call columns r sound (clock trigger sent)) =
      whole r flipped trigger bit kind wrong 1 place fields f e
      ∙ corrected_frame kind place fields (last_call columns r (idle flipped) (clock trigger 1))
      ∙ ap (λ (cs : List Call). with_correction place (with_frame kind (fields_answer kind 0 0 fields) (last_call columns r cs (clock trigger 1)))) (sym same)
      ∙ ap (with_correction place) (sym c.whole) in
      record {
        as_idle_before = e.as_idle_before;
        whole = equal;
        by_name = rw equal (corrected_last place (last_call columns r sound (clock trigger sent)) c.by_name.waits);
      }

  -- an idle clock shows neither flag, place nor word
  idle_shows : (r : Receiver) (before : List Call) (trigger bit : ℕ) (kind : Kind) (number : ℕ) (e : Ending columns laws r before trigger bit kind number)
      → let shown = (last_call columns r (idle before) (clock trigger 1)).answer.outputs in
      (shown.corrected ≡ 0) × (shown.place ≡ 0) × (shown.word ≡ 0)
  unfolding idle_clock
  idle_shows r before trigger bit kind number e = rw e.idle_ends (refl, refl, refl)

  not_7 : (verdict : ℕ) → (verdict ≡ 8) ⊎ (verdict ≡ 11) → verdict ≢ 7
  not_7 verdict (inl v) z = omega arith
  not_7 verdict (inr v) z = omega arith

  pub drops_uncorrectable : flips.DropsUncorrectable columns
  drops_uncorrectable r before trigger bit kind number verdict v answered s =
      let decodes = (facts kind).verdict_alone number verdict (inr v) answered in
      let frame = is_a_frame (columns kind) kind number (facts kind) (ap (λ (a : Answer). a.refusal) decodes) in
      let stop = stop_one (columns kind) kind number (facts kind) frame (λ z. not_7 verdict v (sym answered ∙ z)) in
      let e = ending columns laws r before trigger bit kind number frame stop s in
      let waits : Waits (last_call columns r (idle before) (clock trigger 1)).receiver = rw e.idle_ends (waits_none (idle_clock e.core trigger).core) in
      let nothing = idle_shows r before trigger bit kind number e in
      let equal : last_call columns r before (clock trigger bit) ≡ with_double_error verdict (last_call columns r (idle before) (clock trigger 1)) =
      rw e.idle_ends (e.ends ∙ uncorrectable_frame columns kind number verdict e.core trigger v (sym (answer_of columns kind number frame) ∙ decodes)) in
      record {
        as_idle_before = e.as_idle_before;
        whole = equal;
        by_name = rw equal (uncorrectable_last verdict (last_call columns r (idle before) (clock trigger 1)) waits nothing.0 nothing.1 nothing.2);
      }

  two_flips : demand.TwoFlips columns
  two_flips r before trigger bit kind fields p q range protected protected' differ s =
      drops_uncorrectable r before trigger bit kind _ _ (inl refl)
      (ap (λ (a : Answer). a.verdict) ((facts kind).two_flips (word_of kind fields) p q (word_fits kind fields range) protected protected' differ)) s

pub demand3_theorem : demand.Demand3Theorem
demand3_theorem columns good =
    record {
      refusals = λ r calls e. refusals columns (laws columns good) calls r e;
      refused_law = refused_law columns (laws columns good);
      reads_leave = reads_leave columns (laws columns good);
      stays_well_formed = λ r calls e. stays_well_formed columns (laws columns good) calls r e;
      ids_stay = λ r calls. ids_stay columns (laws columns good) calls r;
      forty_one_ones = forty_one_ones columns (laws columns good);
      one_after_another = λ r first second.
          record {
            state = run_behind columns (laws columns good) first r second;
            answers_are = answers_behind columns (laws columns good) first r second;
          };
      whole_list = λ r before trigger bit.
          record {
            state = run_last columns (laws columns good) before r (clock trigger bit);
            answers_are = answers_last columns (laws columns good) before r (clock trigger bit);
            idle_is = idle_last_lem before trigger bit;
          };
      clean = clean columns good;
      one_flip = one_flip columns good;
      two_flips = two_flips columns good;
    }

pub receiver_demand3 : demand.ReceiverDemand3
receiver_demand3 = demand3_theorem columns_of tables_good

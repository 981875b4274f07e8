-- What holds of every clock. Assumes nothing.
use mathlib.Core.Path.{◌≡◌, refl, sym, ap, ap₂, subst, ◌∙◌}
use mathlib.Core.Logic.{◌≢◌, ◌⊎◌, ◌↔◌, inl, inr, ⊎_elim}
use mathlib.Core.Bool.{Bool, true, false, cond, true≢false}
use mathlib.Core.List.{List}
use Prim.Native.Nat.{ℕ, ◌≤◌}
use native.Mathlib.Omega.{arith}
use borrow.Author.Tests.{eqb-true, eqb-false, lt-ltb, ltb-false}
use lib.Dec.{eqb, ltb}
use Rattle.laws.specs.OneOf.{one_of}
use Rattle.laws.proofs.Rules.{picked_by, by_test}
use Rattle.frame.specs.declared.Kind.{Kind}
use Rattle.frame.specs.declared.Kind.TheVariants.{Short, Long}
use Rattle.frame.specs.Numbers.{stop_bit}
use Rattle.frame.specs.Columns.{columns_of}
use Rattle.frame.specs.Place.{places, largest_place}
use Rattle.frame.proofs.OwnColumns.{tables_good}
use Rattle.receiver_state.specs.declared.Settings.{Settings}
use Rattle.receiver_state.specs.declared.Errors.{Errors}
use Rattle.receiver_state.specs.declared.Core.{Core}
use Rattle.receiver_state.specs.declared.Clocked.{Clocked}
use Rattle.receiver_state.specs.declared.Held.{Held}
use Rattle.receiver_state.specs.declared.Outputs.{Outputs}
use Rattle.receiver_state.specs.declared.Receiver.{Receiver}
use Rattle.receiver_state.specs.State.{receiver, fresh_state}
use Rattle.receiver_state.specs.Shown.{ShowsNothing, Stands}
use Rattle.receiver_state.specs.WellFormed.{well_formed}
use Rattle.receiver_state.proofs.WellFormed.{receiver_facts, receiver_ok}
use Rattle.receiver_state.proofs.Shown.{none_shown, same_stands}
use Rattle.idle_clock.specs.IdleClock.{idle_clock}
use Rattle.idle_clock.specs.Laws.{Shows, BusShows, SequenceLeft}
use Rattle.idle_clock.proofs.Laws.{idle_laws}
use Rattle.channel_b.specs.declared.Taken.{Taken}
use Rattle.channel_b.specs.declared.Taken.TheVariants.{Unfinished, Finished}
use Rattle.channel_b.specs.TakeBit.{take_bit, held_after, held_after_bit}
use Rattle.channel_b.proofs.Bits.{bit_law}
use Rattle.channel_b.proofs.Laws.{finishes_frames, after_frame}
use Rattle.verdicts.specs.Table.{dropped}
use Rattle.verdicts.specs.Finished.{finished, finished_by}
use Rattle.verdicts.specs.FrameLaws.{BitNamed, ErrorsMove, SettingsMove}
use Rattle.verdicts.specs.Laws.{VerdictLaws}
use Rattle.verdicts.proofs.Laws.{verdict_theorem}
use Rattle.receiver.specs.declared.ClockAnswer.{ClockAnswer}
use Rattle.receiver.specs.Clock.{apply_frame, clocked_answer, step_answer, refused_clock, clock_answer}
use Rattle.receiver.specs.Laws as laws
use Rattle.receiver.specs.Laws.{CountersAdvance, Accepted, PlaceShown, WaitsBut7, WantsAfter7, WantsOnlyAfter7, ClockLaws, ClockTheorem, ReceiverLaws}
use Rattle.receiver.proofs.Unchecked.{step_is_clock, unfinished_step, finished_step}
use Rattle.receiver.proofs.Keep.{step_facts}
use Rattle.receiver.proofs.Advance.{unmoved_counters, advance}

-- what holds of a bus holds of outputs that show the same
same_bus : (core : Core) (trigger : ℕ) (shown idle : Outputs) → Stands shown idle → BusShows core trigger idle → BusShows core trigger shown
same_bus core trigger shown idle e b =
    record {
      trigger_shown = e.trigger_stands ∙ b.trigger_shown;
      missed_if_running = λ p. e.missed_stands ∙ b.missed_if_running p;
      not_missed = λ p. e.missed_stands ∙ b.not_missed p;
      event_low_next = λ p. same (b.event_low_next p);
      event_high_next = λ p. same (b.event_high_next p);
      mode_0 = λ p. same (b.mode_0 p);
      mode_1 = λ p. same (b.mode_1 p);
      mode_2 = λ p. same (b.mode_2 p);
      mode_3 = λ p. same (b.mode_3 p);
      nothing = λ p q. same (b.nothing p q);
    }
  where
    same : {strobe number : ℕ} → Shows idle strobe number → Shows shown strobe number
    same s = record { strobe_is = e.strobe_stands ∙ s.strobe_is; number_is = e.number_stands ∙ s.number_is }

-- ---- a clock that finishes no frame

unmoved_errors : (before : Errors) (shown : Outputs) → shown.verdict ≡ 0 → shown.corrected ≡ 0 → ErrorsMove before shown before
unfolding dropped one_of
unmoved_errors before shown z f =
    record {
      double_up_lem = λ p. absurd (true≢false (sym p ∙ ap dropped z));
      single_up = λ p. absurd (no_flag f p.0);
      dropped_flag = λ p. f;
      reset = λ p. absurd (omega arith);
      double_stays = λ p q. refl;
      single_stays = λ p q. refl;
      status_cleared = λ p. absurd (omega arith);
      status_set = λ p q. absurd (p z);
      status_stays = λ p. refl;
    }
  where
    no_flag : {n : ℕ} → n ≡ 0 → n ≡ 1 → ⊥
    no_flag z o = omega arith

unmoved_settings : (before : Settings) (shown : Outputs) → shown.verdict ≡ 0 → SettingsMove before shown before
unmoved_settings before shown z =
    record {
      stored_byte = λ p. absurd (omega arith);
      others_stay = λ p number l n. refl;
      config_stays = λ p. (refl, refl);
      settings_stay = λ p q. refl;
    }

abbrev IsUnfinished : Taken → Type 0
IsUnfinished (Unfinished held) = Unit {0}
IsUnfinished (Finished kind number) = ⊥

module _ (columns : Kind → List ℕ) (verdicts : VerdictLaws columns) where
  -- ---- refused or stepped

  -- what holds of the step of an accepted clock, and of every refusal, holds of the clock
  by_refusal : (P : ClockAnswer → Type 0) (r : Receiver) (trigger bit : ℕ)
      → (Accepted r trigger bit → P (step_answer columns r trigger bit)) → ((n : ℕ) → eqb n 0 ≡ false → P (refused_clock n r))
      → P (clock_answer columns r trigger bit)
  unfolding clock_answer
  by_refusal P r trigger bit step refused =
      picked_by P (well_formed r)
      (λ e. picked_by P (ltb 1 trigger) (λ h. refused _ refl)
      (λ h. picked_by P (ltb 1 bit) (λ k. refused _ refl)
      (λ k.
      let t : trigger ≤ 1 = ltb-false 1 trigger h in
      let b : bit ≤ 1 = ltb-false 1 bit k in
      step (e, omega arith, omega arith))))
      (λ e. refused _ refl)

  accepted : (r : Receiver) (trigger bit : ℕ) → Accepted r trigger bit → clock_answer columns r trigger bit ≡ step_answer columns r trigger bit
  accepted r trigger bit (e, t, b) = sym (step_is_clock columns r trigger bit (receiver_facts r e) t b)

  stepped_zero : (r : Receiver) (trigger bit : ℕ) → (step_answer columns r trigger bit).refusal ≡ 0
  unfolding step_answer
  stepped_zero r trigger bit = refl

  nothing_else_refused : laws.NothingElseRefused columns
  nothing_else_refused r trigger bit = (
    by_refusal (λ (a : ClockAnswer). a.refusal ≡ 0 → Accepted r trigger bit) r trigger bit (λ h e. h) (λ n m e. absurd (eqb-false n 0 m e)),
    λ h. ap (λ (a : ClockAnswer). a.refusal) (accepted r trigger bit h) ∙ stepped_zero r trigger bit,
  )

  refused_by_2 : laws.RefusedBy2 columns
  unfolding clock_answer
  refused_by_2 r trigger bit e = rw e refl

  refused_by_1 : laws.RefusedBy1 columns
  unfolding clock_answer
  refused_by_1 r trigger bit e = ⊎_elim (λ h. rw (e, lt-ltb _ _ h) refl) (λ h. rw (e, lt-ltb _ _ h) (same (ltb 1 trigger)))
    where
      same : (t : Bool) → cond t (refused_clock 1 r) (refused_clock 1 r) ≡ refused_clock 1 r
      same true = refl
      same false = refl

  refused_law : laws.RefusedLaw columns
  refused_law r trigger bit =
      by_refusal (λ (a : ClockAnswer). a.refusal ≢ 0 → (a.receiver ≡ r) × ShowsNothing a.outputs) r trigger bit
      (λ h n. absurd (n (stepped_zero r trigger bit)))
      (λ n m z. (refl, none_shown))

  stays_well_formed : laws.StaysWellFormed columns
  stays_well_formed r trigger bit e =
      by_refusal (λ (a : ClockAnswer). well_formed a.receiver ≡ true) r trigger bit
      (λ h. receiver_ok _ (step_facts columns r trigger bit (receiver_facts r e) h.2))
      (λ n m. e)

  -- ---- what the bit left decides what the step does

  by_taken : (P : Taken → ClockAnswer → Type 0) (r : Receiver) (trigger bit : ℕ)
      → ((held : Held) → P (Unfinished held) (clocked_answer held (idle_clock r.core trigger)))
      → ((kind : Kind) (number : ℕ) → P (Finished kind number) (clocked_answer (held_after number) (finished_by columns kind number (idle_clock r.core trigger))))
      → P (take_bit r.held bit) (step_answer columns r trigger bit)
  unfolding step_answer
  by_taken P r trigger bit unfinished done = go (take_bit r.held bit)
    where
      go : (taken : Taken) → P taken (clocked_answer (held_after_bit taken) (apply_frame columns taken (idle_clock r.core trigger)))
      go (Unfinished held) = unfinished held
      go (Finished kind number) = done kind number

  verdict_zero : laws.VerdictZero columns
  unfolding finished idle_clock
  verdict_zero r trigger bit h =
      rw (accepted r trigger bit h)
      (by_taken (λ taken (a : ClockAnswer). (a.outputs.verdict ≡ 0) ↔ ((kind : Kind) (number : ℕ) → taken ≡ Finished kind number → ⊥)) r trigger bit
      (λ held. (λ e kind number f. subst IsUnfinished f tt, λ f. refl))
      (λ kind number. (λ e. absurd (verdicts.not_zero kind number (idle_clock r.core trigger) e), λ f. absurd (f kind number refl))))

  no_frame_law : laws.NoFrameLaw columns
  no_frame_law r trigger bit held h e = accepted r trigger bit h ∙ unfinished_step columns r trigger bit held e

  frame_law : laws.FrameLaw columns
  frame_law r trigger bit kind number h f = accepted r trigger bit h ∙ finished_step columns r trigger bit kind number f

  nothing_shown : laws.NothingShown columns
  unfolding idle_clock
  nothing_shown r trigger bit =
      by_refusal None r trigger bit
      (λ h. by_taken (λ taken a. None a) r trigger bit (λ held z. (refl, refl, refl))
      (λ kind number z. absurd (verdicts.not_zero kind number (idle_clock r.core trigger) z)))
      (λ n m z. (refl, refl, refl))
    where
      None : ClockAnswer → Type 0
      None a = a.outputs.verdict ≡ 0 → (a.outputs.corrected ≡ 0) × (a.outputs.place ≡ 0) × (a.outputs.word ≡ 0)

  verdict_law : laws.VerdictLaw columns
  unfolding step_answer idle_clock
  verdict_law r trigger bit kind number h f =
      rw (accepted r trigger bit h, f)
      (verdicts.shows_frame kind number (idle_clock r.core trigger) (finishes_frames r.held bit kind number (receiver_facts r h.0).of_held h.2 f))

  -- ---- the place

  corrected_bit : laws.CorrectedBit columns
  unfolding step_answer idle_clock
  corrected_bit r trigger bit kind number h f =
      rw (accepted r trigger bit h, f)
      (verdicts.bit_named kind number (idle_clock r.core trigger) (finishes_frames r.held bit kind number (receiver_facts r h.0).of_held h.2 f))

  -- of a finished frame, by its kind
  most : (kind : Kind) → places kind ≤ largest_place
  most Short = omega arith
  most Long = omega arith

  named_place : (kind : Kind) (number : ℕ) (shown : Outputs) → BitNamed columns kind number shown → PlaceShown shown
  named_place kind number shown n = record { no_place = n.no_place; first = n.first; last = omega (arith, n.last, most kind) }

  no_place : (shown : Outputs) → shown.corrected ≡ 0 → shown.place ≡ 0 → PlaceShown shown
  no_place shown f p = record { no_place = λ e. p; first = λ n. absurd (n f); last = omega arith }

  place_law : laws.PlaceLaw columns
  unfolding idle_clock
  place_law r trigger bit =
      by_refusal (λ (a : ClockAnswer). PlaceShown a.outputs) r trigger bit
      (λ h. by_taken (λ taken (a : ClockAnswer). take_bit r.held bit ≡ taken → PlaceShown a.outputs) r trigger bit
      (λ held t. no_place _ refl refl)
      (λ kind number t.
      let named = corrected_bit r trigger bit kind number h t in
      named_place kind number _ (subst (λ (a : ClockAnswer). BitNamed columns kind number a.outputs) (frame_law r trigger bit kind number h t) named))
      refl)
      (λ n m. no_place _ refl refl)

  -- ---- what is held after a frame

  zero_not_7 : ◌≡◌ {A = ℕ} 0 7 → ⊥
  zero_not_7 e = omega arith

  -- a finished frame has a stop bit of 0 and verdict 7, or neither
  by_stop : (kind : Kind) (number : ℕ) (idle : Clocked) → let verdict = (finished_by columns kind number idle).outputs.verdict in
      ((stop_bit number ≡ 0) × (verdict ≡ 7)) ⊎ ((stop_bit number ≡ 1) × (verdict ≢ 7))
  by_stop kind number idle =
      by_test (eqb (stop_bit number) 0)
      (λ t. let z = eqb-true (stop_bit number) 0 t in inl (z, (verdicts.seven_exactly kind number idle).1 z))
      (λ t. let n = eqb-false (stop_bit number) 0 t in inr (is_bit number n, λ e. n ((verdicts.seven_exactly kind number idle).0 e)))
    where
      is_bit : (number : ℕ) → stop_bit number ≢ 0 → stop_bit number ≡ 1
      is_bit number n = omega (arith, n)

  waits_after : laws.WaitsAfter columns
  unfolding idle_clock
  waits_after r trigger bit =
      by_refusal WaitsBut7 r trigger bit
      (λ h. by_taken (λ taken a. WaitsBut7 a) r trigger bit
      (λ held n m. absurd (n refl))
      (λ kind number n m. ⊎_elim (λ s. absurd (m s.1)) (λ s. after_frame.waits _ number s.0) (by_stop kind number (idle_clock r.core trigger))))
      (λ n m z k. absurd (z refl))

  wants_after_7 : laws.WantsAfter columns
  unfolding idle_clock
  wants_after_7 r trigger bit =
      by_refusal WantsAfter7 r trigger bit
      (λ h. by_taken (λ taken a. WantsAfter7 a) r trigger bit
      (λ held e. absurd (zero_not_7 e))
      (λ kind number e. ⊎_elim (λ s. after_frame.stop_zero number s.0) (λ s. absurd (s.1 e)) (by_stop kind number (idle_clock r.core trigger))))
      (λ n m e. absurd (zero_not_7 e))

  wants_exactly : laws.WantsExactly columns
  unfolding idle_clock
  wants_exactly r trigger bit h none =
      rw (accepted r trigger bit h)
      (by_taken (λ taken a. take_bit r.held bit ≡ taken → WantsOnlyAfter7 a) r trigger bit
      (λ held t.
      let stays = bit_law.no_new_ones r.held bit held none t in
      record {
        exactly = (λ e. absurd (zero_not_7 e), λ e. absurd (none_41 stays (ap (λ (x : Held). x.wanted) e)));
        else_none = λ n. stays;
      })
      (λ kind number t. ⊎_elim
      (λ s. record { exactly = (λ e. after_frame.stop_zero number s.0, λ e. s.1); else_none = λ n. absurd (n s.1) })
      (λ s.
      let stays = ap (λ (x : Held). x.wanted) (after_frame.stop_one number s.0) in
      record {
        exactly = (λ e. absurd (s.1 e), λ e. absurd (none_41 stays (ap (λ (x : Held). x.wanted) e)));
        else_none = λ n. stays;
      })
      (by_stop kind number (idle_clock r.core trigger)))
      refl)
    where
      none_41 : {n : ℕ} → n ≡ 0 → n ≡ 41 → ⊥
      none_41 z e = omega arith

  -- ---- steps 1 and 2

  outputs_stand : laws.OutputsStand columns
  outputs_stand r trigger bit h =
      rw (accepted r trigger bit h)
      (by_taken (λ taken (a : ClockAnswer). Stands a.outputs (idle_clock r.core trigger).outputs) r trigger bit
      (λ held. same_stands _)
      (λ kind number. verdicts.outputs_stand kind number (idle_clock r.core trigger)))

  bus_law : laws.BusLaw columns
  bus_law r trigger bit h =
      let shows = idle_laws.bus_shows r.core trigger (receiver_facts r h.0).of_core in
      rw (accepted r trigger bit h)
      (by_taken (λ taken (a : ClockAnswer). BusShows r.core trigger a.outputs) r trigger bit
      (λ held. shows)
      (λ kind number. same_bus r.core trigger _ _ (verdicts.outputs_stand kind number (idle_clock r.core trigger)) shows))

  sequence_law : laws.SequenceLaw columns
  sequence_law r trigger bit h =
      rw (accepted r trigger bit h)
      (by_taken (λ taken (a : ClockAnswer). a.outputs.verdict ≢ 3 → SequenceLeft r.core trigger a.receiver.core.sequence) r trigger bit
      (λ held n. idle_laws.sequence_left r.core trigger)
      (λ kind number n. rw (verdicts.sequence_stays kind number (idle_clock r.core trigger) n) (idle_laws.sequence_left r.core trigger)))

  advance_law : laws.AdvanceLaw columns
  unfolding idle_clock
  advance_law r trigger bit h =
      let f = (receiver_facts r h.0).of_core in
      rw (accepted r trigger bit h)
      (by_taken (λ taken (a : ClockAnswer). CountersAdvance r.core.counters trigger a.outputs a.receiver.core.counters) r trigger bit
      (λ held. advance r.core trigger _ _ f h.1 (unmoved_counters _ _ refl))
      (λ kind number. advance r.core trigger _ _ f h.1 (verdicts.counters_move kind number (idle_clock r.core trigger))))

  -- ---- step 3

  errors_law : laws.ErrorsLaw columns
  unfolding idle_clock
  errors_law r trigger bit =
      by_refusal Moves r trigger bit
      (λ h. by_taken (λ taken a. Moves a) r trigger bit (λ held. unmoved_errors r.core.errors _ refl refl)
      (λ kind number. verdicts.errors_move kind number (idle_clock r.core trigger)))
      (λ n z. unmoved_errors r.core.errors _ refl refl)
    where
      Moves : ClockAnswer → Type 0
      Moves a = ErrorsMove r.core.errors a.outputs a.receiver.core.errors

  settings_law : laws.SettingsLaw columns
  unfolding idle_clock
  settings_law r trigger bit =
      by_refusal Moves r trigger bit
      (λ h. by_taken (λ taken a. Moves a) r trigger bit (λ held. unmoved_settings r.core.settings _ refl)
      (λ kind number. verdicts.settings_move kind number (idle_clock r.core trigger)))
      (λ n z. unmoved_settings r.core.settings _ refl)
    where
      Moves : ClockAnswer → Type 0
      Moves a = SettingsMove r.core.settings a.outputs a.receiver.core.settings

  reset_is_fresh : laws.ResetIsFresh columns
  unfolding idle_clock
  reset_is_fresh r trigger bit =
      by_refusal Reset r trigger bit
      (λ h. by_taken (λ taken a. Reset a) r trigger bit
      (λ held e. absurd (omega arith))
      (λ kind number e.
      let idle = idle_clock r.core trigger in
      ap₂ receiver (verdicts.reset_is_fresh kind number idle e)
      (⊎_elim (λ s. absurd (three_not_7 e s.1)) (λ s. after_frame.stop_one number s.0) (by_stop kind number idle))))
      (λ n m e. absurd (omega arith))
    where
      three_not_7 : {n : ℕ} → n ≡ 3 → n ≡ 7 → ⊥
      three_not_7 t s = omega arith

      Reset : ClockAnswer → Type 0
      Reset a = a.outputs.verdict ≡ 3 → a.receiver ≡ fresh_state r.core.ids

  ids_stay : laws.IdsStay columns
  unfolding idle_clock
  ids_stay r trigger bit =
      by_refusal (λ (a : ClockAnswer). a.receiver.core.ids ≡ r.core.ids) r trigger bit
      (λ h. by_taken (λ taken (a : ClockAnswer). a.receiver.core.ids ≡ r.core.ids) r trigger bit
      (λ held. refl)
      (λ kind number. verdicts.ids_stay kind number (idle_clock r.core trigger)))
      (λ n m. refl)

  executed_exactly : laws.ExecutedExactly columns
  unfolding step_answer idle_clock
  executed_exactly r trigger bit kind number h f =
      rw (accepted r trigger bit h, f)
      (verdicts.executed_exactly kind number (idle_clock r.core trigger) (finishes_frames r.held bit kind number (receiver_facts r h.0).of_held h.2 f))

  laws_of : ClockLaws columns
  laws_of = record {
    nothing_else_refused = nothing_else_refused;
    refused_by_2 = refused_by_2;
    refused_by_1 = refused_by_1;
    refused_law = refused_law;
    stays_well_formed = stays_well_formed;
    no_frame_law = no_frame_law;
    frame_law = frame_law;
    verdict_zero = verdict_zero;
    nothing_shown = nothing_shown;
    verdict_law = verdict_law;
    corrected_bit = corrected_bit;
    place_law = place_law;
    waits_after = waits_after;
    wants_after_7 = wants_after_7;
    wants_exactly = wants_exactly;
    outputs_stand = outputs_stand;
    bus_law = bus_law;
    sequence_law = sequence_law;
    advance_law = advance_law;
    errors_law = errors_law;
    settings_law = settings_law;
    reset_is_fresh = reset_is_fresh;
    ids_stay = ids_stay;
    executed_exactly = executed_exactly;
  }

pub clock_theorem : ClockTheorem
clock_theorem columns good = laws_of columns (verdict_theorem columns good)

pub receiver_laws : ReceiverLaws
receiver_laws = clock_theorem columns_of tables_good

-- What holds of every list of calls. Assumes nothing.
use mathlib.Core.Path.{◌≡◌, refl, sym, ap, subst, ◌∙◌}
use mathlib.Core.Logic.{◌≢◌}
use mathlib.Core.Bool.{true}
use mathlib.Core.List.{List, [], ◌∷◌, ◌++◌, map}
use Prim.Native.Nat.{ℕ}
use lib.ListN.{replicate}
use native.Mathlib.Omega.{arith}
use lib.Dec.{eqb}
use Rattle.laws.proofs.Rules.{picked}
use Rattle.frame.specs.declared.Kind.{Kind}
use Rattle.frame.specs.Bits.{Bits}
use Rattle.receiver_state.specs.declared.Held.{Held}
use Rattle.receiver_state.specs.declared.Receiver.{Receiver}
use Rattle.receiver_state.specs.State.{nothing_held}
use Rattle.receiver_state.specs.WellFormed.{well_formed}
use Rattle.receiver_state.proofs.WellFormed.{receiver_facts}
use Rattle.receiver_state.proofs.Shown.{shows_nothing}
use Rattle.channel_b.proofs.Laws.{waits_law}
use Rattle.receiver.specs.Laws.{ClockLaws}
use Rattle.registers.specs.declared.WriteAnswer.{WriteAnswer}
use Rattle.registers.specs.declared.ReadAnswer.{ReadAnswer}
use Rattle.registers.specs.Access.{read_refusal, read_answer, write_refusal, write_answer}
use Rattle.registers.proofs.Laws.{write_laws}
use Rattle.guarantees.specs.Calls.{Call, clock, read, write, CallAnswer, call, run, answers, refusal_of, carried, channel_b}
use Rattle.guarantees.specs.FrameLists.{last_call}
use Rattle.guarantees.specs.Demand3 as demand
use Rattle.guarantees.proofs.HeldBits.{held_over, held_append, over_facts, enough_ones}
use Rattle.guarantees.proofs.OneCall.{refuses, keeps, holds_after}
use Rattle.guarantees.proofs.ChannelB.{channel_b_bits, front_bits}

module _ (columns : Kind → List ℕ) (laws : ClockLaws columns) where
  pub refusals : (cs : List Call) (r : Receiver) → well_formed r ≡ true → map (λ (a : CallAnswer). a.refusal) (answers columns r cs) ≡ map refusal_of cs
  unfolding answers
  refusals [] r e = refl
  refusals (c ∷ cs) r e = cc (refuses columns laws r c e, refusals cs (call columns r c).receiver (keeps columns laws r c e))

  pub refused_law : demand.RefusedLaw columns
  unfolding call write_answer read_answer
  refused_law r (clock trigger bit) n = let law = laws.refused_law r trigger bit n in (law.0, shows_nothing _ law.1, refl)
  refused_law r (read number) n =
      (refl, refl, picked Byte (well_formed r) (picked Byte (eqb (read_refusal number) 0) (λ z. absurd (z refl)) (λ z. refl)) (λ z. refl) n)
    where
      Byte : ReadAnswer → Type 0
      Byte done = done.refusal ≢ 0 → done.byte ≡ 0
  refused_law r (write number value) n =
      (picked Stays (well_formed r) (picked Stays (eqb (write_refusal number value) 0) (λ z. absurd (z refl)) (λ z. refl)) (λ z. refl) n, refl, refl)
    where
      Stays : WriteAnswer → Type 0
      Stays done = done.refusal ≢ 0 → done.receiver ≡ r

  pub reads_leave : demand.ReadsLeave columns
  unfolding call
  reads_leave r number = refl

  ids_call : (r : Receiver) (c : Call) → (call columns r c).receiver.core.ids ≡ r.core.ids
  unfolding call
  ids_call r (clock trigger bit) = laws.ids_stay r trigger bit
  ids_call r (read number) = refl
  ids_call r (write number value) = write_laws.ids_stay r number value

  pub ids_stay : (cs : List Call) (r : Receiver) → (run columns r cs).core.ids ≡ r.core.ids
  unfolding run
  ids_stay [] r = refl
  ids_stay (c ∷ cs) r = ids_stay cs (call columns r c).receiver ∙ ids_call r c

  pub stays_well_formed : (cs : List Call) (r : Receiver) → well_formed r ≡ true → well_formed (run columns r cs) ≡ true
  unfolding run
  stays_well_formed [] r e = e
  stays_well_formed (c ∷ cs) r e = stays_well_formed cs (call columns r c).receiver (keeps columns laws r c e)

  -- what a list leaves held
  holds_run : (cs : List Call) (r : Receiver) → well_formed r ≡ true → (run columns r cs).held ≡ held_over r.held (channel_b cs)
  unfolding run channel_b held_over
  holds_run [] r e = refl
  holds_run (c ∷ cs) r e =
      holds_run cs (call columns r c).receiver (keeps columns laws r c e)
      ∙ ap (λ (held : Held). held_over held (channel_b cs)) (holds_after columns laws r c e)
      ∙ sym (held_append r.held (carried c) (channel_b cs))

  pub forty_one_ones : demand.FortyOneOnes columns
  forty_one_ones r calls earlier e h =
      let bits = front_bits earlier (replicate 41 1) (subst Bits h (channel_b_bits calls)) in
      let none : (run columns r calls).held ≡ nothing_held =
      holds_run calls r e ∙ ap (held_over r.held) h ∙ held_append r.held earlier (replicate 41 1)
      ∙ enough_ones 41 (held_over r.held earlier) (omega arith) (over_facts earlier r.held bits (receiver_facts r e).of_held) in
      (waits_law.holds_nothing (run columns r calls) (stays_well_formed calls r e)).1 none

  pub ids_last : (r : Receiver) (before : List Call) (last : Call) → (last_call columns r before last).receiver.core.ids ≡ r.core.ids
  unfolding last_call
  ids_last r before last = ids_call (run columns r before) last ∙ ids_stay before r

  -- ---- one list behind another, and the whole list and its last call

  pub run_behind : (cs : List Call) (r : Receiver) (ds : List Call) → run columns r (cs ++ ds) ≡ run columns (run columns r cs) ds
  unfolding run
  run_behind [] r ds = refl
  run_behind (c ∷ cs) r ds = run_behind cs (call columns r c).receiver ds

  pub answers_behind : (cs : List Call) (r : Receiver) (ds : List Call)
      → answers columns r (cs ++ ds) ≡ answers columns r cs ++ answers columns (run columns r cs) ds
  unfolding run answers
  answers_behind [] r ds = refl
  answers_behind (c ∷ cs) r ds = ap (λ (later : List CallAnswer). (call columns r c).answer ∷ later) (answers_behind cs (call columns r c).receiver ds)

  pub run_last : (cs : List Call) (r : Receiver) (last : Call) → run columns r (cs ++ (last ∷ [])) ≡ (last_call columns r cs last).receiver
  unfolding run last_call
  run_last cs r last = run_behind cs r (last ∷ [])

  pub answers_last : (cs : List Call) (r : Receiver) (last : Call)
      → answers columns r (cs ++ (last ∷ [])) ≡ answers columns r cs ++ ((last_call columns r cs last).answer ∷ [])
  unfolding answers last_call
  answers_last cs r last = answers_behind cs r (last ∷ [])

-- Every block is its clocks done singly, and cuts of it never show. Assumes nothing.
use mathlib.Core.Path.{◌≡◌, refl, sym, ap, ap₂, subst, ◌∙◌}
use mathlib.Core.Logic.{◌≢◌, ◌⊎◌, inl, inr, ⊎_elim, ◌↔◌}
use mathlib.Core.Bool.{Bool, true, false, not, cond, false≢true, or-true}
use mathlib.Core.List.{List, [], ◌∷◌, ◌++◌, map, append_assoc}
use Prim.Native.Nat.{ℕ, zero, suc, ◌+◌, ◌*◌, ◌<◌, ◌≤◌}
use native.Mathlib.Nat.{add-zero, zero-add, add-suc, suc-add, mod-lt}
use native.Mathlib.Omega.{arith}
use borrow.Author.Tests.{eq-eqb, ne_eqb, eqb-false, lt-ltb, le-ltb, ltb-false, le-leb}
use lib.Dec.{eqb, ltb, leb, lit<}
use lib.ListN.{length, take, drop, get_or, length-append, length-drop, length-map, get_or-append}
use lib.Seq.{length-take-le, take-suc, take-length, take_at, drop_at, get_or-append-add}
use Rattle.laws.proofs.Rules.{picked, picked_by, by_test}
use Rattle.laws.proofs.Table.{all_entries}
use Rattle.trace.specs.Record.{record_numbers, trace_record, numbers_of}
use Rattle.trace.specs.Filled.{filled_length, filled_part}
use Rattle.frame.specs.declared.Kind.{Kind}
use Rattle.receiver_state.specs.declared.Receiver.{Receiver}
use Rattle.receiver_state.specs.WellFormed.{well_formed}
use Rattle.receiver_state.specs.declared.Outputs.{Outputs}
use Rattle.frame.specs.Columns.{columns_of}
use Rattle.frame.proofs.OwnColumns.{tables_good}
use Rattle.trace.specs.declared.TraceRecord.{TraceRecord}
use Rattle.receiver.specs.Laws.{Accepted, ClockLaws}
use Rattle.trace.specs.Block.{trigger_bit, channel_bit, byte_clock, SingleClock, singly, state_after, recorded, record_of, records_of, all_numbers, block_records, BlockDone, refused_block, accepted_block, block_clocks, no_byte_over_3, run_block}
use Rattle.receiver.proofs.Laws.{clock_theorem}
use Rattle.trace.proofs.InRange.{byte_below}
use Rattle.trace.proofs.Run.{five_each, one_a_clock}
use Rattle.guarantees.specs.Calls.{call, run, answers}
use Rattle.guarantees.proofs.EveryList.{run_behind, answers_behind}
use Rattle.guarantees.specs.Blocks as blocks
use Rattle.guarantees.specs.Blocks.{clock_calls, state_before, answer_at, record_at, below, single_records, Accepts, DoneSingly, shifted_after, shifted, CutInTwo, BlockTheorem, ReceiverBlocks}

-- ---- no byte over 3

in_range : (block : List ℕ) → ((place : ℕ) → place < length block → get_or block place 0 ≤ 3) → no_byte_over_3 block ≡ true
unfolding no_byte_over_3
in_range block each = all_entries (λ place byte. leb byte 3) block (λ k h. le-leb _ _ (each k h))

-- ---- records, one list behind another

numbers_append : (a b : List TraceRecord) → all_numbers (a ++ b) ≡ all_numbers a ++ all_numbers b
unfolding all_numbers
numbers_append [] b = refl
numbers_append (one ∷ a) b = ap (λ (l : List ℕ). numbers_of one ++ l) (numbers_append a b) ∙ sym (append_assoc (numbers_of one) (all_numbers a) (all_numbers b))

-- the same record in a block that began so many clocks earlier
abbrev later : ℕ → TraceRecord → TraceRecord
later clocks one = record { place = clocks + one.place; bunch = one.bunch; event = one.event; code = one.code; word = one.word }

shift_all : (clocks : ℕ) (records : List TraceRecord) → shifted clocks (all_numbers records) ≡ all_numbers (map (later clocks) records)
unfolding shifted_after all_numbers
shift_all clocks [] = refl
shift_all clocks (one ∷ others) = ap (λ (l : List ℕ). numbers_of (later clocks one) ++ l) (shift_all clocks others)

-- one record, or none
one_or_none : (t : Bool) (one : TraceRecord) → all_numbers (cond t (one ∷ []) []) ≡ cond t (numbers_of one) []
unfolding all_numbers
one_or_none true one = refl
one_or_none false one = refl

cond_append : {A : Type 0} (t : Bool) (x : A) (xs ys : List A) → cond t (x ∷ (xs ++ ys)) (xs ++ ys) ≡ cond t (x ∷ xs) xs ++ ys
cond_append true x xs ys = refl
cond_append false x xs ys = refl

records_append : (a b : List SingleClock) → records_of (a ++ b) ≡ records_of a ++ records_of b
unfolding records_of
records_append [] b = refl
records_append (c ∷ a) b =
    ap (λ (l : List TraceRecord). cond (recorded c.answer.outputs) (record_of c ∷ l) l) (records_append a b)
    ∙ cond_append (recorded c.answer.outputs) (record_of c) (records_of a) (records_of b)

module _ (columns : Kind → List ℕ) where
  -- ---- the clocks of two parts

  state_append : (r : Receiver) (first second : List ℕ) → state_after columns r (first ++ second) ≡ state_after columns (state_after columns r first) second
  unfolding state_after
  state_append r [] second = refl
  state_append r (byte ∷ first) second = state_append (byte_clock columns r byte).receiver first second

  singly_append : (place : ℕ) (r : Receiver) (first second : List ℕ)
      → singly columns place r (first ++ second) ≡ singly columns place r first ++ singly columns (place + length first) (state_after columns r first) second
  unfolding singly state_after
  singly_append place r [] second = ap (λ (n : ℕ). singly columns n r second) (sym (add-zero place))
  singly_append place r (byte ∷ first) second =
      ap (λ (l : List SingleClock). record { place = place; before = r; answer = byte_clock columns r byte } ∷ l)
      (singly_append (suc place) (byte_clock columns r byte).receiver first second
      ∙ ap (λ (n : ℕ). singly columns (suc place) (byte_clock columns r byte).receiver first ++ singly columns n (state_after columns (byte_clock columns r byte).receiver first) second)
      (suc-add place (length first) ∙ sym (add-suc place (length first))))

  -- places count from where the block begins
  records_later : (clocks place : ℕ) (r : Receiver) (bytes : List ℕ)
      → records_of (singly columns (clocks + place) r bytes) ≡ map (later clocks) (records_of (singly columns place r bytes))
  unfolding singly records_of
  records_later clocks place r [] = refl
  records_later clocks place r (byte ∷ bytes) =
      let done = byte_clock columns r byte in
      let rest = ap (λ (n : ℕ). records_of (singly columns n done.receiver bytes)) (sym (add-suc clocks place)) ∙ records_later clocks (suc place) done.receiver bytes in
      let one = trace_record place r.core.counters done.outputs in
      ap (λ (l : List TraceRecord). cond (recorded done.outputs) (later clocks one ∷ l) l) rest
      ∙ cond_map (recorded done.outputs) one (records_of (singly columns (suc place) done.receiver bytes))
    where
      cond_map : (t : Bool) (x : TraceRecord) (xs : List TraceRecord)
          → cond t (later clocks x ∷ map (later clocks) xs) (map (later clocks) xs) ≡ map (later clocks) (cond t (x ∷ xs) xs)
      cond_map true x xs = refl
      cond_map false x xs = refl

  parts_records : (r : Receiver) (first second : List ℕ)
      → block_records columns r (first ++ second) ≡ block_records columns r first ++ map (later (length first)) (block_records columns (state_after columns r first) second)
  parts_records r first second =
      ap records_of (singly_append 0 r first second)
      ∙ records_append (singly columns 0 r first) (singly columns (0 + length first) (state_after columns r first) second)
      ∙ ap (λ (n : ℕ). block_records columns r first ++ records_of (singly columns n (state_after columns r first) second)) (zero-add (length first) ∙ sym (add-zero (length first)))
      ∙ ap (λ (l : List TraceRecord). block_records columns r first ++ l) (records_later (length first) 0 (state_after columns r first) second)

  -- ---- as a list of calls

  state_calls : (r : Receiver) (bytes : List ℕ) → state_after columns r bytes ≡ run columns r (clock_calls bytes)
  unfolding state_after run call
  state_calls r [] = refl
  state_calls r (byte ∷ bytes) = state_calls (byte_clock columns r byte).receiver bytes

  module _ (r : Receiver) (block : List ℕ) where
    -- the clock at a place is that of its byte on the state before it
    one_record : (place : ℕ) → all_numbers (records_of (singly columns place (state_after columns r (take place block)) (get_or block place 0 ∷ []))) ≡ record_at columns r block place
    unfolding singly records_of call
    one_record place =
        let byte = get_or block place 0 in
        ap (λ (s : Receiver). all_numbers (records_of (singly columns place s (byte ∷ [])))) (state_calls r (take place block))
        ∙ one_or_none (recorded (answer_at columns r block place).outputs) (trace_record place (state_before columns r block place).core.counters (answer_at columns r block place).outputs)

    records_below : (n : ℕ) → n ≤ length block → all_numbers (block_records columns r (take n block)) ≡ below (record_at columns r block) n
    unfolding below singly records_of all_numbers
    records_below zero h = refl
    records_below (suc n) h =
        let here : n < length block = h in
        let size : 0 + length (take n block) ≡ n = omega (arith, length-take-le n block (omega arith)) in
        let last = singly columns (0 + length (take n block)) (state_after columns r (take n block)) (get_or block n 0 ∷ []) in
        ap (λ (bytes : List ℕ). all_numbers (block_records columns r bytes)) (take-suc block n 0 here)
        ∙ ap (λ (clocks : List SingleClock). all_numbers (records_of clocks)) (singly_append 0 r (take n block) (get_or block n 0 ∷ []))
        ∙ ap all_numbers (records_append (singly columns 0 r (take n block)) last)
        ∙ numbers_append (block_records columns r (take n block)) (records_of last)
        ∙ ap₂ (λ (a b : List ℕ). a ++ b) (records_below n (omega arith))
        (ap (λ (k : ℕ). all_numbers (records_of (singly columns k (state_after columns r (take n block)) (get_or block n 0 ∷ [])))) size ∙ one_record n)

    single_records_lem : all_numbers (block_records columns r block) ≡ single_records columns r block
    single_records_lem = ap (λ (bytes : List ℕ). all_numbers (block_records columns r bytes)) (sym (take-length block)) ∙ records_below (length block) (omega arith)

  -- ---- refusals

  module _ (r : Receiver) (block buffer : List ℕ) where
    accepted : Accepts r block buffer → run_block columns r block buffer ≡ accepted_block columns r block buffer
    unfolding run_block
    accepted b = rw (b.is_well_formed, le-ltb block_clocks (length block) b.at_most_4096, le-ltb (length buffer) (record_numbers * length block) b.room, in_range block (λ place here. omega (arith, b.in_range place here))) refl

    refused_by_2 : well_formed r ≡ false → run_block columns r block buffer ≡ refused_block 2 r buffer
    unfolding run_block
    refused_by_2 w = rw w refl

    refused_by_15 : well_formed r ≡ true → block_clocks < length block → run_block columns r block buffer ≡ refused_block 15 r buffer
    unfolding run_block
    refused_by_15 w long = rw (w, lt-ltb block_clocks (length block) long) refl

    refused_by_16 : well_formed r ≡ true → length block ≤ block_clocks → length buffer < record_numbers * length block
        → run_block columns r block buffer ≡ refused_block 16 r buffer
    unfolding run_block
    refused_by_16 w few small = rw (w, le-ltb block_clocks (length block) few, lt-ltb (length buffer) (record_numbers * length block) small) refl

    refused_by_1 : (place : ℕ) → well_formed r ≡ true → length block ≤ block_clocks → record_numbers * length block ≤ length buffer
        → place < length block → 3 < get_or block place 0 → run_block columns r block buffer ≡ refused_block 1 r buffer
    unfolding run_block
    refused_by_1 place w few room here over =
        let out : no_byte_over_3 block ≡ false = by_test (no_byte_over_3 block) (λ t. absurd (let small : get_or block place 0 < 4 = byte_below block t place here in omega arith)) (λ t. t) in
        rw (w, le-ltb block_clocks (length block) few, le-ltb (length buffer) (record_numbers * length block) room, out) refl

    -- what is not refused passed every test
    is_block : (run_block columns r block buffer).answer.refusal ≡ 0 → Accepts r block buffer
    unfolding run_block
    is_block =
        picked_by Taken (well_formed r)
        (λ w. picked_by Taken (ltb block_clocks (length block)) (λ t z. absurd (omega arith))
        (λ few. picked_by Taken (ltb (length buffer) (record_numbers * length block)) (λ t z. absurd (omega arith))
        (λ room. picked_by Taken (no_byte_over_3 block)
        (λ bits z.
        record {
          is_well_formed = w;
          at_most_4096 = ltb-false block_clocks (length block) few;
          room = ltb-false (length buffer) (record_numbers * length block) room;
          in_range = λ place here. let small : get_or block place 0 < 4 = byte_below block bits place here in omega arith;
        })
        (λ t z. absurd (omega arith)))))
        (λ t z. absurd (omega arith))
      where
        Taken : BlockDone → Type 0
        Taken done = done.answer.refusal ≡ 0 → Accepts r block buffer

    -- ---- what an accepted block leaves

    abbrev records : List TraceRecord
    records = block_records columns r block

    five_fit : Accepts r block buffer → length (all_numbers records) ≤ length buffer
    five_fit b = omega (arith, b.room, five_each columns records, one_a_clock columns 0 r block)

    -- the front of the buffer that so many records fill
    front : (n : ℕ) (numbers rest : List ℕ) → length numbers ≡ record_numbers * n → filled_part (numbers ++ rest) n ≡ numbers
    unfolding filled_length
    front n numbers rest e =
        let fits : record_numbers * n ≤ length (numbers ++ rest) = omega (arith, length-append numbers rest) in
        rw (le-leb (record_numbers * n) (length (numbers ++ rest)) fits) (take_at numbers rest (record_numbers * n) e)

    filled_front : filled_part (accepted_block columns r block buffer).buffer (length records) ≡ all_numbers records
    filled_front = front (length records) (all_numbers records) (drop (length (all_numbers records)) buffer) (five_each columns records)

    done_singly : Accepts r block buffer → DoneSingly columns r block buffer (accepted_block columns r block buffer)
    done_singly b =
        let single = single_records_lem r block in
        let fits = five_fit b in
        record {
          state_is = state_calls r block;
          filled_is = filled_front ∙ single;
          count_is = sym (five_each columns records) ∙ ap (λ (l : List ℕ). length l) single;
          fit = omega (arith, fits, five_each columns records);
          others_stay =
              drop_at (all_numbers records) (drop (length (all_numbers records)) buffer) (record_numbers * length records) (five_each columns records)
              ∙ ap (λ (n : ℕ). drop n buffer) (five_each columns records);
          same_length = omega (arith, fits, length-append (all_numbers records) (drop (length (all_numbers records)) buffer), length-drop (length (all_numbers records)) buffer);
        }

    equals_singly : Accepts r block buffer → DoneSingly columns r block buffer (run_block columns r block buffer)
    equals_singly b = subst (DoneSingly columns r block buffer) (sym (accepted b)) (done_singly b)

  -- ---- a block cut in two

  module _ (r : Receiver) (first second buffer buffer₁ buffer₂ : List ℕ) (b : Accepts r (first ++ second) buffer)
      (room₁ : record_numbers * length first ≤ length buffer₁) (room₂ : record_numbers * length second ≤ length buffer₂)
      (w : well_formed (state_after columns r first) ≡ true) where
    is_first : Accepts r first buffer₁
    is_first = record {
      is_well_formed = b.is_well_formed;
      at_most_4096 = omega (arith, b.at_most_4096, length-append first second);
      room = room₁;
      in_range = λ place here.
          subst (λ (n : ℕ). n ≤ 3) (get_or-append first second 0 place here)
          (b.in_range place (omega (arith, length-append first second)));
    }

    is_second : Accepts (state_after columns r first) second buffer₂
    is_second = record {
      is_well_formed = w;
      at_most_4096 = omega (arith, b.at_most_4096, length-append first second);
      room = room₂;
      in_range = λ place here.
          subst (λ (n : ℕ). n ≤ 3) (get_or-append-add first second place 0)
          (b.in_range (length first + place) (omega (arith, length-append first second)));
    }

    cut : CutInTwo first (accepted_block columns r (first ++ second) buffer) (accepted_block columns r first buffer₁)
        (accepted_block columns (state_after columns r first) second buffer₂)
    cut =
        let after = state_after columns r first in
        let moved = map (later (length first)) (block_records columns after second) in
        let parts = parts_records r first second in
        record {
          first_taken = refl;
          second_taken = refl;
          same_state = state_append r first second;
          same_count =
              ap (λ (l : List TraceRecord). length l) parts
              ∙ length-append (block_records columns r first) moved
              ∙ ap (λ (n : ℕ). length (block_records columns r first) + n) (length-map (block_records columns after second) (later (length first)));
          same_records =
              filled_front r (first ++ second) buffer
              ∙ ap all_numbers parts
              ∙ numbers_append (block_records columns r first) moved
              ∙ ap₂ (λ (x y : List ℕ). x ++ y) (sym (filled_front r first buffer₁))
              (sym (shift_all (length first) (block_records columns after second)) ∙ ap (shifted (length first)) (sym (filled_front after second buffer₂)));
        }

-- ---- what depends on the laws of a clock

module _ (columns : Kind → List ℕ) (laws : ClockLaws columns) where
  state_stays : (r : Receiver) (bytes : List ℕ) → well_formed r ≡ true → well_formed (state_after columns r bytes) ≡ true
  unfolding state_after
  state_stays r [] w = w
  state_stays r (byte ∷ bytes) w = state_stays (byte_clock columns r byte).receiver bytes (laws.stays_well_formed r (trigger_bit byte) (channel_bit byte) w)

  stays_well_formed : blocks.StaysWellFormed columns
  unfolding run_block
  stays_well_formed r block buffer w =
      picked Stays (well_formed r)
      (picked Stays (ltb block_clocks (length block)) w
      (picked Stays (ltb (length buffer) (record_numbers * length block)) w
      (picked Stays (no_byte_over_3 block) (state_stays r block w) w)))
      w
    where
      Stays : BlockDone → Type 0
      Stays done = well_formed done.answer.receiver ≡ true

  recorded_by : (shown : Outputs) (trigger : ℕ) → shown.trigger ≡ trigger → trigger < 2 → (recorded shown ≡ true) ↔ ((trigger ≡ 1) ⊎ (shown.verdict ≢ 0))
  unfolding recorded
  recorded_by shown trigger e h = (
    λ is. by_test (eqb shown.trigger 0)
        (λ none. inr (λ v. false≢true (rw (none, eq-eqb shown.verdict 0 v) at is)))
        (λ some. inl (let n : shown.trigger ≢ 0 = eqb-false shown.trigger 0 some in omega (arith, e, n))),
    ⊎_elim
        (λ t. let n : shown.trigger ≢ 0 = some_trigger shown.trigger (e ∙ t) in rw (ne_eqb shown.trigger 0 n) refl)
        (λ v. rw (ne_eqb shown.verdict 0 v) (or-true (not (eqb shown.trigger 0)))),
  )
    where
      some_trigger : (n : ℕ) → n ≡ 1 → n ≢ 0
      some_trigger n a z = omega arith

  -- the state before each clock is well formed
  before_ok : (r : Receiver) (block : List ℕ) (place : ℕ) → well_formed r ≡ true → Accepted (state_before columns r block place) (trigger_bit (get_or block place 0)) (channel_bit (get_or block place 0))
  before_ok r block place w = (
    subst (λ (x : Receiver). well_formed x ≡ true) (state_calls columns r (take place block)) (state_stays r (take place block) w),
    mod-lt _ (lit< tt),
    mod-lt _ (lit< tt),
  )

  none_refused : blocks.NoneRefused columns
  unfolding call
  none_refused r block place w = (laws.nothing_else_refused _ _ _).1 (before_ok r block place w)

  recorded_exactly : blocks.RecordedExactly columns
  unfolding call
  recorded_exactly r block place w =
      let ok = before_ok r block place w in
      recorded_by (answer_at columns r block place).outputs (trigger_bit (get_or block place 0)) (laws.bus_law _ _ _ ok).trigger_shown ok.1

  among_calls : blocks.AmongCalls columns
  among_calls r before after block buffer b =
      let start = run columns r before in
      let clocks = clock_calls block in
      let left = (equals_singly columns start block buffer b).state_is in
      record {
        state =
            ap (λ (s : Receiver). run columns s after) left
            ∙ sym (run_behind columns laws clocks start after)
            ∙ sym (run_behind columns laws before r (clocks ++ after));
        answers_are =
            ap (answers columns r) (sym (append_assoc before clocks after))
            ∙ answers_behind columns laws (before ++ clocks) r after
            ∙ ap (λ (s : Receiver). answers columns r (before ++ clocks) ++ answers columns s after) (run_behind columns laws before r clocks ∙ sym left);
      }

  cuts_never_show : blocks.CutsNeverShow columns
  cuts_never_show r first second buffer buffer₁ buffer₂ b room₁ room₂ =
      let w = state_stays r first b.is_well_formed in
      let one = accepted columns r first buffer₁ (is_first columns r first second buffer buffer₁ buffer₂ b room₁ room₂ w) in
      let two = accepted columns (state_after columns r first) second buffer₂ (is_second columns r first second buffer buffer₁ buffer₂ b room₁ room₂ w) in
      rw (accepted columns r (first ++ second) buffer b, one, two) (cut columns r first second buffer buffer₁ buffer₂ b room₁ room₂ w)

pub block_theorem : BlockTheorem
block_theorem columns good =
    let laws = clock_theorem columns good in
    record {
      nothing_else_refused = λ r block buffer. (
        is_block columns r block buffer,
        λ b. ap (λ (d : BlockDone). d.answer.refusal) (accepted columns r block buffer b),
      );
      refused_by_2 = refused_by_2 columns;
      refused_by_15 = λ r block buffer w long. refused_by_15 columns r block buffer w (omega arith);
      refused_by_16 = λ r block buffer w short small. refused_by_16 columns r block buffer w (omega arith) (omega arith);
      refused_by_1 = refused_by_1 columns;
      equals_singly = equals_singly columns;
      none_refused = none_refused columns laws;
      recorded_exactly = recorded_exactly columns laws;
      stays_well_formed = stays_well_formed columns laws;
      among_calls = among_calls columns laws;
      cuts_never_show = cuts_never_show columns laws;
    }

pub receiver_blocks : ReceiverBlocks
receiver_blocks = block_theorem columns_of tables_good

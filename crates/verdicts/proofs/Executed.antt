-- Which finished frames are executed. Assumes nothing.
use mathlib.Core.Path.{◌≡◌, refl, sym, ap, ◌∙◌}
use mathlib.Core.Logic.{◌↔◌, inl, inr, ⊎_elim}
use mathlib.Core.Bool.{Bool, true, cond, false≢true}
use mathlib.Core.List.{List}
use Prim.Native.Nat.{ℕ}
use native.Mathlib.Omega.{arith}
use Rattle.laws.specs.OneOf.{one_of}
use Rattle.hamming.specs.declared.WrongBit.{WrongBit}
use Rattle.hamming.specs.declared.WrongBit.TheVariants.{Check, Data}
use Rattle.std.specs.declared.option.Option.{Option}
use Rattle.std.specs.declared.option.Option.TheVariants.{Some, None}
use Rattle.hamming.specs.Correction.{NoneOrProtected, flag_of}
use Rattle.frame.specs.declared.Kind.{Kind}
use Rattle.frame.specs.declared.Kind.TheVariants.{Short, Long}
use Rattle.frame.specs.declared.Fields.{Fields}
use Rattle.frame.specs.declared.Encoded.{Encoded}
use Rattle.frame.specs.declared.Judged.{Judged}
use Rattle.frame.specs.declared.Judged.TheVariants.{StopZero, EvenSyndrome, OddSyndrome, FixedZero, Good}
use Rattle.frame.specs.declared.Answer.{Answer}
use Rattle.frame.specs.Numbers.{data_bits, check_bits, is_frame}
use Rattle.frame.specs.Encode.{fields_of, encode_fields}
use Rattle.frame.specs.Place.{place_in}
use Rattle.frame.specs.Decode.{judged, good_answer, answer_to, finished_answer, decode_frame}
use Rattle.frame.specs.Frames.{InRange, flip_protected, fields_answer, EncodingOf, FrameFacts}
use Rattle.receiver_state.specs.declared.Core.{Core}
use Rattle.receiver_state.specs.declared.Clocked.{Clocked}
use Rattle.verdicts.specs.declared.LongRow.{LongRow}
use Rattle.verdicts.specs.declared.LongRow.TheVariants.{Foreign, Outside, WithoutSetting, Store, Reset, Other}
use Rattle.verdicts.specs.Table.{executed, long_row, row_verdict, good_row, table_row}
use Rattle.verdicts.specs.Finished.{count_errors, finished}
use Rattle.verdicts.specs.FrameLaws.{ExecutedRow, ExecutedFrame}
use Rattle.verdicts.proofs.Rows.{without_data, without_low, with_data, Why, why}
use Rattle.verdicts.proofs.Verdicts.{finished_answer_lem}

-- ---- the rows 1 to 4

long_executed : (fields : Fields) (id : ℕ) (chosen : LongRow) → Why chosen fields id → (executed (row_verdict chosen) ≡ true) ↔ ExecutedRow Long fields id
unfolding executed one_of
long_executed fields id Foreign w = (λ e. absurd (false≢true e), λ p. absurd (w p.0))
long_executed fields id Outside w = (λ e. (w.0, inl w.1), λ p. refl)
long_executed fields id WithoutSetting w = (
  λ e. absurd (false≢true e),
  λ p. absurd (let d = without_data fields w.2 in ⊎_elim w.1 (⊎_elim (λ s. s.1 d) (λ s. omega (arith, without_low fields d, s))) p.1),
)
long_executed fields id Store w = (λ e. (w.0, inr (inl (w.3, with_data fields w.2))), λ p. refl)
long_executed fields id Reset w = (λ e. (w.0, inr (inr w.3)), λ p. refl)
long_executed fields id Other w = (
  λ e. absurd (false≢true e),
  λ p. absurd (⊎_elim w.1 (⊎_elim (λ s. omega (arith, w.2, s.0)) w.3) p.1),
)

good_executed : (kind : Kind) (fields : Fields) (core : Core) → (executed (good_row kind fields core).verdict ≡ true) ↔ ExecutedRow kind fields core.ids.id
unfolding executed one_of
good_executed Short fields core = (λ e. tt, λ p. refl)
good_executed Long fields core = long_executed fields core.ids.id (long_row fields core.ids.id) (why fields core.ids.id)

-- ---- decoded and encoded

-- an encoded frame with no bit or one protected bit flipped decodes to its fields
decodes : (columns : List ℕ) (kind : Kind) (fields : Fields) (wrong : Option WrongBit) → FrameFacts columns kind → InRange kind fields
    → NoneOrProtected (data_bits kind) (check_bits kind) wrong
    → (flag : ℕ) × (decode_frame columns kind (flip_protected kind wrong (encode_fields columns kind fields)) ≡ fields_answer kind flag (place_in kind wrong) fields)
decodes columns kind fields None f h p =
    (0, ap (λ (x : Encoded). decode_frame columns kind x.number) (sym (f.encodes_in_range fields h)) ∙ f.round_trip fields h)
decodes columns kind fields (Some (Check j)) f h p = (1, f.one_flip fields (Some (Check j)) h p)
decodes columns kind fields (Some (Data i)) f h p = (1, f.one_flip fields (Some (Data i)) h p)

module _ (columns : Kind → List ℕ) (facts : (kind : Kind) → FrameFacts (columns kind) kind) (idle : Clocked) where
  abbrev ExecutedNow : Kind → Answer → Type 0
  ExecutedNow kind frame = executed (finished kind frame idle).outputs.verdict ≡ true

  -- a frame that is judged good was encoded, and at most one bit of it is wrong
  pub good_encoding : (kind : Kind) (number : ℕ) → is_frame kind number ≡ true → (word : ℕ) (wrong : Option WrongBit)
      → judged (columns kind) kind number ≡ Good word wrong
      → (p : Option WrongBit) × EncodingOf (columns kind) kind number (cond (flag_of wrong) 1 0) (place_in kind wrong) word (fields_of kind word) p
  unfolding finished_answer
  good_encoding kind number h word wrong e =
      (facts kind).decoded_only_if number (cond (flag_of wrong) 1 0) (place_in kind wrong) word (fields_of kind word)
      (finished_answer_lem columns kind number h ∙ ap (answer_to kind) e)

  -- what is executed was so encoded
  only_if : (kind : Kind) (number : ℕ) → is_frame kind number ≡ true → (found : Judged) → judged (columns kind) kind number ≡ found
      → ExecutedNow kind (answer_to kind found) → ExecutedFrame columns kind number idle.core.ids.id
  unfolding finished count_errors table_row executed one_of finished_answer
  only_if kind number h StopZero e x = absurd (false≢true x)
  only_if kind number h EvenSyndrome e x = absurd (false≢true x)
  only_if kind number h OddSyndrome e x = absurd (false≢true x)
  only_if kind number h (FixedZero word) e x = absurd (false≢true x)
  only_if kind number h (Good word wrong) e x =
      let p = good_encoding kind number h word wrong e in
      record {
        stop = p.1.stop;
        fields = fields_of kind word;
        in_range = p.1.in_range;
        wrong = p.0;
        none_or_protected = p.1.bit;
        number_is = p.1.number_is;
        row_is = (good_executed kind (fields_of kind word) (count_errors (good_answer kind (cond (flag_of wrong) 1 0) (place_in kind wrong) word) idle.core)).0 x;
      }

  -- and what was so encoded is executed
  when : (kind : Kind) (number : ℕ) → is_frame kind number ≡ true → ExecutedFrame columns kind number idle.core.ids.id
      → ExecutedNow kind (finished_answer columns kind number)
  unfolding finished count_errors table_row
  when kind number h x =
      let d = decodes (columns kind) kind x.fields x.wrong (facts kind) x.in_range x.none_or_protected in
      let e : finished_answer columns kind number ≡ fields_answer kind d.0 (place_in kind x.wrong) x.fields =
      sym (finished_answer_lem columns kind number h) ∙ ap (decode_frame (columns kind) kind) x.number_is ∙ d.1 in
      rw e ((good_executed kind x.fields (count_errors (fields_answer kind d.0 (place_in kind x.wrong) x.fields) idle.core)).1 x.row_is)

  pub executed_law : (kind : Kind) (number : ℕ) → is_frame kind number ≡ true
      → ExecutedNow kind (finished_answer columns kind number) ↔ ExecutedFrame columns kind number idle.core.ids.id
  unfolding finished_answer
  executed_law kind number h = (only_if kind number h (judged (columns kind) kind number) refl, when kind number h)

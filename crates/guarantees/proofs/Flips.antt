-- Frames with any number of wrong bits, over lists of calls. Assumes nothing.
use mathlib.Core.Path.{◌≡◌, refl, sym, ap, ◌∙◌}
use mathlib.Core.Bool.{true}
use mathlib.Core.List.{List}
use Prim.Native.Nat.{ℕ}
use lib.ListN.{length}
use Rattle.laws.specs.OneOf.{one_of}
use Rattle.frame.specs.declared.Kind.{Kind}
use Rattle.frame.specs.declared.Answer.{Answer}
use Rattle.frame.specs.Columns.{columns_of, GoodTables}
use Rattle.frame.specs.Encode.{word_of, encode_fields}
use Rattle.frame.specs.Frames.{flip_each_protected, FlipsShow}
use Rattle.frame.proofs.OwnColumns.{tables_good}
use Rattle.frame.proofs.Frames.{frame_theorem}
use Rattle.frame.proofs.Words.{word_fits}
use Rattle.receiver_state.specs.declared.Outputs.{Outputs}
use Rattle.idle_clock.specs.IdleClock.{idle_clock}
use Rattle.verdicts.specs.Table.{dropped}
use Rattle.verdicts.specs.FrameLaws.{ShowsFrame}
use Rattle.verdicts.proofs.Laws.{verdict_theorem}
use Rattle.receiver.proofs.Laws.{clock_theorem}
use Rattle.guarantees.specs.Calls.{CallResult}
use Rattle.guarantees.specs.Flips as flips
use Rattle.guarantees.proofs.Ending.{ending}
use Rattle.guarantees.proofs.Demand3.{drops_uncorrectable}

-- a clock shows 8 or 11 only if decoding answers it
shown_decoded : (kind : Kind) (decoded : Answer) (id verdict : ℕ) (shown : Outputs) → ShowsFrame kind decoded id shown → dropped verdict ≡ true
    → shown.verdict ≡ verdict → decoded.verdict ≡ verdict
shown_decoded kind decoded id verdict shown s d v = sym (s.not_good (s.dropped_exactly.0 (ap dropped v ∙ d))) ∙ v

shows_flips : (kind : Kind) (decoded : Answer) (id count : ℕ) (shown : Outputs) → ShowsFrame kind decoded id shown → FlipsShow count decoded.verdict
    → FlipsShow count shown.verdict
unfolding dropped one_of
shows_flips kind decoded id count shown s f =
    record {
      odd_not_8 = λ odd v. f.odd_not_8 odd (eight v);
      even_not_11 = λ even v. f.even_not_11 even (eleven v);
      two_or_more = λ v. f.two_or_more (eight v);
      three_or_more = λ v. f.three_or_more (eleven v);
    }
  where
    eight : shown.verdict ≡ 8 → decoded.verdict ≡ 8
    eight v = shown_decoded kind decoded id 8 shown s refl v

    eleven : shown.verdict ≡ 11 → decoded.verdict ≡ 11
    eleven v = shown_decoded kind decoded id 11 shown s refl v

any_flips : (columns : Kind → List ℕ) → GoodTables columns → flips.AnyFlips columns
any_flips columns good r before trigger bit kind fields flipped range protected s =
    let number = flip_each_protected kind flipped (encode_fields (columns kind) kind fields) in
    let facts = frame_theorem (columns kind) kind (good kind).0 (good kind).1 in
    let f = facts.any_flips (word_of kind fields) flipped (word_fits kind fields range) protected in
    let e = ending columns (clock_theorem columns good) r before trigger bit kind number f.is_a_frame f.stop_1 s in
    record {
      as_idle_before = e.as_idle_before;
      last_shows =
          rw (ap (λ (x : CallResult). x.answer.outputs.verdict) e.ends)
          (shows_flips kind _ _ (length flipped) _ ((verdict_theorem columns good).shows_frame kind number (idle_clock e.core trigger) f.is_a_frame) f.shows);
    }

pub flip_theorem : flips.FlipTheorem
flip_theorem columns good = record { any_flips = any_flips columns good; drops_uncorrectable = drops_uncorrectable columns good }

pub receiver_flips : flips.ReceiverFlips
receiver_flips = flip_theorem columns_of tables_good

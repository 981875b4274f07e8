-- What a refused block leaves. Assumes nothing.
use mathlib.Core.Path.{refl}
use mathlib.Core.Logic.{◌≢◌}
use Prim.Native.Nat.{ℕ, ◌*◌}
use lib.Dec.{ltb}
use lib.ListN.{length}
use Rattle.laws.proofs.Rules.{picked}
use Rattle.receiver_state.specs.WellFormed.{well_formed}
use Rattle.trace.specs.Record.{record_numbers}
use Rattle.trace.specs.Block.{BlockDone, refused_block, block_clocks, no_byte_over_3, run_block, RefusedKeeps, RefusedLaw}

pub refused_keeps : RefusedLaw
unfolding run_block
refused_keeps columns r block buffer =
    picked Kept (well_formed r)
    (picked Kept (ltb block_clocks (length block)) (kept 15)
    (picked Kept (ltb (length buffer) (record_numbers * length block)) (kept 16)
    (picked Kept (no_byte_over_3 block) (λ some. absurd (some refl)) (kept 1))))
    (kept 2)
  where
    Kept : BlockDone → Type 0
    Kept done = done.answer.refusal ≢ 0 → RefusedKeeps r buffer done

    kept : (refusal : ℕ) → Kept (refused_block refusal r buffer)
    kept refusal some = record { receiver_stays = refl; no_records = refl; buffer_stays = refl }

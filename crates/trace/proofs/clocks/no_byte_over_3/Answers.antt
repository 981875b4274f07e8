-- `trace::clocks::no_byte_over_3` meets its contract: no byte is over 3 if the largest is not. Assumes nothing.
use Rattle.std.proofs.Common.{◌≡◌, ℕ, rules, max, leb, ap, ◌∙◌}
use Rattle.std.specs.List.{fold}
use Rattle.trace.proofs.InRange.{largest_byte}
use Rattle.trace.proofs.clocks.no_byte_over_3.Goals as goal

pub returns : goal.returns
returns c =
    let h : c.fold.result ≡ fold (λ (a x : ℕ). max a x) 0 c.args.block.now = search rules in
    ap (λ (n : ℕ). leb n 3) h ∙ largest_byte c.args.block.now

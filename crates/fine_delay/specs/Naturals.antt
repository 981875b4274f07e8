-- Document 02, Q-2: "Answers, refusals and promises stay as they are." The byte of every number is that of the rule before, which added
-- the 14 first: n is at most 14, so that nothing is negative. Proved in proofs/Naturals.antt.
use Rattle.std.specs.Prelude.{ℕ, ◌+◌, ◌-◌, ◌*◌, ◌/◌, ◌%◌, ◌≡◌}
use Rattle.fine_delay.specs.Delay.{byte_of}

abbrev pub ByteInNaturals : Type 0
ByteInNaturals = (k : ℕ) → byte_of k ≡ 16 * (k % 15) + (k / 15 + 14 - k % 15) % 16

-- Document 02, Q-3: "a second call takes buffer and number and hands back the filled part of the caller's own buffer, or its empty front where the
-- number doesn't fit".
use Rattle.std.specs.Prelude.{ℕ, ◌*◌, ◌≤◌, ◌<◌, ◌≡◌, cond, List, [], leb, length, take}
use Rattle.trace.specs.Record.{record_numbers}

-- how many numbers that many records take up; 0 where the buffer has less room
unfoldable pub filled_length : ℕ → ℕ → ℕ
filled_length room records = cond (leb (record_numbers * records) room) (record_numbers * records) 0

-- the numbers that are handed back
abbrev pub filled_part : List ℕ → ℕ → List ℕ
filled_part buffer records = take (filled_length (length buffer) records) buffer

-- where the records fit and where they don't. Proved in proofs/Filled.antt.
pub record FilledLaws : Type 0 where
  -- "the filled part of the caller's own buffer": "five 32-bit numbers" for each record
  pub filled_part_lem : (buffer : List ℕ) (records : ℕ) → 5 * records ≤ length buffer → filled_part buffer records ≡ take (5 * records) buffer
  pub its_length : (buffer : List ℕ) (records : ℕ) → 5 * records ≤ length buffer → length (filled_part buffer records) ≡ 5 * records
  -- "or its empty front where the number doesn't fit"
  pub empty_front : (buffer : List ℕ) (records : ℕ) → length buffer < 5 * records → filled_part buffer records ≡ []

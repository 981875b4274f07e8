-- A rule tested over a whole table.
use Rattle.std.specs.Prelude.{ℕ, suc, Bool, List, [], ◌∷◌}
use Rattle.laws.specs.Tests.{every}

-- the tests `rule k x` of each entry x at its index k, counted from i
unfoldable pub tests_from : (ℕ → ℕ → Bool) → ℕ → List ℕ → List Bool
tests_from rule i [] = []
tests_from rule i (x ∷ xs) = rule i x ∷ tests_from rule (suc i) xs

-- `rule k x` passes for each index k, counted from 0, and the entry x there
unfoldable pub every_entry : (ℕ → ℕ → Bool) → List ℕ → Bool
every_entry rule xs = every (tests_from rule 0 xs)

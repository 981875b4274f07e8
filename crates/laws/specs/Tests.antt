-- A rule with several clauses, as a list of tests.
use Rattle.std.specs.Prelude.{◌≡◌, Bool, true, ◌&&◌, List, [], ◌∷◌}

-- every test of the list passes
unfoldable pub every : List Bool → Bool
every [] = true
every (t ∷ ts) = t && every ts

-- the same as facts, one for each test
abbrev pub Passed : List Bool → Type 0
Passed [] = Unit {0}
Passed (t ∷ ts) = (t ≡ true) × Passed ts

-- The place of the first line feed is how many bytes come before it. Assumes nothing.
use Rattle.std.proofs.Common.{◌≡◌, ℕ, ◌+◌, ◌≤◌, cond, eqb, nat_lt, ◌==◌, ltb, List, [], ◌∷◌, length, Some, None, position, refl, sym, ◌∙◌, arith, ltb-false}
use Rattle.std.specs.Prelude.{unwrap_or}
use Rattle.std.specs.List.{position_or_len}
use Rattle.std.proofs.lemmas.List.Recursion.{is_position_or_len}
use Rattle.std.proofs.lemmas.List.Sums.{prefix_len-le-length}
use Rattle.laws.proofs.Rules.{by_test}
use Rattle.line_report.specs.Report.{until_feed}

-- a test that finds nothing leaves the length
abbrev found : ℕ → ℕ → ℕ
found place size = unwrap_or (cond (nat_lt place size) (Some place) None) size

found_is : (place size : ℕ) → place ≤ size → found place size ≡ place
found_is place size h = by_test (ltb place size) (λ t. rw t refl) (λ t. let none : size ≤ place = ltb-false place size t in rw t (omega arith))

feed_first : until_feed [] ≡ 0
unfolding until_feed
feed_first = refl

feed_next : (byte : ℕ) (bytes : List ℕ) → until_feed (byte ∷ bytes) ≡ cond (byte == 10) 0 (1 + until_feed bytes)
unfolding until_feed
feed_next byte bytes = by_test (eqb byte 10) (λ t. rw t refl) (λ t. rw t (omega arith))

pub position_of_feed : (bytes : List ℕ) → unwrap_or (position (λ byte. byte == 10) bytes) (length bytes) ≡ until_feed bytes
position_of_feed bytes =
    let place = position_or_len (λ byte. byte == 10) bytes in
    found_is place (length bytes) (prefix_len-le-length _ bytes) ∙ sym (is_position_or_len until_feed (λ byte. byte == 10) feed_first feed_next bytes)

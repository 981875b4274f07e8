-- The line so far stands for its characters, however they came. Assumes nothing.
use Rattle.std.proofs.Common.{◌≡◌, ℕ, ◌+◌, ◌<◌, ◌≤◌, ltb, ◌⊎◌, List, [], ◌∷◌, ◌++◌, length, take, set, sym, refl, ap, ◌∙◌, inl, inr, append_assoc, append-nil, add-one, arith, length-append, length-set, take-suc-set, ltb-false, ltb-true, le-ltb, lt-ltb, ne_eqb, Err}
use Rattle.laws.proofs.Rules.{by_test}
use Rattle.refusals.specs.declared.Refusal.TheVariants.{LineLength}
use Rattle.stored_line.specs.Read.{read_line}
use Rattle.line_report.specs.declared.LinePart.{LinePart}
use Rattle.line_report.specs.Report.{line_part, long_part, with_character, with_characters, read_part}

-- up to 11 characters all are kept; of more, only that there are more
pub record Kept (part : LinePart) (line : List ℕ) : Type 0 where
  pub few : length line ≤ 11
  pub count_is : part.count ≡ length line
  pub size : length part.characters ≡ 11
  pub kept : take part.count part.characters ≡ line

pub record Dropped (part : LinePart) (line : List ℕ) : Type 0 where
  pub many : 11 < length line
  pub dropped : part ≡ long_part

abbrev pub Holds : LinePart → List ℕ → Type 0
Holds part line = Kept part line ⊎ Dropped part line

-- no character yet, whatever the bytes beyond
pub none_yet : (characters : List ℕ) → length characters ≡ 11 → Holds (line_part 0 characters) []
none_yet characters size = inl (record { few = omega arith; count_is = refl; size = size; kept = refl })

-- ---- one character more

one_longer : (line : List ℕ) (character : ℕ) → length (line ++ (character ∷ [])) ≡ length line + 1
one_longer line character = length-append line (character ∷ [])

room_left : (part : LinePart) (line : List ℕ) (character : ℕ) → Kept part line → length line < 11
    → Kept (with_character part character) (line ++ (character ∷ []))
unfolding with_character
room_left part line character k h =
    let below : part.count < 11 = omega (arith, k.count_is) in
    let inside : part.count < length part.characters = omega (arith, k.size) in
    rw (lt-ltb part.count 11 below)
    (record {
      few = omega (arith, one_longer line character);
      count_is = omega (arith, one_longer line character, k.count_is);
      size = length-set part.characters part.count character ∙ k.size;
      kept =
          ap (λ (n : ℕ). take n (set part.characters part.count character)) (add-one part.count)
          ∙ take-suc-set part.characters part.count character inside
          ∙ ap (λ (l : List ℕ). l ++ (character ∷ [])) k.kept;
    })

no_room : (part : LinePart) (line : List ℕ) (character : ℕ) → Kept part line → 11 ≤ length line
    → Dropped (with_character part character) (line ++ (character ∷ []))
unfolding with_character
no_room part line character k h =
    record {
      many = omega (arith, one_longer line character);
      dropped = rw (le-ltb part.count 11 (omega (arith, k.count_is))) refl;
    }

still_dropped : (part : LinePart) (line : List ℕ) (character : ℕ) → Dropped part line
    → Dropped (with_character part character) (line ++ (character ∷ []))
unfolding with_character
still_dropped part line character d =
    record { many = omega (arith, one_longer line character, d.many); dropped = ap (λ (p : LinePart). with_character p character) d.dropped }

pub holds_one : (part : LinePart) (line : List ℕ) (character : ℕ) → Holds part line → Holds (with_character part character) (line ++ (character ∷ []))
holds_one part line character (inl k) =
    by_test (ltb (length line) 11)
    (λ t. inl (room_left part line character k (ltb-true _ _ t)))
    (λ t. inr (no_room part line character k (ltb-false _ _ t)))
holds_one part line character (inr d) = inr (still_dropped part line character d)

holds_more : (part : LinePart) (line more : List ℕ) → Holds part line → Holds (with_characters part more) (line ++ more)
unfolding with_characters
holds_more part line [] h = rw (append-nil line) h
holds_more part line (character ∷ more) h =
    rw (append_assoc line (character ∷ []) more) at (holds_more (with_character part character) (line ++ (character ∷ [])) more (holds_one part line character h))

-- ---- the line that ends here

too_long : (line : List ℕ) → 11 < length line → read_line line ≡ Err LineLength
unfolding read_line
too_long line h = rw (ne_eqb (length line) 4 (λ e. omega arith), ne_eqb (length line) 11 (λ e. omega arith)) refl

pub holds_read : (part : LinePart) (line : List ℕ) → Holds part line → read_part part ≡ read_line line
unfolding read_part
holds_read part line (inl k) = rw (le-ltb 11 part.count (omega (arith, k.count_is, k.few))) (ap read_line k.kept)
holds_read part line (inr d) = ap read_part d.dropped ∙ sym (too_long line d.many)

-- a line that is not cut
pub uncut : (characters line : List ℕ) → length characters ≡ 11 → read_line line ≡ read_part (with_characters (line_part 0 characters) line)
uncut characters line size = sym (holds_read _ line (holds_more (line_part 0 characters) [] line (none_yet characters size)))

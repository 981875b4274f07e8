-- `line_report::part::with_characters` meets its contract. The invariant: the characters still to come, behind those taken, are all of them. Assumes nothing.
use Rattle.std.proofs.Common.{◌≡◌, ℕ, suc, ◌+◌, ◌<◌, List, [], ◌∷◌, length, get_or, drop, sym, refl, ap, ◌∙◌, add-one, arith, le-ltb, drop_of_length-le, drop-cons}
use Rattle.line_report.specs.declared.LinePart.{LinePart}
use Rattle.line_report.specs.Report.{long_part, with_character, with_characters}
use Rattle.line_report.proofs.part.with_characters.Goals as goal

turn_more : (part next : LinePart) (characters : List ℕ) (at : ℕ) → at < length characters → next ≡ with_character part (get_or characters at 0)
    → with_characters next (drop (at + 1) characters) ≡ with_characters part (drop at characters)
unfolding with_characters
turn_more part next characters at h e = rw (add-one, drop-cons characters at 0, e) refl

-- a line that is too long stays so
long_stays : (characters : List ℕ) → with_characters long_part characters ≡ long_part
unfolding with_characters with_character
long_stays [] = refl
long_stays (character ∷ characters) = long_stays characters

one_more : (part : LinePart) (character : ℕ) → 11 < part.count → with_character part character ≡ long_part
unfolding with_character
one_more part character many = rw (le-ltb part.count 11 (omega (arith, many))) refl

long_more : (part : LinePart) (characters : List ℕ) (at : ℕ) → at < length characters → 11 < part.count → with_characters part (drop at characters) ≡ long_part
unfolding with_characters
long_more part characters at h many =
    let rest = drop (suc at) characters in
    rw (drop-cons characters at 0)
    (ap (λ (next : LinePart). with_characters next rest) (one_more part (get_or characters at 0) many) ∙ long_stays rest)

pub returns-then-next-gt11 : goal.returns-then-next-gt11
returns-then-next-gt11 c = c.long_part.ensures ∙ sym (long_more _ _ _ c.loop-character-test.true c.if-next-gt11.true) ∙ c.loop-character.invariant

pub loop-character-preserved : goal.loop-character-preserved
loop-character-preserved c =
    turn_more _ _ _ _ c.loop-character-test.true c.with_character-next.ensures ∙ c.loop-character.invariant

pub returns : goal.returns
unfolding with_characters
returns c = ap (with_characters c.loop-character.next) (sym (drop_of_length-le _ c.loop-character-test.false)) ∙ c.loop-character.invariant

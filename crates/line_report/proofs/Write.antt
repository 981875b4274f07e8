-- One text stored behind another. Assumes nothing.
use Rattle.std.proofs.Common.{◌≡◌, ℕ, ◌+◌, ◌≤◌, List, [], ◌∷◌, ◌++◌, length, sym, refl, ap, ◌∙◌, arith, length-append}
use lib.Seq.{sets, length-sets}
use Rattle.laws.proofs.Sets.{sets_append}
use Rattle.line_report.specs.declared.text.Printer.{Printer}
use Rattle.line_report.specs.Write.{TextAt, HasRoom, Puts}

pub then_text : {n₁ n₂ at : ℕ} (first second : List ℕ) {b₀ b₁ b₂ : List ℕ} → TextAt n₁ at first b₀ b₁ → TextAt n₂ n₁ second b₁ b₂
    → TextAt n₂ at (first ++ second) b₀ b₂
then_text {n₁} {n₂} {at} first second {b₀} s t =
    record {
      next_is =
          let all : length (first ++ second) ≡ length first + length second = length-append first second in
          omega (arith, s.next_is, t.next_is);
      stored =
          t.stored
          ∙ ap (λ (b : List ℕ). sets b n₁ second) s.stored
          ∙ ap (λ (n : ℕ). sets (sets b₀ at first) n second) s.next_is
          ∙ sym (sets_append first second b₀ at);
    }

-- the same of a printer
pub puts_then : (first second : List ℕ) {before between after : Printer} → Puts first before between → Puts second between after
    → Puts (first ++ second) before after
puts_then first second s t = record { same_buffer = t.same_buffer ∙ s.same_buffer; text_at = then_text first second s.text_at t.text_at }

-- nothing stored
pub nothing_stored : (at : ℕ) (before : List ℕ) → TextAt at at [] before before
nothing_stored at before = record { next_is = omega arith; stored = refl }

-- the same of a printer
pub puts_nothing : (printer : Printer) → Puts [] printer printer
puts_nothing printer = record { same_buffer = refl; text_at = nothing_stored printer.at printer.out.now }

-- the buffer keeps its length
pub kept_length : {n at : ℕ} {text before after : List ℕ} → TextAt n at text before after → length after ≡ length before
kept_length {n} {at} {text} {before} t = ap length t.stored ∙ length-sets before at text

-- a text with room ends within the buffer
pub text_below : {n at : ℕ} {text before after : List ℕ} → TextAt n at text before after → at + length text ≤ length before → n ≤ length after
text_below t h = omega (arith, t.next_is, kept_length t)

-- room for both is room for the first, and then for the second
pub room_first : (at : ℕ) (first second : List ℕ) {room : ℕ} → at + length (first ++ second) ≤ room → at + length first ≤ room
room_first at first second h = omega (arith, length-append first second)

pub text_room_then : {at n : ℕ} (first second : List ℕ) {before after : List ℕ} → at + length (first ++ second) ≤ length before
    → TextAt n at first before after → n + length second ≤ length after
text_room_then {at} {n} first second h t = omega (arith, length-append first second, t.next_is, kept_length t)

-- the same of a printer
pub room_then : (first second : List ℕ) {before after : Printer} → HasRoom (first ++ second) before → Puts first before after → HasRoom second after
room_then first second h t = text_room_then first second h t.text_at

-- room for some characters is room for the first
pub room_one : (at character : ℕ) (rest : List ℕ) {room : ℕ} → at + length (character ∷ rest) ≤ room → at + length (character ∷ []) ≤ room
room_one at character rest h = omega arith

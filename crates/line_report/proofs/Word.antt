-- A word's digits, written to the rest of the buffer from a place on. Assumes nothing.
use Rattle.std.proofs.Common.{◌≡◌, ℕ, ◌+◌, ◌-◌, ◌≤◌, false, List, [], ◌++◌, length, take, drop, sym, refl, ap, ◌∙◌, append_assoc, append-nil, arith, length-drop, drop_of_length-le, take_all, drop-drop, le-ltb}
use lib.Seq.{sets-eq}
use Rattle.receiver_state.specs.declared.Outputs.{Outputs}
use Rattle.stored_line.specs.Digits.{hex_digits, hex_written}
use Rattle.stored_line.proofs.Digits.{length_digits}
use Rattle.line_report.specs.Text.{prints_dash, word_text}
use Rattle.line_report.specs.Write.{TextAt}

module _ (digits at : ℕ) (shown : Outputs) where
  shown_word : prints_dash shown.verdict ≡ false → word_text digits shown ≡ hex_digits digits shown.word
  unfolding word_text
  shown_word d = rw d refl

  pub hex_room : {room : ℕ} → prints_dash shown.verdict ≡ false → at + length (word_text digits shown) ≤ room → at + digits ≤ room
  hex_room d h = omega (arith, ap length (shown_word d), length_digits digits shown.word)

  module _ (out last : List ℕ) where
    rest_is : at + digits ≤ length out → last ≡ hex_written digits shown.word (take (length out - at) (drop at out))
        → last ≡ hex_digits digits shown.word ++ drop (at + digits) out
    unfolding hex_written
    rest_is h e =
        let covers : length (drop at out) ≤ length out - at = omega (arith, length-drop at out) in
        let whole : take (length out - at) (drop at out) ≡ drop at out = take_all _ _ covers in
        let enough : digits ≤ length (drop at out) = omega (arith, length-drop at out) in
        e ∙ ap (hex_written digits shown.word) whole ∙ rw (le-ltb (length (drop at out)) digits enough, drop-drop digits at out) refl

    pub hex_stored : prints_dash shown.verdict ≡ false → at + length (word_text digits shown) ≤ length out
        → last ≡ hex_written digits shown.word (take (length out - at) (drop at out))
        → TextAt (at + digits) at (word_text digits shown) out (take at out ++ (last ++ drop (length out - at) (drop at out)))
    hex_stored d h e =
        let room = hex_room d h in
        let word = hex_digits digits shown.word in
        let size = length_digits digits shown.word in
        let covers : length (drop at out) ≤ length out - at = omega (arith, length-drop at out) in
        let none : drop (length out - at) (drop at out) ≡ [] = drop_of_length-le (drop at out) covers in
        rw (shown_word d)
        (record {
          next_is = ap (λ (n : ℕ). at + n) (sym size);
          stored =
              ap (λ (rest : List ℕ). take at out ++ (last ++ rest)) none
              ∙ ap (λ (rest : List ℕ). take at out ++ rest) (append-nil last ∙ rest_is room e)
              ∙ ap (λ (n : ℕ). take at out ++ (word ++ drop (at + n) out)) (sym size)
              ∙ sym (append_assoc (take at out) word (drop (at + length word) out))
              ∙ sym (sets-eq word out at (rw size room));
        })

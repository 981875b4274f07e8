-- The work on a piece of input: to the end where no line feed is left, and from line to line. Assumes nothing.
use Rattle.std.proofs.Common.{◌≡◌, ℕ, suc, ◌+◌, ◌-◌, ◌*◌, ◌<◌, ◌≤◌, true, false, eqb, ltb, List, [], ◌∷◌, ◌++◌, length, take, drop, sym, refl, ap, ◌∙◌, suc-add, zero-add, arith, length-append, ltb-false, le-ltb, lt-ltb, Result}
use native.Mathlib.Nat.{sub-zero}
use Rattle.laws.proofs.Rules.{picked, picked_by, by_test}
use Rattle.frame.specs.declared.Kind.{Kind}
use Rattle.refusals.specs.declared.Refusal.{Refusal}
use Rattle.stored_line.specs.declared.StoredFrame.{StoredFrame}
use Rattle.line_report.specs.declared.Report.{Report}
use Rattle.line_report.specs.Report.{report, with_character, with_characters, read_part, line_ended, line_end_prints, after_byte, byte_prints, until_feed, longest_line, Work, work, behind, work_on}
use Rattle.line_report.proofs.Bounds.{line_length_lem}

-- ---- where the next line feed is

no_feed_lem : (byte : ℕ) (bytes : List ℕ) → until_feed (byte ∷ bytes) ≡ length (byte ∷ bytes) → eqb byte 10 ≡ true → ⊥
unfolding until_feed
no_feed_lem byte bytes e t = let z : 0 ≡ suc (length bytes) = rw t at e in omega arith

later : (byte : ℕ) (bytes : List ℕ) → until_feed (byte ∷ bytes) ≡ length (byte ∷ bytes) → eqb byte 10 ≡ false → until_feed bytes ≡ length bytes
unfolding until_feed
later byte bytes e t = let one : suc (until_feed bytes) ≡ suc (length bytes) = rw t at e in omega arith

none_left : until_feed [] < length {A = ℕ} [] → ⊥
unfolding until_feed
none_left e = omega arith

still : (byte : ℕ) (bytes : List ℕ) → until_feed (byte ∷ bytes) < length (byte ∷ bytes) → eqb byte 10 ≡ false → until_feed bytes < length bytes
unfolding until_feed
still byte bytes e t = let one : suc (until_feed bytes) < suc (length bytes) = rw t at e in omega arith

feed_now : (byte : ℕ) (bytes : List ℕ) → eqb byte 10 ≡ true → until_feed (byte ∷ bytes) ≡ 0
unfolding until_feed
feed_now byte bytes t = rw t refl

feed_later : (byte : ℕ) (bytes : List ℕ) → eqb byte 10 ≡ false → until_feed (byte ∷ bytes) ≡ suc (until_feed bytes)
unfolding until_feed
feed_later byte bytes t = rw t refl

-- ---- the work

module _ (columns : Kind → List ℕ) where
  -- no room for a line's text
  pub no_room : (room : ℕ) (now : Report) (input : List ℕ) → room < longest_line → work_on columns room now input ≡ work now 0 []
  unfolding work_on
  no_room room now [] h = refl
  no_room room now (byte ∷ bytes) h = rw (lt-ltb room longest_line h) refl

  -- a byte that is no line feed
  character : (room : ℕ) (now : Report) (byte : ℕ) (bytes : List ℕ) → longest_line ≤ room → eqb byte 10 ≡ false
      → work_on columns room now (byte ∷ bytes)
      ≡ behind [] (work_on columns room (report now.receiver now.lines (with_character now.part byte)) bytes)
  unfolding work_on byte_prints after_byte
  character room now byte bytes h e = rw (le-ltb room longest_line h, e, sub-zero) refl

  -- a line feed
  feed : (room : ℕ) (now : Report) (byte : ℕ) (bytes : List ℕ) → longest_line ≤ room → eqb byte 10 ≡ true
      → work_on columns room now (byte ∷ bytes)
      ≡ behind (line_end_prints columns now (read_part now.part))
      (work_on columns (room - length (line_end_prints columns now (read_part now.part))) (line_ended columns now (read_part now.part)) bytes)
  unfolding work_on byte_prints after_byte
  feed room now byte bytes h e = rw (le-ltb room longest_line h, e) refl

  -- no line feed is left
  pub to_the_end : (room : ℕ) (now : Report) (rest : List ℕ) → longest_line ≤ room → until_feed rest ≡ length rest
      → work_on columns room now rest ≡ work (report now.receiver now.lines (with_characters now.part rest)) (length rest) []
  unfolding work_on with_characters until_feed
  to_the_end room now [] h e = refl
  to_the_end room now (byte ∷ bytes) h e =
      by_test (eqb byte 10) (λ t. absurd (no_feed_lem byte bytes e t))
      (λ t. character room now byte bytes h t
      ∙ ap (behind []) (to_the_end room (report now.receiver now.lines (with_character now.part byte)) bytes h (later byte bytes e t)))

  -- behind a line of n characters and its line feed
  abbrev pub line_to : Report → List ℕ → ℕ → Result StoredFrame Refusal
  line_to now rest n = read_part (with_characters now.part (take n rest))

  abbrev pub text_to : Report → List ℕ → ℕ → List ℕ
  text_to now rest n = line_end_prints columns now (line_to now rest n)

  abbrev pub work_behind : ℕ → Report → List ℕ → ℕ → Work
  work_behind room now rest n = work_on columns (room - length (text_to now rest n)) (line_ended columns now (line_to now rest n)) (drop (suc n) rest)

  abbrev pub from_feed : ℕ → Report → List ℕ → ℕ → Work
  from_feed room now rest n =
      work (work_behind room now rest n).report (suc (n + (work_behind room now rest n).used)) (text_to now rest n ++ (work_behind room now rest n).text)

  at_once : (room : ℕ) (now : Report) (byte : ℕ) (bytes : List ℕ)
      → behind (line_end_prints columns now (read_part now.part))
      (work_on columns (room - length (line_end_prints columns now (read_part now.part))) (line_ended columns now (read_part now.part)) bytes)
      ≡ from_feed room now (byte ∷ bytes) 0
  unfolding with_characters
  at_once room now byte bytes =
      ap (λ (n : ℕ). work (work_behind room now (byte ∷ bytes) 0).report (suc n) (text_to now (byte ∷ bytes) 0 ++ (work_behind room now (byte ∷ bytes) 0).text))
      (sym (zero-add (work_behind room now (byte ∷ bytes) 0).used))

  one_later : (room : ℕ) (now : Report) (byte : ℕ) (bytes : List ℕ) (n : ℕ)
      → behind [] (from_feed room (report now.receiver now.lines (with_character now.part byte)) bytes n) ≡ from_feed room now (byte ∷ bytes) (suc n)
  unfolding with_characters
  one_later room now byte bytes n =
      let next = work_behind room now (byte ∷ bytes) (suc n) in
      ap (λ (u : ℕ). work next.report (suc u) (text_to now (byte ∷ bytes) (suc n) ++ next.text)) (sym (suc-add n next.used))

  -- to the next line feed, and on
  pub to_the_feed : (room : ℕ) (now : Report) (rest : List ℕ) → longest_line ≤ room → until_feed rest < length rest
      → work_on columns room now rest ≡ from_feed room now rest (until_feed rest)
  to_the_feed room now [] h e = absurd (none_left e)
  to_the_feed room now (byte ∷ bytes) h e =
      by_test (eqb byte 10)
      (λ t. feed room now byte bytes h t ∙ at_once room now byte bytes ∙ ap (from_feed room now (byte ∷ bytes)) (sym (feed_now byte bytes t)))
      (λ t. character room now byte bytes h t
      ∙ ap (behind []) (to_the_feed room (report now.receiver now.lines (with_character now.part byte)) bytes h (still byte bytes e t))
      ∙ one_later room now byte bytes (until_feed bytes)
      ∙ ap (from_feed room now (byte ∷ bytes)) (sym (feed_later byte bytes t)))

  -- ---- what is written fits

  pub byte_fits : (now : Report) (byte : ℕ) → length (byte_prints columns now byte) ≤ longest_line
  unfolding byte_prints
  byte_fits now byte =
      picked (λ (text : List ℕ). length text ≤ longest_line) (eqb byte 10)
      (line_length_lem columns now.receiver now.lines (read_part now.part))
      (omega arith)

  pub work_fits : (room : ℕ) (now : Report) (input : List ℕ) → length (work_on columns room now input).text ≤ room
  unfolding work_on
  work_fits room now [] = omega arith
  work_fits room now (byte ∷ bytes) =
      let text = byte_prints columns now byte in
      let rest = work_fits (room - length text) (after_byte columns now byte) bytes in
      picked_by (λ (w : Work). length w.text ≤ room) (ltb room longest_line)
      (λ t. omega arith)
      (λ t.
      let enough : longest_line ≤ room = ltb-false room longest_line t in
      omega (arith, length-append text (work_on columns (room - length text) (after_byte columns now byte) bytes).text, byte_fits now byte))

  -- room for a line's text for each byte is enough for all
  pub room_for_all : (room : ℕ) (now : Report) (input : List ℕ) → longest_line * length input ≤ room → (work_on columns room now input).used ≡ length input
  unfolding work_on
  room_for_all room now [] h = refl
  room_for_all room now (byte ∷ bytes) h =
      let text = byte_prints columns now byte in
      let enough : longest_line ≤ room = omega arith in
      rw (le-ltb room longest_line enough)
      (ap suc (room_for_all (room - length text) (after_byte columns now byte) bytes (omega (arith, byte_fits now byte))))

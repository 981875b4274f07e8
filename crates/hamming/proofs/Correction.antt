-- The correction theorem: what the decoder answers, over any good columns. All of it goes through one fact, `syndrome_flip`: a flipped bit
-- changes the syndrome by that bit's mark; and one view, `judged`: the decoder names a bit whose mark is the syndrome, or there is none.
-- Assumes nothing.
use mathlib.Core.Path.{◌≡◌, refl, sym, ap, ◌∙◌, subst}
use mathlib.Core.List.{List, [], ◌∷◌}
use Prim.Native.Nat.{ℕ, ◌%◌, ◌^◌, ◌<◌}
use native.Mathlib.Nat.{zero-add}
use native.Mathlib.Omega.{arith}
use borrow.Author.Tests.{eqb-true, eqb-false}
use lib.Dec.{eqb}
use lib.ListN.{length, get_or}
use lib.Bits.{bit_xor, xor_self, xor_zero_r, xor_lt}
use lib.Pow.{pow_pos, pow-lt}
use lib.Count.{ones}
use Rattle.laws.proofs.Rules.{picked_by}
use Rattle.laws.proofs.Xor.{xor_assoc, xor_back, xor_last, xor_zero_eq, ones_zero, ones_xor}
use Rattle.laws.proofs.Powers.{pow_inj, pow_below, ones_pow, one_bit_place}
use Rattle.hamming.specs.declared.WrongBit.{WrongBit}
use Rattle.hamming.specs.declared.WrongBit.TheVariants.{Check, Data}
use Rattle.std.proofs.lemmas.Option.{none-some, same_Some}
use Rattle.std.specs.declared.option.Option.{Option}
use Rattle.std.specs.declared.option.Option.TheVariants.{Some, None}
use Rattle.hamming.specs.declared.Word.{Word}
use Rattle.hamming.specs.Code.{check_number, syndrome, first_equal, word_with, by_column, by_syndrome, decode_word}
use Rattle.hamming.specs.Correction.{Coded, encoded, syndrome_of, decoded, flip, Protected, NoneOrProtected, flip_each, GoodColumns, NoneWithin, OneFlip, TwoFlips, FlipsParity, AnswerWithin, UncorrectableExactly, DataFits, CorrectionTheorem}
use Rattle.hamming.proofs.Linear.{check_xor, check_bit, check_fits}
use Rattle.hamming.proofs.Search.{Searched, at, none, searched}

-- ---- what a flipped bit adds to the syndrome

abbrev mark : List ℕ → Option WrongBit → ℕ
mark columns None = 0
mark columns (Some (Check j)) = 2 ^ j
mark columns (Some (Data i)) = get_or columns i 0

syndrome_flip : (columns : List ℕ) (p : Option WrongBit) (word : Coded) → syndrome_of columns (flip p word) ≡ bit_xor (syndrome_of columns word) (mark columns p)
unfolding syndrome
syndrome_flip columns None word = sym (xor_zero_r _)
syndrome_flip columns (Some (Check j)) word = xor_last word.check (2 ^ j) (check_number columns word.bits)
syndrome_flip columns (Some (Data i)) word =
    ap (bit_xor word.check) (check_xor columns word.bits (2 ^ i) ∙ ap (bit_xor (check_number columns word.bits)) (check_bit columns i))
    ∙ sym (xor_assoc word.check (check_number columns word.bits) (get_or columns i 0))

syndrome_encoded : (columns : List ℕ) (d : ℕ) → syndrome_of columns (encoded columns d) ≡ 0
unfolding syndrome
syndrome_encoded columns d = xor_self (check_number columns d)

syndrome_one : (columns : List ℕ) (d : ℕ) (p : Option WrongBit) → syndrome_of columns (flip p (encoded columns d)) ≡ mark columns p
syndrome_one columns d p = syndrome_flip columns p (encoded columns d) ∙ ap (λ (x : ℕ). bit_xor x (mark columns p)) (syndrome_encoded columns d)

syndrome_two : (columns : List ℕ) (d : ℕ) (p q : Option WrongBit)
    → syndrome_of columns (flip q (flip p (encoded columns d))) ≡ bit_xor (mark columns p) (mark columns q)
syndrome_two columns d p q = syndrome_flip columns q (flip p (encoded columns d)) ∙ ap (λ (x : ℕ). bit_xor x (mark columns q)) (syndrome_one columns d p)

-- ---- a bit flipped twice, and a word whose syndrome is a bit's mark

flip_flip : (p : Option WrongBit) (word : Coded) → flip p (flip p word) ≡ word
flip_flip None word = refl
flip_flip (Some (Check j)) word = ap (λ (x : ℕ). flip None (record { bits = word.bits; check = x })) (xor_back word.check (2 ^ j))
flip_flip (Some (Data i)) word = ap (λ (x : ℕ). flip None (record { bits = x; check = word.check })) (xor_back word.bits (2 ^ i))

is_encoded : (columns : List ℕ) (word : Coded) → syndrome_of columns word ≡ 0 → word ≡ encoded columns word.bits
unfolding syndrome
is_encoded columns word e =
    ap (λ (x : ℕ). flip None (record { bits = word.bits; check = x })) (xor_zero_eq word.check (check_number columns word.bits) e)

marked : (columns : List ℕ) (p : Option WrongBit) (word : Coded) → mark columns p ≡ syndrome_of columns word → word ≡ flip p (encoded columns (flip p word).bits)
marked columns p word e = sym (flip_flip p word) ∙ ap (flip p) (is_encoded columns (flip p word) zero_left)
  where
    zero_left : syndrome_of columns (flip p word) ≡ 0
    zero_left = syndrome_flip columns p word ∙ ap (bit_xor (syndrome_of columns word)) e ∙ xor_self (syndrome_of columns word)

-- ---- the decoder names a bit whose mark is the syndrome, or there is none

-- the bits that it can name
abbrev Named : ℕ → Option WrongBit → Type 0
Named n None = Unit {0}
Named n (Some (Check j)) = Unit {0}
Named n (Some (Data i)) = i < n

data Judged (columns : List ℕ) (word : Coded) : Option Word → Type 0 where
  names : (p : Option WrongBit) → Named (length columns) p → mark columns p ≡ syndrome_of columns word
      → Judged columns word (Some (word_with (flip p word).bits p))
  names_none : ((p : Option WrongBit) → Named (length columns) p → mark columns p ≡ syndrome_of columns word → ⊥) → Judged columns word None

judged : (columns : List ℕ) (word : Coded) → Judged columns word (decoded columns word)
unfolding by_syndrome decode_word
judged columns word =
    picked_by (Judged columns word) (eqb s 0) (λ e. names None tt (sym (eqb-true s 0 e)))
    (λ e. picked_by (Judged columns word) (eqb (ones s) 1) (λ o. names (Some (Check _)) tt (sym (one_bit_place s (eqb-true (ones s) 1 o))))
    (λ o. by_search (eqb-false s 0 e) (eqb-false (ones s) 1 o) (first_equal columns s) (searched columns s)))
  where
    s : ℕ
    s = syndrome_of columns word

    by_search : (s ≡ 0 → ⊥) → (ones s ≡ 1 → ⊥) → (f : Option ℕ) → Searched columns s 0 f → Judged columns word (by_column word.bits f)
    by_search e o f (at i h q) = rw zero-add (names (Some (Data i)) h q)
    by_search e o f (none h) = names_none no_mark
      where
        no_mark : (p : Option WrongBit) → Named (length columns) p → mark columns p ≡ s → ⊥
        no_mark None n q = e (sym q)
        no_mark (Some (Check j)) n q = o (sym (ap ones q) ∙ ones_pow j)
        no_mark (Some (Data i)) n q = h i n q

-- what an answer with data says
record Answer (columns : List ℕ) (word : Coded) (d : ℕ) (p : Option WrongBit) : Type 0 where
  bit_named : Named (length columns) p
  mark_is : mark columns p ≡ syndrome_of columns word
  data_is : d ≡ (flip p word).bits

answer : (columns : List ℕ) (word : Coded) (d : ℕ) (p : Option WrongBit) → decoded columns word ≡ Some (word_with d p) → Answer columns word d p
answer columns word d p = go (decoded columns word) (judged columns word)
  where
    go : (r : Option Word) → Judged columns word r → r ≡ Some (word_with d p) → Answer columns word d p
    go r (names q n e) told =
        let same_word = same_Some _ _ told in
        let same : q ≡ p = ap (λ (x : Word). x.wrong) same_word in
        record {
          bit_named = subst (Named (length columns)) same n;
          mark_is = rw same at e;
          data_is = (let b : (flip q word).bits ≡ d = ap (λ (x : Word). x.«data») same_word in rw same at (sym b));
        }
    go r (names_none nowhere) told = absurd (none-some _ told)

-- ---- the theorem

module _ (w : ℕ) (columns : List ℕ) (g : GoodColumns w columns) where
  -- a bit's mark has an odd number of ones, and no two bits have the same
  mark_odd : (p : Option WrongBit) → Protected (length columns) w p → ones (mark columns p) % 2 ≡ 1
  mark_odd None h = absurd h
  mark_odd (Some (Check j)) h = ap (λ (x : ℕ). x % 2) (ones_pow j)
  mark_odd (Some (Data i)) h = g.odd i h

  mark_inj : (p q : Option WrongBit) → Named (length columns) p → Named (length columns) q → mark columns p ≡ mark columns q → p ≡ q
  mark_inj None None h k e = refl
  mark_inj None (Some (Check j)) h k e = absurd (omega (arith, pow_pos j))
  mark_inj None (Some (Data i)) h k e = absurd (omega (arith, g.at_least_three i k, ap ones e, ones_zero))
  mark_inj (Some (Check j)) None h k e = absurd (omega (arith, pow_pos j))
  mark_inj (Some (Check j)) (Some (Check l)) h k e = ap (λ (x : ℕ). Some (Check x)) (pow_inj j l e)
  mark_inj (Some (Check j)) (Some (Data i)) h k e = absurd (omega (arith, g.at_least_three i k, ap ones e, ones_pow j))
  mark_inj (Some (Data i)) None h k e = absurd (omega (arith, g.at_least_three i h, ap ones e, ones_zero))
  mark_inj (Some (Data i)) (Some (Check j)) h k e = absurd (omega (arith, g.at_least_three i h, ap ones e, ones_pow j))
  mark_inj (Some (Data i)) (Some (Data l)) h k e = ap (λ (x : ℕ). Some (Data x)) (g.distinct i l h k e)

  at_most : (p : Option WrongBit) → Protected (length columns) w p → NoneOrProtected (length columns) w p
  at_most None h = tt
  at_most (Some (Check j)) h = h
  at_most (Some (Data i)) h = h

  named : (p : Option WrongBit) → NoneOrProtected (length columns) w p → Named (length columns) p
  named None h = tt
  named (Some (Check j)) h = tt
  named (Some (Data i)) h = h

  -- at most one bit flipped: the data come back, and the bit is named
  at_most_one : (d : ℕ) (p : Option WrongBit) → Named (length columns) p → decoded columns (flip p (encoded columns d)) ≡ Some (word_with d p)
  at_most_one d p h = go (decoded columns word) (judged columns word)
    where
      word : Coded
      word = flip p (encoded columns d)

      go : (r : Option Word) → Judged columns word r → r ≡ Some (word_with d p)
      go r (names q k e) =
          let same : q ≡ p = mark_inj q p k h (e ∙ syndrome_one columns d p) in
          ap (λ (x : Option WrongBit). Some (word_with (flip x word).bits x)) same
          ∙ ap (λ (v : Coded). Some (word_with v.bits p)) (flip_flip p (encoded columns d))
      go r (names_none nowhere) = absurd (nowhere p h (sym (syndrome_one columns d p)))

  one_flip : OneFlip w columns
  one_flip d None h = absurd h
  one_flip d (Some (Check j)) h = at_most_one d (Some (Check j)) tt
  one_flip d (Some (Data i)) h = at_most_one d (Some (Data i)) h

  -- two marks add up to an even number of ones, and not to 0
  two_flips : TwoFlips w columns
  two_flips d p q h k ne = go (decoded columns word) (judged columns word)
    where
      word : Coded
      word = flip q (flip p (encoded columns d))

      even : ones (bit_xor (mark columns p) (mark columns q)) % 2 ≡ 0
      even = omega (arith, ones_xor (mark columns p) (mark columns q), mark_odd p h, mark_odd q k)

      no_mark : (r : Option WrongBit) → Named (length columns) r → mark columns r ≡ bit_xor (mark columns p) (mark columns q) → ⊥
      no_mark None n e =
          ne (mark_inj p q (named p (at_most p h)) (named q (at_most q k)) (xor_zero_eq (mark columns p) (mark columns q) (sym e)))
      no_mark (Some (Check j)) n e = omega (arith, even, ap ones e, ones_pow j)
      no_mark (Some (Data i)) n e = omega (arith, even, ap ones e, g.odd i n)

      go : (r : Option Word) → Judged columns word r → r ≡ None
      go r (names x n e) = absurd (no_mark x n (e ∙ syndrome_two columns d p q))
      go r (names_none nowhere) = refl

  -- each flip adds a mark with an odd number of ones
  flips_parity : FlipsParity w columns
  flips_parity d [] h = ap (λ (s : ℕ). ones s % 2) (syndrome_encoded columns d) ∙ ap (λ (n : ℕ). n % 2) ones_zero
  flips_parity d (p ∷ ps) h =
      let before = flip_each ps (encoded columns d) in
      let flipped = ap (λ (s : ℕ). ones s % 2) (syndrome_flip columns p before) in
      omega (arith, flipped, ones_xor (syndrome_of columns before) (mark columns p), mark_odd p h.0, flips_parity d ps h.1)

  -- a named bit of a word whose check number fits
  fits : (word : Coded) → word.check < 2 ^ w → (p : Option WrongBit) → Named (length columns) p → mark columns p ≡ syndrome_of columns word
      → NoneOrProtected (length columns) w p
  unfolding syndrome
  fits word h None n e = tt
  fits word h (Some (Check j)) n e =
      pow_below j w (rw e (xor_lt w word.check (check_number columns word.bits) h (check_fits w columns g.fit word.bits)))
  fits word h (Some (Data i)) n e = n

  answer_within : AnswerWithin w columns
  answer_within word h d p told =
      let a = answer columns word d p told in
      record { word_is = rw a.data_is (marked columns p word a.mark_is); bit = fits word h p a.bit_named a.mark_is }

  uncorrectable_exactly : UncorrectableExactly w columns
  uncorrectable_exactly word h = (far, λ nowhere. uncorrected nowhere (decoded columns word) (judged columns word))
    where
      far : decoded columns word ≡ None → NoneWithin w columns word
      far told d p v =
          let answered : None ≡ Some (word_with d p) = sym told ∙ ap (decoded columns) v.word_is ∙ at_most_one d p (named p v.bit) in
          none-some _ answered

      uncorrected : NoneWithin w columns word → (r : Option Word) → Judged columns word r → r ≡ None
      uncorrected nowhere r (names p n e) =
          absurd (nowhere (flip p word).bits p (record { word_is = marked columns p word e; bit = fits word h p n e }))
      uncorrected nowhere r (names_none x) = refl

data_fits : (columns : List ℕ) → DataFits columns
data_fits columns word h d p told = let a = answer columns word d p told in rw a.data_is (below p a.bit_named)
  where
    below : (q : Option WrongBit) → Named (length columns) q → (flip q word).bits < 2 ^ length columns
    below None n = h
    below (Some (Check j)) n = h
    below (Some (Data i)) n = xor_lt (length columns) word.bits (2 ^ i) h (pow-lt n)

pub correction : CorrectionTheorem
correction w columns g = record {
  clean = λ d. at_most_one w columns g d None tt;
  one_flip = one_flip w columns g;
  two_flips = two_flips w columns g;
  flips_parity = flips_parity w columns g;
  answer_within = answer_within w columns g;
  uncorrectable_exactly = uncorrectable_exactly w columns g;
  check_fits = check_fits w columns g.fit;
  data_fits = data_fits columns;
}

-- What decoding answers to a frame that was encoded, and conversely, from the facts of the code. Assumes nothing.
use mathlib.Core.Path.{◌≡◌, refl, sym, ap, ap₂, ◌∙◌, subst, subst⁻¹}
use mathlib.Core.Bool.{Bool, true, false, cond}
use mathlib.Core.Logic.{◌≢◌, inl, inr, ⊎_elim}
use mathlib.Core.List.{List, [], ◌∷◌}
use Prim.Native.Nat.{ℕ, ◌%◌, ◌^◌, ◌≤◌, ◌<◌}
use native.Mathlib.Omega.{arith}
use borrow.Author.Tests.{eqb-true, eqb-false, ne_eqb, ltb-true, ltb-false}
use lib.Dec.{eqb, ltb}
use lib.Count.{ones}
use lib.ListN.{length}
use Rattle.laws.proofs.Rules.{tests, picks, picked_by, by_test}
use Rattle.hamming.specs.declared.WrongBit.{WrongBit}
use Rattle.hamming.specs.declared.WrongBit.TheVariants.{Check, Data}
use Rattle.std.specs.declared.option.Option.{Option}
use Rattle.std.specs.declared.option.Option.TheVariants.{Some, None}
use Rattle.hamming.specs.declared.Word.{Word}
use Rattle.hamming.specs.Code.{word_with}
use Rattle.hamming.specs.Correction.{Coded, encoded, syndrome_of, decoded, flip, Protected, NoneOrProtected, flip_each, EachProtected, flag_of, Within, Corrects}
use Rattle.hamming.proofs.Correction.{correction}
use Rattle.hamming.proofs.Place.{place_laws}
use Rattle.hamming.proofs.Uses.{short_columns_good, long_columns_good}
use Rattle.frame.specs.declared.Kind.{Kind}
use Rattle.frame.specs.declared.Kind.TheVariants.{Short, Long}
use Rattle.frame.specs.declared.Fields.{Fields}
use Rattle.frame.specs.declared.Encoded.{Encoded}
use Rattle.frame.specs.declared.Judged.{Judged}
use Rattle.frame.specs.declared.Judged.TheVariants.{StopZero, EvenSyndrome, OddSyndrome, FixedZero, Good}
use Rattle.frame.specs.declared.Answer.{Answer}
use Rattle.frame.specs.Numbers.{data_bits, check_bits, frame_number, stop_bit, received, is_frame}
use Rattle.frame.specs.Encode.{word_of, fields_of, encode_word, refused13, encode_long}
use Rattle.frame.specs.Place.{place_in, flip_at}
use Rattle.frame.specs.Decode.{fixed_zero, judged_word, judged_received, judged, bare_answer, answer_to, decode_frame}
use Rattle.frame.specs.Frames
use Rattle.frame.proofs.Numbers.{Fits, stop_of, received_of, is_frame_of, received_fits, made_of_received, flipped, flipped_fits, stop_flipped, lead_flipped}
use Rattle.frame.proofs.Place.{flips_at_place, flipped_back}
use Rattle.frame.proofs.Words.{not_zero, fields_back, word_fits, fixed_one, word_back, fields_in_range}

encodes : (columns : List ℕ) (kind : Kind) → Frames.EncodesInRange columns kind
unfolding encode_long
encodes columns Short fields r = refl
encodes columns Long fields r =
    let address : fields.address ≤ 16383 = omega arith in
    let e : fields.e ≤ 1 = omega arith in
    sym (search picks)

-- the second test refuses, whatever the first says
second : (a b : Bool) (sent : Encoded) → b ≡ true → cond a refused13 (cond b refused13 sent) ≡ refused13
second true b sent e = refl
second false b sent e = rw e

refuses : (columns : List ℕ) (kind : Kind) → Frames.RefusesOutOfRange columns kind
unfolding encode_long
refuses columns Short fields o = absurd o
refuses columns Long fields (inl over) = sym (search picks)
refuses columns Long fields (inr over) = search (second, tests)

-- ---- a frame number as it was put together

judged_sent : (columns : List ℕ) (kind : Kind) (sent : Coded) → Fits kind sent
    → judged columns kind (frame_number kind sent 1) ≡ judged_received columns kind sent
unfolding judged
judged_sent columns kind sent f =
    rw (stop_of kind sent 1 (omega arith)) (ap (judged_received columns kind) (received_of kind sent 1 (omega arith) f))

decode_sent : (columns : List ℕ) (kind : Kind) (sent : Coded) → Fits kind sent
    → decode_frame columns kind (frame_number kind sent 1) ≡ answer_to kind (judged_received columns kind sent)
unfolding decode_frame
decode_sent columns kind sent f = rw (is_frame_of kind sent 1 (omega arith) f, judged_sent columns kind sent f)

-- a stop bit of 0, and any other
decode_stopped : (columns : List ℕ) (kind : Kind) (number : ℕ) → is_frame kind number ≡ true → stop_bit number ≡ 0
    → decode_frame columns kind number ≡ answer_to kind StopZero
unfolding decode_frame judged
decode_stopped columns kind number i e = rw (i, e)

decode_received : (columns : List ℕ) (kind : Kind) (number : ℕ) → is_frame kind number ≡ true → (stop_bit number ≡ 0 → ⊥)
    → decode_frame columns kind number ≡ answer_to kind (judged_received columns kind (received kind number))
unfolding decode_frame judged
decode_received columns kind number i e = rw (i, ne_eqb (stop_bit number) 0 e)

-- the answer to a decoded word, and the syndrome that it was decoded by
abbrev answer_by : Kind → ℕ → Option Word → Answer
answer_by kind s d = answer_to kind (judged_word kind s d)

-- where a word is answered, the syndrome makes no difference
abbrev answer_word : Kind → ℕ → Option WrongBit → Answer
answer_word kind word p = answer_by kind 0 (Some (word_with word p))

-- a word of fields in range
answer_good : (kind : Kind) (fields : Fields) (p : Option WrongBit) → Frames.InRange kind fields
    → answer_word kind (word_of kind fields) p ≡ Frames.fields_answer kind (cond (flag_of p) 1 0) (place_in kind p) fields
answer_good kind fields p r = rw (fixed_one kind fields r, fields_back kind fields r)

-- one whose fixed bit is 0
answer_fixed : (kind : Kind) (word : ℕ) (p : Option WrongBit) → fixed_zero kind word ≡ true → answer_word kind word p ≡ bare_answer 0 9 word
answer_fixed kind word p z = rw z

-- and one that can't be corrected, by the number of ones in the syndrome
answer_even : (kind : Kind) (s : ℕ) (d : Option Word) → d ≡ None → ones s % 2 ≡ 0 → answer_by kind s d ≡ bare_answer 0 8 0
answer_even kind s d e even = rw (e, even)

answer_odd : (kind : Kind) (s : ℕ) (d : Option Word) → d ≡ None → ones s % 2 ≡ 1 → answer_by kind s d ≡ bare_answer 0 11 0
answer_odd kind s d e odd = rw (e, odd)

decode_refused : (columns : List ℕ) (kind : Kind) (number : ℕ) → is_frame kind number ≡ false → decode_frame columns kind number ≡ bare_answer 12 0 0
unfolding decode_frame
decode_refused columns kind number e = rw e

flag_raised : (n w : ℕ) (p : Option WrongBit) → Protected n w p → flag_of p ≡ true
flag_raised n w None b = absurd b
flag_raised n w (Some (Check j)) b = refl
flag_raised n w (Some (Data i)) b = refl

fixed_is_zero : (kind : Kind) (word : ℕ) → Frames.FixedIsZero kind word → fixed_zero kind word ≡ true
fixed_is_zero Short word z = absurd z
fixed_is_zero Long word z = search tests

none_or : (n w : ℕ) (p : Option WrongBit) → Protected n w p → NoneOrProtected n w p
none_or n w None b = absurd b
none_or n w (Some (Check j)) b = b
none_or n w (Some (Data i)) b = b

-- ---- conversely: what led to an answer

-- the fields are answered only to a good frame
record Answered (columns : List ℕ) (kind : Kind) (number flag place word : ℕ) (fields : Fields) : Type 0 where
  pub is_a_frame : is_frame kind number ≡ true
  pub wrong : Option WrongBit
  pub judged_good : judged columns kind number ≡ Good word wrong
  pub flag_of_lem : flag ≡ cond (flag_of wrong) 1 0
  pub place_of : place ≡ place_in kind wrong
  pub fields_of_lem : fields ≡ fields_of kind word

abbrev good_answer : ℕ → ℕ → ℕ → Fields → Answer
good_answer flag place word fields = record { refusal = 0; verdict = 0; corrected = flag; place = place; word = word; fields = fields }

answered : (columns : List ℕ) (kind : Kind) (number flag place word : ℕ) (fields : Fields) → decode_frame columns kind number ≡ good_answer flag place word fields
    → Answered columns kind number flag place word fields
unfolding decode_frame
answered columns kind number flag place word fields = by_frame (is_frame kind number) refl
  where
    by_judged : is_frame kind number ≡ true → (j : Judged) → judged columns kind number ≡ j → answer_to kind j ≡ good_answer flag place word fields
        → Answered columns kind number flag place word fields
    by_judged i StopZero e a = let z : ◌≡◌ {A = ℕ} 7 0 = ap (λ (x : Answer). x.verdict) a in absurd (omega arith)
    by_judged i EvenSyndrome e a = let z : ◌≡◌ {A = ℕ} 8 0 = ap (λ (x : Answer). x.verdict) a in absurd (omega arith)
    by_judged i OddSyndrome e a = let z : ◌≡◌ {A = ℕ} 11 0 = ap (λ (x : Answer). x.verdict) a in absurd (omega arith)
    by_judged i (FixedZero w) e a = let z : ◌≡◌ {A = ℕ} 9 0 = ap (λ (x : Answer). x.verdict) a in absurd (omega arith)
    by_judged i (Good w wrong) e a =
        let same : w ≡ word = ap (λ (x : Answer). x.word) a in
        record {
          is_a_frame = i;
          wrong = wrong;
          judged_good = e ∙ ap (λ (x : ℕ). Good x wrong) same;
          flag_of_lem = sym (ap (λ (x : Answer). x.corrected) a);
          place_of = sym (ap (λ (x : Answer). x.place) a);
          fields_of_lem = sym (ap (λ (x : Answer). x.fields) a) ∙ ap (fields_of kind) same;
        }

    by_frame : (b : Bool) → is_frame kind number ≡ b → cond b (answer_to kind (judged columns kind number)) (bare_answer 12 0 0) ≡ good_answer flag place word fields
        → Answered columns kind number flag place word fields
    by_frame true i a = by_judged i (judged columns kind number) refl a
    by_frame false i a = let z : ◌≡◌ {A = ℕ} 12 0 = ap (λ (x : Answer). x.refusal) a in absurd (omega arith)

-- a frame is good only if its stop bit is 1, its word is decoded, and the fixed bit is not 0
record GoodFrame (columns : List ℕ) (kind : Kind) (number word : ℕ) (wrong : Option WrongBit) : Type 0 where
  pub stop_one : stop_bit number ≡ 1
  pub word_decoded : decoded columns (received kind number) ≡ Some (word_with word wrong)
  pub fixed_not_zero : fixed_zero kind word ≡ false

good_frame : (columns : List ℕ) (kind : Kind) (number word : ℕ) (wrong : Option WrongBit) → judged columns kind number ≡ Good word wrong
    → GoodFrame columns kind number word wrong
unfolding judged
good_frame columns kind number word wrong = by_stop (eqb (stop_bit number) 0) refl
  where
    by_fixed : stop_bit number ≡ 1 → (w : ℕ) (p : Option WrongBit) → decoded columns (received kind number) ≡ Some (word_with w p)
        → (b : Bool) → fixed_zero kind w ≡ b → cond b (FixedZero w) (Good w p) ≡ Good word wrong → GoodFrame columns kind number word wrong
    by_fixed s w p e true z g = absurd (let no_way : ◌≡◌ {A = ℕ} 0 1 = cc in omega arith)
    by_fixed s w p e false z g =
        let same : w ≡ word = cc in
        let same_bit : p ≡ wrong = cc in
        let decoded_same = ap₂ (λ (x : ℕ) (y : Option WrongBit). Some (word_with x y)) same same_bit in
        record { stop_one = s; word_decoded = e ∙ decoded_same; fixed_not_zero = rw same at z }

    never_good : (even : Bool) → cond even EvenSyndrome OddSyndrome ≡ Good word wrong → ⊥
    never_good true g = let no_way : ◌≡◌ {A = ℕ} 0 1 = cc in omega arith
    never_good false g = let no_way : ◌≡◌ {A = ℕ} 0 1 = cc in omega arith

    by_decoded : stop_bit number ≡ 1 → (d : Option Word) → decoded columns (received kind number) ≡ d
        → judged_word kind (syndrome_of columns (received kind number)) d ≡ Good word wrong → GoodFrame columns kind number word wrong
    by_decoded s (Some w) e g = by_fixed s w.«data» w.wrong e (fixed_zero kind w.«data») refl g
    by_decoded s None e g = absurd (never_good (eqb (ones (syndrome_of columns (received kind number)) % 2) 0) g)

    by_stop : (t : Bool) → eqb (stop_bit number) 0 ≡ t → cond t StopZero (judged_received columns kind (received kind number)) ≡ Good word wrong
        → GoodFrame columns kind number word wrong
    by_stop true s g = absurd (let no_way : ◌≡◌ {A = ℕ} 0 1 = cc in omega arith)
    by_stop false s g = by_decoded (not_zero number (eqb-false (stop_bit number) 0 s)) (decoded columns (received kind number)) refl g

-- the verdict on a decoded word is 0 or 9
not_good : (kind : Kind) (word : ℕ) (p : Option WrongBit) (verdict : ℕ) → (0 ≡ verdict → ⊥) → (9 ≡ verdict → ⊥)
    → (answer_word kind word p).verdict ≡ verdict → ⊥
not_good kind word p verdict h k = by_fixed (fixed_zero kind word)
  where
    by_fixed : (t : Bool) → (answer_to kind (cond t (FixedZero word) (Good word p))).verdict ≡ verdict → ⊥
    by_fixed true e = k e
    by_fixed false e = h e

-- 8 is answered only with an even number of ones in the syndrome, and 11 only with an odd one
by_low : {P : Type 0} (n : ℕ) → (n % 2 ≡ 0 → P) → (n % 2 ≡ 1 → P) → P
by_low n even odd = by_test (eqb (n % 2) 0) (λ t. even (eqb-true (n % 2) 0 t)) (λ t. odd (not_zero n (eqb-false (n % 2) 0 t)))

eleven_not_8 : ◌≡◌ {A = ℕ} 11 8 → ⊥
eleven_not_8 e = omega arith

only_even : (kind : Kind) (s : ℕ) (d : Option Word) → (answer_by kind s d).verdict ≡ 8 → ones s % 2 ≡ 0
only_even kind s (Some w) e = absurd (not_good kind w.«data» w.wrong 8 (λ z. omega arith) (λ z. omega arith) e)
only_even kind s None e = by_low (ones s) (λ even. even) (λ odd. absurd (eleven_not_8 (rw odd at e)))

only_odd : (kind : Kind) (s : ℕ) (d : Option Word) → (answer_by kind s d).verdict ≡ 11 → ones s % 2 ≡ 1
only_odd kind s (Some w) e = absurd (not_good kind w.«data» w.wrong 11 (λ z. omega arith) (λ z. omega arith) e)
only_odd kind s None e = by_low (ones s) (λ even. absurd (eleven_not_8 (sym (rw even at e)))) (λ odd. odd)

-- so the verdict tells an odd number of flips from an even one, if the syndrome's ones do
flips_show : (kind : Kind) (s : ℕ) (d : Option Word) (count verdict : ℕ) → ones s % 2 ≡ count % 2 → verdict ≡ (answer_by kind s d).verdict
    → (count ≤ 1 → (verdict ≢ 8) × (verdict ≢ 11)) → Frames.FlipsShow count verdict
flips_show kind s d count verdict parity shown few = record {
  odd_not_8 = λ odd e. omega (arith, odd, parity, only_even kind s d (sym shown ∙ e));
  even_not_11 = even_not_11;
  two_or_more = λ e. more (λ l. (few l).0 e);
  three_or_more = λ e. let two : 2 ≤ count = more (λ l. (few l).1 e) in omega (arith, not_zero count (λ even. even_not_11 even e));
}
  where
    even_not_11 : count % 2 ≡ 0 → verdict ≢ 11
    even_not_11 even e = omega (arith, even, parity, only_odd kind s d (sym shown ∙ e))

    more : (count ≤ 1 → ⊥) → 2 ≤ count
    more no_more = by_test (ltb 1 count) (λ t. ltb-true 1 count t) (λ t. absurd (no_more (ltb-false 1 count t)))

-- what holds of the answer to a frame, and of a refusal, holds of every answer
decoded_as : (columns : List ℕ) (kind : Kind) (number : ℕ) (P : Answer → Type 0) → (is_frame kind number ≡ true → P (answer_to kind (judged columns kind number)))
    → P (bare_answer 12 0 0) → P (decode_frame columns kind number)
unfolding decode_frame
decoded_as columns kind number P frame refused = picked_by P (is_frame kind number) frame (λ e. refused)

-- 7, 8 and 11 are answered alone
verdict_alone : (columns : List ℕ) (kind : Kind) → Frames.VerdictAlone columns kind
verdict_alone columns kind number verdict v =
    decoded_as columns kind number (λ (answer : Answer). answer.verdict ≡ verdict → answer ≡ bare_answer 0 verdict 0) (λ i. by_judged (judged columns kind number))
    (λ e. absurd (never_0 e))
  where
    never_0 : 0 ≡ verdict → ⊥
    never_0 e = ⊎_elim (λ z. omega arith) (⊎_elim (λ z. omega arith) (λ z. omega arith)) v

    never_9 : 9 ≡ verdict → ⊥
    never_9 e = ⊎_elim (λ z. omega arith) (⊎_elim (λ z. omega arith) (λ z. omega arith)) v

    by_judged : (j : Judged) → (answer_to kind j).verdict ≡ verdict → answer_to kind j ≡ bare_answer 0 verdict 0
    by_judged StopZero e = ap (λ (n : ℕ). bare_answer 0 n 0) e
    by_judged EvenSyndrome e = ap (λ (n : ℕ). bare_answer 0 n 0) e
    by_judged OddSyndrome e = ap (λ (n : ℕ). bare_answer 0 n 0) e
    by_judged (FixedZero word) e = absurd (never_9 e)
    by_judged (Good word wrong) e = absurd (never_0 e)

-- an answer without flag has no place
no_place : (kind : Kind) (refusal verdict word : ℕ) → Frames.PlaceByFlag kind (bare_answer refusal verdict word)
no_place kind refusal verdict word = record { zero_exactly = (λ z. refl, λ z. refl); last = omega arith }

zero_flag : (flag : Bool) → ◌≡◌ {A = ℕ} (cond flag 1 0) 0 → flag ≡ false
zero_flag true e = absurd (omega arith)
zero_flag false e = refl

-- the number is an encoding with at most that bit flipped
record Near (columns : List ℕ) (kind : Kind) (number word : ℕ) (wrong : Option WrongBit) : Type 0 where
  pub word_below : word < 2 ^ data_bits kind
  pub protected : NoneOrProtected (data_bits kind) (check_bits kind) wrong
  pub number_of : number ≡ Frames.flip_protected kind wrong (encode_word columns kind word)

-- ---- the theorem

pub frame_theorem : Frames.FrameTheorem
frame_theorem columns kind len good = record {
  encodes_in_range = encodes columns kind;
  refuses_out_of_range = refuses columns kind;
  round_trip =
      λ fields r.
      ap (λ (x : Encoded). decode_frame columns kind x.number) (encodes columns kind fields r)
      ∙ decode_within (word_of kind fields) None (word_fits kind fields r) tt ∙ answer_good kind fields None r;
  one_flip =
      λ fields p r b.
      decode_within (word_of kind fields) p (word_fits kind fields r) (none_or _ _ p b)
      ∙ answer_good kind fields p r ∙ ap (λ (t : Bool). Frames.fields_answer kind (cond t 1 0) (place_in kind p) fields) (flag_raised _ _ p b);
  two_flips =
      λ word p q h b d ne.
      decode_flips word (q ∷ p ∷ []) h (d, (b, tt))
      ∙ answer_even kind _ _ (corrects.two_flips word p q (in_columns p b) (in_columns q d) ne) (parity word (q ∷ p ∷ []) (d, (b, tt)));
  any_flips = any_flips;
  flips_at_place = flips_at_place kind;
  place_answered = place_answered;
  stop_flip =
      λ fields r.
      ap (decode_frame columns kind) (stop_flipped kind (sent fields))
      ∙ decode_stopped columns kind (frame_number kind (sent fields) 0) (is_frame_of kind (sent fields) 0 (omega arith) (fits fields r))
      (stop_of kind (sent fields) 0 (omega arith));
  lead_flip = λ fields j r. decode_refused columns kind _ (lead_flipped kind (sent fields) 1 j (omega arith) (fits fields r));
  refuses_others = decode_refused columns kind;
  stop_exactly = stop_exactly;
  verdict_alone = verdict_alone columns kind;
  fixed_bit_zero = λ word p h z b. decode_within word p h b ∙ answer_fixed kind word p (fixed_is_zero kind word z);
  uncorrectable_exactly = exactly;
  decoded_only_if = only_if;
}
  where
    corrects : Corrects (check_bits kind) columns
    corrects = correction (check_bits kind) columns good

    sent : Fields → Coded
    sent fields = encoded columns (word_of kind fields)

    fits_word : (word : ℕ) → word < 2 ^ data_bits kind → Fits kind (encoded columns word)
    fits_word word h = record { bits_fit = h; check_fits = corrects.check_fits word }

    fits : (fields : Fields) → Frames.InRange kind fields → Fits kind (sent fields)
    fits fields r = fits_word (word_of kind fields) (word_fits kind fields r)

    decoded_within : (word : ℕ) (p : Option WrongBit) → NoneOrProtected (data_bits kind) (check_bits kind) p
        → decoded columns (flip p (encoded columns word)) ≡ Some (word_with word p)
    decoded_within word None b = corrects.clean word
    decoded_within word (Some (Check j)) b = corrects.one_flip word (Some (Check j)) b
    decoded_within word (Some (Data i)) b = corrects.one_flip word (Some (Data i)) (subst⁻¹ (λ (n : ℕ). i < n) len b)

    -- an encoded word with no bit or one protected bit flipped is decoded as that word
    decode_within : (word : ℕ) (p : Option WrongBit) → word < 2 ^ data_bits kind → NoneOrProtected (data_bits kind) (check_bits kind) p
        → decode_frame columns kind (Frames.flip_protected kind p (encode_word columns kind word)) ≡ answer_word kind word p
    decode_within word p h b =
        ap (decode_frame columns kind) (flipped kind (encoded columns word) 1 p (omega arith) (fits_word word h) b)
        ∙ decode_sent columns kind (flip p (encoded columns word)) (flipped_fits kind (encoded columns word) p (fits_word word h) b)
        ∙ ap (answer_by kind (syndrome_of columns (flip p (encoded columns word)))) (decoded_within word p b)

    in_columns : (p : Option WrongBit) → Frames.ProtectedIn kind p → Protected (length columns) (check_bits kind) p
    in_columns p b = subst⁻¹ (λ (n : ℕ). Protected n (check_bits kind) p) len b

    -- any number of protected bits flipped
    each_in_columns : (flips : List (Option WrongBit)) → Frames.EachProtectedIn kind flips → EachProtected (length columns) (check_bits kind) flips
    each_in_columns flips b = subst⁻¹ (λ (n : ℕ). EachProtected n (check_bits kind) flips) len b

    parity : (word : ℕ) (flips : List (Option WrongBit)) → Frames.EachProtectedIn kind flips
        → ones (syndrome_of columns (flip_each flips (encoded columns word))) % 2 ≡ length flips % 2
    parity word flips b = corrects.flips_parity word flips (each_in_columns flips b)

    fits_flips : (word : ℕ) (flips : List (Option WrongBit)) → word < 2 ^ data_bits kind → Frames.EachProtectedIn kind flips
        → Fits kind (flip_each flips (encoded columns word))
    fits_flips word [] h b = fits_word word h
    fits_flips word (p ∷ ps) h b = flipped_fits kind (flip_each ps (encoded columns word)) p (fits_flips word ps h b.1) (none_or _ _ p b.0)

    number_flips : (word : ℕ) (flips : List (Option WrongBit)) → word < 2 ^ data_bits kind → Frames.EachProtectedIn kind flips
        → Frames.flip_each_protected kind flips (encode_word columns kind word) ≡ frame_number kind (flip_each flips (encoded columns word)) 1
    number_flips word [] h b = refl
    number_flips word (p ∷ ps) h b =
        ap (Frames.flip_protected kind p) (number_flips word ps h b.1)
        ∙ flipped kind (flip_each ps (encoded columns word)) 1 p (omega arith) (fits_flips word ps h b.1) (none_or _ _ p b.0)

    decode_flips : (word : ℕ) (flips : List (Option WrongBit)) → word < 2 ^ data_bits kind → Frames.EachProtectedIn kind flips
        → decode_frame columns kind (Frames.flip_each_protected kind flips (encode_word columns kind word))
        ≡ answer_to kind (judged_received columns kind (flip_each flips (encoded columns word)))
    decode_flips word flips h b =
        ap (decode_frame columns kind) (number_flips word flips h b)
        ∙ decode_sent columns kind (flip_each flips (encoded columns word)) (fits_flips word flips h b)

    -- no flip, and one, give neither 8 nor 11
    few_flips : (word : ℕ) (flips : List (Option WrongBit)) (verdict : ℕ) → (0 ≡ verdict → ⊥) → (9 ≡ verdict → ⊥) → word < 2 ^ data_bits kind
        → Frames.EachProtectedIn kind flips → length flips ≤ 1
        → (decode_frame columns kind (Frames.flip_each_protected kind flips (encode_word columns kind word))).verdict ≡ verdict → ⊥
    few_flips word [] verdict m n h b l e =
        not_good kind word None verdict m n (sym (ap (λ (x : Answer). x.verdict) (decode_within word None h tt)) ∙ e)
    few_flips word (p ∷ []) verdict m n h b l e =
        not_good kind word p verdict m n (sym (ap (λ (x : Answer). x.verdict) (decode_within word p h (none_or _ _ p b.0))) ∙ e)
    few_flips word (p ∷ q ∷ ps) verdict m n h b l e = omega arith

    any_flips : Frames.AnyFlips columns kind
    any_flips word flips h b =
        let word_flipped = flip_each flips (encoded columns word) in
        let fit = fits_flips word flips h b in
        let number_is = number_flips word flips h b in
        record {
          is_a_frame = ap (is_frame kind) number_is ∙ is_frame_of kind word_flipped 1 (omega arith) fit;
          stop_1 = ap stop_bit number_is ∙ stop_of kind word_flipped 1 (omega arith);
          shows =
              flips_show kind (syndrome_of columns word_flipped) (decoded columns word_flipped) (length flips) _ (parity word flips b)
              (ap (λ (x : Answer). x.verdict) (decode_flips word flips h b))
              (λ l. (few_flips word flips _ (λ z. omega arith) (λ z. omega arith) h b l, few_flips word flips _ (λ z. omega arith) (λ z. omega arith) h b l));
        }

    -- a decoded word is that of an encoding, with the named bit flipped
    near : (number word : ℕ) (wrong : Option WrongBit) → is_frame kind number ≡ true → stop_bit number ≡ 1
        → decoded columns (received kind number) ≡ Some (word_with word wrong) → Near columns kind number word wrong
    near number word wrong i s e = record {
      word_below = below;
      protected = bit;
      number_of =
          sym (made_of_received kind number i) ∙ ap₂ (frame_number kind) within.word_is s
          ∙ sym (flipped kind (encoded columns word) 1 wrong (omega arith) (fits_word word below) bit);
    }
      where
        within : Within (check_bits kind) columns (received kind number) word wrong
        within = corrects.answer_within (received kind number) (received_fits kind number).check_fits word wrong e

        below : word < 2 ^ data_bits kind
        below =
            subst (λ (n : ℕ). word < 2 ^ n) len
            (corrects.data_fits (received kind number) (subst⁻¹ (λ (n : ℕ). (received kind number).bits < 2 ^ n) len (received_fits kind number).bits_fit)
            word wrong e)

        bit : NoneOrProtected (data_bits kind) (check_bits kind) wrong
        bit = subst (λ (n : ℕ). NoneOrProtected n (check_bits kind) wrong) len within.bit

    only_if : Frames.DecodedOnlyIf columns kind
    only_if number flag place word fields e = (a.wrong, encoding)
      where
        a : Answered columns kind number flag place word fields
        a = answered columns kind number flag place word fields e

        g : GoodFrame columns kind number word a.wrong
        g = good_frame columns kind number word a.wrong a.judged_good

        n : Near columns kind number word a.wrong
        n = near number word a.wrong a.is_a_frame g.stop_one g.word_decoded

        word_of_lem : word ≡ word_of kind fields
        word_of_lem = sym (ap (word_of kind) a.fields_of_lem ∙ word_back kind word n.word_below g.fixed_not_zero)

        number_of : number ≡ Frames.flip_protected kind a.wrong (encode_word columns kind (word_of kind fields))
        number_of = n.number_of ∙ ap (λ (x : ℕ). Frames.flip_protected kind a.wrong (encode_word columns kind x)) word_of_lem

        encoding : Frames.EncodingOf columns kind number flag place word fields a.wrong
        encoding = record {
          stop = g.stop_one;
          number_is = number_of;
          bit = n.protected;
          named = a.judged_good;
          flag_is = a.flag_of_lem;
          place_is = a.place_of;
          clean_is =
              ap₂ (flip_at kind) a.place_of number_of ∙ flipped_back kind (encode_word columns kind (word_of kind fields)) a.wrong n.protected;
          word_is = word_of_lem;
          in_range = subst⁻¹ (Frames.InRange kind) a.fields_of_lem (fields_in_range kind word n.word_below);
        }

    place_answered : Frames.PlaceAnswered columns kind
    place_answered number =
        decoded_as columns kind number (Frames.PlaceByFlag kind) (λ i. by_judged i (judged columns kind number) refl) (no_place kind 12 0 0)
      where
        by_judged : is_frame kind number ≡ true → (j : Judged) → judged columns kind number ≡ j → Frames.PlaceByFlag kind (answer_to kind j)
        by_judged i StopZero e = no_place kind 0 7 0
        by_judged i EvenSyndrome e = no_place kind 0 8 0
        by_judged i OddSyndrome e = no_place kind 0 11 0
        by_judged i (FixedZero word) e = no_place kind 0 9 word
        by_judged i (Good word wrong) e =
            let g = good_frame columns kind number word wrong e in
            let n = near number word wrong i g.stop_one g.word_decoded in
            let laws = place_laws (data_bits kind) (check_bits kind) in
            let exactly = laws.zero_exactly wrong n.protected in
            record {
              zero_exactly = (
                λ z. ap (λ (t : Bool). cond t 1 0) (exactly.0 z),
                λ z. exactly.1 (zero_flag (flag_of wrong) z),
              );
              last = laws.last wrong;
            }

    stop_exactly : Frames.StopExactly columns kind
    stop_exactly number i = (λ e. by_stop (eqb (stop_bit number) 0) refl e, λ e. decode_stopped columns kind number i e)
      where
        never_7 : (s : ℕ) (d : Option Word) → (answer_by kind s d).verdict ≡ 7 → ⊥
        never_7 s None e = by_ones (eqb (ones s % 2) 0) e
          where
            by_ones : (even : Bool) → (answer_to kind (cond even EvenSyndrome OddSyndrome)).verdict ≡ 7 → ⊥
            by_ones true e = let z : ◌≡◌ {A = ℕ} 8 7 = e in omega arith
            by_ones false e = let z : ◌≡◌ {A = ℕ} 11 7 = e in omega arith
        never_7 s (Some w) e = not_good kind w.«data» w.wrong 7 (λ z. omega arith) (λ z. omega arith) e

        by_stop : (t : Bool) → eqb (stop_bit number) 0 ≡ t → decode_frame columns kind number ≡ bare_answer 0 7 0 → stop_bit number ≡ 0
        by_stop true z e = eqb-true (stop_bit number) 0 z
        by_stop false z e =
            absurd
            (never_7 _ (decoded columns (received kind number))
            (ap (λ (x : Answer). x.verdict) (sym (decode_received columns kind number i (eqb-false (stop_bit number) 0 z)) ∙ e)))

    exactly : Frames.UncorrectableExactly columns kind
    exactly number i s = record {
      eight = (
        λ e. (none_near 8 (λ z. omega arith) (λ z. omega arith) e, only_even kind syndrome word_decoded (verdict_of e)),
        λ n. decodes ∙ answer_even kind syndrome word_decoded (no_word n.0 word_decoded refl) n.1,
      );
      eleven = (
        λ e. (none_near 11 (λ z. omega arith) (λ z. omega arith) e, only_odd kind syndrome word_decoded (verdict_of e)),
        λ n. decodes ∙ answer_odd kind syndrome word_decoded (no_word n.0 word_decoded refl) n.1,
      );
    }
      where
        syndrome : ℕ
        syndrome = syndrome_of columns (received kind number)

        word_decoded : Option Word
        word_decoded = decoded columns (received kind number)

        decodes : decode_frame columns kind number ≡ answer_to kind (judged_received columns kind (received kind number))
        decodes =
            ap (decode_frame columns kind) (sym (made_of_received kind number i) ∙ ap (frame_number kind (received kind number)) s)
            ∙ decode_sent columns kind (received kind number) (received_fits kind number)

        verdict_of : {verdict : ℕ} → decode_frame columns kind number ≡ bare_answer 0 verdict 0
            → (answer_to kind (judged_received columns kind (received kind number))).verdict ≡ verdict
        verdict_of e = ap (λ (x : Answer). x.verdict) (sym decodes ∙ e)

        none_near : (verdict : ℕ) → (0 ≡ verdict → ⊥) → (9 ≡ verdict → ⊥) → decode_frame columns kind number ≡ bare_answer 0 verdict 0
            → Frames.NoneNear columns kind number
        none_near verdict m k e word p h b n =
            not_good kind word p verdict m k
            (ap (λ (x : Answer). x.verdict) (sym (decode_within word p h b) ∙ ap (decode_frame columns kind) (sym n) ∙ e))

        no_word : Frames.NoneNear columns kind number → (d : Option Word) → decoded columns (received kind number) ≡ d → d ≡ None
        no_word none None e = refl
        no_word none (Some w) e =
            let n = near number w.«data» w.wrong i s e in
            absurd (none w.«data» w.wrong n.word_below n.protected n.number_of)

pub short_frame_facts : Frames.ShortFrameFacts
short_frame_facts = frame_theorem _ _ refl short_columns_good

pub long_frame_facts : Frames.LongFrameFacts
long_frame_facts = frame_theorem _ _ refl long_columns_good

-- Document 01, "Fate of a finished frame", with document 02, Q-4 and Q-8, as facts of what a clock shows and leaves: the words of Laws.antt, here and in
-- the crate `receiver`.
use Rattle.std.specs.Prelude.{ℕ, ◌+◌, ◌/◌, ◌%◌, ◌^◌, ◌<◌, ◌≤◌, ◌≡◌, ◌≢◌, ◌⊎◌, ◌↔◌, true, false, cond, List, eqb, Option}
use Rattle.hamming.specs.declared.WrongBit.{WrongBit}
use Rattle.hamming.specs.Correction.{NoneOrProtected}
use Rattle.frame.specs.declared.Kind.{Kind}
use Rattle.frame.specs.declared.Kind.TheVariants.{Short, Long}
use Rattle.frame.specs.declared.Fields.{Fields}
use Rattle.frame.specs.declared.Answer.{Answer}
use Rattle.frame.specs.Numbers.{data_bits, check_bits, stop_bit}
use Rattle.frame.specs.Encode.{word_of, encode_fields}
use Rattle.frame.specs.Place.{places, flip_at}
use Rattle.frame.specs.Frames.{InRange, flip_protected}
use Rattle.receiver_state.specs.declared.Settings.{Settings}
use Rattle.receiver_state.specs.declared.Errors.{Errors}
use Rattle.receiver_state.specs.declared.Counters.{Counters}
use Rattle.receiver_state.specs.declared.Outputs.{Outputs}
use Rattle.register_map.specs.Laws.{ByteWithoutSetting}
use Rattle.verdicts.specs.Table.{dropped}

-- ---- verdict, flag, place and word

-- "address neither 0 nor this ID" does not hold
abbrev pub Ours : Fields → ℕ → Type 0
Ours fields id = (fields.address ≡ 0) ⊎ (fields.address ≡ id)

-- "such data for" registers 0 and 1: by the corrected fields
abbrev pub DataWithoutSetting : Fields → Type 0
DataWithoutSetting fields = ByteWithoutSetting fields.sub fields.«data»

-- the rows of a good long frame, each with what those above it leave
pub record LongVerdict (fields : Fields) (id verdict : ℕ) : Type 0 where
  pub row_5 : fields.address ≢ 0 → fields.address ≢ id → verdict ≡ 5
  pub row_4 : Ours fields id → fields.e ≡ 1 → verdict ≡ 4
  pub row_10 : Ours fields id → fields.e ≢ 1 → DataWithoutSetting fields → verdict ≡ 10
  pub row_2 : Ours fields id → fields.e ≢ 1 → (DataWithoutSetting fields → ⊥) → fields.sub < 4 → verdict ≡ 2
  pub row_3 : Ours fields id → fields.e ≢ 1 → fields.sub ≡ 6 → verdict ≡ 3
  pub row_6 : Ours fields id → fields.e ≢ 1 → 4 ≤ fields.sub → fields.sub ≢ 6 → verdict ≡ 6

abbrev pub GoodVerdict : Kind → Fields → ℕ → ℕ → Type 0
GoodVerdict Short fields id verdict = verdict ≡ 1
GoodVerdict Long fields id verdict = LongVerdict fields id verdict

-- what a finished frame shows, by what decoding its number answers: 7, 8, 9 or 11; or 0 and the fields
pub record ShowsFrame (kind : Kind) (decoded : Answer) (id : ℕ) (shown : Outputs) : Type 0 where
  pub not_good : decoded.verdict ≢ 0 → shown.verdict ≡ decoded.verdict
  pub good : decoded.verdict ≡ 0 → GoodVerdict kind decoded.fields id shown.verdict
  -- dropped are those that decoding gives a verdict, and no others
  pub dropped_exactly : (dropped shown.verdict ≡ true) ↔ (decoded.verdict ≢ 0)
  pub flag_shown : shown.corrected ≡ decoded.corrected
  pub place_shown : shown.place ≡ decoded.place
  pub word_shown : shown.word ≡ decoded.word

-- ---- the corrected bit

-- the number with the bit at that place flipped is a properly encoded frame, and this is its word
pub record CleanAt (columns : Kind → List ℕ) (kind : Kind) (number place word : ℕ) : Type 0 where
  pub fields : Fields
  pub in_range : InRange kind fields
  pub clean_is : flip_at kind place number ≡ encode_fields (columns kind) kind fields
  pub word_is : word ≡ word_of kind fields

-- document 02, Q-8: "A corrected frame also reports the flipped bit: 1 to 39 counts the frame's bits after the format bit, in the order sent; it is 0
-- where the flag is 0." (The order sent: `InOrderSent` of the crate `frame`.)
pub record BitNamed (columns : Kind → List ℕ) (kind : Kind) (number : ℕ) (shown : Outputs) : Type 0 where
  pub no_place : shown.corrected ≡ 0 → shown.place ≡ 0
  pub first : shown.corrected ≢ 0 → 1 ≤ shown.place
  pub last : shown.place ≤ places kind
  pub clean : shown.corrected ≢ 0 → CleanAt columns kind number shown.place shown.word

-- ---- the error counters

-- one higher, and at most the top
pub record OneHigher (top before after : ℕ) : Type 0 where
  pub higher : before < top → after ≡ before + 1
  pub full : top ≤ before → after ≡ before

-- flag 1 and not RESET; and not, as in 01's "Traps", "only when it is ours"
abbrev pub SingleError : Outputs → Type 0
SingleError shown = (shown.corrected ≡ 1) × (shown.verdict ≢ 3)

-- the double error counter is one higher, its top at most, exactly on dropped frames, the single one on those with a single error; RESET zeroes both;
-- otherwise they stay
pub record ErrorsMove (before : Errors) (shown : Outputs) (after : Errors) : Type 0 where
  pub double_up_lem : dropped shown.verdict ≡ true → OneHigher 255 before.double after.double
  pub single_up : SingleError shown → OneHigher 65535 before.single after.single
  -- "For 0, 7, 8 and 9 the flag is 0", and for 11: a dropped frame has no single error
  pub dropped_flag : dropped shown.verdict ≡ true → shown.corrected ≡ 0
  pub reset : shown.verdict ≡ 3 → (after.double ≡ 0) × (after.single ≡ 0)
  pub double_stays : dropped shown.verdict ≡ false → shown.verdict ≢ 3 → after.double ≡ before.double
  pub single_stays : (SingleError shown → ⊥) → shown.verdict ≢ 3 → after.single ≡ before.single
  -- status "Bit 5 is cleared by verdict 7 and set by any other finished frame."
  pub status_cleared : shown.verdict ≡ 7 → after.status5 ≡ 0
  pub status_set : shown.verdict ≢ 0 → shown.verdict ≢ 7 → after.status5 ≡ 1
  pub status_stays : shown.verdict ≡ 0 → after.status5 ≡ before.status5

-- ---- the registers 0 to 3

abbrev pub register_of : Settings → ℕ → ℕ
register_of now number =
    cond (eqb number 0) now.fine1
    (cond (eqb number 1) now.fine2
    (cond (eqb number 2) now.coarse
    now.control))

-- verdict 2: "data goes to that register", by the word shown (sub-address 15..8, data 7..0), and all else stays; RESET apart
pub record SettingsMove (before : Settings) (shown : Outputs) (after : Settings) : Type 0 where
  pub stored_byte : shown.verdict ≡ 2 → register_of after (shown.word / 2 ^ 8 % 2 ^ 8) ≡ shown.word % 2 ^ 8
  pub others_stay : shown.verdict ≡ 2 → (number : ℕ) → number < 4 → number ≢ shown.word / 2 ^ 8 % 2 ^ 8 → register_of after number ≡ register_of before number
  pub config_stays : shown.verdict ≢ 3 → (after.config2 ≡ before.config2) × (after.config3 ≡ before.config3)
  pub settings_stay : shown.verdict ≢ 2 → shown.verdict ≢ 3 → after ≡ before

-- ---- the bunch and event counters

-- a broadcast's word shows what it clears; RESET apart, no other frame touches them
pub record CountersMove (before : Counters) (shown : Outputs) (after : Counters) : Type 0 where
  pub counters_stay : shown.verdict ≢ 1 → shown.verdict ≢ 3 → after ≡ before
  pub bunch_cleared : shown.verdict ≡ 1 → shown.word % 2 ≡ 1 → after.bunch ≡ 0
  pub bunch_not_cleared : shown.verdict ≡ 1 → shown.word % 2 ≡ 0 → after.bunch ≡ before.bunch
  pub event_cleared : shown.verdict ≡ 1 → shown.word / 2 % 2 ≡ 1 → after.event ≡ 0
  pub event_not_cleared : shown.verdict ≡ 1 → shown.word / 2 % 2 ≡ 0 → after.event ≡ before.event

-- ---- executed frames

-- the rows 1 to 4 by their words: short; or addressed to all or to this ID, and E = 1, sub-address 0 to 3 with data that can be stored, or RESET
abbrev pub ExecutedRow : Kind → Fields → ℕ → Type 0
ExecutedRow Short fields id = Unit {0}
ExecutedRow Long fields id =
    Ours fields id × ((fields.e ≡ 1) ⊎ (((fields.sub < 4) × (DataWithoutSetting fields → ⊥)) ⊎ (fields.sub ≡ 6)))

-- the number has stop bit 1, and is a properly encoded frame with no bit or one protected bit flipped, whose row is 1 to 4.
-- 01's "Traps": "Correcting before testing the stop bit, so a slipped frame is executed."
pub record ExecutedFrame (columns : Kind → List ℕ) (kind : Kind) (number id : ℕ) : Type 0 where
  pub stop : stop_bit number ≡ 1
  pub fields : Fields
  pub in_range : InRange kind fields
  pub wrong : Option WrongBit
  pub none_or_protected : NoneOrProtected (data_bits kind) (check_bits kind) wrong
  pub number_is : number ≡ flip_protected kind wrong (encode_fields (columns kind) kind fields)
  pub row_is : ExecutedRow kind fields id

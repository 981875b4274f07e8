-- Document 01, "Frames on channel B": where the bits of a frame stand in its number.
-- "Both frames are written as numbers, first bit sent = most significant." `Kind` is the enum of src/lib.rt.
use Rattle.std.specs.Prelude.{ℕ, ◌+◌, ◌*◌, ◌/◌, ◌%◌, ◌^◌, Bool, eqb, ltb}
use Rattle.hamming.specs.Correction.{Coded}
use Rattle.frame.specs.declared.Kind.{Kind}
use Rattle.frame.specs.declared.Kind.TheVariants.{Short, Long}

-- "8 data bits", "32 word bits"
abbrev pub data_bits : Kind → ℕ
data_bits Short = 8
data_bits Long = 32

-- "5 check bits", "7 check bits"
abbrev pub check_bits : Kind → ℕ
check_bits Short = 5
check_bits Long = 7

-- "format 0", "format 1"
abbrev pub format_bit : Kind → ℕ
format_bit Short = 0
format_bit Long = 1

-- "16 bits", "42 bits": start, format, data, check bits and stop
abbrev pub frame_bits : Kind → ℕ
frame_bits kind = 2 + data_bits kind + check_bits kind + 1

-- start, format, word, check bits and stop, one after the other; the start bit is 0 and adds nothing to the number
abbrev pub frame_number : Kind → Coded → ℕ → ℕ
frame_number kind sent stop = ((format_bit kind * 2 ^ data_bits kind + sent.bits) * 2 ^ check_bits kind + sent.check) * 2 + stop

-- the same bits of a number as received
abbrev pub stop_bit : ℕ → ℕ
stop_bit number = number % 2

abbrev pub check_bits_of : Kind → ℕ → ℕ
check_bits_of kind number = number / 2 % 2 ^ check_bits kind

abbrev pub word_bits : Kind → ℕ → ℕ
word_bits kind number = number / 2 ^ (1 + check_bits kind) % 2 ^ data_bits kind

abbrev pub received : Kind → ℕ → Coded
received kind number = record { bits = word_bits kind number; check = check_bits_of kind number }

-- the numbers that refusal 12 lets through. "Stored lines": "A short number is under 2^14; a long one has bit 40 set and none above."
unfoldable pub is_frame : Kind → ℕ → Bool
is_frame Short number = ltb number (2 ^ 14)
is_frame Long number = eqb (number / 2 ^ 40) 1

-- Words as text: eight hexadecimal digits, the most significant first.
use Rattle.std.specs.Prelude.{ℕ, zero, suc, ◌+◌, ◌*◌, ◌/◌, ◌%◌, ◌^◌, cond, List, [], ◌∷◌, length, Some, None, Option, ◌==◌}
use Rattle.input.specs.Digits.{digit_value, digit_of}

-- the number that a line of digits writes, after digits that wrote `before`; none where a byte is no digit
unfoldable pub number_after : ℕ → List ℕ → Option ℕ
number_after before [] = Some before
number_after before (byte ∷ rest) = elim (digit_value byte) [ None ↦ None | Some digit ↦ number_after (before * 16 + digit) rest ]

-- the word of a word line, which is exactly eight digits; any other line has none
unfoldable pub word_of_line : List ℕ → Option ℕ
word_of_line line = cond (length line == 8) (number_after 0 line) None

-- the lowest digits of a number, as many as told, the most significant first
unfoldable pub low_digits : ℕ → ℕ → List ℕ
low_digits zero number = []
low_digits (suc places) number = digit_of (number / 16 ^ places % 16) ∷ low_digits places number

-- the word line that writes a word
unfoldable pub hex_digits : ℕ → List ℕ
hex_digits word = low_digits 8 word

-- The hexadecimal digits, as bytes of text: 0 to 9 are the bytes 48 to 57, and a to f the bytes 97 to 102.
use Rattle.std.specs.Prelude.{ℕ, ◌+◌, ◌-◌, cond, ◌&&◌, Some, None, Option, nat_le, nat_lt}

-- the value of a digit; an uppercase letter is none
abbrev pub digit_value : ℕ → Option ℕ
digit_value byte =
    cond (nat_le 48 byte && nat_le byte 57) (Some (byte - 48))
    (cond (nat_le 97 byte && nat_le byte 102) (Some (byte - 87)) None)

-- the digit of a value below 16
abbrev pub digit_of : ℕ → ℕ
digit_of value = cond (nat_lt value 10) (value + 48) (value + 87)

-- What lower-case hexadecimal digits write.
use Rattle.std.specs.Prelude.{ℕ, ◌-◌, cond, ◌&&◌, List, [], ◌∷◌, length, Some, None, Option, ◌==◌, nat_le}
use Rattle.std.specs.Option.{option_map}
use Rattle.std.specs.Int.Digits.{number_from_digits}

-- the value of one digit: 0 to 9, or a to f
abbrev pub hex_digit : ℕ → Option ℕ
hex_digit byte = cond (nat_le 48 byte && nat_le byte 57) (Some (byte - 48)) (cond (nat_le 97 byte && nat_le byte 102) (Some (byte - 87)) None)

-- one value in front of others, where both are there
abbrev pub before : Option ℕ → Option (List ℕ) → Option (List ℕ)
before None ds = None
before (Some d) None = None
before (Some d) (Some ds) = Some (d ∷ ds)

-- the values of the bytes, where each is a digit
abbrev pub hex_digits : List ℕ → Option (List ℕ)
hex_digits [] = Some []
hex_digits (b ∷ bs) = before (hex_digit b) (hex_digits bs)

-- two digits, and four, as a number in base 16; no other count of bytes is one
abbrev pub hex_pair : List ℕ → Option ℕ
hex_pair bs = cond (length bs == 2) (option_map (number_from_digits 16) (hex_digits bs)) None

-- a word: four digits
abbrev pub hex_word : List ℕ → Option ℕ
hex_word bs = cond (length bs == 4) (option_map (number_from_digits 16) (hex_digits bs)) None

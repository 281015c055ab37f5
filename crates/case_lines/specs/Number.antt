-- Numbers as cases write them: decimal digits and nothing else.
use Rattle.std.specs.Prelude.{ℕ, ◌+◌, ◌-◌, ◌*◌, ◌^◌, ◌&&◌, nat_le, nat_lt, if◌then◌else◌, List, [], ◌∷◌, Option, Some, None, option_and_then}

-- the number with one more digit, where the byte is one and the number stays below 2^64
abbrev pub with_digit : ℕ → ℕ → Option ℕ
with_digit number digit =
    if nat_le 48 digit && nat_le digit 57 && nat_lt (number * 10 + (digit - 48)) (2 ^ 64) then Some (number * 10 + (digit - 48)) else None

-- the number with these digits more
abbrev pub with_digits : ℕ → List ℕ → Option ℕ
with_digits number [] = Some number
with_digits number (digit ∷ digits) = option_and_then (λ more. with_digits more digits) (with_digit number digit)

-- the number that a text is: one digit or more, and below 2^64
abbrev pub number_of : List ℕ → Option ℕ
number_of [] = None
number_of (digit ∷ digits) = with_digits 0 (digit ∷ digits)

-- a number that is not 0
abbrev pub above_zero : Option ℕ → Option ℕ
above_zero None = None
above_zero (Some number) = if nat_lt 0 number then Some number else None

abbrev pub positive_of : List ℕ → Option ℕ
positive_of text = above_zero (number_of text)

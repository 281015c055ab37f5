-- The first line of bytes, byte by byte.
use Rattle.std.proofs.Common.{◌≡◌, ℕ, suc, ◌+◌, true, false, List, [], ◌∷◌, take, drop, ap, arith}
use Rattle.std.specs.Prelude.{◌==◌, not, if◌then◌else◌}
use Rattle.std.specs.List.{position_or_len}
use Rattle.case_lines.specs.Lines.{first_line, after_line}

-- where the first LF is, by the first byte
place-end : (b : ℕ) (bytes : List ℕ) → (b == 10) ≡ true → position_or_len (λ c. c == 10) (b ∷ bytes) ≡ 0
place-end b bytes is = ap (λ test. if not test then 1 + position_or_len (λ c. c == 10) bytes else 0) is

place-on : (b : ℕ) (bytes : List ℕ) → (b == 10) ≡ false →
    position_or_len (λ c. c == 10) (b ∷ bytes) + 1 ≡ suc (position_or_len (λ c. c == 10) bytes + 1)
place-on b bytes is =
    let step : position_or_len (λ c. c == 10) (b ∷ bytes) ≡ 1 + position_or_len (λ c. c == 10) bytes =
    ap (λ test. if not test then 1 + position_or_len (λ c. c == 10) bytes else 0) is in
    omega (arith, step)

-- LF ends the line
pub first_line-end : (b : ℕ) (bytes : List ℕ) → (b == 10) ≡ true → first_line (b ∷ bytes) ≡ b ∷ []
first_line-end b bytes is = ap (λ n. take (n + 1) (b ∷ bytes)) (place-end b bytes is)

pub after_line-end : (b : ℕ) (bytes : List ℕ) → (b == 10) ≡ true → after_line (b ∷ bytes) ≡ bytes
after_line-end b bytes is = ap (λ n. drop (n + 1) (b ∷ bytes)) (place-end b bytes is)

-- any other byte goes on
pub first_line-on : (b : ℕ) (bytes : List ℕ) → (b == 10) ≡ false → first_line (b ∷ bytes) ≡ b ∷ first_line bytes
first_line-on b bytes is = ap (λ n. take n (b ∷ bytes)) (place-on b bytes is)

pub after_line-on : (b : ℕ) (bytes : List ℕ) → (b == 10) ≡ false → after_line (b ∷ bytes) ≡ after_line bytes
after_line-on b bytes is = ap (λ n. drop n (b ∷ bytes)) (place-on b bytes is)

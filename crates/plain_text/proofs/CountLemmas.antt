-- The characters of a text by the bytes that start them.
use Rattle.std.proofs.Common.{◌≡◌, ℕ, ◌+◌, ◌/◌, ◌%◌, ◌≤◌, nat_lt, nat_le, ◌||◌, Bool, true, false, cond, List, [], ◌∷◌, length, refl, sym, ap, ◌∙◌, arith}
use Rattle.std.specs.List.{count_by}
use Rattle.std.specs.Str.{chars, IsUtf8}
use Rattle.std.proofs.Math.Utf8.{encode, encodes}
use Rattle.std.proofs.lemmas.Bool.{le-leb}
use Rattle.std.proofs.lemmas.List.Sums.{sum_by-append}
use Rattle.std.proofs.lemmas.Str.{encodes-chars}
use Rattle.plain_text.specs.Text.{starts_character}
use Rattle.plain_text.proofs.callers.ListLemmas.{count_by-yes, count_by-no}

-- how many of these bytes start a character
abbrev pub starts : List ℕ → ℕ
starts bytes = count_by starts_character bytes

high : (b : ℕ) → 192 ≤ b → starts_character b ≡ true
high b le = ap (λ x. nat_lt b 128 || x) (le-leb 192 b le) ∙ or_true (nat_lt b 128)
  where
    or_true : (x : Bool) → (x || true) ≡ true
    or_true true = refl
    or_true false = refl

goes_on : (bits : ℕ) → starts_character (128 + bits % 64) ≡ false
goes_on bits = grind arith

count-one : (b : ℕ) (rest : List ℕ) → starts_character b ≡ true → starts (b ∷ rest) ≡ 1 + starts rest
count-one b rest is = let more = count_by-yes starts_character b rest is in omega (arith, more)

count-none : (b : ℕ) (rest : List ℕ) → starts_character b ≡ false → starts (b ∷ rest) ≡ starts rest
count-none b rest is = count_by-no starts_character b rest is

starts-encode : (c : ℕ) → starts (encode c) ≡ 1
unfolding encode
starts-encode c = by (nat_lt c 128) (nat_lt c 2048) (nat_lt c 65536) refl
  where
    by : (one two three : Bool) → nat_lt c 128 ≡ one →
        starts (cond one (c ∷ []) (cond two ((192 + c / 64) ∷ (128 + c % 64) ∷ []) (cond three ((224 + c / 4096) ∷ (128 + (c / 64) % 64) ∷ (128 + c % 64) ∷ [])
        ((240 + c / 262144) ∷ (128 + (c / 4096) % 64) ∷ (128 + (c / 64) % 64) ∷ (128 + c % 64) ∷ [])))) ≡ 1
    by true two three is = count-one c [] (ap (λ x. x || nat_le 192 c) is)
    by false true three is =
        let one = count-one (192 + c / 64) ((128 + c % 64) ∷ []) (high (192 + c / 64) (omega arith)) in
        let none = count-none (128 + c % 64) [] (goes_on c) in omega (arith, one, none)
    by false false true is =
        let one = count-one (224 + c / 4096) ((128 + (c / 64) % 64) ∷ (128 + c % 64) ∷ []) (high (224 + c / 4096) (omega arith)) in
        let next = count-none (128 + (c / 64) % 64) ((128 + c % 64) ∷ []) (goes_on (c / 64)) in
        let last = count-none (128 + c % 64) [] (goes_on c) in omega (arith, one, next, last)
    by false false false is =
        let one = count-one (240 + c / 262144) ((128 + (c / 4096) % 64) ∷ (128 + (c / 64) % 64) ∷ (128 + c % 64) ∷ []) (high (240 + c / 262144) (omega arith)) in
        let next = count-none (128 + (c / 4096) % 64) ((128 + (c / 64) % 64) ∷ (128 + c % 64) ∷ []) (goes_on (c / 4096)) in
        let third = count-none (128 + (c / 64) % 64) ((128 + c % 64) ∷ []) (goes_on (c / 64)) in
        let last = count-none (128 + c % 64) [] (goes_on c) in omega (arith, one, next, third, last)

starts-encodes : (text : List ℕ) → starts (encodes text) ≡ length text
starts-encodes [] = refl
starts-encodes (c ∷ text) =
    let parts = sum_by-append (λ b. cond (starts_character b) 1 0) (encode c) (encodes text) in
    omega (arith, parts, starts-encode c, starts-encodes text)

-- each character of a text starts with one byte
pub starts-chars : (bytes : List ℕ) → IsUtf8 bytes → starts bytes ≡ length (chars bytes)
starts-chars bytes u = ap starts (sym (encodes-chars bytes u)) ∙ starts-encodes (chars bytes)

-- Lemmas on texts of small letters: their bytes are those of the text with each ASCII capital as its small letter.
use Rattle.std.proofs.Common.{◌≡◌, ℕ, suc, ◌<◌, ◌≤◌, inl, inr, List, [], ◌∷◌, ◌++◌, length, map, get_or, refl, sym, ap, ap₂, ◌∙◌, arith, append-nil}
use Rattle.std.specs.Char.{to_ascii_lowercase, encode_utf8}
use Rattle.std.specs.Str.{chars, encode_utf8_all, IsUtf8}
use Rattle.std.proofs.lemmas.Bool.{cases_lt}
use Rattle.std.proofs.lemmas.List.{map-append}
use Rattle.std.proofs.lemmas.Str.{encode_ascii, inside_one, chars_from_encodes}
use Rattle.std.proofs.lemmas.Str.Ascii.{lowercase_is, lowercase_ascii}

lower-high : (bytes : List ℕ) → ((k : ℕ) → k < length bytes → 128 ≤ get_or bytes k 0) → map to_ascii_lowercase bytes ≡ bytes
lower-high [] high = refl
lower-high (b ∷ bytes) high =
    let first : 128 ≤ b = high 0 (omega arith) in
    ap₂ (λ (x : ℕ) (xs : List ℕ). x ∷ xs) ((lowercase_is b).2 (omega arith)) (lower-high bytes (λ k below. high (suc k) (omega arith)))

encode-high : (c : ℕ) → 128 ≤ c → (k : ℕ) → k < length (encode_utf8 c) → 128 ≤ get_or (encode_utf8 c) k 0
encode-high c high k below =
    elim (cases_lt (get_or (encode_utf8 c) k 0) 128) [
      | inl low ↦
          let is : c ≡ get_or (encode_utf8 c) k 0 = inside_one c [] (encode_utf8 c) k (sym (append-nil (encode_utf8 c))) below low in
          absurd (omega arith)
      | inr fine ↦ fine
    ]

encode-lower : (c : ℕ) → encode_utf8 (to_ascii_lowercase c) ≡ map to_ascii_lowercase (encode_utf8 c)
encode-lower c =
    elim (cases_lt c 128) [
      | inl low ↦ encode_ascii (to_ascii_lowercase c) (lowercase_ascii c low) ∙ sym (ap (map to_ascii_lowercase) (encode_ascii c low))
      | inr high ↦ ap encode_utf8 ((lowercase_is c).2 (omega arith)) ∙ sym (lower-high (encode_utf8 c) (encode-high c high))
    ]

encodes-lower : (text : List ℕ) → encode_utf8_all (map to_ascii_lowercase text) ≡ map to_ascii_lowercase (encode_utf8_all text)
encodes-lower [] = refl
encodes-lower (c ∷ text) =
    ap₂ (λ (xs ys : List ℕ). xs ++ ys) (encode-lower c) (encodes-lower text) ∙ sym (map-append to_ascii_lowercase (encode_utf8 c) (encode_utf8_all text))

-- THE CHARACTERS of bytes with each capital as its small letter
pub chars-lower : (text bytes lowered : List ℕ) → IsUtf8 lowered → bytes ≡ encode_utf8_all text → lowered ≡ map to_ascii_lowercase bytes →
    chars lowered ≡ map to_ascii_lowercase text
chars-lower text bytes lowered utf8 spells is =
    sym (chars_from_encodes (map to_ascii_lowercase text) lowered utf8 (encodes-lower text ∙ sym (is ∙ ap (map to_ascii_lowercase) spells)))

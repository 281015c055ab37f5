-- Texts of the same characters.
use Rattle.std.proofs.Common.{◌≡◌, ℕ, Bool, true, false, List, [], ◌∷◌, IsAscii, codes, refl, ap, sym, ◌∙◌, arith}
use Rattle.std.proofs.lemmas.Str.{chars-IsAscii, encodes-chars}
use Rattle.std.proofs.lemmas.Str.Ascii.{IsAscii-cons, IsAscii-nil}
use Rattle.std.proofs.lemmas.Slice.Eq.{bytes_eq-Decides}
use Rattle.std.specs.Str.{IsUtf8, bytes_eq, chars, encode_utf8_all}

alike : (x y : Bool) → (x ≡ true → y ≡ true) → (y ≡ true → x ≡ true) → x ≡ y
alike true true on back = refl
alike true false on back = sym (on refl)
alike false true on back = back refl
alike false false on back = refl

-- two texts have the same bytes where they have the same characters
pub same_chars : (a b : List ℕ) → IsUtf8 a → IsUtf8 b → bytes_eq a b ≡ bytes_eq (chars a) (chars b)
same_chars a b a_text b_text =
    alike (bytes_eq a b) (bytes_eq (chars a) (chars b))
    (λ same. (bytes_eq-Decides (chars a) (chars b)).1 (ap chars ((bytes_eq-Decides a b).0 same)))
    (λ same. (bytes_eq-Decides a b).1
    (sym (encodes-chars a a_text) ∙ ap encode_utf8_all ((bytes_eq-Decides (chars a) (chars b)).0 same) ∙ encodes-chars b b_text))

IsAscii-update : IsAscii (codes "update")
IsAscii-update =
    IsAscii-cons 117 (112 ∷ 100 ∷ 97 ∷ 116 ∷ 101 ∷ []) (omega arith)
    (IsAscii-cons 112 (100 ∷ 97 ∷ 116 ∷ 101 ∷ []) (omega arith)
    (IsAscii-cons 100 (97 ∷ 116 ∷ 101 ∷ []) (omega arith)
    (IsAscii-cons 97 (116 ∷ 101 ∷ []) (omega arith)
    (IsAscii-cons 116 (101 ∷ []) (omega arith) (IsAscii-cons 101 [] (omega arith) IsAscii-nil)))))

pub chars-update : chars (codes "update") ≡ codes "update"
chars-update = chars-IsAscii (codes "update") IsAscii-update

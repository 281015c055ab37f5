-- Lemmas on the characters of a text and on its UTF-8.
use Rattle.std.proofs.Common.{take-append-drop, ◌↔◌, inl, inr, subst, ◌≡◌, ◌≢◌, ℕ, zero, suc, true, String, ◌+◌, ◌-◌, ◌<◌, ◌≤◌, List, Some, None, take, drop, [], ◌∷◌, ◌++◌, length, append-nil, refl, ap, sym, ◌∙◌, arith, length-append}
use Rattle.std.specs.Str.{chars, encode_utf8_all, IsUtf8, all_scalars, IsCharBoundary}
use Rattle.std.specs.String.{string_bytes}
use Rattle.std.proofs.lemmas.Str.{length-encode, encodes-chars, chars-encodes, scalars-chars, IsUtf8-string_bytes, chars-nil, length-le-encodes, chars_past_char, len_utf8_bounds, chars-append, IsUtf8-encode, encodes-append, IsCharBoundary-at_seam}
use Rattle.std.proofs.Math.Seq.{take-append_seam, drop-append-add, take-nil, drop-nil}
use Rattle.std.proofs.lemmas.Bool.{and_parts, and_from, cases_eq, cases_lt}
use Rattle.std.proofs.lemmas.List.{nil_from_length}
use Rattle.std.proofs.lemmas.Bool.Decides.{nat_tests}
use Rattle.std.specs.Prelude.{if◌then◌else◌, nat_lt, ◌==◌}
use Rattle.plain_text.specs.Text.{byte_len, gap_from, place_of}
use Rattle.std.specs.Char.{len_utf8, IsScalar}
use lib.Utf8.{encode, scalar}

-- the bytes of a text are as many as its characters take
pub length-encodes : (text : List ℕ) → length (encode_utf8_all text) ≡ byte_len text
length-encodes [] = refl
length-encodes (c ∷ text) =
    length-append (encode c) (encode_utf8_all text) ∙ ap (λ n. n + length (encode_utf8_all text)) (length-encode c) ∙
    ap (λ n. len_utf8 c + n) (length-encodes text)

-- a text's characters spell its bytes
pub encodes-string : {A : Type 0} (s : String A) → encode_utf8_all (chars (string_bytes s)) ≡ string_bytes s
encodes-string s = encodes-chars (string_bytes s) (IsUtf8-string_bytes s)

pub scalars-string : {A : Type 0} (s : String A) → all_scalars (chars (string_bytes s)) ≡ true
scalars-string s = scalars-chars (string_bytes s) (IsUtf8-string_bytes s)

-- a text with no bytes has no characters
pub is_empty-encodes : (text : List ℕ) → length (encode_utf8_all text) ≡ 0 → text ≡ []
is_empty-encodes [] none = refl
is_empty-encodes (c ∷ text) none = absurd (omega (arith, length-le-encodes (c ∷ text)))

-- the gap of an offset, by the first character
pub gap_from-past : (gap : ℕ) (bs rest : List ℕ) (c at : ℕ) → IsUtf8 bs → bs ≡ encode c ++ rest →
    gap_from gap (chars bs) at ≡ (if at == 0 then Some gap else (if nat_lt at (len_utf8 c) then None else gap_from (gap + 1) (chars rest) (at - len_utf8 c)))
gap_from-past gap bs rest c at is_text split = ap (λ cs. gap_from gap cs at) (chars_past_char bs rest c is_text split)

pub gap_from-here : (gap : ℕ) (text : List ℕ) (at : ℕ) → at ≡ 0 → gap_from gap text at ≡ Some gap
gap_from-here gap [] at is = rw is refl
gap_from-here gap (c ∷ text) at is = rw is refl

pub gap_from-inside : (gap : ℕ) (bs rest : List ℕ) (c at : ℕ) → IsUtf8 bs → bs ≡ encode c ++ rest → at ≢ 0 → at < len_utf8 c →
    gap_from gap (chars bs) at ≡ None
gap_from-inside gap bs rest c at is_text split some below =
    gap_from-past gap bs rest c at is_text split ∙ grind (arith, nat_tests)

pub gap_from-step : (gap : ℕ) (bs rest : List ℕ) (c at : ℕ) → IsUtf8 bs → bs ≡ encode c ++ rest → at ≢ 0 → len_utf8 c ≤ at →
    gap_from gap (chars bs) at ≡ gap_from (gap + 1) (chars rest) (at - len_utf8 c)
gap_from-step gap bs rest c at is_text split some reaches =
    gap_from-past gap bs rest c at is_text split ∙ grind (arith, nat_tests)

pub gap_from-end : (gap : ℕ) (bs : List ℕ) (at : ℕ) → length bs ≡ 0 → at ≢ 0 → gap_from gap (chars bs) at ≡ None
gap_from-end gap bs at none some = rw (nil_from_length bs none) (rw chars-nil (grind (arith, nat_tests)))

-- the place of a gap, by the first character
pub place_of-step : (bs rest : List ℕ) (c gap : ℕ) → IsUtf8 bs → bs ≡ encode c ++ rest → gap ≢ 0 →
    place_of (chars bs) gap ≡ len_utf8 c + place_of (chars rest) (gap - 1)
place_of-step bs rest c zero is_text split some = absurd (some refl)
place_of-step bs rest c (suc gap) is_text split some =
    let less : gap ≡ suc gap - 1 = omega arith in
    ap (λ cs. place_of cs (suc gap)) (chars_past_char bs rest c is_text split) ∙ ap (λ n. len_utf8 c + place_of (chars rest) n) less

pub place_of-start : (text : List ℕ) (gap : ℕ) → gap ≡ 0 → place_of text gap ≡ 0
place_of-start [] gap is = rw is refl
place_of-start (c ∷ text) gap is = rw is refl

pub place_of-end : (bs : List ℕ) (gap : ℕ) → length bs ≡ 0 → place_of (chars bs) gap ≡ 0
place_of-end bs gap none = rw (nil_from_length bs none) (rw chars-nil (place_of-nil gap))
  where
    place_of-nil : (k : ℕ) → place_of [] k ≡ 0
    place_of-nil zero = refl
    place_of-nil (suc k) = refl

-- a character at the end, and a text at the end
pub chars-push : (bs : List ℕ) (c : ℕ) → IsUtf8 bs → IsScalar c → chars (bs ++ encode c) ≡ chars bs ++ c ∷ []
chars-push bs c is_text scalar =
    let alone : chars (encode c) ≡ c ∷ [] =
    chars_past_char (encode c) [] c (IsUtf8-encode c scalar) (sym (append-nil (encode c))) ∙ ap (λ cs. c ∷ cs) chars-nil in
    chars-append bs (encode c) is_text ∙ ap (λ cs. chars bs ++ cs) alone

-- the characters after the first ones are characters
pub all_scalars-drop : (n : ℕ) (text : List ℕ) → all_scalars text ≡ true → all_scalars (drop n text) ≡ true
all_scalars-drop zero text each = each
all_scalars-drop (suc n) [] each = refl
all_scalars-drop (suc n) (c ∷ text) each = all_scalars-drop n text (and_parts (scalar c) (all_scalars text) each).1

-- the bytes left of a gap are those of the characters left of it
pub length-encodes-take : (text : List ℕ) (gap : ℕ) → place_of text gap ≡ length (encode_utf8_all (take gap text))
length-encodes-take text gap = sym (length-encodes (take gap text))

-- the place of a gap is a boundary of the text's bytes
pub IsCharBoundary-place : (text : List ℕ) (gap : ℕ) → all_scalars text ≡ true → IsCharBoundary (encode_utf8_all text) (place_of text gap)
IsCharBoundary-place text gap each =
    rw (length-encodes-take text gap)
    (IsCharBoundary-at_seam (encode_utf8_all text) (encode_utf8_all (take gap text)) (encode_utf8_all (drop gap text))
    (ap encode_utf8_all (sym (take-append-drop gap text)) ∙ encodes-append (take gap text) (drop gap text))
    (drop gap text, (all_scalars-drop gap text each, refl)))

-- places rise with their gaps
pub place_of-rises : (text : List ℕ) (from to : ℕ) → from ≤ to → place_of text from ≤ place_of text to
place_of-rises [] zero to below = omega arith
place_of-rises [] (suc from) to below = omega arith
place_of-rises (c ∷ text) zero to below = omega arith
place_of-rises (c ∷ text) (suc from) zero below = absurd (omega arith)
place_of-rises (c ∷ text) (suc from) (suc to) below =
    let rest : place_of text from ≤ place_of text to = place_of-rises text from to (omega arith) in omega arith

-- the bytes up to a place, and between two places, spell the characters there
pub take-place : (text : List ℕ) (gap : ℕ) → take (place_of text gap) (encode_utf8_all text) ≡ encode_utf8_all (take gap text)
take-place text gap =
    rw (length-encodes-take text gap)
    (ap (λ bs. take (length (encode_utf8_all (take gap text))) bs)
    (ap encode_utf8_all (sym (take-append-drop gap text)) ∙ encodes-append (take gap text) (drop gap text)) ∙
    take-append_seam (encode_utf8_all (take gap text)) (encode_utf8_all (drop gap text)))

pub all_scalars-take : (n : ℕ) (text : List ℕ) → all_scalars text ≡ true → all_scalars (take n text) ≡ true
all_scalars-take zero text each = refl
all_scalars-take (suc n) [] each = refl
all_scalars-take (suc n) (c ∷ text) each =
    let parts = and_parts (scalar c) (all_scalars text) each in
    and_from (scalar c) (all_scalars (take n text)) parts.0 (all_scalars-take n text parts.1)

-- the bytes between two places spell the characters between their gaps
pub take-drop-places : (text : List ℕ) (from to : ℕ) → from ≤ to →
    take (place_of text to - place_of text from) (drop (place_of text from) (encode_utf8_all text)) ≡
    encode_utf8_all (take (to - from) (drop from text))
take-drop-places text zero to below =
    let all : place_of text to - 0 ≡ place_of text to = omega arith in
    let whole : to - 0 ≡ to = omega arith in
    rw (all, whole) (take-place text to)
take-drop-places [] (suc from) to below =
    ap (λ xs. take (place_of [] to - 0) xs) (drop-nil {A = ℕ} 0) ∙ take-nil (place_of [] to - 0) ∙
    ap encode_utf8_all (sym (take-nil {A = ℕ} (to - suc from)))
take-drop-places (c ∷ text) (suc from) zero below = absurd (omega arith)
take-drop-places (c ∷ text) (suc from) (suc to) below =
    let rest = take-drop-places text from to (omega arith) in
    let less : (len_utf8 c + place_of text to) - (len_utf8 c + place_of text from) ≡ place_of text to - place_of text from = omega arith in
    let fewer : suc to - suc from ≡ to - from = omega arith in
    let past : drop (len_utf8 c + place_of text from) (encode c ++ encode_utf8_all text) ≡ drop (place_of text from) (encode_utf8_all text) =
    ap (λ n. drop (n + place_of text from) (encode c ++ encode_utf8_all text)) (sym (length-encode c)) ∙
    drop-append-add (encode c) (encode_utf8_all text) (place_of text from) in
    rw (less, fewer, past) rest

-- the part of a text's bytes between two gaps spells the characters there
pub chars-between : (bs : List ℕ) (from to : ℕ) → IsUtf8 bs → from ≤ to →
    chars (take (place_of (chars bs) to - place_of (chars bs) from) (drop (place_of (chars bs) from) bs)) ≡ take (to - from) (drop from (chars bs))
chars-between bs from to is_text below =
    let spelled : encode_utf8_all (chars bs) ≡ bs = encodes-chars bs is_text in
    let each : all_scalars (take (to - from) (drop from (chars bs))) ≡ true =
    all_scalars-take (to - from) (drop from (chars bs)) (all_scalars-drop from (chars bs) (scalars-chars bs is_text)) in
    ap (λ b. chars (take (place_of (chars bs) to - place_of (chars bs) from) (drop (place_of (chars bs) from) b))) (sym spelled) ∙
    ap chars (take-drop-places (chars bs) from to below) ∙ chars-encodes (take (to - from) (drop from (chars bs))) each

-- a place is a boundary of the text's bytes
pub IsCharBoundary-gap : (bs : List ℕ) (gap : ℕ) → IsUtf8 bs → IsCharBoundary bs (place_of (chars bs) gap)
IsCharBoundary-gap bs gap is_text =
    let At : List ℕ → Type 0 = λ b. IsCharBoundary b (place_of (chars bs) gap) in
    subst At (encodes-chars bs is_text) (IsCharBoundary-place (chars bs) gap (scalars-chars bs is_text))

-- an offset past the first character
past_first : (start c : ℕ) (text : List ℕ) (at : ℕ) → at ≢ 0 → len_utf8 c ≤ at →
    gap_from start (c ∷ text) at ≡ gap_from (start + 1) text (at - len_utf8 c)
past_first start c text at some reaches = grind (arith, nat_tests)

-- the gap of a place
pub gap_from-place : (start : ℕ) (text : List ℕ) (gap : ℕ) → gap ≤ length text → gap_from start text (place_of text gap) ≡ Some (start + gap)
gap_from-place start text zero inside = gap_from-here start text 0 refl ∙ ap Some (omega arith)
gap_from-place start [] (suc gap) inside = absurd (omega arith)
gap_from-place start (c ∷ text) (suc gap) inside =
    let rest = gap_from-place (start + 1) text gap (omega arith) in
    let wide = len_utf8_bounds c in
    let less : (len_utf8 c + place_of text gap) - len_utf8 c ≡ place_of text gap = omega arith in
    let sum : start + 1 + gap ≡ start + suc gap = omega arith in
    past_first start c text (len_utf8 c + place_of text gap) (omega arith) (omega arith) ∙
    ap (gap_from (start + 1) text) less ∙ rest ∙ ap Some sum

-- a gap that is found has the place that was asked
pub FoundAt : ℕ → List ℕ → ℕ → ℕ → Type 0
FoundAt start text at gap = (k : ℕ) × (gap ≡ start + k) × (k ≤ length text) × (place_of text k ≡ at)

found_here : (start : ℕ) (text : List ℕ) (at gap : ℕ) → at ≡ 0 → gap_from start text at ≡ Some gap → FoundAt start text at gap
unfolding FoundAt
found_here start text at gap is found =
    let here : Some gap ≡ Some start = sym found ∙ gap_from-here start text at is in
    let same : gap ≡ start = cc in
    (0, omega arith, omega arith, place_of-start text 0 refl ∙ sym is)

found_later : (start c : ℕ) (text : List ℕ) (at gap : ℕ) → at ≢ 0 → len_utf8 c ≤ at →
    FoundAt (start + 1) text (at - len_utf8 c) gap → FoundAt start (c ∷ text) at gap
unfolding FoundAt
found_later start c text at gap some reaches (k, is, inside, place) = (suc k, omega arith, omega arith, omega arith)

none_inside : (start c : ℕ) (text : List ℕ) (at gap : ℕ) → at ≢ 0 → at < len_utf8 c → gap_from start (c ∷ text) at ≡ Some gap → ⊥
none_inside start c text at gap some below found = grind (arith, nat_tests)

none_past : (start at gap : ℕ) → at ≢ 0 → gap_from start [] at ≡ Some gap → ⊥
none_past start at gap some found = grind (arith, nat_tests)

pub place-gap_from : (start : ℕ) (text : List ℕ) (at gap : ℕ) → gap_from start text at ≡ Some gap → FoundAt start text at gap
place-gap_from start [] at gap found =
    elim (cases_eq at 0) [ inl is ↦ found_here start [] at gap is found | inr some ↦ absurd (none_past start at gap some found) ]
place-gap_from start (c ∷ text) at gap found =
    elim (cases_eq at 0) [
      | inl is ↦ found_here start (c ∷ text) at gap is found
      | inr some ↦
          elim (cases_lt at (len_utf8 c)) [
            | inl below ↦ absurd (none_inside start c text at gap some below found)
            | inr reaches ↦
                found_later start c text at gap some reaches
                (place-gap_from (start + 1) text (at - len_utf8 c) gap (sym (past_first start c text at some reaches) ∙ found))
          ]
    ]

pub gap_at_iff : (text : List ℕ) (at gap : ℕ) → (gap_from 0 text at ≡ Some gap) ↔ ((gap ≤ length text) × (place_of text gap ≡ at))
unfolding FoundAt
gap_at_iff text at gap = (
  (λ found. one_way (place-gap_from 0 text at gap found)),
  (λ (inside, place). ap (gap_from 0 text) (sym place) ∙ gap_from-place 0 text gap inside ∙ ap Some (omega arith)),
)
  where
    one_way : (k : ℕ) × (gap ≡ 0 + k) × (k ≤ length text) × (place_of text k ≡ at) → (gap ≤ length text) × (place_of text gap ≡ at)
    one_way (k, is, inside, place) =
        let same : gap ≡ k = omega arith in (omega arith, ap (place_of text) same ∙ place)

-- Characters counted along a text, and the lengths of parts of a text.
use Rattle.std.proofs.Common.{◌≡◌, ℕ, zero, suc, ◌+◌, ◌-◌, ◌^◌, ◌<◌, ◌≤◌, Bool, IsTrue, List, [], ◌∷◌, ◌++◌, length, take, drop, cond, ◌==◌, nat_le, refl, sym, ap, subst, ◌∙◌, arith, length-append, take-append-drop}
use Rattle.std.specs.List.{count_by}
use Rattle.std.specs.Str.{chars, IsUtf8}
use Rattle.std.specs.Char.{len_utf8}
use Rattle.std.proofs.lemmas.Grind.{common_steps}
use Rattle.std.proofs.lemmas.Bool.{lt-ltb}
use Rattle.std.proofs.lemmas.List.{nil_from_length}
use Rattle.std.proofs.lemmas.List.Sums.{sum_by-cons, count_by-le-length}
use Rattle.std.proofs.lemmas.Str.{chars-nil, chars_past_char, encodes-chars, len_utf8_bounds}
use Rattle.std.proofs.lemmas.Bool.Decides.{nat_tests}
use lib.Utf8.{encode}
use Rattle.plain_text.specs.Text.{byte_len, place_of}
use Rattle.rope_node.specs.declared.lengths.Lengths.{Lengths}
use Rattle.plain_text.proofs.callers.TextLemmas.{length-encodes}
use Rattle.rope_node.specs.Lengths.{changed, is_countable, lengths_of, lengths_sum, together, lf_count, utf16_len, wide_count, byte_len-append, count_by-append, same_lengths, utf16_len-append, IsChanged}

-- one character more
pub count-step : (p : ℕ → Bool) (bs rest : List ℕ) (c : ℕ) → IsUtf8 bs → bs ≡ encode c ++ rest → count_by p (chars bs) ≡ cond (p c) 1 0 + count_by p (chars rest)
count-step p bs rest c is_text split = ap (count_by p) (chars_past_char bs rest c is_text split) ∙ sum_by-cons (λ x. cond (p x) 1 0) c (chars rest)

-- no character is left
pub count-end : (p : ℕ → Bool) (bs : List ℕ) → length bs ≡ 0 → count_by p (chars bs) ≡ 0
count-end p bs none = rw (nil_from_length bs none, chars-nil) refl

-- a part of a text is no longer than the text
pub part-short : (text : List ℕ) (count from : ℕ) → byte_len (take count (drop from text)) ≤ byte_len text
part-short text count from =
    let whole : byte_len (take from text) + byte_len (drop from text) ≡ byte_len text = sym (byte_len-append (take from text) (drop from text)) ∙ ap byte_len (take-append-drop from text) in
    let rest : byte_len (take count (drop from text)) + byte_len (drop count (drop from text)) ≡ byte_len (drop from text) = sym (byte_len-append (take count (drop from text)) (drop count (drop from text))) ∙ ap byte_len (take-append-drop count (drop from text)) in
    omega arith

-- each character takes a byte or more
pub length-short : (text : List ℕ) → length text ≤ byte_len text
length-short [] = omega arith
length-short (c ∷ text) = omega (arith, length-short text, len_utf8_bounds c)

pub length-part : (text : List ℕ) (from to : ℕ) → from ≤ to → to ≤ length text → to - from ≡ length (take (to - from) (drop from text))
length-part text from to ordered inside = grind (arith, common_steps)

wide-short : (c : ℕ) → 1 + cond (nat_le 65536 c) 1 0 ≤ len_utf8 c
wide-short c = grind (arith, nat_tests)

utf16-short : (text : List ℕ) → utf16_len text ≤ byte_len text
utf16-short [] = omega arith
utf16-short (c ∷ text) =
    let rest : utf16_len text ≤ byte_len text = utf16-short text in
    let step : wide_count (c ∷ text) ≡ cond (nat_le 65536 c) 1 0 + wide_count text = sum_by-cons (λ x. cond (nat_le 65536 x) 1 0) c text in
    omega (arith, step, wide-short c)

-- a text of fewer than 2^64 bytes fits
pub text_fits : (text : List ℕ) → byte_len text < 2 ^ 64 → IsTrue (is_countable (lengths_of text))
text_fits text few = lt-ltb _ _ (omega (arith, few, utf16-short text, count_by-le-length (λ c. c == 10) text))

-- the lengths of a text of which a part was replaced
pub lengths-changed : (front gone back come : List ℕ) → lengths_of (front ++ (come ++ back)) ≡ changed (lengths_of (front ++ (gone ++ back))) (lengths_of gone) (lengths_of come)
lengths-changed front gone back come =
    same_lengths _ _ _ _ _ _ _ _
    (omega (arith, length-append front (come ++ back), length-append come back, length-append front (gone ++ back), length-append gone back))
    (omega (arith, byte_len-append front (come ++ back), byte_len-append come back, byte_len-append front (gone ++ back), byte_len-append gone back))
    (omega (arith, utf16_len-append front (come ++ back), utf16_len-append come back, utf16_len-append front (gone ++ back), utf16_len-append gone back))
    (omega (arith, count_by-append (λ c. c == 10) front (come ++ back), count_by-append (λ c. c == 10) come back, count_by-append (λ c. c == 10) front (gone ++ back), count_by-append (λ c. c == 10) gone back))

pub lf-short : (text : List ℕ) → lf_count text ≤ byte_len text
lf-short text = omega (arith, count_by-le-length (λ c. c == 10) text, length-short text)

-- a short text may lose a part, and another may come
pub may_change : (front gone back come : List ℕ) → byte_len (front ++ (gone ++ back)) ≤ 1024 → byte_len come ≤ 1024 → IsChanged (lengths_of (front ++ (gone ++ back))) (lengths_of gone) (lengths_of come)
may_change front gone back come short small = record {
  chars = omega (arith, length-append front (gone ++ back), length-append gone back);
  bytes = omega (arith, byte_len-append front (gone ++ back), byte_len-append gone back);
  utf16 = omega (arith, utf16_len-append front (gone ++ back), utf16_len-append gone back);
  lines = omega (arith, count_by-append (λ c. c == 10) front (gone ++ back), count_by-append (λ c. c == 10) gone back);
  few = lt-ltb _ _ (omega (arith, short, small, length-short (front ++ (gone ++ back)), utf16-short (front ++ (gone ++ back)), lf-short (front ++ (gone ++ back)), length-short come, utf16-short come, lf-short come));
}

-- the bytes of a text are those that its characters take
pub bytes-chars : (bs : List ℕ) → IsUtf8 bs → length bs ≡ byte_len (chars bs)
bytes-chars bs is_text = ap length (sym (encodes-chars bs is_text)) ∙ length-encodes (chars bs)

pub middle-short : (front middle back text : List ℕ) → text ≡ front ++ (middle ++ back) → byte_len text ≤ 1024 → byte_len middle ≤ 1024
middle-short front middle back text whole short =
    omega (arith, ap byte_len whole, byte_len-append front (middle ++ back), byte_len-append middle back)

pub front-short : (text : List ℕ) (n : ℕ) → byte_len (take n text) ≤ byte_len text
front-short text n = omega (arith, byte_len-append (take n text) (drop n text), ap byte_len (take-append-drop n text))

pub back-short : (text : List ℕ) (n : ℕ) → byte_len (drop n text) ≤ byte_len text
back-short text n = omega (arith, byte_len-append (take n text) (drop n text), ap byte_len (take-append-drop n text))

-- a text without a part is no longer than the text
pub without-short : (text : List ℕ) (from n : ℕ) → byte_len (take from text ++ drop n (drop from text)) ≤ byte_len text
without-short text from n =
    omega (arith, byte_len-append (take from text) (drop n (drop from text)), byte_len-append (take from text) (drop from text), ap byte_len (take-append-drop from text), back-short (drop from text) n)

pub count-le-length : (p : ℕ → Bool) (text : List ℕ) → count_by p text ≤ length text
count-le-length p text = count_by-le-length p text

-- where each character takes one byte, a place is a gap
pub plain-place : (text : List ℕ) (gap : ℕ) → length text ≡ byte_len text → gap ≤ length text → place_of text gap ≡ gap
plain-place text zero plain inside = refl
plain-place [] (suc gap) plain inside = absurd (omega arith)
plain-place (c ∷ text) (suc gap) plain inside =
    let rest : length text ≡ byte_len text = omega (arith, len_utf8_bounds c, length-short text) in
    omega (arith, len_utf8_bounds c, length-short text, plain-place text gap rest (omega arith))

-- the lengths of two short texts fit together
pub both_fit : (left right : List ℕ) → byte_len left + byte_len right ≤ 1024 → IsTrue (is_countable (together (lengths_of left) (lengths_of right)))
both_fit left right short =
    let fit : IsTrue (is_countable (lengths_of (left ++ right))) = text_fits (left ++ right) (omega (arith, byte_len-append left right)) in
    subst (λ (l : Lengths). IsTrue (is_countable l)) (lengths_sum.joined left right) fit

-- A text in which each character takes one byte: its bytes are its characters, and it is cut by bytes and by LFs.
use Rattle.std.proofs.Common.{◌≡◌, ℕ, zero, suc, ◌+◌, ◌-◌, ◌^◌, ◌<◌, ◌≤◌, Bool, true, false, IsTrue, List, [], ◌∷◌, ◌++◌, length, take, drop, append_assoc, refl, sym, ap, ◌∙◌, arith, length-append}
use Rattle.std.specs.Prelude.{cond, nat_le, ◌==◌}
use Rattle.std.specs.Char.{len_utf8}
use Rattle.std.specs.Str.{encode_utf8_all, IsAscii}
use Rattle.std.proofs.lemmas.Bool.{eqb-true}
use Rattle.std.proofs.lemmas.Bool.Decides.{nat_tests}
use Rattle.std.proofs.lemmas.List.{append-nil, length-take-le, take-append-drop}
use Rattle.std.proofs.lemmas.List.Sums.{sum_by-cons}
use Rattle.std.proofs.lemmas.Str.{encodes-IsAscii, len_utf8_bounds}
use Rattle.std.proofs.lemmas.Str.Ascii.{IsAscii-cons, IsAscii-nil}
use Rattle.memchr.specs.Find.{Nowhere, Passes, is_byte}
use Rattle.plain_text.specs.Text.{byte_len}
use Rattle.rope_node.specs.declared.lengths.Lengths.{Lengths}
use Rattle.rope_node.specs.Lengths.{is_countable, lengths_of, lf_count, together, wide_count}
use Rattle.rope_node.proofs.ForCallers.{length-short}
use Rattle.rope_metrics.specs.declared.measure.Measure.{Measure}
use Rattle.rope_metrics.specs.declared.measure.Measure.TheVariants.{Chars, Bytes, Utf16, Lines}
use Rattle.rope_metrics.specs.Measure.{is_plain, long, long_by, IsCut}
use Rattle.rope_metrics.specs.Inner.{IsConvertedIn, IsPastLf}
use Rattle.rope_metrics.proofs.OffsetLemmas.{long-append, long_by-fits, long_by-together, prefix}

one-byte : (c : ℕ) → len_utf8 c ≡ 1 → c < 128
one-byte c short = grind (arith, nat_tests)

one-unit : (c : ℕ) → len_utf8 c ≡ 1 → cond (nat_le 65536 c) 1 0 ≤ 0
one-unit c short = grind (arith, nat_tests)

-- the first character takes one byte, and so does each behind it
plain-first : (c : ℕ) (text : List ℕ) → byte_len (c ∷ text) ≡ length (c ∷ text) → len_utf8 c ≡ 1
plain-first c text plain = omega (arith, plain, len_utf8_bounds c, length-short text)

plain-rest : (c : ℕ) (text : List ℕ) → byte_len (c ∷ text) ≡ length (c ∷ text) → byte_len text ≡ length text
plain-rest c text plain = omega (arith, plain, len_utf8_bounds c, length-short text)

plain-ascii : (text : List ℕ) → byte_len text ≡ length text → IsAscii text
plain-ascii [] plain = IsAscii-nil
plain-ascii (c ∷ text) plain =
    IsAscii-cons c text (one-byte c (plain-first c text plain)) (plain-ascii text (plain-rest c text plain))

-- the bytes are the characters
pub plain-bytes : (text : List ℕ) → byte_len text ≡ length text → encode_utf8_all text ≡ text
plain-bytes text plain = encodes-IsAscii text (plain-ascii text plain)

-- none takes two units of UTF-16
plain-wide : (text : List ℕ) → byte_len text ≡ length text → wide_count text ≡ 0
plain-wide [] plain = refl
plain-wide (c ∷ text) plain =
    omega (
      arith,
      sum_by-cons (λ x. cond (nat_le 65536 x) 1 0) c text,
      one-unit c (plain-first c text plain),
      plain-wide text (plain-rest c text plain),
    )

module _ (own : List ℕ) (plain : byte_len own ≡ length own) where
  -- so is each front of it
  pub plain-front : (seen rest : List ℕ) → own ≡ seen ++ rest → byte_len seen ≡ length seen
  plain-front seen rest cut =
      omega (arith, plain, ap byte_len cut, ap length cut, long-append Bytes seen rest, length-append seen rest, length-short seen, length-short rest)

  pub plain-long : (m : Measure) → is_plain m ≡ true → (seen rest : List ℕ) → own ≡ seen ++ rest → long m seen ≡ length seen
  plain-long Chars is seen rest cut = refl
  plain-long Bytes is seen rest cut = plain-front seen rest cut
  plain-long Utf16 is seen rest cut = omega (arith, plain-wide seen (plain-front seen rest cut))
  plain-long Lines is seen rest cut = absurd cc

  pub plain-whole : (m : Measure) → is_plain m ≡ true → long m own ≡ length own
  plain-whole m is = plain-long m is own [] (sym (append-nil own))

  -- a cut by bytes
  pub plain-cut : (m : Measure) → is_plain m ≡ true → (at : ℕ) (front back : List ℕ) → at ≤ long m own → front ≡ take at own → back ≡ drop at own →
      IsCut m own at front back
  plain-cut m is at front back inside front_is back_is =
      let cut : own ≡ front ++ back = rw (front_is, back_is) (sym (take-append-drop at own)) in
      let short : length front ≡ at = ap length front_is ∙ length-take-le at own (omega (arith, inside, plain-whole m is)) in
      record {
        cut = cut;
        ends = plain-long m is front back cut ∙ short;
        first = λ shorter longer c parts.
            let before : own ≡ shorter ++ ((c ∷ longer) ++ back) = cut ∙ ap (λ xs. xs ++ back) parts ∙ append_assoc shorter (c ∷ longer) back in
            omega (arith, short, ap length parts, length-append shorter (c ∷ longer), plain-long m is shorter ((c ∷ longer) ++ back) before);
      }

-- the one that is not plain counts LFs
pub lines-long : (m : Measure) → is_plain m ≡ false → (text : List ℕ) → long m text ≡ lf_count text
lines-long Chars is text = absurd cc
lines-long Bytes is text = absurd cc
lines-long Utf16 is text = absurd cc
lines-long Lines is text = refl

pub lines-cut : (m : Measure) → is_plain m ≡ false → (text : List ℕ) (at : ℕ) (front back : List ℕ) → IsCut Lines text at front back → IsCut m text at front back
lines-cut Chars is text at front back cut = absurd cc
lines-cut Bytes is text at front back cut = absurd cc
lines-cut Utf16 is text at front back cut = absurd cc
lines-cut Lines is text at front back cut = cut

-- ---- the first LF

counts-none : (t : Bool) → (t ≡ true → ⊥) → cond t 1 0 ≤ 0
counts-none true none = absurd (none refl)
counts-none false none = omega arith

lf_count-cons : (b : ℕ) (text : List ℕ) → lf_count (b ∷ text) ≡ cond (b == 10) 1 0 + lf_count text
lf_count-cons b text = sum_by-cons (λ x. cond (x == 10) 1 0) b text

pub no_lf : (text : List ℕ) → Nowhere (Passes (is_byte 10) text) 0 (length text) → lf_count text ≡ 0
no_lf [] none = refl
no_lf (b ∷ text) none =
    omega (
      arith,
      lf_count-cons b text,
      counts-none (b == 10) (none 0 (omega arith) (omega arith)),
      no_lf text (λ k low high. none (suc k) (omega arith) (omega (arith, high))),
    )

pub past_lf : (text : List ℕ) (at : ℕ) → at < length text → Nowhere (Passes (is_byte 10) text) 0 at → Passes (is_byte 10) text at → IsPastLf text (drop (at + 1) text)
past_lf [] at within none here = absurd (omega (arith, within))
past_lf (b ∷ text) zero within none here = record {
  front = [];
  cut = ap (λ c. c ∷ text) (eqb-true b 10 here);
  none = refl;
}
past_lf (b ∷ text) (suc at) within none here =
    let later = past_lf text at (omega (arith, within)) (λ k low high. none (suc k) (omega arith) (omega (arith, high))) here in
    let less : suc at + 1 ≡ suc (at + 1) = omega arith in
    record {
      front = b ∷ later.front;
      cut = ap (λ xs. b ∷ xs) later.cut ∙ ap (λ n. (b ∷ (later.front ++ 10 ∷ [])) ++ drop n (b ∷ text)) (sym less);
      none = omega (arith, lf_count-cons b later.front, counts-none (b == 10) (none 0 (omega arith) (omega arith)), later.none);
    }

-- ---- one LF after the other

-- so many LFs are left to be passed, of which the rest of the text has the first
pub record IsPassing (text : List ℕ) (number left : ℕ) (rest : List ℕ) : Type 0 where
  pub seen : List ℕ
  pub cut : text ≡ seen ++ rest
  pub count : lf_count seen + left ≡ number
  pub first : (shorter longer : List ℕ) (c : ℕ) → seen ≡ shorter ++ c ∷ longer → lf_count shorter < lf_count seen

pub passing-start : (text : List ℕ) (number : ℕ) → IsPassing text number number text
passing-start text number = record {
  seen = [];
  cut = refl;
  count = omega arith;
  first = λ shorter longer c parts. absurd (omega (arith, ap length parts, length-append shorter (c ∷ longer)));
}

module _ (text : List ℕ) (number left : ℕ) (rest : List ℕ) (passing : IsPassing text number left rest) where
  pub passing-some : 0 < left → number ≤ lf_count text → 0 < lf_count rest
  passing-some some inside = omega (arith, some, inside, passing.count, ap lf_count passing.cut, long-append Lines passing.seen rest)

  pub passing-next : (later : List ℕ) → 0 < left → IsPastLf rest later → IsPassing text number (left - 1) later
  passing-next later some past =
      let upto : List ℕ = passing.seen ++ past.front in
      let lines : lf_count (upto ++ 10 ∷ []) ≡ lf_count upto + 1 = long-append Lines upto (10 ∷ []) in
      let inner : lf_count upto ≡ lf_count passing.seen = omega (arith, long-append Lines passing.seen past.front, past.none) in
      record {
        seen = upto ++ 10 ∷ [];
        cut = passing.cut ∙ ap (λ xs. passing.seen ++ xs) past.cut ∙ regrouped passing.seen past.front (10 ∷ []) later;
        count = omega (arith, some, passing.count, lines, inner);
        first = λ shorter longer c parts.
            let below = prefix upto 10 shorter longer c parts in
            omega (arith, lines, ap lf_count below.1, long-append Lines shorter below.0);
      }
    where
      regrouped : (a b c d : List ℕ) → a ++ ((b ++ c) ++ d) ≡ ((a ++ b) ++ c) ++ d
      regrouped a b c d = simp append_assoc

  pub passing-end : left ≡ 0 → (front back : List ℕ) → front ≡ take (length text - length rest) text → back ≡ drop (length text - length rest) text →
      IsCut Lines text number front back
  passing-end none front back front_is back_is =
      let size : length text - length rest ≡ length passing.seen = omega (arith, ap length passing.cut, length-append passing.seen rest) in
      let is_front : front ≡ passing.seen = front_is ∙ ap (λ n. take n text) size ∙ ap (take (length passing.seen)) passing.cut ∙ take-front passing.seen rest in
      let is_back : back ≡ rest = back_is ∙ ap (λ n. drop n text) size ∙ ap (drop (length passing.seen)) passing.cut ∙ drop-front passing.seen rest in
      rw (is_front, is_back)
      record {
        cut = passing.cut;
        ends = omega (arith, passing.count, none);
        first = λ shorter longer c parts. omega (arith, passing.first shorter longer c parts, passing.count, none);
      }
    where
      take-front : (xs ys : List ℕ) → take (length xs) (xs ++ ys) ≡ xs
      take-front [] ys = refl
      take-front (x ∷ xs) ys = ap (λ zs. x ∷ zs) (take-front xs ys)

      drop-front : (xs ys : List ℕ) → drop (length xs) (xs ++ ys) ≡ ys
      drop-front [] ys = refl
      drop-front (x ∷ xs) ys = drop-front xs ys

-- ---- a leaf that is cut by a measure, and its front by another

module _ (from to : Measure) (before : Lengths) (own : List ℕ) (at : ℕ) (passed : long_by from before < at) (front back : List ℕ)
    (cut : IsCut from own (at - long_by from before) front back) where
  pub cut-converted : IsConvertedIn from to before own at (long_by to before + long to front)
  cut-converted = record {
    seen = front;
    rest = back;
    cut = cut.cut;
    ends = omega (arith, passed, cut.ends);
    first = λ shorter longer c parts. omega (arith, passed, cut.first shorter longer c parts);
    is = refl;
  }

  pub cut-fits : IsTrue (is_countable (together before (lengths_of own))) → long_by to before + long to front < 2 ^ 64
  cut-fits fit =
      omega (
        arith,
        ap (long to) cut.cut,
        long-append to front back,
        long_by-together to before (lengths_of own),
        long_by-fits to (together before (lengths_of own)) fit,
      )

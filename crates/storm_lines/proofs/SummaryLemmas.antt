-- The lines of a summary give their numbers back.
use Rattle.std.proofs.Common.{◌≡◌, ℕ, zero, suc, ◌+◌, ◌-◌, ◌*◌, ◌^◌, ◌<◌, true, false, List, [], ◌∷◌, ◌++◌, length, take, map, codes, decimal, Option, Some, None, refl, ap, sym, ◌∙◌, subst, append_assoc, length-append, arith}
use Rattle.std.proofs.lemmas.Fmt.{decimal-digits_of, decimal_digit}
use Rattle.std.proofs.lemmas.Int.Digits.{all_below_base_digits_of, number_after_ge, number_digits_of}
use Rattle.std.proofs.lemmas.Bool.Decides.{nat_tests}
use Rattle.std.specs.Int.Digits.{digits_of, number_from_digits_after, AllBelowBase}
use Rattle.std.proofs.Math.Seq.{get_or-append_seam, take-append_seam}
use Rattle.std.specs.Prelude.{if◌then◌else◌, ◌==◌, ◌||◌, option_and_then, slice_index}
use Rattle.std.specs.List.{AllByRecursion, list_any}
use Rattle.std.specs.Str.{bytes_eq}
use Rattle.case_lines.specs.Lines.{after_word, content_of, first_word}
use Rattle.case_lines.specs.Number.{number_of, with_digit, with_digits}
use Rattle.storm_lines.specs.declared.summary.Summary.{Summary}
use Rattle.storm_lines.specs.Summary.{named_line, number_named, summary_from, summary_lines, summary_of_lines}
use Rattle.storm_lines.specs.Laws.{SummariesReadBack}
use Rattle.storm_lines.proofs.WholeLemmas.{HasNoEnd, IsWhole, IsWhole-text, lines_of-whole, neither}

-- ---- a number in decimal

with_digit-digit : (number digit : ℕ) → digit < 10 → number * 10 + digit < 2 ^ 64 → with_digit number (48 + digit) ≡ Some (number * 10 + digit)
with_digit-digit number digit is fits = grind (arith, nat_tests)

with_digits-all : (number : ℕ) (digits : List ℕ) → AllBelowBase 10 digits → number_from_digits_after 10 number digits < 2 ^ 64 →
    with_digits number (map (λ d. 48 + d) digits) ≡ Some (number_from_digits_after 10 number digits)
with_digits-all number [] below fits = refl
with_digits-all number (digit ∷ digits) below fits =
    let next : number * 10 + digit < 2 ^ 64 = omega (arith, fits, number_after_ge 10 (number * 10 + digit) digits (omega arith)) in
    ap (λ more. option_and_then (λ n. with_digits n (map (λ d. 48 + d) digits)) more) (with_digit-digit number digit below.0 next) ∙
    with_digits-all (number * 10 + digit) digits below.1 fits

-- a number by its digits
record IsDecimal (n : ℕ) : Type 0 where
  first : ℕ
  others : List ℕ
  is : decimal n ≡ map (λ d. 48 + d) (first ∷ others)
  below : AllBelowBase 10 (first ∷ others)
  value : number_from_digits_after 10 0 (first ∷ others) ≡ n

in_digits : (n : ℕ) → n < 2 ^ 64 → IsDecimal n
in_digits zero small = record { first = 0; others = []; is = decimal_digit 0 (omega arith); below = (omega arith, tt); value = refl }
in_digits (suc n) small =
    by (digits_of 10 (suc n)) (decimal-digits_of (suc n) (omega arith) small) (all_below_base_digits_of 10 (suc n) (omega arith))
    (number_digits_of 10 (suc n) (omega arith))
  where
    by : (digits : List ℕ) → decimal (suc n) ≡ map (λ d. 48 + d) digits → AllBelowBase 10 digits →
        number_from_digits_after 10 0 digits ≡ suc n → IsDecimal (suc n)
    by [] is below value = absurd (omega (arith, value))
    by (first ∷ others) is below value = record { first = first; others = others; is = is; below = below; value = value }

number_of-decimal : (n : ℕ) → n < 2 ^ 64 → number_of (decimal n) ≡ Some n
number_of-decimal n small =
    let digits = in_digits n small in
    ap number_of digits.is ∙
    with_digits-all 0 (digits.first ∷ digits.others) digits.below (omega (arith, digits.value, small)) ∙ ap Some digits.value

-- ---- a line that names a number

no_end-append : (front back : List ℕ) → HasNoEnd front → HasNoEnd back → HasNoEnd (front ++ back)
no_end-append [] back none_first none = none
no_end-append (b ∷ front) back none_first none =
    let parts = neither (b == 10) (list_any (λ c. c == 10) front) none_first in
    ap (λ test. test || list_any (λ c. c == 10) (front ++ back)) parts.0 ∙ no_end-append front back parts.1 none

no_end-digits : (digits : List ℕ) → HasNoEnd (map (λ d. 48 + d) digits)
no_end-digits [] = refl
no_end-digits (digit ∷ digits) =
    let other : ((48 + digit) == 10) ≡ false = grind (arith, nat_tests) in
    ap (λ test. test || list_any (λ c. c == 10) (map (λ d. 48 + d) digits)) other ∙ no_end-digits digits

no_end-decimal : (n : ℕ) → n < 2 ^ 64 → HasNoEnd (decimal n)
no_end-decimal n small =
    let digits = in_digits n small in
    ap (list_any (λ b. b == 10)) digits.is ∙ no_end-digits (digits.first ∷ digits.others)

-- the line without its LF
content_of-line : (text : List ℕ) → content_of (text ++ 10 ∷ []) ≡ text
content_of-line text =
    let line = text ++ 10 ∷ [] in
    let last : length line - 1 ≡ length text = omega (arith, length-append text (10 ∷ [])) in
    ap (λ k. if slice_index line k == 10 then take k line else line) last ∙
    ap (λ b. if b == 10 then take (length text) line else line) (get_or-append_seam text 10 [] 0) ∙ take-append_seam text (10 ∷ [])

-- a line whose name is found again
record IsFound (name : List ℕ) (n : ℕ) : Type 0 where
  test : bytes_eq (first_word (named_line name n)) name ≡ true
  rest : after_word (name ++ 32 ∷ decimal n) ≡ decimal n
  none : HasNoEnd name

named_line-parts : (name : List ℕ) (n : ℕ) → named_line name n ≡ (name ++ 32 ∷ decimal n) ++ 10 ∷ []
named_line-parts name n = ap (λ text. text ++ 10 ∷ []) (append_assoc name (32 ∷ []) (decimal n))

number_back : (name : List ℕ) (n : ℕ) → n < 2 ^ 64 → IsFound name n → number_named name (named_line name n) ≡ Some n
number_back name n small found =
    ap (λ test. if test then number_of (after_word (content_of (named_line name n))) else None) found.test ∙
    ap (λ line. number_of (after_word (content_of line))) (named_line-parts name n) ∙
    ap (λ content. number_of (after_word content)) (content_of-line (name ++ 32 ∷ decimal n)) ∙ ap number_of found.rest ∙
    number_of-decimal n small

whole_named : (name : List ℕ) (n : ℕ) → n < 2 ^ 64 → IsFound name n → IsWhole (named_line name n)
whole_named name n small found =
    subst IsWhole (sym (named_line-parts name n))
    (IsWhole-text (name ++ 32 ∷ decimal n) (no_end-append name (32 ∷ decimal n) found.none (no_end-decimal n small)))

entries_found : (n : ℕ) → IsFound (codes "entries") n
entries_found n = record { test = refl; rest = refl; none = refl }

revision_found : (n : ℕ) → IsFound (codes "revision") n
revision_found n = record { test = refl; rest = refl; none = refl }

characters_found : (n : ℕ) → IsFound (codes "characters") n
characters_found n = record { test = refl; rest = refl; none = refl }

kept_found : (n : ℕ) → IsFound (codes "kept") n
kept_found n = record { test = refl; rest = refl; none = refl }

lines_found : (n : ℕ) → IsFound (codes "lines") n
lines_found n = record { test = refl; rest = refl; none = refl }

valid_found : (n : ℕ) → IsFound (codes "valid") n
valid_found n = record { test = refl; rest = refl; none = refl }

-- ---- the summary

summary_from-six : (s : Summary) (entries revision characters kept lines valid : Option ℕ) → entries ≡ Some s.entries →
    revision ≡ Some s.revision → characters ≡ Some s.characters → kept ≡ Some s.kept → lines ≡ Some s.lines → valid ≡ Some s.valid →
    summary_from entries revision characters kept lines valid ≡ Some s
summary_from-six s entries revision characters kept lines valid a b c d e f =
    ap (λ o. summary_from o revision characters kept lines valid) a ∙
    ap (λ o. summary_from (Some s.entries) o characters kept lines valid) b ∙
    ap (λ o. summary_from (Some s.entries) (Some s.revision) o kept lines valid) c ∙
    ap (λ o. summary_from (Some s.entries) (Some s.revision) (Some s.characters) o lines valid) d ∙
    ap (λ o. summary_from (Some s.entries) (Some s.revision) (Some s.characters) (Some s.kept) o valid) e ∙
    ap (λ o. summary_from (Some s.entries) (Some s.revision) (Some s.characters) (Some s.kept) (Some s.lines) o) f

pub summaries_read_back : SummariesReadBack
summaries_read_back s fair =
    let whole : AllByRecursion IsWhole (summary_lines s) = (
      whole_named (codes "entries") s.entries fair.entries (entries_found s.entries),
      (
        whole_named (codes "revision") s.revision fair.revision (revision_found s.revision),
        (
          whole_named (codes "characters") s.characters fair.characters (characters_found s.characters),
          (
            whole_named (codes "kept") s.kept fair.kept (kept_found s.kept),
            (
              whole_named (codes "lines") s.lines fair.lines (lines_found s.lines),
              (
                whole_named (codes "valid") s.valid fair.valid (valid_found s.valid),
                tt,
              ),
            ),
          ),
        ),
      ),
    ) in
    ap summary_of_lines (lines_of-whole (summary_lines s) whole) ∙
    summary_from-six s (number_named (codes "entries") (named_line (codes "entries") s.entries))
    (number_named (codes "revision") (named_line (codes "revision") s.revision))
    (number_named (codes "characters") (named_line (codes "characters") s.characters))
    (number_named (codes "kept") (named_line (codes "kept") s.kept)) (number_named (codes "lines") (named_line (codes "lines") s.lines))
    (number_named (codes "valid") (named_line (codes "valid") s.valid))
    (number_back (codes "entries") s.entries fair.entries (entries_found s.entries))
    (number_back (codes "revision") s.revision fair.revision (revision_found s.revision))
    (number_back (codes "characters") s.characters fair.characters (characters_found s.characters))
    (number_back (codes "kept") s.kept fair.kept (kept_found s.kept)) (number_back (codes "lines") s.lines fair.lines (lines_found s.lines))
    (number_back (codes "valid") s.valid fair.valid (valid_found s.valid))

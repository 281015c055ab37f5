-- The triples of spans by the places of their ends.
use Rattle.std.proofs.Common.{◌≡◌, ⊎_elim, ℕ, zero, suc, Bool, true, false, ◌+◌, ◌<◌, ◌≤◌, List, [], ◌∷◌, length, get_or, map, drop, ltb, refl, ap, subst, ◌∙◌, arith, ◌-◌, pos, ◌-ℤ◌}
use Rattle.std.specs.Prelude.{if◌then◌else◌}
use Rattle.std.specs.Ordering.{is_lt}
use Rattle.std.specs.List.{AllByRecursion, Contains}
use Rattle.std.specs.List.Sorted.{IsNonDecreasing, IsPermutation, IsPartitionPoint}
use Rattle.std.proofs.lemmas.Bool.{cases_lt, ltb-true, ltb-false}
use Rattle.std.proofs.lemmas.List.{get_or-map, get_or_default}
use Rattle.std.proofs.lemmas.List.Sorted.{Contains-permutation, IsPermutation-sym}
use Rattle.plain_text.specs.Text.{place_of}
use Rattle.plain_edits.specs.declared.style.Span.{Span}
use Rattle.plain_screen.specs.declared.screen.Triple.{Triple}
use Rattle.span_runs.specs.Places.{HasEnds, RiseUpTo, ends_of}
use Rattle.span_runs.specs.Spans.{span_cmp, with_span, sorted_spans}
use Rattle.span_runs.specs.Triples.{LieInLine, triples_after}

-- ---- the ends of spans, in rising order

has_first : (x : ℕ) (xs : List ℕ) → Contains (x ∷ xs) x
has_first x xs = (0, omega arith, refl)

has_later : (x y : ℕ) (xs : List ℕ) → Contains xs x → Contains (y ∷ xs) x
has_later x y xs (k, inside, is) = (suc k, omega arith, is)

ends-in : (gaps : List ℕ) (spans : List Span) → ((x : ℕ) → Contains (ends_of spans) x → Contains gaps x) → HasEnds gaps spans
ends-in gaps [] all = tt
ends-in gaps (span ∷ spans) all =
    let others = ends_of spans in (
      (all span.start (has_first span.start (span.end ∷ others)), all span.end (has_later span.end span.start (span.end ∷ others) (has_first span.end others))),
      ends-in gaps spans (λ x has. all x (has_later x span.start (span.end ∷ others) (has_later x span.end others has))),
    )

-- a sort of them has them all
pub HasEnds-sorted : (gaps : List ℕ) (spans : List Span) → IsPermutation (ends_of spans) gaps → HasEnds gaps spans
HasEnds-sorted gaps spans same = ends-in gaps spans (λ x has. Contains-permutation (ends_of spans) gaps x same has)

ends-within : (last : ℕ) (spans : List Span) → LieInLine last spans → (x : ℕ) → Contains (ends_of spans) x → x ≤ last
ends-within last [] lie x (k, inside, is) = absurd (omega arith)
ends-within last (span ∷ spans) lie x (zero, inside, is) = omega (arith, lie.0.0, lie.0.1, is)
ends-within last (span ∷ spans) lie x (suc zero, inside, is) = omega (arith, lie.0.1, is)
ends-within last (span ∷ spans) lie x (suc (suc k), inside, is) = ends-within last spans lie.1 x (k, omega arith, is)

rise-up : (last low : ℕ) (gaps : List ℕ) → IsNonDecreasing (low ∷ gaps) → ((x : ℕ) → Contains gaps x → x ≤ last) → RiseUpTo low last gaps
rise-up last low [] rise few = tt
rise-up last low (gap ∷ gaps) rise few = (
  rise 0 1 0 (omega arith) (omega arith),
  few gap (has_first gap gaps),
  rise-up last gap gaps (λ i j d le inside. rise (suc i) (suc j) d (omega arith) (omega arith)) (λ x has. few x (has_later x gap gaps has)),
)

from_zero : (gaps : List ℕ) → IsNonDecreasing gaps → IsNonDecreasing (0 ∷ gaps)
from_zero gaps rise zero j d le inside = omega arith
from_zero gaps rise (suc i) zero d le inside = absurd (omega arith)
from_zero gaps rise (suc i) (suc j) d le inside = rise i j d (omega arith) (omega arith)

-- and rises, up to the end of a line in which the spans lie
pub RiseUpTo-sorted : (last : ℕ) (gaps : List ℕ) (spans : List Span) → LieInLine last spans → IsPermutation (ends_of spans) gaps → IsNonDecreasing gaps →
    RiseUpTo 0 last gaps
RiseUpTo-sorted last gaps spans lie same rise =
    rise-up last 0 gaps (from_zero gaps rise)
    (λ x has. ends-within last spans lie x (Contains-permutation gaps (ends_of spans) x (IsPermutation-sym (ends_of spans) gaps same) has))

-- ---- a gap among them

pub record IsFoundAt (gaps : List ℕ) (gap at : ℕ) : Type 0 where
  pub inside : at < length gaps
  pub is : get_or gaps at 0 ≡ gap

-- where a search by halves stops stands the gap, if it is there
pub found-at : (gaps : List ℕ) (gap at : ℕ) → IsNonDecreasing gaps → Contains gaps gap →
    IsPartitionPoint (λ y. ltb y gap ≡ true) (λ y. ltb y gap ≡ false) gaps at → IsFoundAt gaps gap at
found-at gaps gap at rise (k, within, is) (below, above) = ⊎_elim
    (λ (before : k < at). let less = ltb-true (get_or gaps k gap) gap (below k gap (omega arith) before) in absurd (omega (arith, less, is)))
    (λ (past : at ≤ k).
    let inside : at < length gaps = omega arith in
    let least = ltb-false (get_or gaps at gap) gap (above at gap (omega arith) inside) in
    let most = rise at k gap past within in
    let own = get_or_default gaps at gap 0 inside in
    record { inside = inside; is = omega (arith, least, most, own, is) })
    (cases_lt k at)

-- its place
pub place-found : (line gaps places : List ℕ) (gap at : ℕ) → IsFoundAt gaps gap at → places ≡ map (place_of line) gaps → get_or places at 0 ≡ place_of line gap
place-found line gaps places gap at found is =
    ap (λ (ps : List ℕ). get_or ps at 0) is ∙ get_or-map (place_of line) gaps at 0 0 found.inside ∙ ap (place_of line) found.is

-- of spans with all their ends the one with an index
pub HasEnds-at : (gaps : List ℕ) (i : ℕ) (spans : List Span) (d : Span) → i < length spans → HasEnds gaps spans →
    Contains gaps (get_or spans i d).start × Contains gaps (get_or spans i d).end
HasEnds-at gaps i [] d inside all = absurd (omega arith)
HasEnds-at gaps zero (span ∷ spans) d inside all = all.0
HasEnds-at gaps (suc i) (span ∷ spans) d inside all = HasEnds-at gaps i spans d (omega arith) all.1

-- ---- triples

-- the triple of a span, where the span before it ends at this byte
abbrev pub triple_of : List ℕ → ℕ → Span → Triple
triple_of line end span =
    record {
      start = pos (place_of line span.start) -ℤ pos end;
      len = place_of line span.end - place_of line span.start;
      id = span.style;
    }

triples_after-suc : (line : List ℕ) (end i : ℕ) (spans : List Span) (d : Span) → i < length spans → triples_after line end (drop i spans) ≡
    triple_of line end (get_or spans i d) ∷ triples_after line (place_of line (get_or spans i d).end) (drop (suc i) spans)
triples_after-suc line end i [] d inside = absurd (omega arith)
triples_after-suc line end zero (span ∷ spans) d inside = refl
triples_after-suc line end (suc i) (span ∷ spans) d inside = triples_after-suc line end i spans d (omega arith)

-- the triples of the spans from an index on
pub triples_after-step : (line : List ℕ) (end i : ℕ) (spans : List Span) (d : Span) → i < length spans → triples_after line end (drop i spans) ≡
    triple_of line end (get_or spans i d) ∷ triples_after line (place_of line (get_or spans i d).end) (drop (i + 1) spans)
triples_after-step line end i spans d inside =
    triples_after-suc line end i spans d inside ∙
    ap (λ n. triple_of line end (get_or spans i d) ∷ triples_after line (place_of line (get_or spans i d).end) (drop n spans))
    (let next : suc i ≡ i + 1 = omega arith in next)

LieInLine-suc : (len i : ℕ) (spans : List Span) (d : Span) → i < length spans → LieInLine len (drop i spans) →
    ((get_or spans i d).start ≤ (get_or spans i d).end) × ((get_or spans i d).end ≤ len) × LieInLine len (drop (suc i) spans)
LieInLine-suc len i [] d inside lie = absurd (omega arith)
LieInLine-suc len zero (span ∷ spans) d inside lie = (lie.0.0, lie.0.1, lie.1)
LieInLine-suc len (suc i) (span ∷ spans) d inside lie = LieInLine-suc len i spans d (omega arith) lie

-- of spans in a line the one with an index, and those after it
pub LieInLine-at : (len i : ℕ) (spans : List Span) (d : Span) → i < length spans → LieInLine len (drop i spans) →
    ((get_or spans i d).start ≤ (get_or spans i d).end) × ((get_or spans i d).end ≤ len) × LieInLine len (drop (i + 1) spans)
LieInLine-at len i spans d inside lie =
    let at = LieInLine-suc len i spans d inside lie in
    (at.0, at.1, subst (λ n. LieInLine len (drop n spans)) (let next : suc i ≡ i + 1 = omega arith in next) at.2)

all-with_span : (P : Span → Type 0) (span : Span) (spans : List Span) → P span → AllByRecursion P spans → AllByRecursion P (with_span span spans)
all-with_span P span [] one all = (one, tt)
all-with_span P span (first ∷ spans) one all = by (is_lt (span_cmp first span)) (all-with_span P span spans one all.1)
  where
    by : (b : Bool) → AllByRecursion P (with_span span spans) → AllByRecursion P (if b then first ∷ with_span span spans else span ∷ first ∷ spans)
    by true rest = (all.0, rest)
    by false rest = (one, all)

-- what holds of each span holds of each of them in order
pub all-sorted_spans : (P : Span → Type 0) (spans : List Span) → AllByRecursion P spans → AllByRecursion P (sorted_spans spans)
all-sorted_spans P [] all = tt
all-sorted_spans P (span ∷ spans) all = all-with_span P span (sorted_spans spans) all.0 (all-sorted_spans P spans all.1)

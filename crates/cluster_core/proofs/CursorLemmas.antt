-- What a cursor's search says of the boundaries of a line.
use Rattle.std.proofs.Common.{◌≡◌, ◌↔◌, ⊎_elim, ℕ, ◌+◌, ◌<◌, ◌≤◌, true, false, List, length, Some, None, IsNone, IfSome, refl, subst, arith}
use Rattle.std.specs.Prelude.{Option}
use Rattle.std.specs.Str.{IsUtf8, IsCharBoundary}
use Rattle.std.proofs.lemmas.Bool.{cases_lt, both_ways}
use Rattle.std.proofs.lemmas.Str.{IsCharBoundary-start, IsCharBoundary-end}
use Rattle.unicode_segmentation.specs.Cursor.{cursor_offset, cursor_is_extended, cursor_is_resuming, IsCursorOn, IsNextBoundary, IsPrevBoundary}
use Rattle.unicode_segmentation.specs.Grapheme.{is_grapheme_break}
use Rattle.unicode_segmentation.specs.Segments.{breaks_at}
use Rattle.unicode_segmentation.proofs.CursorLemmas.{none_from_IsNone}
use Rattle.unicode_segmentation.specs.declared.grapheme.cursor.GraphemeCursor.{GraphemeCursor}
use Rattle.cluster_core.specs.Boundaries.{IsLeastAbove, IsGreatestBelow, HasNoneAbove, HasNoneBelow}
use Rattle.cluster_core.proofs.BoundaryLemmas.{IsBreakOf-from_boundary, IsBoundary-from_break, IsBoundary-end, boundary-le-length}

-- a search of a line that begins at a place where a character begins, the nearest one on its side of the offset `at`
pub record IsFresh (cursor : GraphemeCursor) (place : ℕ) : Type 0 where
  pub offset : cursor_offset cursor ≡ place
  pub is_extended : cursor_is_extended cursor ≡ true
  pub is_resuming : cursor_is_resuming cursor ≡ false

module _ (line : List ℕ) (u : IsUtf8 line) (at place : ℕ) (start : IsCharBoundary line place) where
  module _ (below : place ≤ at) (nearest : (i : ℕ) → place < i → i ≤ at → IsCharBoundary line i → ⊥) where
    pub IsLeastAbove-found : (old new : GraphemeCursor) (found : Option ℕ) → IsFresh old place → IsCursorOn new line
        → IfSome found (IsNextBoundary old new line) → IfSome found (IsLeastAbove line at)
    IsLeastAbove-found old new None fresh on search = search
    IsLeastAbove-found old new (Some next) fresh on search =
        let boundary : IsCharBoundary line next = subst (IsCharBoundary line) search.moved on.boundary in
        let ahead : place + 1 ≤ next = rw (fresh.is_resuming, fresh.offset) at search.ahead in
        let breaks : breaks_at (is_grapheme_break true) line next ≡ true = rw fresh.is_extended at search.boundary in
        let first : (i : ℕ) → place + 1 ≤ i → i < next → IsCharBoundary line i → breaks_at (is_grapheme_break true) line i ≡ false =
        rw (fresh.is_extended, fresh.is_resuming, fresh.offset) at search.first in
        record {
          boundary = IsBoundary-from_break line u next boundary breaks;
          above = ⊎_elim (λ h. h) (λ h. absurd (nearest next (omega arith) h boundary)) (cases_lt at next);
          least = λ other is above. ⊎_elim
              (λ early. let broken = IsBreakOf-from_boundary line u other is in
              absurd (both_ways _ (first other (omega arith) early broken.place) broken.breaks))
              (λ h. h) (cases_lt other next);
        }

    pub HasNoneAbove-found : (found : Option ℕ) → ((found ≡ None) ↔ (place ≡ length line)) → IsNone found ↔ HasNoneAbove line at
    HasNoneAbove-found found end = (
      λ none other is. let last = boundary-le-length line u other is in
          let here = end.0 (none_from_IsNone found none) in omega arith,
      λ none. let low = none (length line) (IsBoundary-end line u) in
          let within : place ≤ length line = start.0 in
          let last : place ≡ length line = ⊎_elim (λ h. absurd (nearest (length line) h low (IsCharBoundary-end line))) (λ h. omega arith) (cases_lt place (length line)) in
          rw (end.1 last) refl,
    )

  module _ (above : at ≤ place) (nearest : (i : ℕ) → at ≤ i → i < place → IsCharBoundary line i → ⊥) where
    pub IsGreatestBelow-found : (old new : GraphemeCursor) (found : Option ℕ) → IsFresh old place → IsCursorOn new line
        → IfSome found (IsPrevBoundary old new line) → IfSome found (IsGreatestBelow line at)
    IsGreatestBelow-found old new None fresh on search = search
    IsGreatestBelow-found old new (Some prev) fresh on search =
        let boundary : IsCharBoundary line prev = subst (IsCharBoundary line) search.moved on.boundary in
        let behind : prev < place = rw (fresh.is_resuming, fresh.offset) at search.behind in
        let breaks : breaks_at (is_grapheme_break true) line prev ≡ true = rw fresh.is_extended at search.boundary in
        let last : (i : ℕ) → prev + 1 ≤ i → i < place → IsCharBoundary line i → breaks_at (is_grapheme_break true) line i ≡ false =
        rw (fresh.is_extended, fresh.is_resuming, fresh.offset) at search.last in
        record {
          boundary = IsBoundary-from_break line u prev boundary breaks;
          below = ⊎_elim (λ h. h) (λ h. absurd (nearest prev h behind boundary)) (cases_lt prev at);
          greatest = λ other is below. ⊎_elim
              (λ late. let broken = IsBreakOf-from_boundary line u other is in
              absurd (both_ways _ (last other (omega arith) (omega arith) broken.place) broken.breaks))
              (λ h. h) (cases_lt prev other);
        }

    pub HasNoneBelow-found : (found : Option ℕ) → ((found ≡ None) ↔ (place ≡ 0)) → IsNone found ↔ HasNoneBelow line at
    HasNoneBelow-found found end = (
      λ none other is. let here = end.0 (none_from_IsNone found none) in omega arith,
      λ none. let low : at ≤ 0 = none 0 (0, omega arith, refl) in
          let first : place ≡ 0 = ⊎_elim (λ h. absurd (nearest 0 (omega arith) h (IsCharBoundary-start line u))) (λ h. omega arith) (cases_lt 0 place) in
          rw (end.1 first) refl,
    )

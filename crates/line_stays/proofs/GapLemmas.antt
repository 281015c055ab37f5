-- The gaps of a part, and what marks at them say of its lines.
use Rattle.std.proofs.Common.{◌≡◌, ℕ, ◌+◌, ◌-◌, ◌<◌, ◌≤◌, Bool, true, false, List, length, Some, ap, sym, subst, ◌∙◌, arith}
use Rattle.std.specs.Prelude.{slice_get}
use Rattle.plain_text.specs.declared.run.Run.{Run}
use Rattle.plain_text.specs.declared.selection.Region.{Region}
use Rattle.plain_edits.specs.Styles.{Layer}
use Rattle.plain_screen.specs.declared.piece.Piece.{Piece}
use Rattle.plain_screen.specs.View.{ArePieces, start_of}
use Rattle.plain_screen.proofs.callers.OwnLemmas.{get_piece, start_of-get}
use Rattle.subset_runs.specs.Subset.{contains}
use Rattle.line_render.proofs.ForCallers.{piece-inside}
use Rattle.doc_layout.specs.Laws.{PiecesRead}
use Rattle.doc_layout.specs.Layout.{layout}
use Rattle.line_stays.specs.Change.{may_differ}
use Rattle.line_stays.specs.declared.change.Change.{Change}
use Rattle.line_stays.specs.Inner.{AreAlikeAt, AreStyledAlike, EndBefore, IsSharedPart, IsUnmarked, is_same_logical}
use Rattle.line_stays.proofs.AlikeLemmas.{end-later, unmarked-same}

module _ (text other : List ℕ) (pieces parts : List Piece) (regions others : List Region) (results founds : List Run) (layers styles : List Layer)
    (are : ArePieces text pieces) (too : ArePieces other parts) (old new n : ℕ) (part : IsSharedPart text other pieces parts old new n) (some : 0 < n)
    (first last own : Piece) (first_is : Some first ≡ slice_get pieces old) (last_is : Some last ≡ slice_get pieces (old + n - 1))
    (own_is : Some own ≡ slice_get parts new) where
  -- its last piece ends behind its start
  pub gaps-ordered : first.start ≤ last.end
  gaps-ordered =
      let inside = piece-inside text pieces old first are (sym first_is) in
      let later = end-later text other pieces parts regions others results founds layers styles are too old (old + n - 1) first last (omega (arith, some)) (sym first_is)
      (sym last_is) in
      omega (arith, inside.0, later)

  pub gaps-inside : last.end ≤ length text
  gaps-inside = (piece-inside text pieces (old + n - 1) last are (sym last_is)).1

  -- as far from the start of its twin
  pub gaps-twin : own.start + (last.end - first.start) ≤ length other
  gaps-twin =
      let twin = get_piece parts (new + (n - 1)) (omega (arith, some, part.too)) in
      let at : old + n - 1 ≡ old + (n - 1) = omega (arith, some) in
      let none : old + 0 ≡ old = omega arith in
      let nil : new + 0 ≡ new = omega arith in
      let one = part.twins 0 first own some (ap (slice_get pieces) none ∙ sym first_is) (ap (slice_get parts) nil ∙ sym own_is) in
      let two = part.twins (n - 1) last twin.0 (omega (arith, some)) (ap (slice_get pieces) (sym at) ∙ sym last_is) twin.1 in
      let inside = piece-inside other parts (new + (n - 1)) twin.0 too twin.1 in
      omega (arith, one.starts, two.ends, inside.1, gaps-ordered)

  module _ (marks : List Bool) (count : length marks ≡ last.end - first.start + 1) where
    pub marks-count : start_of pieces old + length marks ≤ length text + 1
    marks-count = omega (arith, count, start_of-get pieces old first (sym first_is), gaps-ordered, gaps-inside)

    pub marks-reach : EndBefore pieces old n (length marks)
    marks-reach = λ x piece low high is.
        omega (
          arith,
          count,
          start_of-get pieces old first (sym first_is),
          gaps-ordered,
          end-later text other pieces parts regions others results founds layers styles are too x (old + n - 1) piece last (omega (arith, high)) is (sym last_is),
        )

    pub marks-plain : (change : Change) → AreStyledAlike change pieces parts layers styles old new n → PiecesRead →
        ((k : ℕ) → k < last.end - first.start + 1 → contains marks k ≡ false → AreAlikeAt regions others results founds (first.start + k) (own.start + k)) →
        ((k : ℕ) → k < last.end - first.start + 1 → contains marks k ≡ false → may_differ change (first.start + k) ≡ false) →
        (x : ℕ) → old ≤ x → x < old + n → IsUnmarked text pieces marks (start_of pieces old) x →
        is_same_logical text pieces (layout text pieces regions results layers) (layout other parts others founds styles) old new x ≡ true
    marks-plain change styled read alike same x low high unmarked =
        unmarked-same text other pieces parts regions others results founds layers styles are too change old new n part styled marks marks-reach
        (λ k less none.
        subst (λ (a : ℕ). AreAlikeAt regions others results founds (a + k) (start_of parts new + k)) (sym (start_of-get pieces old first (sym first_is)))
        (subst (λ (b : ℕ). AreAlikeAt regions others results founds (first.start + k) (b + k)) (sym (start_of-get parts new own (sym own_is)))
        (alike k (omega (arith, less, count)) none)))
        (λ k less none.
        ap (λ (a : ℕ). may_differ change (a + k)) (start_of-get pieces old first (sym first_is)) ∙ same k (omega (arith, less, count)) none) x low high unmarked read

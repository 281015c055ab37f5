-- The lines that are drawn of pieces, by logical lines.
use Rattle.std.proofs.Common.{◌≡◌, ◌≢◌, ℕ, zero, suc, ◌+◌, true, false, List, [], ◌∷◌, ◌++◌, length, map, Option, Some, None, refl, ap, sym, subst, ◌∙◌, append_assoc, length-append}
use Rattle.std.specs.Prelude.{if◌then◌else◌, is_some, slice_get, unwrap_or}
use Rattle.std.specs.List.{AllByRecursion, concat}
use Rattle.std.proofs.lemmas.List.{map-append}
use Rattle.plain_screen.specs.declared.piece.Piece.{Piece}
use Rattle.plain_screen.specs.declared.screen.Line.{Line}
use Rattle.plain_screen.specs.Plan.{AreNumberedFrom}
use Rattle.plain_screen.specs.Screen.{numbered, number_after}
use Rattle.plain_screen.specs.Touched.{begins_logical, by_logical_lines, onto_logical}
use Rattle.plain_screen.specs.View.{AreEnds, pieces_of_line, pieces_from}
use Rattle.plain_screen.proofs.callers.OwnLemmas.{EndAt-ends}

module _ (draw : Piece → Line) (keeps : (piece : Piece) → (draw piece).ln ≡ piece.ln) where
  -- ---- one logical line before others

  -- lines in front of logical lines, as one of them
  abbrev pub onto_lines : List Line → List (List Line) → List (List Line)
  onto_lines [] groups = groups
  onto_lines (line ∷ lines) groups = (line ∷ lines) ∷ groups

  -- the first of them begins with a number
  abbrev pub Begins : List (List Line) → Type 0
  Begins [] = Unit {0}
  Begins (group ∷ groups) = begins_logical group ≡ true

  onto-begun : (line : Line) (group : List Line) (groups : List (List Line)) → begins_logical group ≡ true →
      onto_logical line (group ∷ groups) ≡ (line ∷ []) ∷ group ∷ groups
  onto-begun line group groups begins = ap (λ b. if b then (line ∷ []) ∷ group ∷ groups else (line ∷ group) ∷ groups) begins

  onto-open : (line next : Line) (lines : List Line) (groups : List (List Line)) → is_some next.ln ≡ false →
      onto_logical line ((next ∷ lines) ∷ groups) ≡ (line ∷ next ∷ lines) ∷ groups
  onto-open line next lines groups goes = ap (λ b. if b then (line ∷ []) ∷ (next ∷ lines) ∷ groups else (line ∷ next ∷ lines) ∷ groups) goes

  onto-rest : (line : Line) (start from : ℕ) (ends : List ℕ) (groups : List (List Line)) → Begins groups →
      onto_logical line (onto_lines (map draw (pieces_of_line start None from ends)) groups) ≡
      (line ∷ map draw (pieces_of_line start None from ends)) ∷ groups
  onto-rest line start from [] [] begins = refl
  onto-rest line start from [] (group ∷ groups) begins = onto-begun line group groups begins
  onto-rest line start from (end ∷ ends) groups begins =
      onto-open line (draw (record { start = start + from; end = start + end; ln = None })) (map draw (pieces_of_line start None end ends)) groups
      (ap is_some (keeps (record { start = start + from; end = start + end; ln = None })))

  pub by_logical-line : (start : ℕ) (ln : Option ℕ) (from : ℕ) (ends : List ℕ) (rest : List Line) → Begins (by_logical_lines rest) →
      by_logical_lines (map draw (pieces_of_line start ln from ends) ++ rest) ≡
      onto_lines (map draw (pieces_of_line start ln from ends)) (by_logical_lines rest)
  by_logical-line start ln from [] rest begins = refl
  by_logical-line start ln from (end ∷ ends) rest begins =
      ap (onto_logical (draw (record { start = start + from; end = start + end; ln = ln }))) (by_logical-line start None end ends rest begins) ∙
      onto-rest (draw (record { start = start + from; end = start + end; ln = ln })) start end ends (by_logical_lines rest) begins

  -- ---- all logical lines

  -- the lines of each logical line; the first one has this number and starts at this gap
  abbrev pub groups_from : ℕ → ℕ → List (List ℕ × List ℕ) → List (List Line)
  groups_from number start [] = []
  groups_from number start ((line, ends) ∷ cuts) =
      map draw (pieces_of_line start (Some number) 0 ends) ∷ groups_from (number + 1) (start + length line) cuts

  -- each line is cut somewhere
  abbrev pub AreCut : List (List ℕ × List ℕ) → Type 0
  AreCut cuts = AllByRecursion (λ (line, ends). AreEnds (length line) ends) cuts

  Begins-line : (number start : ℕ) (ends : List ℕ) (groups : List (List Line)) → ends ≢ [] →
      Begins (map draw (pieces_of_line start (Some number) 0 ends) ∷ groups)
  Begins-line number start [] groups some = absurd (some refl)
  Begins-line number start (end ∷ ends) groups some = ap is_some (keeps (record { start = start + 0; end = start + end; ln = Some number }))

  Begins-groups : (number start : ℕ) (cuts : List (List ℕ × List ℕ)) → AreCut cuts → Begins (groups_from number start cuts)
  Begins-groups number start [] are = tt
  Begins-groups number start ((line, ends) ∷ cuts) are =
      Begins-line number start ends (groups_from (number + 1) (start + length line) cuts) (EndAt-ends (length line) ends are.0).1

  onto-some : (number start : ℕ) (ends : List ℕ) (groups : List (List Line)) → ends ≢ [] →
      onto_lines (map draw (pieces_of_line start (Some number) 0 ends)) groups ≡ map draw (pieces_of_line start (Some number) 0 ends) ∷ groups
  onto-some number start [] groups some = absurd (some refl)
  onto-some number start (end ∷ ends) groups some = refl

  pub by_logical-pieces : (number start : ℕ) (cuts : List (List ℕ × List ℕ)) → AreCut cuts →
      by_logical_lines (map draw (pieces_from number start cuts)) ≡ groups_from number start cuts
  by_logical-pieces number start [] are = refl
  by_logical-pieces number start ((line, ends) ∷ cuts) are =
      let later = by_logical-pieces (number + 1) (start + length line) cuts are.1 in
      ap by_logical_lines (map-append draw (pieces_of_line start (Some number) 0 ends) (pieces_from (number + 1) (start + length line) cuts)) ∙
      by_logical-line start (Some number) 0 ends (map draw (pieces_from (number + 1) (start + length line) cuts))
      (subst Begins (sym later) (Begins-groups (number + 1) (start + length line) cuts are.1)) ∙
      ap (onto_lines (map draw (pieces_of_line start (Some number) 0 ends))) later ∙
      onto-some number start ends (groups_from (number + 1) (start + length line) cuts) (EndAt-ends (length line) ends are.0).1

  pub length-groups : (number start : ℕ) (cuts : List (List ℕ × List ℕ)) → length (groups_from number start cuts) ≡ length cuts
  length-groups number start [] = refl
  length-groups number start ((line, ends) ∷ cuts) = ap suc (length-groups (number + 1) (start + length line) cuts)

  -- the logical line with an index stands between a front and a back of the text
  pub record HasGroup (text : List ℕ) (groups : List (List Line)) (index : ℕ) (line ends : List ℕ) : Type 0 where
    pub number : ℕ
    pub front : List ℕ
    pub back : List ℕ
    pub is : text ≡ front ++ (line ++ back)
    pub lines : slice_get groups index ≡ Some (map draw (pieces_of_line (length front) (Some number) 0 ends))

  abbrev pub lines_of : List (List ℕ × List ℕ) → List (List ℕ)
  lines_of cuts = map (λ (line, ends). line) cuts

  pub has-group : (pre : List ℕ) (number : ℕ) (cuts : List (List ℕ × List ℕ)) (index : ℕ) (line ends : List ℕ) → slice_get cuts index ≡ Some (line, ends) →
      HasGroup (pre ++ concat (lines_of cuts)) (groups_from number (length pre) cuts) index line ends
  has-group pre number [] index line ends is = absurd cc
  has-group pre number ((first, cut) ∷ cuts) zero line ends is =
      let same : (first, cut) ≡ (line, ends) = ap (λ o. unwrap_or o (first, cut)) is in
      subst (λ (c : List ℕ × List ℕ). HasGroup (pre ++ (first ++ concat (lines_of cuts)))
      (map draw (pieces_of_line (length pre) (Some number) 0 cut) ∷ groups_from (number + 1) (length pre + length first) cuts) 0 c.0 c.1) same
      (record { number = number; front = pre; back = concat (lines_of cuts); is = refl; lines = refl })
  has-group pre number ((first, cut) ∷ cuts) (suc index) line ends is =
      let later = has-group (pre ++ first) (number + 1) cuts index line ends is in
      record {
        number = later.number;
        front = later.front;
        back = later.back;
        is = sym (append_assoc pre first (concat (lines_of cuts))) ∙ later.is;
        lines = ap (λ n. slice_get (groups_from (number + 1) n cuts) index) (sym (length-append pre first)) ∙ later.lines;
      }

  -- ---- numbers

  AreNumbered-rest : (number start from : ℕ) (ends : List ℕ) (lines : List Line) → AreNumberedFrom number lines →
      AreNumberedFrom number (map draw (pieces_of_line start None from ends) ++ lines)
  AreNumbered-rest number start from [] lines are = are
  AreNumbered-rest number start from (end ∷ ends) lines are =
      let piece : Piece = record { start = start + from; end = start + end; ln = None } in
      let rest = AreNumbered-rest number start end ends lines are in (
        ap (λ ln. numbered ln number (draw piece)) (keeps piece),
        subst (λ ln. AreNumberedFrom (number_after ln number) (map draw (pieces_of_line start None end ends) ++ lines)) (sym (keeps piece)) rest,
      )

  AreNumbered-line : (number start : ℕ) (ends : List ℕ) (lines : List Line) → ends ≢ [] → AreNumberedFrom (number + 1) lines →
      AreNumberedFrom number (map draw (pieces_of_line start (Some number) 0 ends) ++ lines)
  AreNumbered-line number start [] lines some are = absurd (some refl)
  AreNumbered-line number start (end ∷ ends) lines some are =
      let piece : Piece = record { start = start + 0; end = start + end; ln = Some number } in
      let rest = AreNumbered-rest (number + 1) start end ends lines are in (
        ap (λ ln. numbered ln number (draw piece)) (keeps piece) ∙ ap (λ ln. record (draw piece) { ln = ln }) (sym (keeps piece)),
        subst (λ ln. AreNumberedFrom (number_after ln number) (map draw (pieces_of_line start None end ends) ++ lines)) (sym (keeps piece)) rest,
      )

  pub AreNumbered-pieces : (number start : ℕ) (cuts : List (List ℕ × List ℕ)) → AreCut cuts → AreNumberedFrom number (map draw (pieces_from number start cuts))
  AreNumbered-pieces number start [] are = tt
  AreNumbered-pieces number start ((line, ends) ∷ cuts) are =
      subst (AreNumberedFrom number) (sym (map-append draw (pieces_of_line start (Some number) 0 ends) (pieces_from (number + 1) (start + length line) cuts)))
      (AreNumbered-line number start ends (map draw (pieces_from (number + 1) (start + length line) cuts)) (EndAt-ends (length line) ends are.0).1
      (AreNumbered-pieces (number + 1) (start + length line) cuts are.1))

-- An edit touches by text the logical lines from that of its first gap to that of its last, and no others.
use Rattle.std.proofs.Common.{◌≡◌, inl, inr, ℕ, zero, suc, ◌+◌, ◌-◌, ◌<◌, ◌≤◌, Bool, true, false, List, [], ◌∷◌, ◌++◌, length, map, take, drop, Option, Some, None, refl, ap, ap₂, sym, subst, ◌∙◌, arith}
use Rattle.std.specs.Prelude.{if◌then◌else◌, is_some, nat_lt, slice_get, slice_range, unwrap_or}
use Rattle.std.specs.List.{AllByRecursion, concat}
use Rattle.std.specs.Cmp.Lexicographic.{pointwise}
use Rattle.std.specs.Option.{option_map}
use Rattle.std.proofs.lemmas.Bool.{and_from, cases_lt, le-ltb, lt-ltb}
use Rattle.std.proofs.lemmas.List.{drop-append-le, length-drop, length-map, take-append-le}
use Rattle.std.proofs.lemmas.Option.{slice_get-map, slice_get_within}
use Rattle.std.proofs.Math.Seq.{drop-append-add}
use Rattle.plain_text.specs.Lines.{logical_lines}
use Rattle.plain_screen.specs.declared.piece.Piece.{Piece}
use Rattle.plain_screen.specs.declared.screen.Line.{Line}
use Rattle.plain_screen.specs.Plan.{AreNumberedFrom, restyle_of}
use Rattle.plain_screen.specs.Screen.{numbered, restyled}
use Rattle.plain_screen.specs.Touched.{TouchesNoOthers, are_alike, by_logical_lines, counterpart, is_same_text}
use Rattle.plain_screen.specs.View.{AreEnds, RiseTo, pieces_of_line}
use Rattle.plain_screen.proofs.callers.SameLemmas.{is_same_line-Decides}
use Rattle.plain_screen.proofs.callers.ViewLemmas.{concat-logical_lines}
use Rattle.rope_node.specs.Lengths.{lf_count}
use Rattle.line_stays.specs.Drawn.{IsDrawnOf, drawn_by, lines_between}
use Rattle.line_stays.specs.Laws.{CutsLines}
use Rattle.line_stays.proofs.GroupLemmas.{AreCut, AreNumbered-pieces, HasGroup, by_logical-pieces, groups_from, has-group, length-groups, lines_of}
use Rattle.line_stays.proofs.LineLemmas.{edit-right, edit-room, lines-left, made, was}

-- ---- two lines of one text

same-line : (line other : Line) (a b : Option ℕ) → line.ln ≡ a → other.ln ≡ b → is_some a ≡ is_some b → line.text ≡ other.text →
    numbered a 0 (restyled (restyle_of other) line) ≡ numbered b 0 other
same-line line other None None one two some text =
    rw (text, one, two) refl
same-line line other None (Some n) one two some text = absurd cc
same-line line other (Some n) None one two some text = absurd cc
same-line line other (Some n) (Some m) one two some text = ap (λ t. record other { text = t; ln = Some 0 }) text

-- two lines have the same text where both have a number, or none
same-text : (line other : Line) → line.text ≡ other.text → is_some line.ln ≡ is_some other.ln → is_same_text line other ≡ true
same-text line other text some =
    (is_same_line-Decides (numbered line.ln 0 (restyled (restyle_of other) line)) (numbered other.ln 0 other)).1
    (same-line line other line.ln other.ln refl refl some text)

-- ---- two logical lines of one text, cut alike

pub slice-within : (front line back : List ℕ) (from end : ℕ) → from ≤ end → end ≤ length line →
    slice_range (front ++ (line ++ back)) (length front + from) (length front + end) ≡ slice_range line from end
slice-within front line back from end ordered inside =
    let few : length front + end - (length front + from) ≡ end - from = omega arith in
    ap₂ (λ n xs. take n xs) few (drop-append-add front (line ++ back) from ∙ drop-append-le from line back (omega arith)) ∙
    take-append-le (end - from) (drop from line) back (omega (arith, length-drop from line))

-- ends rise from a gap on up to the end of a line
abbrev pub RiseWithin : ℕ → ℕ → List ℕ → Type 0
RiseWithin len from [] = from ≤ len
RiseWithin len from (end ∷ ends) = (from ≤ end) × RiseWithin len end ends

RiseWithin-rise : (len from : ℕ) (ends : List ℕ) → RiseTo len from ends → RiseWithin len from ends
RiseWithin-rise len from [] rise = omega arith
RiseWithin-rise len from (end ∷ ends) rise = (let lt = rise.0 in omega arith, RiseWithin-rise len end ends rise.1)

pub RiseWithin-ends : (len : ℕ) (ends : List ℕ) → AreEnds len ends → RiseWithin len 0 ends
RiseWithin-ends zero ends are = subst (RiseWithin 0 0) (sym are) (omega arith, omega arith)
RiseWithin-ends (suc len) ends are = RiseWithin-rise (suc len) 0 ends are

pub RiseWithin-le : (len from : ℕ) (ends : List ℕ) → RiseWithin len from ends → from ≤ len
RiseWithin-le len from [] rise = rise
RiseWithin-le len from (end ∷ ends) rise = omega (arith, rise.0, RiseWithin-le len end ends rise.1)

module _ (front back front' back' line : List ℕ) (draw other : Piece → Line) (one : IsDrawnOf (front ++ (line ++ back)) draw)
    (two : IsDrawnOf (front' ++ (line ++ back')) other) where
  alike-pieces : (ln ln' : Option ℕ) (from : ℕ) (ends : List ℕ) → is_some ln ≡ is_some ln' → RiseWithin (length line) from ends →
      pointwise is_same_text (map draw (pieces_of_line (length front) ln from ends)) (map other (pieces_of_line (length front') ln' from ends)) ≡ true
  alike-pieces ln ln' from [] some rise = refl
  alike-pieces ln ln' from (end ∷ ends) some rise =
      let piece : Piece = record { start = length front + from; end = length front + end; ln = ln } in
      let twin : Piece = record { start = length front' + from; end = length front' + end; ln = ln' } in
      let inside = RiseWithin-le (length line) end ends rise.1 in
      and_from (is_same_text (draw piece) (other twin)) _
      (same-text (draw piece) (other twin)
      (one.characters piece ∙ slice-within front line back from end rise.0 inside ∙
      sym (slice-within front' line back' from end rise.0 inside) ∙ sym (two.characters twin))
      (ap is_some (one.number piece) ∙ some ∙ sym (ap is_some (two.number twin))))
      (alike-pieces None None end ends refl rise.1)

-- ---- the logical lines of a text that is cut by a rule

module _ (ends_of : List ℕ → List ℕ) where
  abbrev pub cuts_of : List (List ℕ) → List (List ℕ × List ℕ)
  cuts_of lines = map (λ line. (line, ends_of line)) lines

  abbrev pub AreCutLines : List (List ℕ) → Type 0
  AreCutLines lines = AllByRecursion (λ line. AreEnds (length line) (ends_of line)) lines

  pub cut-lines : (draw : Piece → Line) (keeps : (piece : Piece) → (draw piece).ln ≡ piece.ln) (lines : List (List ℕ)) → AreCutLines lines →
      AreCut draw keeps (cuts_of lines)
  cut-lines draw keeps [] cuts = tt
  cut-lines draw keeps (line ∷ lines) cuts = (cuts.0, cut-lines draw keeps lines cuts.1)

  -- where a line is cut
  ends-at : (lines : List (List ℕ)) (index : ℕ) (line : List ℕ) → slice_get lines index ≡ Some line → AreCutLines lines → AreEnds (length line) (ends_of line)
  ends-at [] index line is cuts = absurd cc
  ends-at (first ∷ lines) zero line is cuts = subst (λ l. AreEnds (length l) (ends_of l)) (ap (λ o. unwrap_or o first) is) cuts.0
  ends-at (first ∷ lines) (suc index) line is cuts = ends-at lines index line is cuts.1

  pub lines-cut : (lines : List (List ℕ)) → map (λ ((line, ends) : List ℕ × List ℕ). line) (cuts_of lines) ≡ lines
  lines-cut [] = refl
  lines-cut (line ∷ lines) = ap (λ ls. line ∷ ls) (lines-cut lines)

  module _ (text : List ℕ) (draw : Piece → Line) (cuts : CutsLines ends_of text) (is : IsDrawnOf text draw) where
    pub groups-are : by_logical_lines (drawn_by ends_of draw text) ≡ groups_from draw is.number 1 0 (cuts_of (logical_lines text))
    groups-are = by_logical-pieces draw is.number 1 0 (cuts_of (logical_lines text)) (cut-lines draw is.number (logical_lines text) cuts)

    pub has_lines : length (by_logical_lines (drawn_by ends_of draw text)) ≡ length (logical_lines text)
    has_lines =
        ap length groups-are ∙ length-groups draw is.number 1 0 (cuts_of (logical_lines text)) ∙
        length-map (logical_lines text) (λ line. (line, ends_of line))

    pub are_numbered : AreNumberedFrom 1 (drawn_by ends_of draw text)
    are_numbered = AreNumbered-pieces draw is.number 1 0 (cuts_of (logical_lines text)) (cut-lines draw is.number (logical_lines text) cuts)

    group-at : (index : ℕ) (line : List ℕ) → slice_get (logical_lines text) index ≡ Some line →
        HasGroup draw is.number text (by_logical_lines (drawn_by ends_of draw text)) index line (ends_of line)
    group-at index line at =
        let cut : slice_get (cuts_of (logical_lines text)) index ≡ Some (line, ends_of line) =
        slice_get-map (λ l. (l, ends_of l)) (logical_lines text) index ∙ ap (option_map (λ l. (l, ends_of l))) at in
        let found = has-group draw is.number [] 1 (cuts_of (logical_lines text)) index line (ends_of line) cut in
        let whole : concat (lines_of draw is.number (cuts_of (logical_lines text))) ≡ text =
        ap concat (lines-cut (logical_lines text)) ∙ concat-logical_lines text in
        record {
          number = found.number;
          front = found.front;
          back = found.back;
          is = sym whole ∙ found.is;
          lines = ap (λ gs. slice_get gs index) groups-are ∙ found.lines;
        }

  -- a line of two texts is drawn alike, but for what is shown on it
  same-group : (text next : List ℕ) (draw other : Piece → Line) → CutsLines ends_of text → CutsLines ends_of next → IsDrawnOf text draw → IsDrawnOf next other → (index twin : ℕ) (line : List ℕ) (lines : List Line) →
      slice_get (logical_lines text) twin ≡ Some line → slice_get (logical_lines next) index ≡ Some line →
      slice_get (by_logical_lines (drawn_by ends_of other next)) index ≡ Some lines →
      are_alike is_same_text (slice_get (by_logical_lines (drawn_by ends_of draw text)) twin) lines ≡ true
  same-group text next draw other was_cut is_cut one two index twin line lines was_at is_at is =
      let old = group-at text draw was_cut one twin line was_at in
      let new = group-at next other is_cut two index line is_at in
      let new_lines = map other (pieces_of_line (length new.front) (Some new.number) 0 (ends_of line)) in
      let own : new_lines ≡ lines = ap (λ o. unwrap_or o new_lines) (sym new.lines ∙ is) in
      let drawn : IsDrawnOf (old.front ++ (line ++ old.back)) draw = subst (λ t. IsDrawnOf t draw) old.is one in
      let redrawn : IsDrawnOf (new.front ++ (line ++ new.back)) other = subst (λ t. IsDrawnOf t other) new.is two in
      ap₂ (λ o ls. are_alike is_same_text o ls) old.lines (sym own) ∙
      alike-pieces old.front old.back new.front new.back line draw other drawn redrawn (Some old.number) (Some new.number) 0 (ends_of line) refl
      (RiseWithin-ends (length line) (ends_of line) (ends-at (logical_lines text) twin line was_at was_cut))

  -- there is a line with each index below the count
  line-at : (text : List ℕ) (index : ℕ) → index < length (logical_lines text) → (line : List ℕ) × (slice_get (logical_lines text) index ≡ Some line)
  line-at text index inside = there (logical_lines text) index inside
    where
      there : (lines : List (List ℕ)) (i : ℕ) → i < length lines → (line : List ℕ) × (slice_get lines i ≡ Some line)
      there [] i less = absurd (omega (arith, less))
      there (line ∷ lines) zero less = (line, refl)
      there (line ∷ lines) (suc i) less = there lines i (omega (arith, less))

  -- ---- an edit

  module _ (front gone come back : List ℕ) (draw other : Piece → Line) (was_cut : CutsLines ends_of (front ++ (gone ++ back)))
      (is_cut : CutsLines ends_of (front ++ (come ++ back))) (one : IsDrawnOf (front ++ (gone ++ back)) draw)
      (two : IsDrawnOf (front ++ (come ++ back)) other) where
    abbrev before : List Line
    before = drawn_by ends_of draw (was front gone come back)

    abbrev after : List Line
    after = drawn_by ends_of other (made front gone come back)

    old-count : length (by_logical_lines before) ≡ length (logical_lines (was front gone come back))
    old-count = has_lines (was front gone come back) draw was_cut one

    new-count : length (by_logical_lines after) ≡ length (logical_lines (made front gone come back))
    new-count = has_lines (made front gone come back) other is_cut two

    texts : (index twin : ℕ) (lines : List Line) → slice_get (by_logical_lines after) index ≡ Some lines →
        counterpart (lines_between front come) (length (by_logical_lines before)) (length (by_logical_lines after)) index ≡ Some twin →
        are_alike is_same_text (slice_get (by_logical_lines before) twin) lines ≡ true
    texts index twin lines is found =
        by (nat_lt index (lf_count front)) refl (nat_lt index (lf_count (front ++ come) + 1)) refl
        (sym (ap₂ (λ o n. counterpart (lines_between front come) o n index) old-count new-count) ∙ found)
      where
        inside : index < length (logical_lines (made front gone come back))
        inside = subst (λ n. index < n) new-count (slice_get_within (by_logical_lines after) index lines is)

        line : List ℕ
        line = (line-at (made front gone come back) index inside).0

        there : slice_get (logical_lines (made front gone come back)) index ≡ Some line
        there = (line-at (made front gone come back) index inside).1

        same : (at : ℕ) → slice_get (logical_lines (was front gone come back)) at ≡ slice_get (logical_lines (made front gone come back)) index → at ≡ twin →
            are_alike is_same_text (slice_get (by_logical_lines before) twin) lines ≡ true
        same at alike is_twin =
            same-group (was front gone come back) (made front gone come back) draw other was_cut is_cut one two index twin line lines
            (ap (slice_get (logical_lines (was front gone come back))) (sym is_twin) ∙ alike ∙ there) there is

        not_left : nat_lt index (lf_count front) ≡ false → lf_count front ≤ index
        not_left test = elim (cases_lt index (lf_count front)) [ inl lt ↦ absurd (let both : true ≡ false = sym (lt-ltb index (lf_count front) lt) ∙ test in cc) | inr le ↦ le ]

        left : nat_lt index (lf_count front) ≡ true → index < lf_count front
        left test = elim (cases_lt index (lf_count front)) [ inl lt ↦ lt | inr le ↦ absurd (let both : true ≡ false = sym test ∙ le-ltb index (lf_count front) le in cc) ]

        right : nat_lt index (lf_count (front ++ come) + 1) ≡ false → lf_count (front ++ come) + 1 ≤ index
        right test = elim (cases_lt index (lf_count (front ++ come) + 1)) [
          | inl lt ↦ absurd (let both : true ≡ false = sym (lt-ltb index (lf_count (front ++ come) + 1) lt) ∙ test in cc)
          | inr le ↦ le
        ]

        by : (a : Bool) → nat_lt index (lf_count front) ≡ a → (b : Bool) → nat_lt index (lf_count (front ++ come) + 1) ≡ b →
            (if a then Some index else if b then None else Some (length (logical_lines (was front gone come back)) - (length (logical_lines (made front gone come back)) - index))) ≡ Some twin →
            are_alike is_same_text (slice_get (by_logical_lines before) twin) lines ≡ true
        by true first b second got =
            same index (lines-left front (gone ++ back) (come ++ back) index (left first)) (ap (λ o. unwrap_or o index) got)
        by false first true second got = absurd cc
        by false first false second got =
            let at = length (logical_lines (was front gone come back)) - (length (logical_lines (made front gone come back)) - index) in
            same at (sym (edit-right front gone come back index (right second) inside)) (ap (λ o. unwrap_or o at) got)

    pub touches_no_others : TouchesNoOthers (lines_between front come) before after
    touches_no_others = record {
      room =
          subst (λ n. lf_count front + n ≤ length (by_logical_lines before) + (lf_count (front ++ come) + 1)) (sym new-count)
          (subst (λ n. lf_count front + length (logical_lines (made front gone come back)) ≤ n + (lf_count (front ++ come) + 1)) (sym old-count)
          (edit-room front gone come back));
      texts = texts;
    }

  -- ---- the same text

  module _ (text : List ℕ) (draw other : Piece → Line) (cuts : CutsLines ends_of text) (one : IsDrawnOf text draw) (two : IsDrawnOf text other) where
    pub touches_none : TouchesNoOthers (record { start = 0; end = 0 }) (drawn_by ends_of draw text) (drawn_by ends_of other text)
    touches_none = record {
      room = omega (arith, has_lines text draw cuts one, has_lines text other cuts two);
      texts = λ index twin lines is found.
          let inside = slice_get_within (by_logical_lines (drawn_by ends_of other text)) index lines is in
          let at = line-at text index (subst (λ n. index < n) (has_lines text other cuts two) inside) in
          let back : length (by_logical_lines (drawn_by ends_of draw text)) - (length (by_logical_lines (drawn_by ends_of other text)) - index) ≡ index =
          omega (arith, inside, has_lines text draw cuts one, has_lines text other cuts two) in
          let other_at : ℕ = length (by_logical_lines (drawn_by ends_of draw text)) - (length (by_logical_lines (drawn_by ends_of other text)) - index) in
          let counts : Some other_at ≡ Some twin =
          sym (ap (λ (b : Bool). if b then Some index else (if b then None else Some other_at)) (le-ltb index 0 (omega arith))) ∙ found in
          let is_twin : index ≡ twin = sym back ∙ ap (λ o. unwrap_or o index) counts in
          same-group text text draw other cuts cuts one two index twin at.0 lines (ap (slice_get (logical_lines text)) (sym is_twin) ∙ at.1) at.1 is;
    }

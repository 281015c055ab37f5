-- A logical line without a mark has the same lines on both texts.
use Rattle.std.proofs.Common.{◌≡◌, inl, inr, ℕ, suc, ◌+◌, ◌-◌, ◌<◌, ◌≤◌, Bool, true, false, List, [], ◌∷◌, length, map, take, drop, Option, Some, refl, ap, ap₂, sym, subst, ◌∙◌, arith, length-drop}
use Rattle.std.specs.Prelude.{option_map, slice_get, unwrap_or}
use Rattle.std.specs.Cmp.Lexicographic.{pointwise}
use Rattle.std.proofs.lemmas.Bool.{and_from, cases_lt}
use Rattle.std.proofs.lemmas.List.{length-map, length-take-le}
use Rattle.std.proofs.lemmas.Option.{slice_get-map, slice_get_within}
use Rattle.plain_text.specs.declared.run.Run.{Run}
use Rattle.plain_text.specs.declared.selection.Region.{Region}
use Rattle.plain_edits.specs.Styles.{Layer}
use Rattle.plain_screen.specs.declared.piece.Piece.{Piece}
use Rattle.plain_screen.specs.declared.screen.Line.{Line}
use Rattle.plain_screen.specs.Touched.{is_same_but_number}
use Rattle.plain_screen.specs.View.{ArePieces, layout_line_of, start_of}
use Rattle.plain_screen.proofs.callers.OwnLemmas.{HasOwn, get_piece, layout_line_of-start, start_of-get}
use Rattle.subset_runs.specs.Subset.{contains}
use Rattle.line_render.specs.Rendered.{is_last_piece, own_gaps, text_of_piece}
use Rattle.line_render.proofs.ForCallers.{length-text_of_piece, own-layout_line_of, piece-inside}
use Rattle.doc_layout.specs.Laws.{AreShownAs, PiecesRead, own_spans}
use Rattle.doc_layout.specs.Layout.{layout, layout_line}
use Rattle.doc_layout.proofs.ForCallers.{slice-drop, slice-take}
use Rattle.line_stays.specs.Change.{may_differ}
use Rattle.line_stays.specs.declared.change.Change.{Change}
use Rattle.line_stays.specs.Edges.{first_piece, past_piece}
use Rattle.line_stays.specs.Inner.{AreAlikeAt, AreStyledAlike, AreTwins, EndBefore, IsSharedPart, IsUnmarked, is_same_logical}
use Rattle.line_stays.proofs.WholeLemmas.{line-low, own-at}

-- lists that are alike item by item
alike-lists : {X : Type 0} (test : X → X → Bool) (xs ys : List X) → length xs ≡ length ys →
    ((k : ℕ) (x y : X) → slice_get xs k ≡ Some x → slice_get ys k ≡ Some y → test x y ≡ true) → pointwise test xs ys ≡ true
alike-lists test [] [] long each = refl
alike-lists test [] (y ∷ ys) long each = absurd (omega (arith, long))
alike-lists test (x ∷ xs) [] long each = absurd (omega (arith, long))
alike-lists test (x ∷ xs) (y ∷ ys) long each =
    and_from (test x y) (pointwise test xs ys) (each 0 x y refl refl)
    (alike-lists test xs ys (omega (arith, long)) (λ k a b one other. each (suc k) a b one other))

own_gaps-le : (b : Bool) (n k : ℕ) → k < own_gaps b n → k ≤ n
own_gaps-le true n k less = let at : k < n + 1 = less in omega (arith, at)
own_gaps-le false n k less = let at : k < n = less in omega (arith, at)

own_gaps-enough : (b : Bool) (n k : ℕ) → k < n → k < own_gaps b n
own_gaps-enough true n k less = let at : k < n + 1 = omega (arith, less) in at
own_gaps-enough false n k less = less

own_gaps-all : (b : Bool) (n : ℕ) → n ≤ own_gaps b n
own_gaps-all true n = let at : n ≤ n + 1 = omega arith in at
own_gaps-all false n = let at : n ≤ n = omega arith in at

-- the piece of a line that is drawn
drawn-of : (draw : Piece → Line) (pieces : List Piece) (from n k : ℕ) (line : Line) → slice_get (take n (drop from (map draw pieces))) k ≡ Some line → k < n →
    option_map draw (slice_get pieces (from + k)) ≡ Some line
drawn-of draw pieces from n k line is less =
    sym (slice-take n k (drop from (map draw pieces)) less ∙ slice-drop from k (map draw pieces) ∙ slice_get-map draw pieces (from + k)) ∙ is

module _ (text other : List ℕ) (pieces parts : List Piece) (regions others : List Region) (results founds : List Run) (layers styles : List Layer)
    (are : ArePieces text pieces) (too : ArePieces other parts) where
  -- ---- one piece

  module _ (near far y z : ℕ) (piece twin : Piece) (is : slice_get pieces y ≡ Some piece) (is_twin : slice_get parts z ≡ Some twin)
      (twins : AreTwins text other near far piece twin) where
    inside : (piece.start ≤ piece.end) × (piece.end ≤ length text)
    inside = piece-inside text pieces y piece are is

    long : length (text_of_piece text piece) ≡ piece.end - piece.start
    long = length-text_of_piece text piece inside.0 inside.1

    shown-as : ((k : ℕ) → k ≤ piece.end - piece.start → layout_line_of pieces (piece.start + k) ≡ y →
        AreAlikeAt regions others results founds (piece.start + k) (twin.start + k)) → own_spans layers piece ≡ own_spans styles twin → AreShownAs text other piece twin regions others results founds layers styles
    shown-as alike styled = record {
      characters = twins.characters;
      last = twins.last;
      numbered = twins.numbered;
      long = omega (arith, twins.starts, twins.ends, inside.0);
      inside = inside.1;
      too = (piece-inside other parts z twin too is_twin).1;
      carets = λ k less. (alike k (omega (arith, own_gaps-le (is_last_piece text piece) (length (text_of_piece text piece)) k less, long)) (own k less)).carets;
      selected = λ k less.
          (alike k (omega (arith, less, long)) (own k (own_gaps-enough (is_last_piece text piece) (length (text_of_piece text piece)) k less))).selected;
      found = λ k less.
          (alike k (omega (arith, less)) (own k (own_gaps-enough (is_last_piece text piece) (length (text_of_piece text piece)) k (omega (arith, less, long))))).found;
      styled = styled;
    }
      where
        own : (k : ℕ) → k < own_gaps (is_last_piece text piece) (length (text_of_piece text piece)) → layout_line_of pieces (piece.start + k) ≡ y
        own k less =
            let few = own_gaps-le (is_last_piece text piece) (length (text_of_piece text piece)) k less in
            (own-layout_line_of text pieces y piece (piece.start + k) are is (omega (arith, few, long, inside.0, inside.1))).0 (omega arith, omega (arith, less))

  -- ---- the pieces of a part

  -- a later piece starts no earlier
  start-later : (x y : ℕ) (piece : Piece) → x ≤ y → slice_get pieces y ≡ Some piece → start_of pieces x ≤ piece.start
  start-later x y piece le is =
      let there = slice_get_within pieces y piece is in
      let at : layout_line_of pieces piece.start ≡ y =
      ap (layout_line_of pieces) (sym (start_of-get pieces y piece is)) ∙ layout_line_of-start text pieces y are there in
      elim (cases_lt piece.start (start_of pieces x)) [
        | inl before ↦ absurd (omega (arith, le, at, line-low text pieces are x piece.start (omega (arith, le, there)) before))
        | inr fine ↦ fine
      ]

  -- and ends no earlier
  pub end-later : (x y : ℕ) (piece last : Piece) → x ≤ y → slice_get pieces x ≡ Some piece → slice_get pieces y ≡ Some last → piece.end ≤ last.end
  end-later x y piece last le is is_last =
      let own = piece-inside text pieces x piece are is in
      let end = piece-inside text pieces y last are is_last in
      let later = start-later x y last le is_last in
      let first = start_of-get pieces x piece is in
      let at : layout_line_of pieces last.start ≡ y =
      ap (layout_line_of pieces) (sym (start_of-get pieces y last is_last)) ∙ layout_line_of-start text pieces y are (slice_get_within pieces y last is_last) in
      elim (cases_lt last.end piece.end) [
        | inr fine ↦ fine
        | inl before ↦
            let long = length-text_of_piece text piece own.0 own.1 in
            let here : layout_line_of pieces last.start ≡ x =
            (own-layout_line_of text pieces x piece last.start are is (omega (arith, end.0, end.1))).0
            (omega (arith, later, first), omega (arith, later, first, own_gaps-all (is_last_piece text piece) (length (text_of_piece text piece)), long, before, end.0, own.0)) in
            let same : piece.end ≡ last.end = ap (λ (o : Option Piece). (unwrap_or o piece).end) (sym is ∙ ap (slice_get pieces) (sym here ∙ at) ∙ is_last) in
            omega (arith, same)
      ]

  module _ (change : Change) (old new n : ℕ) (part : IsSharedPart text other pieces parts old new n) (styled : AreStyledAlike change pieces parts layers styles old new n)
      (marks : List Bool) (reach : EndBefore pieces old n (length marks))
      (alike : (k : ℕ) → k < length marks → contains marks k ≡ false → AreAlikeAt regions others results founds (start_of pieces old + k) (start_of parts new + k))
      (same : (k : ℕ) → k < length marks → contains marks k ≡ false → may_differ change (start_of pieces old + k) ≡ false) where
    -- the pieces of a part stand as far from each other as its first
    as-far : (k : ℕ) (piece twin : Piece) → k < n → slice_get pieces (old + k) ≡ Some piece → slice_get parts (new + k) ≡ Some twin →
        piece.start + start_of parts new ≡ twin.start + start_of pieces old
    as-far k piece twin less is is_twin =
        let first = get_piece pieces old (omega (arith, part.inside, less)) in
        let own = get_piece parts new (omega (arith, part.too, less)) in
        let none : old + 0 ≡ old = omega arith in
        let nil : new + 0 ≡ new = omega arith in
        let one = part.twins 0 first.0 own.0 (omega (arith, less)) (ap (slice_get pieces) none ∙ first.1) (ap (slice_get parts) nil ∙ own.1) in
        let this = part.twins k piece twin less is is_twin in
        omega (arith, one.starts, this.starts, start_of-get pieces old first.0 first.1, start_of-get parts new own.0 own.1)

    module _ (x : ℕ) (low : old ≤ x) (high : x < old + n) (unmarked : IsUnmarked text pieces marks (start_of pieces old) x) where
      abbrev first : ℕ
      first = first_piece text pieces x

      abbrev past : ℕ
      past = past_piece pieces x

      within : (old ≤ first) × (past ≤ old + n)
      within = part.whole x low high

      -- at a gap of its pieces no mark stands
      at-gap : (y : ℕ) (piece : Piece) (gap : ℕ) → first ≤ y → y < past → slice_get pieces y ≡ Some piece → piece.start ≤ gap → gap ≤ piece.end → layout_line_of pieces gap ≡ y →
          (start_of pieces old ≤ gap) × (gap - start_of pieces old < length marks) × (contains marks (gap - start_of pieces old) ≡ false)
      at-gap y piece gap above below is from to at =
          let far = start-later old y piece (omega (arith, within.0, above)) is in
          let end = reach y piece (omega (arith, within.0, above)) (omega (arith, within.1, below)) is in
          let on : start_of pieces old + (gap - start_of pieces old) ≡ gap = omega (arith, far, from) in
          let here : layout_line_of pieces (start_of pieces old + (gap - start_of pieces old)) ≡ y = ap (layout_line_of pieces) on ∙ at in
          let inside : gap - start_of pieces old < length marks = omega (arith, far, from, to, end) in
          (omega (arith, far, from), inside, unmarked (gap - start_of pieces old) inside (omega (arith, here, above)) (omega (arith, here, below)))

      line-same : PiecesRead → (k : ℕ) (piece twin : Piece) → k < past - first → slice_get pieces (first + k) ≡ Some piece →
          slice_get parts (new + (first - old) + k) ≡ Some twin →
          is_same_but_number (layout_line text regions results layers piece) (layout_line other others founds styles twin) ≡ true
      line-same read k piece twin less is is_twin =
          read text other piece twin regions others results founds layers styles
          (shown-as part.near part.far (first + k) (new + (first - old) + k) piece twin is is_twin twins alike-at
          (styled (first - old + k) piece twin few one two (λ i from to.
          let at = owned i from to in
          let mark = at-gap (first + k) piece i (omega arith) (omega (arith, less)) is from (omega (arith, to)) at in
          let on : start_of pieces old + (i - start_of pieces old) ≡ i = omega (arith, mark.0) in
          ap (may_differ change) (sym on) ∙ same (i - start_of pieces old) mark.1 mark.2)))
        where
          few : first - old + k < n
          few = omega (arith, within.0, within.1, less)

          one : slice_get pieces (old + (first - old + k)) ≡ Some piece
          one = let on : old + (first - old + k) ≡ first + k = omega (arith, within.0) in ap (slice_get pieces) on ∙ is

          two : slice_get parts (new + (first - old + k)) ≡ Some twin
          two = let on : new + (first - old + k) ≡ new + (first - old) + k = omega arith in ap (slice_get parts) on ∙ is_twin

          twins : AreTwins text other part.near part.far piece twin
          twins = part.twins (first - old + k) piece twin few one two

          ordered : (piece.start ≤ piece.end) × (piece.end ≤ length text)
          ordered = piece-inside text pieces (first + k) piece are is

          owned : (i : ℕ) → piece.start ≤ i → i < piece.end → layout_line_of pieces i ≡ first + k
          owned i from to =
              let long = length-text_of_piece text piece ordered.0 ordered.1 in
              (own-layout_line_of text pieces (first + k) piece i are is (omega (arith, to, ordered.1))).0
              (from, omega (arith, from, to, long, own_gaps-all (is_last_piece text piece) (length (text_of_piece text piece))))

          alike-at : (j : ℕ) → j ≤ piece.end - piece.start → layout_line_of pieces (piece.start + j) ≡ first + k →
              AreAlikeAt regions others results founds (piece.start + j) (twin.start + j)
          alike-at j le at =
              let mark = at-gap (first + k) piece (piece.start + j) (omega arith) (omega (arith, less)) is (omega arith) (omega (arith, le, ordered.0)) at in
              let far = as-far (first - old + k) piece twin few one two in
              let here : start_of pieces old + (piece.start + j - start_of pieces old) ≡ piece.start + j = omega (arith, mark.0) in
              let there : start_of parts new + (piece.start + j - start_of pieces old) ≡ twin.start + j = omega (arith, mark.0, far) in
              subst (λ (a : ℕ). AreAlikeAt regions others results founds a (twin.start + j)) here
              (subst (λ (b : ℕ). AreAlikeAt regions others results founds (start_of pieces old + (piece.start + j - start_of pieces old)) b) there
              (alike (piece.start + j - start_of pieces old) mark.1 mark.2))

      -- THE LINES OF A LOGICAL LINE WITHOUT A MARK are the same on both
      pub unmarked-same : PiecesRead →
          is_same_logical text pieces (layout text pieces regions results layers) (layout other parts others founds styles) old new x ≡ true
      unmarked-same read =
          alike-lists is_same_but_number (take (past - first) (drop first before)) (take (past - first) (drop (new + (first - old)) after))
          (long-one ∙ sym long-other)
          (λ k line twin is is_twin.
          let less : k < past - first = omega (arith, slice_get_within (take (past - first) (drop first before)) k line is, long-one) in
          let piece = get_piece pieces (first + k) (omega (arith, less, own.inside)) in
          let own_twin = get_piece parts (new + (first - old) + k) (omega (arith, less, within.0, within.1, part.too)) in
          let drawn = ap (λ (o : Option Line). unwrap_or o line) (sym (ap (option_map draw) piece.1) ∙ drawn-of draw pieces first (past - first) k line is less) in
          let redrawn = ap (λ (o : Option Line). unwrap_or o twin)
          (sym (ap (option_map redraw) own_twin.1) ∙ drawn-of redraw parts (new + (first - old)) (past - first) k twin is_twin less) in
          ap₂ is_same_but_number (sym drawn) (sym redrawn) ∙ line-same read k piece.0 own_twin.0 less piece.1 own_twin.1)
        where
          draw : Piece → Line
          draw = layout_line text regions results layers

          redraw : Piece → Line
          redraw = layout_line other others founds styles

          before : List Line
          before = layout text pieces regions results layers

          after : List Line
          after = layout other parts others founds styles

          own : HasOwn text pieces x first past
          own = own-at text pieces are x (omega (arith, high, part.inside))

          long-one : length (take (past - first) (drop first before)) ≡ past - first
          long-one =
              length-take-le (past - first) (drop first before) (omega (arith, length-drop first before, length-map pieces draw, own.inside, own.low, own.high))

          long-other : length (take (past - first) (drop (new + (first - old)) after)) ≡ past - first
          long-other =
              length-take-le (past - first) (drop (new + (first - old)) after)
              (omega (arith, length-drop (new + (first - old)) after, length-map parts redraw, within.0, within.1, part.too, own.low, own.high))

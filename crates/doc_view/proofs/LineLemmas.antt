-- Lines left of a gap up to which two views are alike.
use Rattle.std.proofs.Common.{◌≡◌, ℕ, zero, suc, ◌+◌, ◌-◌, ◌<◌, ◌≤◌, Bool, true, false, List, [], ◌∷◌, ◌++◌, length, map, take, drop, Some, refl, ap, ap₂, sym, subst, ◌∙◌, arith, inl, inr, append_assoc, length-append, take-append-drop}
use Rattle.std.specs.Prelude.{if◌then◌else◌, ◌==◌, slice_get, unwrap_or}
use Rattle.std.specs.List.{AllByRecursion, concat, onto_first}
use Rattle.std.specs.Str.{all_scalars}
use Rattle.std.proofs.lemmas.Bool.{and_parts, cases_lt, eqb-true}
use Rattle.std.proofs.lemmas.List.{take-append-le}
use Rattle.std.proofs.lemmas.Option.{slice_get_within}
use Rattle.plain_text.specs.Lines.{logical_lines}
use Rattle.plain_text.proofs.callers.ListLemmas.{AllByRecursion-append, AllByRecursion-weaker}
use Rattle.plain_screen.specs.declared.piece.Piece.{Piece}
use Rattle.plain_screen.specs.View.{ArePieces, LogicalLine, layout_line_of, line_under, pieces_by, pieces_from, pieces_of_line, start_of}
use Rattle.plain_screen.proofs.callers.OwnLemmas.{get_piece, start_of-get, starts-rise}
use Rattle.plain_screen.proofs.callers.ViewLemmas.{ArePieces-starts, IsLayoutLineOf-layout_line_of, IsLogicalLineOf-logical_line_of}
use Rattle.line_break.specs.Breaks.{breaks_of}
use Rattle.line_break.specs.Pieces.{wrapped_pieces}
use Rattle.line_break.proofs.ForCallers.{ArePieces-wrapped}
use Rattle.span_runs.specs.Spans.{sorted_spans}
use Rattle.doc_layout.proofs.ForCallers.{lines-read}
use Rattle.doc_view.specs.Inner.{AreAlikeViews, first_line_left_of}
use Rattle.doc_view.specs.Search.{results}
use Rattle.doc_view.specs.Told.{is_cut_alike}
use Rattle.doc_view.specs.View.{View, layout_in, pieces_in}
use Rattle.doc_view.proofs.FrontLemmas.{take-less}

-- ---- logical lines that end left of a gap

long-first : (c : ℕ) (n : ℕ) (lines : List (List ℕ)) → take (suc n) (onto_first c lines) ≡ onto_first c (take (suc n) lines)
long-first c zero [] = refl
long-first c (suc n) [] = refl
long-first c n (line ∷ lines) = refl

concat-first : (c : ℕ) (lines : List (List ℕ)) → concat (onto_first c lines) ≡ c ∷ concat lines
concat-first c [] = refl
concat-first c (line ∷ lines) = refl

count-first : (c : ℕ) (n : ℕ) (lines : List (List ℕ)) → suc n < length (onto_first c lines) → suc n < length lines
count-first c n [] more = absurd (omega (arith, more))
count-first c n (line ∷ lines) more = more

abbrev lines_with : Bool → ℕ → List ℕ → List (List ℕ)
lines_with b c text = if b then (c ∷ []) ∷ logical_lines text else onto_first c (logical_lines text)

some-line : (b : Bool) (c n : ℕ) (text : List ℕ) → length (concat (take (suc n) (lines_with b c text))) ≤ 0 → ⊥
some-line true c n text few = omega (arith, few)
some-line false c n text few =
    omega (arith, few, ap length (ap concat (long-first c n (logical_lines text)) ∙ concat-first c (take (suc n) (logical_lines text))))

-- so many lines are the same where they end by a gap and are not all
abbrev AreAlikeLines : ℕ → ℕ → List ℕ → List ℕ → Type 0
AreAlikeLines gap n text other = n < length (logical_lines text) → length (concat (take n (logical_lines text))) ≤ gap →
    take n (logical_lines text) ≡ take n (logical_lines other)

pub lines-alike-left : (gap n : ℕ) (text other : List ℕ) → take gap text ≡ take gap other → n < length (logical_lines text) →
    length (concat (take n (logical_lines text))) ≤ gap → take n (logical_lines text) ≡ take n (logical_lines other)
lines-alike-left gap zero text other same more left = refl
lines-alike-left gap (suc n) [] other same more left = absurd (omega (arith, more))
lines-alike-left zero (suc n) (c ∷ text) other same more left = absurd (some-line (c == 10) c n text left)
lines-alike-left (suc gap) (suc n) (c ∷ text) [] same more left = absurd cc
lines-alike-left (suc gap) (suc n) (c ∷ text) (d ∷ other) same more left =
    by (c == 10) refl more left (lines-alike-left gap n text other rest) (lines-alike-left gap (suc n) text other rest)
  where
    first : c ≡ d
    first = cc

    rest : take gap text ≡ take gap other
    rest = cc

    by : (b : Bool) → (c == 10) ≡ b → suc n < length (lines_with b c text) → length (concat (take (suc n) (lines_with b c text))) ≤ suc gap →
        AreAlikeLines gap n text other → AreAlikeLines gap (suc n) text other → take (suc n) (lines_with b c text) ≡ take (suc n) (lines_with (d == 10) d other)
    by true is many few alike more_alike =
        ap₂ (λ (e : ℕ) (lines : List (List ℕ)). (e ∷ []) ∷ lines) first (alike (omega (arith, many)) (omega (arith, few))) ∙
        ap (λ (b : Bool). take (suc n) (lines_with b d other)) (sym (ap (λ (e : ℕ). e == 10) (sym first) ∙ is))
    by false is many few alike more_alike =
        long-first c n (logical_lines text) ∙
        ap₂ onto_first first
        (more_alike (count-first c n (logical_lines text) many)
        (omega (arith, few, ap length (ap concat (long-first c n (logical_lines text)) ∙ concat-first c (take (suc n) (logical_lines text)))))) ∙
        sym (long-first d n (logical_lines other)) ∙
        ap (λ (b : Bool). take (suc n) (lines_with b d other)) (sym (ap (λ (e : ℕ). e == 10) (sym first) ∙ is))

-- ---- their pieces

module _ (ends_of : List ℕ → List ℕ) where
  abbrev pieces_behind : ℕ → ℕ → List (List ℕ) → List Piece
  pieces_behind number start lines = pieces_from number start (map (λ line. (line, ends_of line)) lines)

  pieces_behind-append : (number start : ℕ) (xs ys : List (List ℕ)) →
      pieces_behind number start (xs ++ ys) ≡ pieces_behind number start xs ++ pieces_behind (number + length xs) (start + length (concat xs)) ys
  pieces_behind-append number start [] ys =
      ap₂ (λ (k s : ℕ). pieces_behind k s ys) (let none : number ≡ number + 0 = omega arith in none) (let none : start ≡ start + 0 = omega arith in none)
  pieces_behind-append number start (x ∷ xs) ys =
      ap (λ (ps : List Piece). pieces_of_line start (Some number) 0 (ends_of x) ++ ps)
      (pieces_behind-append (number + 1) (start + length x) xs ys ∙
      ap₂ (λ (k s : ℕ). pieces_behind (number + 1) (start + length x) xs ++ pieces_behind k s ys)
      (let next : number + 1 + length xs ≡ number + length (x ∷ xs) = omega arith in next)
      (let more : start + length x + length (concat xs) ≡ start + length (concat (x ∷ xs)) = omega (arith, length-append x (concat xs)) in more)) ∙
      sym (append_assoc (pieces_of_line start (Some number) 0 (ends_of x)) (pieces_behind (number + 1) (start + length x) xs)
      (pieces_behind (number + length (x ∷ xs)) (start + length (concat (x ∷ xs))) ys))

  -- the pieces of the first lines, and those behind them
  pieces_by-parts : (n : ℕ) (text : List ℕ) → pieces_by ends_of text ≡
      pieces_behind 1 0 (take n (logical_lines text)) ++
      pieces_behind (1 + length (take n (logical_lines text))) (0 + length (concat (take n (logical_lines text)))) (drop n (logical_lines text))
  pieces_by-parts n text =
      ap (pieces_behind 1 0) (sym (take-append-drop n (logical_lines text))) ∙
      pieces_behind-append 1 0 (take n (logical_lines text)) (drop n (logical_lines text))

  pieces-alike : (gap n line : ℕ) (text other : List ℕ) → take gap text ≡ take gap other → n < length (logical_lines text) →
      length (concat (take n (logical_lines text))) ≤ gap → line ≤ length (pieces_behind 1 0 (take n (logical_lines text))) →
      take line (pieces_by ends_of text) ≡ take line (pieces_by ends_of other)
  pieces-alike gap n line text other same more left few =
      let lines = lines-alike-left gap n text other same more left in
      ap (take line) (pieces_by-parts n text) ∙ take-append-le line (pieces_behind 1 0 (take n (logical_lines text))) _ few ∙
      ap (λ (ls : List (List ℕ)). take line (pieces_behind 1 0 ls)) lines ∙
      sym (ap (take line) (pieces_by-parts n other) ∙
      take-append-le line (pieces_behind 1 0 (take n (logical_lines other))) _ (subst (λ (ls : List (List ℕ)). line ≤ length (pieces_behind 1 0 ls)) lines few))

-- ---- the line that starts behind them

-- pieces that start at a gap or right of it
abbrev StartBy : ℕ → List Piece → Type 0
StartBy gap pieces = AllByRecursion (λ (piece : Piece). gap ≤ piece.start) pieces

start-line : (start : ℕ) (ln : _) (from : ℕ) (ends : List ℕ) → StartBy start (pieces_of_line start ln from ends)
start-line start ln from [] = tt
start-line start ln from (end ∷ ends) = (omega arith, start-line start _ end ends)

start-lines : (number start : ℕ) (cuts : List (List ℕ × List ℕ)) → StartBy start (pieces_from number start cuts)
start-lines number start [] = tt
start-lines number start ((line, ends) ∷ cuts) =
    AllByRecursion-append (λ (piece : Piece). start ≤ piece.start) (pieces_of_line start (Some number) 0 ends) (pieces_from (number + 1) (start + length line) cuts)
    (start-line start (Some number) 0 ends)
    (AllByRecursion-weaker (λ (piece : Piece). start + length line ≤ piece.start) (λ (piece : Piece). start ≤ piece.start) (λ piece le. omega (arith, le))
    (pieces_from (number + 1) (start + length line) cuts) (start-lines (number + 1) (start + length line) cuts))

start-at : (gap i : ℕ) (front back : List Piece) (piece : Piece) → StartBy gap back → length front ≤ i → slice_get (front ++ back) i ≡ Some piece →
    gap ≤ piece.start
start-at gap i [] [] piece by past is = absurd cc
start-at gap zero [] (first ∷ back) piece by past is =
    let same : first ≡ piece = ap (λ o. unwrap_or o first) is in subst (λ (p : Piece). gap ≤ p.start) same by.0
start-at gap (suc i) [] (first ∷ back) piece by past is = start-at gap i [] back piece by.1 (omega arith) is
start-at gap zero (first ∷ front) back piece by past is = absurd (omega (arith, past))
start-at gap (suc i) (first ∷ front) back piece by past is = start-at gap i front back piece by (omega (arith, past)) is

-- as many pieces stand before the line of a gap as end left of it
few-before : (text : List ℕ) (pieces front back : List Piece) (gap : ℕ) → ArePieces text pieces → pieces ≡ front ++ back → StartBy gap back →
    layout_line_of pieces gap ≤ length front
few-before text pieces front back gap are parts by = elim (cases_lt (length front) (layout_line_of pieces gap)) [
  | inl past ↦
      let own = IsLayoutLineOf-layout_line_of text pieces gap are in
      let one = get_piece pieces (length front) (omega (arith, past, own.inside)) in
      let line = get_piece pieces (layout_line_of pieces gap) own.inside in
      let low = start-at gap (length front) front back one.0 by (omega arith) (subst (λ (ps : List Piece). slice_get ps (length front) ≡ Some one.0) parts one.1) in
      let rise = starts-rise 0 (length front) (layout_line_of pieces gap) pieces one.0 line.0 (ArePieces-starts text pieces are).0 past one.1 line.1 in
      absurd (omega (arith, low, rise, own.by_then line.0 line.1))
  | inr fine ↦ fine
]

line-rises : (text : List ℕ) (pieces : List Piece) (gap at : ℕ) → ArePieces text pieces → gap ≤ at → layout_line_of pieces gap ≤ layout_line_of pieces at
line-rises text pieces gap at are le = elim (cases_lt (layout_line_of pieces at) (layout_line_of pieces gap)) [
  | inl past ↦
      let one = IsLayoutLineOf-layout_line_of text pieces gap are in
      let line = get_piece pieces (layout_line_of pieces gap) one.inside in
      absurd (omega (
        arith,
        one.by_then line.0 line.1,
        (IsLayoutLineOf-layout_line_of text pieces at are).last (layout_line_of pieces gap) line.0 past line.1,
        le,
      ))
  | inr fine ↦ fine
]

-- ---- two views

-- the logical line of a gap in a view, and its first line
abbrev under_gap : View → ℕ → LogicalLine
under_gap view gap = line_under view.text (pieces_in view) (layout_line_of (pieces_in view) gap)

abbrev line_under_gap : View → ℕ → ℕ
line_under_gap view gap = layout_line_of (pieces_in view) (under_gap view gap).start

-- LINES BEFORE THE LOGICAL LINE of the character left of a gap are the same where views are alike up to it
pub front-alike : (before after : View) (gap : ℕ) → all_scalars before.text ≡ true → length before.text ≡ length after.text →
    is_cut_alike before after ≡ true → AreAlikeViews gap before after →
    take (first_line_left_of before gap) (layout_in before) ≡ take (first_line_left_of before gap) (layout_in after)
front-alike before after zero characters long cut alike = refl
front-alike before after (suc gap) characters long cut alike =
    lines-read before.text after.text pieces (pieces_in after) before.regions after.regions (results before.text before.query) (results after.text after.query)
    before.layers after.layers gap (line_under_gap before gap) are (record {
      long = long;
      characters = take-less gap (suc gap) before.text after.text (omega arith) alike.characters;
      carets = λ at left. alike.regions.carets at (omega (arith, left));
      selected = λ index left. alike.regions.selected index (omega (arith, left));
      found = λ index left. alike.found index (omega (arith, left));
      styled = λ range left. ap sorted_spans (alike.styled range (omega (arith, left)));
    }) (same ∙ ap (take (line_under_gap before gap)) widths) (line-rises before.text pieces (under_gap before gap).start gap are low)
  where
    width : ℕ
    width = before.config.width

    tab : ℕ
    tab = before.config.tab

    pieces : List Piece
    pieces = pieces_in before

    are : ArePieces before.text (pieces_in before)
    are = ArePieces-wrapped before.config.width before.config.tab before.text characters

    widths : wrapped_pieces width tab after.text ≡ pieces_in after
    widths =
        let tabs = and_parts (before.config.tab == after.config.tab) _ cut in
        let both = and_parts (before.config.width == after.config.width) _ tabs.1 in
        ap₂ (λ w t. wrapped_pieces w t after.text) (eqb-true before.config.width after.config.width both.0) (eqb-true before.config.tab after.config.tab tabs.0)

    low : (under_gap before gap).start ≤ gap
    low =
        let own = IsLayoutLineOf-layout_line_of before.text (pieces_in before) gap are in
        let found = get_piece (pieces_in before) (layout_line_of (pieces_in before) gap) own.inside in
        omega (
          arith,
          (IsLogicalLineOf-logical_line_of before.text (start_of (pieces_in before) (layout_line_of (pieces_in before) gap))).by_then,
          start_of-get (pieces_in before) (layout_line_of (pieces_in before) gap) found.0 found.1,
          own.by_then found.0 found.1,
        )

    same : take (line_under_gap before gap) (wrapped_pieces width tab before.text) ≡ take (line_under_gap before gap) (wrapped_pieces width tab after.text)
    same =
        let logical = IsLogicalLineOf-logical_line_of before.text (start_of (pieces_in before) (layout_line_of (pieces_in before) gap)) in
        let lines = take (under_gap before gap).index (logical_lines before.text) in
        let parts = pieces_by-parts (breaks_of width tab) (under_gap before gap).index before.text in
        let there = start-lines (1 + length lines) (0 + length (concat lines)) (map (λ l. (l, breaks_of width tab l)) (drop (under_gap before gap).index (logical_lines before.text))) in
        let starts : 0 + length (concat lines) ≡ (under_gap before gap).start = omega (arith, logical.start) in
        pieces-alike (breaks_of width tab) gap (under_gap before gap).index (line_under_gap before gap) before.text after.text
        (take-less gap (suc gap) before.text after.text (omega arith) alike.characters)
        (slice_get_within (logical_lines before.text) (under_gap before gap).index (under_gap before gap).text logical.is) (omega (arith, logical.start, low))
        (few-before before.text (pieces_in before) (pieces_behind (breaks_of width tab) 1 0 lines) _ (under_gap before gap).start are parts
        (subst (λ (n : ℕ). StartBy n (pieces_from (1 + length lines) (0 + length (concat lines)) (map (λ l. (l, breaks_of width tab l)) (drop (under_gap before gap).index (logical_lines before.text)))))
        starts there))

-- the line that is looked up
pub first_line-some : (view : View) (gap line start : ℕ) → 0 < gap → start ≡ (line_under view.text (pieces_in view) (layout_line_of (pieces_in view) (gap - 1))).start →
    line ≡ layout_line_of (pieces_in view) start → line ≡ first_line_left_of view gap
first_line-some view zero line start some is at = absurd (omega (arith, some))
first_line-some view (suc gap) line start some is at =
    at ∙ ap (layout_line_of (pieces_in view))
    (is ∙ ap (λ (n : ℕ). (line_under view.text (pieces_in view) (layout_line_of (pieces_in view) n)).start) (let back : suc gap - 1 ≡ gap = omega arith in back))

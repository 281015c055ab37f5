-- What a search found, as spans: results that touch are one run, and these runs are all that is found.
use Rattle.std.proofs.Common.{◌≡◌, ℕ, zero, suc, Bool, true, false, cond, ◌+◌, ◌-◌, ◌<◌, ◌≤◌, List, [], ◌∷◌, ◌++◌, length, map, get_or, Option, Some, None, refl, ap, ap₂, sym, subst, ◌∙◌, arith, inl, inr}
use Rattle.std.specs.Prelude.{◌&&◌, ◌||◌, ◌==◌, if◌then◌else◌}
use Rattle.std.specs.List.{AllByRecursion, filter}
use Rattle.std.specs.List.Sorted.{IsNonDecreasingBy}
use Rattle.std.proofs.lemmas.Bool.{cases_lt, lt-ltb}
use Rattle.std.proofs.lemmas.Bool.Decides.{nat_tests}
use Rattle.plain_text.specs.declared.run.Run.{Run}
use Rattle.plain_text.specs.declared.selection.Region.{Region}
use Rattle.plain_edits.specs.declared.style.Span.{Span}
use Rattle.plain_edits.specs.Styles.{Layer}
use Rattle.plain_screen.specs.declared.piece.Piece.{Piece}
use Rattle.plain_screen.specs.declared.screen.Line.{Line}
use Rattle.plain_screen.specs.Plan.{is_within}
use Rattle.span_runs.specs.Triples.{triples_of}
use Rattle.line_render.specs.Inner.{onto_run, styled_span}
use Rattle.line_render.specs.Rendered.{carets_of, cursor_of, cut_spans, own_gaps, rendered_piece, selected_spans, text_of_piece}
use Rattle.line_render.proofs.ForCallers.{runs_by, runs_by-same, runs_by-none, runs_by-all}
use Rattle.find_core.specs.Laws.{AreMatchesFrom}
use Rattle.find_core.specs.Matches.{folded, matches_of}
use Rattle.find_core.proofs.ForCallers.{matches_of-are, matches_of-inside}
use Rattle.match_index.specs.Found.{Found, joined, joined_onto, runs_in, shares, touching}
use Rattle.doc_layout.specs.Found.{is_found, found_spans, MayShow, RiseApart}
use Rattle.doc_layout.specs.Layout.{layout_line, styled_spans}
use Rattle.doc_layout.specs.Inner.{IsPieceIn, joined_spans}
use Rattle.doc_layout.proofs.AskedLemmas.{in-run, before-run, past-run}
use Rattle.doc_layout.proofs.CutLemmas.{cut_spans-append, found-cut}

-- ---- the runs of what is found

abbrev style_in : List Run → ℕ → Option ℕ
style_in results index = if is_found results index then Some 1 else None

is_found-first : (run : Run) (results : List Run) (index : ℕ) → is_within run index ≡ true → is_found (run ∷ results) index ≡ true
is_found-first run results index here = ap (λ b. b || is_found results index) here

is_found-rest : (run : Run) (results : List Run) (index : ℕ) → is_within run index ≡ false → is_found (run ∷ results) index ≡ is_found results index
is_found-rest run results index none = ap (λ b. b || is_found results index) none

is_found-below : (len from index : ℕ) (results : List Run) → RiseApart len from results → index < from → is_found results index ≡ false
is_found-below len from index [] rise below = refl
is_found-below len from index (run ∷ results) rise below =
    is_found-rest run results index (before-run run index (omega (arith, rise.0, below))) ∙
    is_found-below len run.end index results rise.3 (omega (arith, rise.0, rise.1, below))

style_in-same : (a b : Bool) → a ≡ b → ◌≡◌ {A = Option ℕ} (if a then Some 1 else None) (if b then Some 1 else None)
style_in-same a b same = ap (λ c. if c then Some 1 else None) same

joined-runs : (len from n : ℕ) (results : List Run) → RiseApart len from results → from + n ≡ len → joined_spans results ≡ runs_by (style_in results) from n
joined-runs len from n [] rise long = sym (runs_by-none (style_in []) from n 0 n (from + n) (λ i le lt. refl) (omega arith) refl)
joined-runs len from n (run ∷ results) rise long =
    ap (onto_run 1 run) (joined-runs len run.end (len - run.end) results rise.3 (omega (arith, rise.2))) ∙ sym parts
  where
    before : (i : ℕ) → i < run.start → style_in (run ∷ results) i ≡ None
    before i below = style_in-same (is_found (run ∷ results) i) false
        (is_found-rest run results i (before-run run i below) ∙ is_found-below len run.end i results rise.3 (omega (arith, below, rise.1)))

    inside : (i : ℕ) → run.start ≤ i → i < run.end → style_in (run ∷ results) i ≡ Some 1
    inside i low high = style_in-same (is_found (run ∷ results) i) true (is_found-first run results i (in-run run i low high))

    after : (i : ℕ) → run.end ≤ i → style_in (run ∷ results) i ≡ style_in results i
    after i past = style_in-same (is_found (run ∷ results) i) (is_found results i) (is_found-rest run results i (past-run run i past))

    parts : runs_by (style_in (run ∷ results)) from n ≡ onto_run 1 run (runs_by (style_in results) run.end (len - run.end))
    parts =
        runs_by-none (style_in (run ∷ results)) from (run.start - from) (len - run.start) n run.start
        (λ i low high. before i (omega (arith, high, rise.0))) (omega (arith, rise.0, rise.1, rise.2, long)) (omega (arith, rise.0)) ∙
        runs_by-all 1 (style_in (run ∷ results)) run.start (run.end - run.start - 1) (len - run.end) (len - run.start) run.end
        inside (omega (arith, rise.1, rise.2)) (omega (arith, rise.1)) ∙
        ap (onto_run 1 run) (runs_by-same (style_in (run ∷ results)) (style_in results) run.end (len - run.end) (λ i low high. after i low))

-- THE JOINED RESULTS are the maximal runs of what is found
joined-found : (len : ℕ) (results : List Run) → RiseApart len 0 results → joined_spans results ≡ found_spans results len
joined-found len results rise = joined-runs len 0 len results rise (omega arith)

-- ---- and they rise

-- spans from a gap on: each has a character, and none begins before the one before it ends
abbrev AreApart : ℕ → List Span → Type 0
AreApart from [] = Unit {0}
AreApart from (span ∷ spans) = (from ≤ span.start) × (span.start < span.end) × AreApart span.end spans

AreApart-onto_run : (from : ℕ) (run : Run) (spans : List Span) → from ≤ run.start → run.start < run.end → AreApart run.end spans → AreApart from (onto_run 1 run spans)
AreApart-onto_run from run [] low some apart = (low, some, tt)
AreApart-onto_run from run (next ∷ spans) low some apart = by (next.start == run.end && next.style == 1)
  where
    by : (b : Bool) → AreApart from (if b then record { start = run.start; end = next.end; style = 1 } ∷ spans else styled_span 1 run ∷ next ∷ spans)
    by true = (low, omega (arith, some, apart.0, apart.1), apart.2)
    by false = (low, some, apart)

AreApart-joined : (len from : ℕ) (results : List Run) → RiseApart len from results → AreApart from (joined_spans results)
AreApart-joined len from [] rise = tt
AreApart-joined len from (run ∷ results) rise = AreApart-onto_run from run (joined_spans results) rise.0 rise.1 (AreApart-joined len run.end results rise.3)

stands_after : (from i : ℕ) (spans : List Span) (d : Span) → AreApart from spans → i < length spans →
    (from ≤ (get_or spans i d).start) × ((get_or spans i d).start < (get_or spans i d).end)
stands_after from i [] d apart inside = absurd (omega arith)
stands_after from zero (span ∷ spans) d apart inside = (apart.0, apart.1)
stands_after from (suc i) (span ∷ spans) d apart inside =
    let more = stands_after span.end i spans d apart.2 (omega arith) in (omega (arith, apart.0, apart.1, more.0), more.1)

starts_rise : (from : ℕ) (spans : List Span) → AreApart from spans → IsNonDecreasingBy (λ span. span.start) spans
starts_rise from [] apart i j d le inside = absurd (omega arith)
starts_rise from (span ∷ spans) apart zero zero d le inside = omega arith
starts_rise from (span ∷ spans) apart zero (suc j) d le inside =
    let more = stands_after span.end j spans d apart.2 (omega arith) in omega (arith, apart.1, more.0)
starts_rise from (span ∷ spans) apart (suc i) zero d le inside = absurd (omega arith)
starts_rise from (span ∷ spans) apart (suc i) (suc j) d le inside = starts_rise span.end spans apart.2 i j d (omega arith) (omega arith)

ends_rise : (from : ℕ) (spans : List Span) → AreApart from spans → IsNonDecreasingBy (λ span. span.end) spans
ends_rise from [] apart i j d le inside = absurd (omega arith)
ends_rise from (span ∷ spans) apart zero zero d le inside = omega arith
ends_rise from (span ∷ spans) apart zero (suc j) d le inside =
    let more = stands_after span.end j spans d apart.2 (omega arith) in omega (arith, more.0, more.1)
ends_rise from (span ∷ spans) apart (suc i) zero d le inside = absurd (omega arith)
ends_rise from (span ∷ spans) apart (suc i) (suc j) d le inside = ends_rise span.end spans apart.2 i j d (omega arith) (omega arith)

joined-starts : (len : ℕ) (results : List Run) → RiseApart len 0 results → IsNonDecreasingBy (λ span. span.start) (joined_spans results)
joined-starts len results rise = starts_rise 0 (joined_spans results) (AreApart-joined len 0 results rise)

joined-ends : (len : ℕ) (results : List Run) → RiseApart len 0 results → IsNonDecreasingBy (λ span. span.end) (joined_spans results)
joined-ends len results rise = ends_rise 0 (joined_spans results) (AreApart-joined len 0 results rise)

-- ---- results that have a character of a run

eqb-flip : (n m : ℕ) → (n == m) ≡ (m == n)
eqb-flip n m = grind (arith, nat_tests)

onto-joined : (run next : Run) (spans : List Span) → onto_run 1 run (onto_run 1 next spans) ≡
    (if run.end == next.start then onto_run 1 (record { start = run.start; end = next.end }) spans else styled_span 1 run ∷ onto_run 1 next spans)
onto-joined run next [] = ap (λ (b : Bool). if b && true then record { start = run.start; end = next.end; style = 1 } ∷ []
    else styled_span 1 run ∷ styled_span 1 next ∷ []) (eqb-flip next.start run.end) ∙ by (run.end == next.start)
  where
    by : (b : Bool) → (if b && true then record { start = run.start; end = next.end; style = 1 } ∷ [] else styled_span 1 run ∷ styled_span 1 next ∷ []) ≡
        (if b then onto_run 1 (record { start = run.start; end = next.end }) [] else styled_span 1 run ∷ onto_run 1 next [])
    by true = refl
    by false = refl
onto-joined run next (first ∷ spans) = by (first.start == next.end && first.style == 1)
  where
    longer : List Span
    longer = record { start = next.start; end = first.end; style = 1 } ∷ spans

    apart : List Span
    apart = styled_span 1 next ∷ first ∷ spans

    ends : (b c : Bool) → (if c && true then (if b then record { start = run.start; end = first.end; style = 1 } ∷ spans
        else record { start = run.start; end = next.end; style = 1 } ∷ first ∷ spans) else styled_span 1 run ∷ (if b then longer else apart)) ≡
        (if c then (if b then record { start = run.start; end = first.end; style = 1 } ∷ spans
        else styled_span 1 (record { start = run.start; end = next.end }) ∷ first ∷ spans) else styled_span 1 run ∷ (if b then longer else apart))
    ends b true = refl
    ends b false = refl

    onto : (b : Bool) → onto_run 1 run (if b then longer else apart) ≡
        (if next.start == run.end && true then (if b then record { start = run.start; end = first.end; style = 1 } ∷ spans
        else record { start = run.start; end = next.end; style = 1 } ∷ first ∷ spans) else styled_span 1 run ∷ (if b then longer else apart))
    onto true = refl
    onto false = refl

    by : (b : Bool) → onto_run 1 run (if b then longer else apart) ≡
        (if run.end == next.start then (if b then record { start = run.start; end = first.end; style = 1 } ∷ spans
        else styled_span 1 (record { start = run.start; end = next.end }) ∷ first ∷ spans) else styled_span 1 run ∷ (if b then longer else apart))
    by b =
        onto b ∙
        ap (λ (c : Bool). if c && true then (if b then record { start = run.start; end = first.end; style = 1 } ∷ spans
        else record { start = run.start; end = next.end; style = 1 } ∷ first ∷ spans) else styled_span 1 run ∷ (if b then longer else apart))
        (eqb-flip next.start run.end) ∙
        ends b (run.end == next.start)

-- runs that are joined are the joined spans
map-joined_onto : (run : Run) (results : List Run) → map (styled_span 1) (joined_onto run results) ≡ onto_run 1 run (joined_spans results)
map-joined_onto run [] = refl
map-joined_onto run (next ∷ results) =
    by (run.end == next.start) (map-joined_onto (record { start = run.start; end = next.end }) results) (map-joined_onto next results) ∙
    sym (onto-joined run next (joined_spans results))
  where
    by : (b : Bool) → map (styled_span 1) (joined_onto (record { start = run.start; end = next.end }) results) ≡
        onto_run 1 (record { start = run.start; end = next.end }) (joined_spans results) →
        map (styled_span 1) (joined_onto next results) ≡ onto_run 1 next (joined_spans results) →
        map (styled_span 1) (if b then joined_onto (record { start = run.start; end = next.end }) results else run ∷ joined_onto next results) ≡
        (if b then onto_run 1 (record { start = run.start; end = next.end }) (joined_spans results) else styled_span 1 run ∷ onto_run 1 next (joined_spans results))
    by true one other = one
    by false one other = ap (λ (spans : List Span). styled_span 1 run ∷ spans) other

map-joined : (results : List Run) → map (styled_span 1) (joined results) ≡ joined_spans results
map-joined [] = refl
map-joined (run ∷ results) = map-joined_onto run results

pub RiseApart-lower : (len low from : ℕ) (results : List Run) → low ≤ from → RiseApart len from results → RiseApart len low results
RiseApart-lower len low from [] le rise = tt
RiseApart-lower len low from (run ∷ results) le rise = (omega (arith, le, rise.0), rise.1, rise.2, rise.3)

pub RiseApart-filter : (p : Run → Bool) (len from : ℕ) (results : List Run) → RiseApart len from results → RiseApart len from (filter p results)
RiseApart-filter p len from [] rise = tt
RiseApart-filter p len from (run ∷ results) rise = by (p run) (RiseApart-filter p len run.end results rise.3)
  where
    by : (b : Bool) → RiseApart len run.end (filter p results) → RiseApart len from (cond b (run ∷ filter p results) (filter p results))
    by true rest = (rise.0, rise.1, rise.2, rest)
    by false rest = RiseApart-lower len from run.end (filter p results) (omega (arith, rise.0, rise.1)) rest

-- a character of the run that is found stands in one of them
not_within : (range run : Run) (index : ℕ) → range.start ≤ index → index < range.end → shares range run ≡ false → is_within run index ≡ false
not_within range run index low high none = elim (cases_lt index run.start) [
  | inl before ↦ before-run run index before
  | inr from ↦ elim (cases_lt index run.end) [
    | inl inside ↦ absurd (let both = ap₂ (λ a b. a && b) (lt-ltb range.start run.end (omega (arith, low, inside))) (lt-ltb run.start range.end (omega (arith, high, from))) in
        let wrong = sym both ∙ none in cc)
    | inr past ↦ past-run run index past
  ]
]

pub found-shared : (range : Run) (results : List Run) (index : ℕ) → range.start ≤ index → index < range.end →
    is_found (filter (shares range) results) index ≡ is_found results index
found-shared range [] index low high = refl
found-shared range (run ∷ results) index low high = by (shares range run) refl (found-shared range results index low high)
  where
    by : (b : Bool) → shares range run ≡ b → is_found (filter (shares range) results) index ≡ is_found results index →
        is_found (cond b (run ∷ filter (shares range) results) (filter (shares range) results)) index ≡ is_found (run ∷ results) index
    by true is rest = ap (λ (b : Bool). is_within run index || b) rest
    by false is rest = rest ∙ sym (is_found-rest run results index (not_within range run index low high is))

-- RESULTS THAT TOUCH A PIECE are cut there as all that is found
module _ (range : Run) (len : ℕ) (results : List Run) (rise : RiseApart len 0 results) where
  touched-are : map (styled_span 1) (touching range results) ≡ joined_spans (filter (shares range) results)
  touched-are = map-joined (filter (shares range) results)

  some_rise : RiseApart len 0 (filter (shares range) results)
  some_rise = RiseApart-filter (shares range) len 0 results rise

  touched-cut : range.end ≤ len → cut_spans range.start range.end (map (styled_span 1) (touching range results)) ≡
      cut_spans range.start range.end (found_spans results len)
  touched-cut inside =
      ap (cut_spans range.start range.end) (touched-are ∙ joined-found len (filter (shares range) results) some_rise) ∙
      found-cut range.start range.end (filter (shares range) results) results len len inside inside (λ index low high. found-shared range results index low high)

  pub touched-starts : IsNonDecreasingBy (λ (span : Span). span.start) (map (styled_span 1) (touching range results))
  touched-starts = subst (IsNonDecreasingBy (λ (span : Span). span.start)) (sym touched-are) (joined-starts len (filter (shares range) results) some_rise)

  pub touched-ends : IsNonDecreasingBy (λ (span : Span). span.end) (map (styled_span 1) (touching range results))
  touched-ends = subst (IsNonDecreasingBy (λ (span : Span). span.end)) (sym touched-are) (joined-ends len (filter (shares range) results) some_rise)

-- the matches in a text rise in it
RiseApart-are : (chars text : List ℕ) (len from : ℕ) (runs : List Run) → AreMatchesFrom chars text from runs →
    AllByRecursion (λ run. (run.start < run.end) × (run.end ≤ len)) runs → RiseApart len from runs
RiseApart-are chars text len from [] are inside = tt
RiseApart-are chars text len from (run ∷ runs) are inside =
    (are.0.after, inside.0.0, inside.0.1, RiseApart-are chars text len run.end runs are.1 inside.1)

pub RiseApart-matches : (text chars : List ℕ) (fold : Bool) → RiseApart (length text) 0 (matches_of text chars fold)
RiseApart-matches text [] fold = tt
RiseApart-matches text (c ∷ chars) fold =
    RiseApart-are (folded fold (c ∷ chars)) (folded fold text) (length text) 0 (matches_of text (c ∷ chars) fold)
    (matches_of-are text (c ∷ chars) fold (omega arith)) (matches_of-inside text (c ∷ chars) fold)

pub RiseApart-shown : (text : List ℕ) (regions : List Region) (results : Found) → MayShow text regions results → RiseApart (length text) 0 (runs_in results)
RiseApart-shown text regions results may =
    subst (λ (t : List ℕ). RiseApart (length t) 0 (runs_in results)) may.searched (RiseApart-matches results.text results.chars results.fold)

-- a piece rendered, by the spans that are cut there
abbrev rendered_by : List ℕ → Piece → Bool → List Region → List Span → Line
rendered_by line piece is_last regions cuts =
    record {
      text = line;
      ln = piece.ln;
      cursor = cursor_of (carets_of regions) piece.start (own_gaps is_last (length line)) line;
      styles = triples_of line (selected_spans regions piece.start (length line) ++ cuts);
    }

-- A LINE IS RENDERED from the results that touch its piece
pub line-touched : (text : List ℕ) (regions : List Region) (results : Found) (layers : List Layer) (piece : Piece) (is_last : Bool) → MayShow text regions results →
    IsPieceIn text piece is_last →
    rendered_piece (text_of_piece text piece) piece is_last regions
    (map (styled_span 1) (touching (record { start = piece.start; end = piece.end }) (runs_in results)) ++ styled_spans layers piece) ≡
    layout_line text regions (runs_in results) layers piece
line-touched text regions results layers piece is_last may is =
    ap (rendered_by (text_of_piece text piece) piece is_last regions)
    (cut_spans-append piece.start piece.end touched (styled_spans layers piece) ∙
    ap (λ (spans : List Span). spans ++ cut_spans piece.start piece.end (styled_spans layers piece))
    (touched-cut range (length text) (runs_in results) (RiseApart-shown text regions results may) is.inside) ∙
    sym (cut_spans-append piece.start piece.end (found_spans (runs_in results) (length text)) (styled_spans layers piece))) ∙
    sym (is.alike regions (found_spans (runs_in results) (length text) ++ styled_spans layers piece))
  where
    range : Run
    range = record { start = piece.start; end = piece.end }

    touched : List Span
    touched = map (styled_span 1) (touching range (runs_in results))

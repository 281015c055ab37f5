-- What a layout tells of the characters that are selected and found.
use Rattle.std.proofs.Common.{◌≡◌, ℕ, zero, suc, ◌+◌, ◌-◌, ◌<◌, ◌≤◌, Bool, true, false, cond, List, [], ◌∷◌, ◌++◌, length, drop, map, Option, Some, None, refl, ap, ap₂, sym, subst, ◌∙◌, arith, inl, inr, pos, ◌-ℤ◌}
use Rattle.std.specs.Prelude.{◌||◌, ◌&&◌, ◌==◌, if◌then◌else◌, nat_le, nat_lt, not, min, max, option_map, slice_get, slice_range, unwrap_or, IfSome}
use Rattle.std.specs.List.{AllByRecursion, flat_map, filter, list_any}
use Rattle.std.specs.Ordering.{is_lt}
use Rattle.std.proofs.Math.Bool.{and-false, and-true, or-false, or_assoc}
use Rattle.std.proofs.Math.IntN.{nat_abs, ◌+ℤ◌, -ℤ-+ℤ_cancel}
use Rattle.std.proofs.lemmas.Bool.{cases_lt, eqb-true}
use Rattle.std.proofs.lemmas.Bool.Decides.{nat_tests}
use Rattle.std.proofs.lemmas.List.Folds.{list_any-append}
use Rattle.std.proofs.lemmas.Option.{slice_get-map}
use Rattle.plain_text.specs.declared.run.Run.{Run}
use Rattle.plain_text.specs.declared.selection.Region.{Region}
use Rattle.plain_text.specs.Text.{place_of}
use Rattle.plain_text.proofs.callers.ListLemmas.{AllByRecursion-append, AllByRecursion-take}
use Rattle.plain_text.proofs.callers.PlaceLemmas.{place_of-rises_strictly}
use Rattle.plain_edits.specs.declared.style.Span.{Span}
use Rattle.plain_edits.specs.Styles.{Layer}
use Rattle.plain_screen.specs.declared.piece.Piece.{Piece}
use Rattle.plain_screen.specs.declared.screen.Line.{Line}
use Rattle.plain_screen.specs.declared.screen.Triple.{Triple}
use Rattle.plain_screen.specs.View.{ArePieces, layout_line_of}
use Rattle.plain_screen.proofs.callers.OwnLemmas.{get_piece}
use Rattle.plain_screen.proofs.callers.ViewLemmas.{IsLayoutLineOf-layout_line_of}
use Rattle.span_runs.specs.Spans.{onto_spans, span_cmp, sorted_spans, spans_from, spans_in, with_span}
use Rattle.span_runs.specs.Triples.{LieInLine, triples_after}
use Rattle.line_render.specs.Rendered.{cut_span, cut_spans, ends_in_feed, is_last_piece, is_selected, own_gaps, reaches_in, selected_spans, text_of_piece}
use Rattle.line_render.proofs.ForCallers.{length-text_of_piece, own-layout_line_of, piece-inside, runs_by}
use Rattle.doc_layout.specs.Found.{found_spans, is_found}
use Rattle.doc_layout.specs.Layout.{layout, layout_line, styled_spans}
use Rattle.doc_layout.proofs.ForCallers.{layouts-tell}
use Rattle.document_laws.specs.Marks.{HaveOwnIds}

-- whether a span of this id stands over a character, and whether one of some spans does
abbrev shows : ℕ → ℕ → Span → Bool
shows id at span = span.style == id && (nat_le span.start at && nat_lt at span.end)

abbrev is_shown : ℕ → ℕ → List Span → Bool
is_shown id at spans = list_any (shows id at) spans

-- ---- tests

or-swap : (a b c : Bool) → (a || (b || c)) ≡ (b || (a || c))
or-swap true true c = refl
or-swap true false c = refl
or-swap false b c = refl

-- ---- the order of spans changes nothing

shown-with_span : (id at : ℕ) (span : Span) (spans : List Span) → is_shown id at (with_span span spans) ≡ (shows id at span || is_shown id at spans)
shown-with_span id at span [] = refl
shown-with_span id at span (first ∷ spans) = by (is_lt (span_cmp first span)) (shown-with_span id at span spans)
  where
    by : (b : Bool) → is_shown id at (with_span span spans) ≡ (shows id at span || is_shown id at spans) →
        is_shown id at (if b then first ∷ with_span span spans else span ∷ first ∷ spans) ≡ (shows id at span || (shows id at first || is_shown id at spans))
    by true rest = ap (λ b. shows id at first || b) rest ∙ or-swap (shows id at first) (shows id at span) (is_shown id at spans)
    by false rest = refl

shown-sorted : (id at : ℕ) (spans : List Span) → is_shown id at (sorted_spans spans) ≡ is_shown id at spans
shown-sorted id at [] = refl
shown-sorted id at (span ∷ spans) = shown-with_span id at span (sorted_spans spans) ∙ ap (λ b. shows id at span || b) (shown-sorted id at spans)

all-with_span : (P : Span → Type 0) (span : Span) (spans : List Span) → P span → AllByRecursion P spans → AllByRecursion P (with_span span spans)
all-with_span P span [] one all = (one, tt)
all-with_span P span (first ∷ spans) one all = by (is_lt (span_cmp first span)) (all-with_span P span spans one all.1)
  where
    by : (b : Bool) → AllByRecursion P (with_span span spans) → AllByRecursion P (if b then first ∷ with_span span spans else span ∷ first ∷ spans)
    by true rest = (all.0, rest)
    by false rest = (one, all)

all-sorted : (P : Span → Type 0) (spans : List Span) → AllByRecursion P spans → AllByRecursion P (sorted_spans spans)
all-sorted P [] all = tt
all-sorted P (span ∷ spans) all = all-with_span P span (sorted_spans spans) all.0 (all-sorted P spans all.1)

-- ---- triples tell their spans

place-one : (line : List ℕ) (gap other : ℕ) → gap ≤ length line → other ≤ length line → place_of line gap ≡ place_of line other → gap ≡ other
place-one line gap other inside too same = elim (cases_lt gap other) [
  | inl less ↦ absurd (omega (arith, same, place_of-rises_strictly line gap other less too))
  | inr more ↦ elim (cases_lt other gap) [
    | inl less ↦ absurd (omega (arith, same, place_of-rises_strictly line other gap less inside))
    | inr both ↦ omega (arith, more, both)
  ]
]

place-up : (line : List ℕ) (gap other : ℕ) → gap ≤ other → other ≤ length line → place_of line gap ≤ place_of line other
place-up line gap other up inside = elim (cases_lt gap other) [
  | inl less ↦ omega (arith, place_of-rises_strictly line gap other less inside)
  | inr past ↦ subst (λ n. place_of line gap ≤ place_of line n) (let one : gap ≡ other = omega (arith, up, past) in one) (omega arith)
]

offset-one : (a b end : ℕ) → pos a -ℤ pos end ≡ pos b -ℤ pos end → a ≡ b
offset-one a b end same =
    ap nat_abs (sym (-ℤ-+ℤ_cancel (pos a) (pos end)) ∙ ap (λ z. z +ℤ pos end) same ∙ -ℤ-+ℤ_cancel (pos b) (pos end))

span-one : (span other : Span) → span.start ≡ other.start → span.end ≡ other.end → span.style ≡ other.style → span ≡ other
span-one span other starts ends styles =
    ap (λ n. record { start = n; end = span.end; style = span.style }) starts ∙
    ap (λ n. record { start = other.start; end = n; style = span.style }) ends ∙
    ap (λ n. record { start = other.start; end = other.end; style = n }) styles

abbrev first_of : Triple → List Triple → Triple
first_of d [] = d
first_of d (triple ∷ triples) = triple

abbrev rest_of : List Triple → List Triple
rest_of [] = []
rest_of (triple ∷ triples) = triples

triples-tell : (line : List ℕ) (end : ℕ) (spans others : List Span) → LieInLine (length line) spans → LieInLine (length line) others →
    triples_after line end spans ≡ triples_after line end others → spans ≡ others
triples-tell line end [] [] lie also same = refl
triples-tell line end [] (other ∷ others) lie also same = absurd (let long = ap length same in omega (arith, long))
triples-tell line end (span ∷ spans) [] lie also same = absurd (let long = ap length same in omega (arith, long))
triples-tell line end (span ∷ spans) (other ∷ others) lie also same =
    ap₂ (λ s ss. s ∷ ss) (span-one span other starts ends (ap (λ t. t.id) heads))
    (triples-tell line (place_of line other.end) spans others lie.1 also.1 (ap (λ n. triples_after line n spans) (sym (ap (place_of line) ends)) ∙ ap rest_of same))
  where
    d : Triple
    d = record { start = pos 0; len = 0; id = 0 }

    heads : first_of d (triples_after line end (span ∷ spans)) ≡ first_of d (triples_after line end (other ∷ others))
    heads = ap (first_of d) same

    starts : span.start ≡ other.start
    starts =
        place-one line span.start other.start (omega (arith, lie.0.0, lie.0.1)) (omega (arith, also.0.0, also.0.1))
        (offset-one (place_of line span.start) (place_of line other.start) end (ap (λ t. t.start) heads))

    lens : place_of line span.end - place_of line span.start ≡ place_of line other.end - place_of line other.start
    lens = ap (λ t. t.len) heads

    ends : span.end ≡ other.end
    ends =
        place-one line span.end other.end lie.0.1 also.0.1
        (omega (arith, lens, ap (place_of line) starts, place-up line span.start span.end lie.0.0 lie.0.1, place-up line other.start other.end also.0.0 also.0.1))

-- ---- runs of one style

abbrev Stand : ℕ → ℕ → List Span → Type 0
Stand from to spans = AllByRecursion (λ (span : Span). (from ≤ span.start) × (span.start ≤ span.end) × (span.end ≤ to)) spans

Stand-lower : (low from to : ℕ) (spans : List Span) → low ≤ from → Stand from to spans → Stand low to spans
Stand-lower low from to [] le stand = tt
Stand-lower low from to (span ∷ spans) le stand = ((omega (arith, le, stand.0.0), stand.0.1, stand.0.2), Stand-lower low from to spans le stand.1)

Stand-onto : (from to : ℕ) (style : Option ℕ) (spans : List Span) → from < to → Stand (from + 1) to spans → Stand from to (onto_spans from style spans)
Stand-onto from to None spans inside stand = Stand-lower from (from + 1) to spans (omega arith) stand
Stand-onto from to (Some style) [] inside stand = ((omega arith, omega arith, omega (arith, inside)), tt)
Stand-onto from to (Some style) (next ∷ spans) inside stand = by (next.start == from + 1 && next.style == style)
  where
    by : (b : Bool) → Stand from to
        (if b then record { start = from; end = next.end; style = style } ∷ spans else record { start = from; end = from + 1; style = style } ∷ next ∷ spans)
    by true = ((omega arith, omega (arith, stand.0.0, stand.0.1), stand.0.2), Stand-lower from (from + 1) to spans (omega arith) stand.1)
    by false = ((omega arith, omega arith, omega (arith, inside)), Stand-lower from (from + 1) to (next ∷ spans) (omega arith) stand)

Stand-runs : (f : ℕ → Option ℕ) (from n to : ℕ) → from + n ≡ to → Stand from to (runs_by f from n)
Stand-runs f from zero to is = tt
Stand-runs f from (suc n) to is = Stand-onto from to (f from) (runs_by f (from + 1) n) (omega (arith, is)) (Stand-runs f (from + 1) n to (omega (arith, is)))

shown-left : (id at from to : ℕ) (spans : List Span) → at < from → Stand from to spans → is_shown id at spans ≡ false
shown-left id at from to [] left stand = refl
shown-left id at from to (span ∷ spans) left stand =
    ap₂ (λ a b. (span.style == id && (a && nat_lt at span.end)) || b) (let test : nat_le span.start at ≡ false = grind (arith, nat_tests, left, stand.0.0) in test)
    (shown-left id at from to spans left stand.1) ∙
    ap (λ b. b || false) (and-false (span.style == id))

-- a character before spans that stand behind it
shown-onto : (id at from to style : ℕ) (spans : List Span) → Stand (from + 1) to spans →
    is_shown id at (onto_spans from (Some style) spans) ≡ (shows id at (record { start = from; end = from + 1; style = style }) || is_shown id at spans)
shown-onto id at from to style [] stand = refl
shown-onto id at from to style (next ∷ spans) stand = by (next.start == from + 1) (next.style == style) refl refl
  where
    joined : (b : Bool) → next.start ≡ from + 1 → (b && (nat_le from at && nat_lt at next.end)) ≡
        ((b && (nat_le from at && nat_lt at (from + 1))) || (b && (nat_le next.start at && nat_lt at next.end)))
    joined false here = refl
    joined true here = elim (cases_lt at from) [
      | inl left ↦
          ap (λ b. b && nat_lt at next.end) (let test : nat_le from at ≡ false = grind (arith, nat_tests, left) in test) ∙
          sym
          (ap₂ (λ a b. (a && nat_lt at (from + 1)) || (b && nat_lt at next.end)) (let test : nat_le from at ≡ false = grind (arith, nat_tests, left) in test)
          (let test : nat_le next.start at ≡ false = grind (arith, nat_tests, left, here) in test))
      | inr past ↦ elim (cases_lt from at) [
        | inl more ↦
            ap (λ b. b && nat_lt at next.end) (let test : nat_le from at ≡ true = grind (arith, nat_tests, past) in test) ∙
            sym
            (ap₂ (λ a b. (nat_le from at && a) || (b && nat_lt at next.end)) (let test : nat_lt at (from + 1) ≡ false = grind (arith, nat_tests, more) in test)
            (let test : nat_le next.start at ≡ true = grind (arith, nat_tests, more, here) in test) ∙
            ap (λ b. b || nat_lt at next.end) (and-false (nat_le from at)))
        | inr one ↦
            ap₂ (λ a b. a && b) (let test : nat_le from at ≡ true = grind (arith, nat_tests, past) in test)
            (let test : nat_lt at next.end ≡ true = grind (arith, nat_tests, one, stand.0.0, stand.0.1) in test) ∙
            sym
            (ap₂ (λ a b. (a && b) || (nat_le next.start at && nat_lt at next.end)) (let test : nat_le from at ≡ true = grind (arith, nat_tests, past) in test)
            (let test : nat_lt at (from + 1) ≡ true = grind (arith, nat_tests, one) in test))
      ]
    ]

    by : (here alike : Bool) → (next.start == from + 1) ≡ here → (next.style == style) ≡ alike → is_shown id at
        (if here && alike then record { start = from; end = next.end; style = style } ∷ spans
        else record { start = from; end = from + 1; style = style } ∷ next ∷ spans) ≡
        (shows id at (record { start = from; end = from + 1; style = style }) || (shows id at next || is_shown id at spans))
    by true true here alike =
        ap (λ b. b || is_shown id at spans)
        (joined (style == id) (eqb-true next.start (from + 1) here) ∙
        ap (λ s. (style == id && (nat_le from at && nat_lt at (from + 1))) || (s == id && (nat_le next.start at && nat_lt at next.end)))
        (sym (eqb-true next.style style alike))) ∙
        or_assoc (shows id at (record { start = from; end = from + 1; style = style })) (shows id at next) (is_shown id at spans)
    by true false here alike = refl
    by false alike here also = refl

abbrev is_id : ℕ → Option ℕ → Bool
is_id id None = false
is_id id (Some style) = style == id

-- runs show a character as their rule says
shown-runs : (id at : ℕ) (f : ℕ → Option ℕ) (from n : ℕ) → from ≤ at → at < from + n → is_shown id at (runs_by f from n) ≡ is_id id (f at)
shown-runs id at f from zero low high = absurd (omega (arith, low, high))
shown-runs id at f from (suc n) low high = elim (cases_lt from at) [
  | inl more ↦ later (f from) more ∙ shown-runs id at f (from + 1) n (omega (arith, more)) (omega (arith, high))
  | inr past ↦ let one : from ≡ at = omega (arith, low, past) in here (f from) one ∙ ap (λ i. is_id id (f i)) one
]
  where
    rest : List Span
    rest = runs_by f (from + 1) n

    stand : Stand (from + 1) (from + 1 + n) rest
    stand = Stand-runs f (from + 1) n (from + 1 + n) refl

    later : (style : Option ℕ) → from < at → is_shown id at (onto_spans from style rest) ≡ is_shown id at rest
    later None more = refl
    later (Some style) more =
        shown-onto id at from (from + 1 + n) style rest stand ∙
        ap (λ b. (style == id && (nat_le from at && b)) || is_shown id at rest)
        (let test : nat_lt at (from + 1) ≡ false = grind (arith, nat_tests, more) in test) ∙
        ap (λ b. (style == id && b) || is_shown id at rest) (and-false (nat_le from at)) ∙
        ap (λ b. b || is_shown id at rest) (and-false (style == id))

    here : (style : Option ℕ) → from ≡ at → is_shown id at (onto_spans from style rest) ≡ is_id id style
    here None one = shown-left id at (from + 1) (from + 1 + n) rest (omega (arith, one)) stand
    here (Some style) one =
        shown-onto id at from (from + 1 + n) style rest stand ∙
        ap₂ (λ a b. (style == id && a) || b)
        (ap₂ (λ a b. a && b) (let test : nat_le from at ≡ true = grind (arith, nat_tests, one) in test)
        (let test : nat_lt at (from + 1) ≡ true = grind (arith, nat_tests, one) in test))
        (shown-left id at (from + 1) (from + 1 + n) rest (omega (arith, one)) stand) ∙
        or-false (style == id && true) ∙ and-true (style == id)

-- ---- spans that are cut between two gaps

shown-cut : (id at start end : ℕ) (spans : List Span) → start + at < end → is_shown id at (cut_spans start end spans) ≡ is_shown id (start + at) spans
shown-cut id at start end [] inside = refl
shown-cut id at start end (span ∷ spans) inside = by (reaches_in start end span) refl (shown-cut id at start end spans inside)
  where
    alike : nat_lt (max span.start start) (min span.end end) ≡ true → shows id at (cut_span start end span) ≡ shows id (start + at) span
    alike reaches = elim (cases_lt (start + at) span.start) [
      | inl left ↦
          ap (λ b. span.style == id && (b && nat_lt at (min span.end end - start)))
          (let test : nat_le (max span.start start - start) at ≡ false = grind (arith, nat_tests, left) in test) ∙
          sym (ap (λ b. span.style == id && (b && nat_lt (start + at) span.end)) (let test : nat_le span.start (start + at) ≡ false = grind (arith, nat_tests, left) in test))
      | inr past ↦ elim (cases_lt (start + at) span.end) [
        | inl before ↦
            ap₂ (λ a b. span.style == id && (a && b)) (let test : nat_le (max span.start start - start) at ≡ true = grind (arith, nat_tests, past) in test)
            (let test : nat_lt at (min span.end end - start) ≡ true = grind (arith, nat_tests, before, inside) in test) ∙
            sym
            (ap₂ (λ a b. span.style == id && (a && b)) (let test : nat_le span.start (start + at) ≡ true = grind (arith, nat_tests, past) in test)
            (let test : nat_lt (start + at) span.end ≡ true = grind (arith, nat_tests, before) in test))
        | inr after ↦
            ap₂ (λ a b. span.style == id && (a && b)) (let test : nat_le (max span.start start - start) at ≡ true = grind (arith, nat_tests, past) in test)
            (let test : nat_lt at (min span.end end - start) ≡ false = grind (arith, nat_tests, after) in test) ∙
            sym
            (ap₂ (λ a b. span.style == id && (a && b)) (let test : nat_le span.start (start + at) ≡ true = grind (arith, nat_tests, past) in test)
            (let test : nat_lt (start + at) span.end ≡ false = grind (arith, nat_tests, after) in test))
      ]
    ]

    away : nat_lt (max span.start start) (min span.end end) ≡ false → shows id (start + at) span ≡ false
    away none = elim (cases_lt (start + at) span.start) [
      | inl left ↦
          ap (λ b. span.style == id && (b && nat_lt (start + at) span.end)) (let test : nat_le span.start (start + at) ≡ false = grind (arith, nat_tests, left) in test) ∙
          and-false (span.style == id)
      | inr past ↦
          ap (λ b. span.style == id && (nat_le span.start (start + at) && b))
          (let test : nat_lt (start + at) span.end ≡ false = grind (arith, nat_tests, none, past, inside) in test) ∙
          ap (λ b. span.style == id && b) (and-false (nat_le span.start (start + at))) ∙ and-false (span.style == id)
    ]

    by : (b : Bool) → reaches_in start end span ≡ b → is_shown id at (cut_spans start end spans) ≡ is_shown id (start + at) spans →
        is_shown id at (map (cut_span start end) (cond b (span ∷ filter (reaches_in start end) spans) (filter (reaches_in start end) spans))) ≡
        (shows id (start + at) span || is_shown id (start + at) spans)
    by true reaches rest = ap₂ (λ a b. a || b) (alike reaches) rest
    by false none rest = rest ∙ sym (ap (λ b. b || is_shown id (start + at) spans) (away none))

-- ---- styles of layers

abbrev Own : List Span → Type 0
Own spans = AllByRecursion (λ (span : Span). 2 ≤ span.style) spans

Own-onto : (from : ℕ) (style : Option ℕ) (spans : List Span) → IfSome style (λ id. 2 ≤ id) → Own spans → Own (onto_spans from style spans)
Own-onto from None spans one own = own
Own-onto from (Some style) [] one own = (one, tt)
Own-onto from (Some style) (next ∷ spans) one own = by (next.start == from + 1 && next.style == style)
  where
    by : (b : Bool) → Own
        (if b then record { start = from; end = next.end; style = style } ∷ spans else record { start = from; end = from + 1; style = style } ∷ next ∷ spans)
    by true = (one, own.1)
    by false = (one, own)

Own-from : (from : ℕ) (layer : Layer) → AllByRecursion (λ style. IfSome style (λ id. 2 ≤ id)) layer → Own (spans_from from layer)
Own-from from [] all = tt
Own-from from (style ∷ layer) all = Own-onto from style (spans_from (from + 1) layer) all.0 (Own-from (from + 1) layer all.1)

all-drop : {X : Type 0} (P : X → Type 0) (n : ℕ) (xs : List X) → AllByRecursion P xs → AllByRecursion P (drop n xs)
all-drop P zero xs all = all
all-drop P (suc n) [] all = tt
all-drop P (suc n) (x ∷ xs) all = all-drop P n xs all.1

Own-layers : (range : Run) (layers : List Layer) → HaveOwnIds layers → Own (flat_map (spans_in range) layers)
Own-layers range [] all = tt
Own-layers range (layer ∷ layers) all =
    AllByRecursion-append (λ (span : Span). 2 ≤ span.style) (spans_in range layer) (flat_map (spans_in range) layers)
    (Own-from range.start (slice_range layer range.start range.end)
    (AllByRecursion-take _ (range.end - range.start) (drop range.start layer) (all-drop _ range.start layer all.0)))
    (Own-layers range layers all.1)

shown-own : (id at : ℕ) (spans : List Span) → id < 2 → Own spans → is_shown id at spans ≡ false
shown-own id at [] few own = refl
shown-own id at (span ∷ spans) few own =
    ap₂ (λ a b. (a && (nat_le span.start at && nat_lt at span.end)) || b) (let test : (span.style == id) ≡ false = grind (arith, nat_tests, few, own.0) in test)
    (shown-own id at spans few own.1)

-- ---- a line

LieInLine-cut : (start end len : ℕ) → start + len ≡ end → (spans : List Span) → LieInLine len (cut_spans start end spans)
LieInLine-cut start end len is [] = tt
LieInLine-cut start end len is (span ∷ spans) = by (reaches_in start end span) refl (LieInLine-cut start end len is spans)
  where
    inside : (from to : ℕ) → nat_lt (max from start) (min to end) ≡ true → (max from start - start ≤ min to end - start) × (min to end - start ≤ len)
    inside from to reaches = (grind (arith, nat_tests), grind (arith, nat_tests))

    by : (b : Bool) → reaches_in start end span ≡ b → LieInLine len (cut_spans start end spans) →
        LieInLine len (map (cut_span start end) (cond b (span ∷ filter (reaches_in start end) spans) (filter (reaches_in start end) spans)))
    by true reaches rest = (inside span.start span.end reaches, rest)
    by false reaches rest = rest

LieInLine-stand : (len : ℕ) (spans : List Span) → Stand 0 len spans → LieInLine len spans
LieInLine-stand len [] stand = tt
LieInLine-stand len (span ∷ spans) stand = ((stand.0.1, stand.0.2), LieInLine-stand len spans stand.1)

module _ (text : List ℕ) (piece : Piece) (len : ℕ) (long : piece.start + len ≡ piece.end) (inside : piece.end ≤ length text) where
  -- the spans of the line of a piece
  abbrev line_spans : List Region → List Run → List Layer → List Span
  line_spans regions results layers =
      selected_spans regions piece.start len ++ cut_spans piece.start piece.end (found_spans results (length text) ++ styled_spans layers piece)

  line-lies : (regions : List Region) (results : List Run) (layers : List Layer) → LieInLine len (line_spans regions results layers)
  line-lies regions results layers =
      AllByRecursion-append (λ (span : Span). (span.start ≤ span.end) × (span.end ≤ len)) (selected_spans regions piece.start len)
      (cut_spans piece.start piece.end (found_spans results (length text) ++ styled_spans layers piece))
      (LieInLine-stand len (selected_spans regions piece.start len)
      (Stand-runs (λ gap. if is_selected regions (piece.start + gap) then Some 0 else None) 0 len len (omega arith)))
      (LieInLine-cut piece.start piece.end len long (found_spans results (length text) ++ styled_spans layers piece))

  -- what they show as selected or found is what is
  line-shows : (id at : ℕ) (regions : List Region) (results : List Run) (layers : List Layer) → HaveOwnIds layers → id < 2 → at < len →
      is_shown id at (line_spans regions results layers) ≡
      (is_id id (if is_selected regions (piece.start + at) then Some 0 else None) || is_id id (if is_found results (piece.start + at) then Some 1 else None))
  line-shows id at regions results layers own few before =
      list_any-append (shows id at) (selected_spans regions piece.start len)
      (cut_spans piece.start piece.end (found_spans results (length text) ++ styled_spans layers piece)) ∙
      ap₂ (λ a b. a || b)
      (shown-runs id at (λ gap. if is_selected regions (piece.start + gap) then Some 0 else None) 0 len (omega arith) (omega (arith, before)))
      (shown-cut id at piece.start piece.end (found_spans results (length text) ++ styled_spans layers piece) (omega (arith, long, before)) ∙
      list_any-append (shows id (piece.start + at)) (found_spans results (length text)) (styled_spans layers piece) ∙
      ap₂ (λ a b. a || b)
      (shown-runs id (piece.start + at) (λ index. if is_found results index then Some 1 else None) 0 (length text) (omega arith) (omega (arith, long, before, inside)))
      (shown-sorted id (piece.start + at) (flat_map (spans_in (record { start = piece.start; end = piece.end })) layers) ∙
      shown-own id (piece.start + at) (flat_map (spans_in (record { start = piece.start; end = piece.end })) layers) few
      (Own-layers (record { start = piece.start; end = piece.end }) layers own)) ∙
      or-false (is_id id (if is_found results (piece.start + at) then Some 1 else None)))

  line-selects : (at : ℕ) (regions : List Region) (results : List Run) (layers : List Layer) → HaveOwnIds layers → at < len →
      is_shown 0 at (line_spans regions results layers) ≡ is_selected regions (piece.start + at)
  line-selects at regions results layers own before =
      line-shows 0 at regions results layers own (omega arith) before ∙ by (is_selected regions (piece.start + at)) (is_found results (piece.start + at))
    where
      by : (b c : Bool) → (is_id 0 (if b then Some 0 else None) || is_id 0 (if c then Some 1 else None)) ≡ b
      by true true = refl
      by true false = refl
      by false true = refl
      by false false = refl

  line-finds : (at : ℕ) (regions : List Region) (results : List Run) (layers : List Layer) → HaveOwnIds layers → at < len →
      is_shown 1 at (line_spans regions results layers) ≡ is_found results (piece.start + at)
  line-finds at regions results layers own before =
      line-shows 1 at regions results layers own (omega arith) before ∙ by (is_selected regions (piece.start + at)) (is_found results (piece.start + at))
    where
      by : (b c : Bool) → (is_id 1 (if b then Some 0 else None) || is_id 1 (if c then Some 1 else None)) ≡ c
      by true true = refl
      by true false = refl
      by false true = refl
      by false false = refl

-- ---- a layout

lines-same : (text : List ℕ) (pieces : List Piece) (regions others : List Region) (results founds : List Run) (layers styles : List Layer) (index : ℕ) (piece : Piece) →
    layout text pieces regions results layers ≡ layout text pieces others founds styles → slice_get pieces index ≡ Some piece →
    layout_line text regions results layers piece ≡ layout_line text others founds styles piece
lines-same text pieces regions others results founds layers styles index piece same is =
    let one : Piece → Line = layout_line text regions results layers in
    let other : Piece → Line = layout_line text others founds styles in
    let at : option_map one (slice_get pieces index) ≡ option_map other (slice_get pieces index) =
    sym (slice_get-map one pieces index) ∙ ap (λ ls. slice_get ls index) same ∙ slice_get-map other pieces index in
    ap (λ o. unwrap_or o (one piece)) (sym (ap (option_map one) is) ∙ at ∙ ap (option_map other) is)

marks-told : (text : List ℕ) (pieces : List Piece) (regions others : List Region) (results founds : List Run) (layers styles : List Layer) (index : ℕ) →
    ArePieces text pieces → HaveOwnIds layers → HaveOwnIds styles →
    layout text pieces regions results layers ≡ layout text pieces others founds styles → index < length text →
    (is_selected regions index ≡ is_selected others index) × (is_found results index ≡ is_found founds index)
marks-told text pieces regions others results founds layers styles index are own also same inside =
    let row : ℕ = layout_line_of pieces index in
    let there = get_piece pieces row (IsLayoutLineOf-layout_line_of text pieces index are).inside in
    let piece : Piece = there.0 in
    let line : List ℕ = text_of_piece text piece in
    let within = piece-inside text pieces row piece are there.1 in
    let len = length-text_of_piece text piece within.0 within.1 in
    let mine = (own-layout_line_of text pieces row piece index are there.1 (omega (arith, inside))).1 refl in
    at_piece piece line within.0 within.1 len mine.0 (ends piece (piece.end == length text) refl within.0 len mine.1)
    (lines-same text pieces regions others results founds layers styles row piece same there.1)
  where
    ends : (piece : Piece) (up : Bool) → (piece.end == length text) ≡ up → piece.start ≤ piece.end →
        length (text_of_piece text piece) ≡ piece.end - piece.start →
        index < piece.start + own_gaps (is_last_piece text piece) (length (text_of_piece text piece)) → index < piece.end
    ends piece true is ordered len mine = omega (arith, eqb-true piece.end (length text) is, inside)
    ends piece false is ordered len mine =
        let gaps : own_gaps (is_last_piece text piece) (length (text_of_piece text piece)) ≡ length (text_of_piece text piece) =
        ap (λ b. own_gaps (b && not (ends_in_feed (text_of_piece text piece))) (length (text_of_piece text piece))) is in
        omega (arith, gaps, len, ordered, mine)

    at_piece : (piece : Piece) (line : List ℕ) → piece.start ≤ piece.end → piece.end ≤ length text → length (text_of_piece text piece) ≡ piece.end - piece.start →
        piece.start ≤ index → index < piece.end →
        layout_line text regions results layers piece ≡ layout_line text others founds styles piece →
        (is_selected regions index ≡ is_selected others index) × (is_found results index ≡ is_found founds index)
    at_piece piece line ordered within len low high one = (
      sym (ap (is_selected regions) back) ∙ sym (line-selects text piece n long within (index - piece.start) regions results layers own before) ∙
          spans 0 ∙ line-selects text piece n long within (index - piece.start) others founds styles also before ∙
          ap (is_selected others) back,
      sym (ap (is_found results) back) ∙ sym (line-finds text piece n long within (index - piece.start) regions results layers own before) ∙
          spans 1 ∙ line-finds text piece n long within (index - piece.start) others founds styles also before ∙
          ap (is_found founds) back,
    )
      where
        n : ℕ
        n = length (text_of_piece text piece)

        long : piece.start + n ≡ piece.end
        long = omega (arith, len, ordered)

        before : index - piece.start < n
        before = omega (arith, len, low, high)

        back : piece.start + (index - piece.start) ≡ index
        back = omega (arith, low)

        sorted : sorted_spans (line_spans text piece n long within regions results layers) ≡ sorted_spans (line_spans text piece n long within others founds styles)
        sorted =
            triples-tell (text_of_piece text piece) 0 (sorted_spans (line_spans text piece n long within regions results layers))
            (sorted_spans (line_spans text piece n long within others founds styles))
            (all-sorted _ (line_spans text piece n long within regions results layers) (line-lies text piece n long within regions results layers))
            (all-sorted _ (line_spans text piece n long within others founds styles) (line-lies text piece n long within others founds styles))
            (ap (λ (l : Line). l.styles) one)

        spans : (id : ℕ) → is_shown id (index - piece.start) (line_spans text piece n long within regions results layers) ≡
            is_shown id (index - piece.start) (line_spans text piece n long within others founds styles)
        spans id =
            sym (shown-sorted id (index - piece.start) (line_spans text piece n long within regions results layers)) ∙
            ap (is_shown id (index - piece.start)) sorted ∙
            shown-sorted id (index - piece.start) (line_spans text piece n long within others founds styles)

pub layouts-tell-marks : (text other : List ℕ) (pieces parts : List Piece) (regions others : List Region) (results founds : List Run) (layers styles : List Layer) →
    ArePieces text pieces → ArePieces other parts → HaveOwnIds layers → HaveOwnIds styles →
    layout text pieces regions results layers ≡ layout other parts others founds styles → (index : ℕ) → index < length text →
    (is_selected regions index ≡ is_selected others index) × (is_found results index ≡ is_found founds index)
layouts-tell-marks text other pieces parts regions others results founds layers styles are cut own also same index inside =
    let told = layouts-tell text other pieces parts regions others results founds layers styles are cut same in
    marks-told text pieces regions others results founds layers styles index are own also
    (same ∙ ap₂ (λ t ps. layout t ps others founds styles) (sym told.0) (sym told.1)) inside

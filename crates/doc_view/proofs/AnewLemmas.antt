-- Where one text begins to be shown otherwise: its matches, its pieces, and its lines.
use Rattle.std.proofs.Common.{◌≡◌, ℕ, zero, suc, ◌+◌, ◌-◌, ◌<◌, ◌≤◌, Bool, true, false, cond, List, [], ◌∷◌, ◌++◌, length, take, Option, None, Some, refl, ap, ap₂, sym, subst, ◌∙◌, arith, append_assoc}
use Rattle.std.specs.Prelude.{if◌then◌else◌, nat_le, nat_lt, ◌==◌, ◌&&◌, ◌||◌, slice_get, IfSome}
use Rattle.std.specs.List.{AllByRecursion, find, flat_map}
use Rattle.std.specs.Option.{unwrap_or}
use Rattle.std.specs.Str.{all_scalars}
use Rattle.std.proofs.lemmas.Bool.{and_parts, eqb-true, le-leb, lt-leb}
use Rattle.plain_text.specs.Lines.{logical_lines}
use Rattle.plain_text.specs.declared.run.Run.{Run}
use Rattle.xi_plain.specs.declared.config.Config.{Config}
use Rattle.span_runs.specs.Spans.{sorted_spans, spans_in}
use Rattle.find_core.specs.Laws.{AreMatchesFrom}
use Rattle.find_core.specs.Matches.{folded, matches_of}
use Rattle.find_core.proofs.ForCallers.{matches_of-are, matches_of-inside}
use Rattle.match_index.specs.Found.{Found, first_from, runs_in}
use Rattle.line_break.specs.Pieces.{wrapped_pieces}
use Rattle.line_break.proofs.ForCallers.{ArePieces-wrapped}
use Rattle.doc_layout.specs.Found.{is_found}
use Rattle.doc_layout.proofs.ForCallers.{lines-read}
use Rattle.doc_view.specs.Inner.{AreAlikeLeftOf, AreAlikeViews, AreFoundApart, IsShownApart, earlier, line_left_of, shared_run, start_of_run}
use Rattle.doc_view.specs.Search.{results}
use Rattle.doc_view.specs.View.{View, config_ticks, has_same_widths, layout_in, pieces_in}
use Rattle.doc_view.proofs.FrontLemmas.{folded-long, take-less}
use Rattle.doc_view.proofs.RegionLemmas.{all_alike, less_left}
use Rattle.doc_view.proofs.SearchLemmas.{find-holds}

-- ---- matches, as two searches find them

-- runs from a gap on: each has a character, and none begins before the one before it ends
abbrev Rise : ℕ → List Run → Type 0
Rise from [] = Unit {0}
Rise from (run ∷ runs) = (from ≤ run.start) × (run.start < run.end) × Rise run.end runs

Rise-are : (chars text : List ℕ) (from : ℕ) (runs : List Run) → 0 < length chars → AreMatchesFrom chars text from runs → Rise from runs
Rise-are chars text from [] some are = tt
Rise-are chars text from (run ∷ runs) some are = (are.0.after, omega (arith, are.0.end, some), Rise-are chars text run.end runs some are.1)

Rise-matches : (text chars : List ℕ) (fold : Bool) → Rise 0 (matches_of text chars fold)
Rise-matches text [] fold = tt
Rise-matches text (c ∷ chars) fold =
    Rise-are (folded fold (c ∷ chars)) (folded fold text) 0 (matches_of text (c ∷ chars) fold) (omega (arith, folded-long fold (c ∷ chars)))
    (matches_of-are text (c ∷ chars) fold (omega arith))

-- left of a gap both have the same runs, and all others begin there or right of it
pub record AreBothFrom (at : ℕ) (runs others : List Run) : Type 0 where
  front : List Run
  rest : List Run
  tail : List Run
  one : runs ≡ front ++ rest
  other : others ≡ front ++ tail
  before : AllByRecursion (λ (run : Run). run.start < at) front
  rises : Rise at rest
  climbs : Rise at tail

pub AreBothFrom-start : (found other : Found) → AreBothFrom 0 (runs_in found) (runs_in other)
AreBothFrom-start found other = record {
  front = [];
  rest = runs_in found;
  tail = runs_in other;
  one = refl;
  other = refl;
  before = tt;
  rises = Rise-matches found.text found.chars found.fold;
  climbs = Rise-matches other.text other.chars other.fold;
}

-- the first run from the gap on is the first of the others
first-rest : (at : ℕ) (front rest : List Run) → AllByRecursion (λ (run : Run). run.start < at) front → Rise at rest →
    first_from at (front ++ rest) ≡ slice_get rest 0
first-rest at [] [] before rise = refl
first-rest at [] (run ∷ rest) before rise =
    ap (λ (b : Bool). cond b (Some run) (find (λ (own : Run). nat_le at own.start) rest)) (le-leb at run.start rise.0)
first-rest at (run ∷ front) rest before rise =
    ap (λ (b : Bool). cond b (Some run) (find (λ (own : Run). nat_le at own.start) (front ++ rest))) (lt-leb at run.start before.0) ∙
    first-rest at front rest before.1 rise

before-last : (at to : ℕ) (front : List Run) (run : Run) → at ≤ to → run.start < to → AllByRecursion (λ (own : Run). own.start < at) front →
    AllByRecursion (λ (own : Run). own.start < to) (front ++ run ∷ [])
before-last at to [] run le less all = (less, tt)
before-last at to (own ∷ front) run le less all = (omega (arith, all.0, le), before-last at to front run le less all.1)

same-run : (run other : Run) → run.start ≡ other.start → run.end ≡ other.end → run ≡ other
same-run run other starts ends = ap₂ run_of starts ends
  where
    run_of : ℕ → ℕ → Run
    run_of start end = record { start = start; end = end }

both-next : (at : ℕ) (runs others front rest tail : List Run) → runs ≡ front ++ rest → others ≡ front ++ tail →
    AllByRecursion (λ (run : Run). run.start < at) front → Rise at rest → Rise at tail → (run : Run) →
    shared_run (slice_get rest 0) (slice_get tail 0) ≡ Some run → (at < run.end) × AreBothFrom run.end runs others
both-next at runs others front [] tail one other before rises climbs run is = absurd cc
both-next at runs others front (first ∷ rest) [] one other before rises climbs run is = absurd cc
both-next at runs others front (first ∷ rest) (second ∷ tail) one other before rises climbs run is =
    by (first.start == second.start && first.end == second.end) refl is
  where
    step : first ≡ second → (at < first.end) × AreBothFrom first.end runs others
    step same = (
      omega (arith, rises.0, rises.1),
      record {
        front = front ++ first ∷ [];
        rest = rest;
        tail = tail;
        one = one ∙ sym (append_assoc front (first ∷ []) rest);
        other = other ∙ ap (λ (r : Run). front ++ r ∷ tail) (sym same) ∙ sym (append_assoc front (first ∷ []) tail);
        before = before-last at first.end front first (omega (arith, rises.0, rises.1)) rises.1 before;
        rises = rises.2;
        climbs = subst (λ (r : Run). Rise r.end tail) (sym same) climbs.2;
      },
    )

    by : (b : Bool) → (first.start == second.start && first.end == second.end) ≡ b → (if b then Some first else None) ≡ Some run →
        (at < run.end) × AreBothFrom run.end runs others
    by true same picked =
        let parts = and_parts (first.start == second.start) (first.end == second.end) same in
        subst (λ (r : Run). (at < r.end) × AreBothFrom r.end runs others) (ap (λ o. unwrap_or o first) picked)
        (step (same-run first second (eqb-true first.start second.start parts.0) (eqb-true first.end second.end parts.1)))
    by false same picked = absurd cc

pub AreBothFrom-next : (at : ℕ) (runs others : List Run) (run : Run) → AreBothFrom at runs others →
    shared_run (first_from at runs) (first_from at others) ≡ Some run → (at < run.end) × AreBothFrom run.end runs others
AreBothFrom-next at runs others run both is =
    both-next at runs others both.front both.rest both.tail both.one both.other both.before both.rises both.climbs run
    (sym (ap₂ shared_run (ap (first_from at) both.one ∙ first-rest at both.front both.rest both.before both.rises)
    (ap (first_from at) both.other ∙ first-rest at both.front both.tail both.before both.climbs)) ∙ is)

-- and it lies in the text
pub shared-inside : (found : Found) (at : ℕ) (other : Option Run) (run : Run) → shared_run (first_from at (runs_in found)) other ≡ Some run →
    run.end ≤ length found.text
shared-inside found at other run is =
    by (first_from at (runs_in found)) other
    (find-holds (λ (own : Run). (own.start < own.end) × (own.end ≤ length found.text)) (λ (own : Run). nat_le at own.start) (runs_in found)
    (matches_of-inside found.text found.chars found.fold)) is
  where
    picked : (first : Run) (b : Bool) → first.end ≤ length found.text → (if b then Some first else None) ≡ Some run → run.end ≤ length found.text
    picked first true low same = subst (λ (r : Run). r.end ≤ length found.text) (ap (λ o. unwrap_or o first) same) low
    picked first false low same = absurd cc

    by : (one other : Option Run) → IfSome one (λ (own : Run). (own.start < own.end) × (own.end ≤ length found.text)) → shared_run one other ≡ Some run →
        run.end ≤ length found.text
    by None other holds same = absurd cc
    by (Some first) None holds same = absurd cc
    by (Some first) (Some second) holds same = picked first (first.start == second.start && first.end == second.end) holds.1 same

none-below : (from index : ℕ) (runs : List Run) → Rise from runs → index < from → is_found runs index ≡ false
none-below from index [] rise less = refl
none-below from index (run ∷ runs) rise less =
    ap (λ (b : Bool). b && nat_lt index run.end || is_found runs index) (lt-leb run.start index (omega (arith, rise.0, less))) ∙
    none-below run.end index runs rise.2 (omega (arith, rise.0, rise.1, less))

found-front : (front rest : List Run) (index : ℕ) → is_found rest index ≡ false → is_found (front ++ rest) index ≡ is_found front index
found-front [] rest index none = none
found-front (run ∷ front) rest index none =
    ap (λ (b : Bool). nat_le run.start index && nat_lt index run.end || b) (found-front front rest index none)

own-start : (run : Run) (runs : List Run) (at : ℕ) → Rise at (run ∷ runs) → Rise run.start (run ∷ runs)
own-start run runs at rise = (omega arith, rise.1, rise.2)

both-apart : (at : ℕ) (front rest tail : List Run) → Rise at rest → Rise at tail →
    AreFoundApart (earlier (start_of_run (slice_get rest 0)) (start_of_run (slice_get tail 0))) (front ++ rest) (front ++ tail)
both-apart at front [] [] rises climbs = refl
both-apart at front (run ∷ rest) [] rises climbs = λ index less.
    found-front front (run ∷ rest) index (none-below run.start index (run ∷ rest) (own-start run rest at rises) less) ∙
    sym (found-front front [] index refl)
both-apart at front [] (other ∷ tail) rises climbs = λ index less.
    found-front front [] index refl ∙
    sym (found-front front (other ∷ tail) index (none-below other.start index (other ∷ tail) (own-start other tail at climbs) less))
both-apart at front (run ∷ rest) (other ∷ tail) rises climbs = λ index less.
    found-front front (run ∷ rest) index (none-below run.start index (run ∷ rest) (own-start run rest at rises) (omega (arith, less))) ∙
    sym (found-front front (other ∷ tail) index (none-below other.start index (other ∷ tail) (own-start other tail at climbs) (omega (arith, less))))

-- LEFT OF WHERE THE NEXT of them starts both find the same
pub AreFoundApart-both : (at : ℕ) (runs others : List Run) → AreBothFrom at runs others →
    AreFoundApart (earlier (start_of_run (first_from at runs)) (start_of_run (first_from at others))) runs others
AreFoundApart-both at runs others both =
    let firsts =
    ap₂ (λ a b. earlier (start_of_run a) (start_of_run b)) (ap (first_from at) both.one ∙ first-rest at both.front both.rest both.before both.rises)
    (ap (first_from at) both.other ∙ first-rest at both.front both.tail both.before both.climbs) in
    subst (λ (gap : Option ℕ). AreFoundApart gap runs others) (sym firsts)
    (subst (λ (rs : List Run). AreFoundApart (earlier (start_of_run (slice_get both.rest 0)) (start_of_run (slice_get both.tail 0))) rs others) (sym both.one)
    (subst (λ (rs : List Run). AreFoundApart (earlier (start_of_run (slice_get both.rest 0)) (start_of_run (slice_get both.tail 0))) (both.front ++ both.rest) rs)
    (sym both.other) (both-apart at both.front both.rest both.tail both.rises both.climbs)))

-- ---- what is shown on one text

earlier-le : (shown found : Option ℕ) (len gap : ℕ) → gap ≡ unwrap_or (earlier shown found) len → (gap ≤ unwrap_or shown gap) × (gap ≤ unwrap_or found gap)
earlier-le None None len gap is = (omega arith, omega arith)
earlier-le None (Some found) len gap is = (omega arith, omega (arith, is))
earlier-le (Some shown) None len gap is = (omega (arith, is), omega arith)
earlier-le (Some shown) (Some found) len gap is = (omega (arith, is), omega (arith, is))

shown-left : (shown : Option ℕ) (gap : ℕ) (before after : View) → IsShownApart shown before after → gap ≤ unwrap_or shown gap →
    AreAlikeLeftOf gap before.regions after.regions ×
    ((range : Run) → range.end ≤ gap → flat_map (spans_in range) before.layers ≡ flat_map (spans_in range) after.layers)
shown-left None gap before after same le =
    (all_alike gap before.regions after.regions same.0, λ range left. ap (flat_map (spans_in range)) same.1)
shown-left (Some at) gap before after alike le =
    (less_left at gap before.regions after.regions le alike.0, λ range left. alike.1 range (omega (arith, left, le)))

found-left_of : (found : Option ℕ) (gap : ℕ) (runs others : List Run) → AreFoundApart found runs others → gap ≤ unwrap_or found gap →
    (index : ℕ) → index < gap → is_found runs index ≡ is_found others index
found-left_of None gap runs others same le = λ index left. ap (λ (rs : List Run). is_found rs index) same
found-left_of (Some at) gap runs others alike le = λ index left. alike index (omega (arith, left, le))

-- ONE TEXT is shown alike left of where regions, styles or matches begin to differ
pub AreAlikeViews-text : (before after : View) (shown found : Option ℕ) (gap : ℕ) → after.text ≡ before.text → IsShownApart shown before after →
    AreFoundApart found (results before.text before.query) (results after.text after.query) →
    gap ≡ unwrap_or (earlier shown found) (length before.text) → AreAlikeViews gap before after
AreAlikeViews-text before after shown found gap text apart founds is =
    let low = earlier-le shown found (length before.text) gap is in
    let left = shown-left shown gap before after apart low.0 in
    record {
      characters = ap (take gap) (sym text);
      regions = left.0;
      found = found-left_of found gap (results before.text before.query) (results after.text after.query) founds low.1;
      styled = left.1;
    }

-- ---- its widths

ticks-more : (from to lines : ℕ) → to ≤ from + lines → to ≤ from + (lines + 2)
ticks-more from to lines counted = omega (arith, counted)

pub widths-tab : (config other : Config) → has_same_widths config other ≡ true → config.tab ≡ other.tab
widths-tab config other same = eqb-true config.tab other.tab (and_parts (config.tab == other.tab) (config.width == other.width) same).0

pub widths-width : (config other : Config) → has_same_widths config other ≡ true → config.width ≡ other.width
widths-width config other same = eqb-true config.width other.width (and_parts (config.tab == other.tab) (config.width == other.width) same).1

-- the steps of an index of other widths
pub ticks-config : (from to : ℕ) (view : View) (config : Config) (text : List ℕ) → has_same_widths config view.config ≡ false → text ≡ view.text →
    to ≤ from + length (logical_lines text) → to ≤ from + config_ticks view config
ticks-config from to view config text other text_is counted =
    subst (λ (b : Bool). to ≤ from + (if b then 0 else length (logical_lines view.text) + 2)) (sym other)
    (ticks-more from to (length (logical_lines view.text)) (subst (λ t. to ≤ from + length (logical_lines t)) text_is counted))

-- ---- its pieces

pub pieces-wide : (before after : View) → after.text ≡ before.text → has_same_widths before.config after.config ≡ true → pieces_in before ≡ pieces_in after
pieces-wide before after text wide =
    ap₂ (λ width tab. wrapped_pieces width tab before.text) (widths-width before.config after.config wide) (widths-tab before.config after.config wide) ∙
    ap (wrapped_pieces after.config.width after.config.tab) (sym text)

abbrev rest_of : {X : Type 0} → List X → List X
rest_of [] = []
rest_of (x ∷ xs) = xs

pub take-more : {X : Type 0} (count : ℕ) (xs ys : List X) → take count xs ≡ take count ys → slice_get xs count ≡ slice_get ys count →
    take (suc count) xs ≡ take (suc count) ys
take-more zero [] [] same next = refl
take-more zero [] (y ∷ ys) same next = absurd cc
take-more zero (x ∷ xs) [] same next = absurd cc
take-more zero (x ∷ xs) (y ∷ ys) same next = ap (λ o. unwrap_or o x ∷ []) next
take-more (suc count) [] [] same next = refl
take-more (suc count) [] (y ∷ ys) same next = absurd cc
take-more (suc count) (x ∷ xs) [] same next = absurd cc
take-more (suc count) (x ∷ xs) (y ∷ ys) same next =
    ap₂ (λ z zs. z ∷ zs) (ap (λ zs. unwrap_or (slice_get zs 0) x) same) (take-more count xs ys (ap rest_of same) next)

-- ---- its lines

-- THE LINES OF ONE TEXT that are cut alike and stand before that of a gap left of which it is shown alike are the same
pub lines-text : (before after : View) (gap line : ℕ) → all_scalars before.text ≡ true → after.text ≡ before.text → AreAlikeViews gap before after →
    take line (pieces_in before) ≡ take line (pieces_in after) → line ≤ line_left_of before gap → take line (layout_in before) ≡ take line (layout_in after)
lines-text before after zero line characters text alike cut low =
    let least : line ≤ 0 = low in
    let none : line ≡ 0 = omega (arith, least) in
    ap (λ n. take n (layout_in before)) none ∙ sym (ap (λ n. take n (layout_in after)) none)
lines-text before after (suc gap) line characters text alike cut low =
    lines-read before.text after.text (pieces_in before) (pieces_in after) before.regions after.regions (results before.text before.query)
    (results after.text after.query) before.layers after.layers gap line
    (ArePieces-wrapped before.config.width before.config.tab before.text characters) (record {
      long = ap length (sym text);
      characters = take-less gap (suc gap) before.text after.text (omega arith) alike.characters;
      carets = λ at left. alike.regions.carets at (omega (arith, left));
      selected = λ index left. alike.regions.selected index (omega (arith, left));
      found = λ index left. alike.found index (omega (arith, left));
      styled = λ range left. ap sorted_spans (alike.styled range (omega (arith, left)));
    }) cut low

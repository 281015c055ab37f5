-- Where two selections begin to differ.
use Rattle.std.proofs.Common.{◌≡◌, ℕ, zero, suc, ◌<◌, ◌≤◌, Bool, true, false, List, [], ◌∷◌, length, take, drop, Option, None, Some, refl, ap, ap₂, sym, subst, ◌∙◌, arith}
use Rattle.std.specs.Prelude.{min, max, ◌&&◌, ◌||◌, ◌==◌, nat_le, nat_lt}
use Rattle.std.specs.List.{AllByRecursion, flat_map}
use Rattle.std.specs.Option.{unwrap_or}
use Rattle.std.proofs.lemmas.Bool.{and_parts, eq-eqb, eqb-true, lt-leb, ne_eqb}
use Rattle.plain_text.specs.declared.selection.Region.{Region}
use Rattle.plain_text.specs.Numbers.{has}
use Rattle.span_runs.specs.Spans.{spans_in}
use Rattle.span_styles.specs.Layers.{AreApartFrom}
use Rattle.line_render.specs.Rendered.{carets_of, is_selected}
use Rattle.selection_core.specs.Selection.{AreRightOf, IsSelection, greater_end, lesser_end}
use Rattle.doc_view.specs.Inner.{AreAlikeLeftOf, AreEndsApart, IsShownApart, earlier, start_at}
use Rattle.doc_view.specs.Told.{are_same_ends, has_same_ends}
use Rattle.doc_view.specs.View.{View}

-- ---- regions from a gap on

abbrev StartFrom : ℕ → List Region → Type 0
StartFrom at regions = AllByRecursion (λ region. at ≤ lesser_end region) regions

lesser-le : (region : Region) → lesser_end region ≤ greater_end region
lesser-le region = by region.anchor region.caret
  where
    by : (a b : ℕ) → min a b ≤ max a b
    by a b = omega arith

StartFrom-right : (at : ℕ) (last : Region) (regions : List Region) → at ≤ lesser_end last → AreRightOf last regions → StartFrom at regions
StartFrom-right at last [] low right = tt
StartFrom-right at last (region ∷ regions) low right =
    let here : at ≤ lesser_end region = omega (arith, low, lesser-le last, right.0) in (here, StartFrom-right at region regions here right.2)

-- a gap that is not right of where the first region starts, if there is one
abbrev IsBefore : ℕ → List Region → Type 0
IsBefore at [] = Unit {0}
IsBefore at (region ∷ regions) = at ≤ lesser_end region

StartFrom-before : (at : ℕ) (regions : List Region) → IsSelection regions → IsBefore at regions → StartFrom at regions
StartFrom-before at [] sound before = tt
StartFrom-before at (region ∷ regions) sound before = (before, StartFrom-right at region regions before sound)

IsSelection-rest : (region : Region) (regions : List Region) → IsSelection (region ∷ regions) → IsSelection regions
IsSelection-rest region [] sound = tt
IsSelection-rest region (next ∷ regions) sound = sound.2

-- such regions have no caret left of it, and select no character there
caret-le : (region : Region) → lesser_end region ≤ region.caret
caret-le region = by region.anchor region.caret
  where
    by : (a b : ℕ) → min a b ≤ b
    by a b = omega arith

no_caret : (at gap : ℕ) (regions : List Region) → StartFrom at regions → gap < at → has (carets_of regions) gap ≡ false
no_caret at gap [] from left = refl
no_caret at gap (region ∷ regions) from left =
    ap₂ (λ b c. b || c) (ne_eqb region.caret gap (λ same. omega (arith, same, caret-le region, from.0, left))) (no_caret at gap regions from.1 left)

none_selected : (at index : ℕ) (regions : List Region) → StartFrom at regions → index < at → is_selected regions index ≡ false
none_selected at index [] from left = refl
none_selected at index (region ∷ regions) from left =
    ap₂ (λ b c. b && nat_lt index (greater_end region) || c) (lt-leb (lesser_end region) index (omega (arith, from.0, left))) (none_selected at index regions from.1 left)

-- ---- regions whose first ends are the same

same_front : (at n : ℕ) (regions others : List Region) → IsSelection regions → IsSelection others →
    are_same_ends (take n regions) (take n others) ≡ true → IsBefore at (drop n regions) → IsBefore at (drop n others) → AreAlikeLeftOf at regions others
same_front at zero regions others sound good same before ahead =
    let one = StartFrom-before at regions sound before in
    let other = StartFrom-before at others good ahead in
    record {
      carets = λ gap left. no_caret at gap regions one left ∙ sym (no_caret at gap others other left);
      selected = λ index left. none_selected at index regions one left ∙ sym (none_selected at index others other left);
    }
same_front at (suc n) [] [] sound good same before ahead = record { carets = λ gap left. refl; selected = λ index left. refl }
same_front at (suc n) [] (other ∷ others) sound good same before ahead = absurd cc
same_front at (suc n) (region ∷ regions) [] sound good same before ahead = absurd cc
same_front at (suc n) (region ∷ regions) (other ∷ others) sound good same before ahead =
    let parts = and_parts (has_same_ends region other) (are_same_ends (take n regions) (take n others)) same in
    let ends = and_parts (region.anchor == other.anchor) (region.caret == other.caret) parts.0 in
    let anchors = eqb-true region.anchor other.anchor ends.0 in
    let carets = eqb-true region.caret other.caret ends.1 in
    let rest = same_front at n regions others (IsSelection-rest region regions sound) (IsSelection-rest other others good) parts.1 before ahead in
    record {
      carets = λ gap left. ap₂ (λ (c : ℕ) (b : Bool). c == gap || b) carets (rest.carets gap left);
      selected = λ index left.
          ap (λ b. nat_le (lesser_end region) index && nat_lt index (greater_end region) || b) (rest.selected index left) ∙
          ap₂ (λ (a c : ℕ). nat_le (min a c) index && nat_lt index (max a c) || is_selected others index) anchors carets;
    }

-- ---- the gap that is named

before-first : (regions : List Region) (index : ℕ) (at : ℕ) → ((start : ℕ) → start_at regions index ≡ Some start → at ≤ start) → IsBefore at (drop index regions)
before-first [] zero at low = tt
before-first [] (suc index) at low = tt
before-first (region ∷ regions) zero at low = low (lesser_end region) refl
before-first (region ∷ regions) (suc index) at low = before-first regions index at low

past-all : (regions : List Region) (index : ℕ) → start_at regions index ≡ None → length regions ≤ index
past-all [] index none = omega arith
past-all (region ∷ regions) zero none = absurd cc
past-all (region ∷ regions) (suc index) none = omega (arith, past-all regions index none)

take-whole : (regions : List Region) (index : ℕ) → length regions ≤ index → take index regions ≡ regions
take-whole [] zero past = refl
take-whole [] (suc index) past = refl
take-whole (region ∷ regions) zero past = absurd (omega arith)
take-whole (region ∷ regions) (suc index) past = ap (λ rs. region ∷ rs) (take-whole regions index (omega arith))

pub AreEndsApart-found : (result : Option ℕ) (regions others : List Region) (index : ℕ) → IsSelection regions → IsSelection others →
    are_same_ends (take index regions) (take index others) ≡ true → result ≡ earlier (start_at regions index) (start_at others index) →
    AreEndsApart result regions others
AreEndsApart-found result regions others index sound good same is =
    subst (λ o. AreEndsApart o regions others) (sym is) (by (start_at regions index) (start_at others index) refl refl)
  where
    low : (o : Option ℕ) (at start bound : ℕ) → o ≡ Some at → o ≡ Some start → bound ≤ at → bound ≤ start
    low o at start bound one other le = let starts : at ≡ start = cc in subst (λ n. bound ≤ n) starts le

    none-low : (o : Option ℕ) (start bound : ℕ) → o ≡ None → o ≡ Some start → bound ≤ start
    none-low o start bound none some = absurd cc

    by : (one other : Option ℕ) → start_at regions index ≡ one → start_at others index ≡ other → AreEndsApart (earlier one other) regions others
    by None None none nothing =
        sym (ap₂ are_same_ends (take-whole regions index (past-all regions index none)) (take-whole others index (past-all others index nothing))) ∙ same
    by None (Some at) none some =
        same_front at index regions others sound good same (before-first regions index at (λ start is_here. none-low (start_at regions index) start at none is_here))
        (before-first others index at (λ start is_here. low (start_at others index) at start at some is_here (omega arith)))
    by (Some gap) None some none =
        same_front gap index regions others sound good same (before-first regions index gap (λ start is_here. low (start_at regions index) gap start gap some is_here (omega arith)))
        (before-first others index gap (λ start is_here. none-low (start_at others index) start gap none is_here))
    by (Some gap) (Some at) some more =
        same_front (min gap at) index regions others sound good same
        (before-first regions index (min gap at) (λ start is_here. low (start_at regions index) gap start (min gap at) some is_here (omega arith)))
        (before-first others index (min gap at) (λ start is_here. low (start_at others index) at start (min gap at) more is_here (omega arith)))

-- ---- with the styles

pub less_left : (at less : ℕ) (regions others : List Region) → less ≤ at → AreAlikeLeftOf at regions others → AreAlikeLeftOf less regions others
less_left at less regions others le alike = record {
  carets = λ gap left. alike.carets gap (omega arith);
  selected = λ index left. alike.selected index (omega arith);
}

pub all_alike : (at : ℕ) (regions others : List Region) → are_same_ends regions others ≡ true → AreAlikeLeftOf at regions others
all_alike at [] [] same = record { carets = λ gap left. refl; selected = λ index left. refl }
all_alike at [] (other ∷ others) same = absurd cc
all_alike at (region ∷ regions) [] same = absurd cc
all_alike at (region ∷ regions) (other ∷ others) same =
    let parts = and_parts (has_same_ends region other) (are_same_ends regions others) same in
    let ends = and_parts (region.anchor == other.anchor) (region.caret == other.caret) parts.0 in
    let anchors = eqb-true region.anchor other.anchor ends.0 in
    let carets = eqb-true region.caret other.caret ends.1 in
    let rest = all_alike at regions others parts.1 in
    record {
      carets = λ gap left. ap₂ (λ (c : ℕ) (b : Bool). c == gap || b) carets (rest.carets gap left);
      selected = λ index left.
          ap (λ b. nat_le (lesser_end region) index && nat_lt index (greater_end region) || b) (rest.selected index left) ∙
          ap₂ (λ (a c : ℕ). nat_le (min a c) index && nat_lt index (max a c) || is_selected others index) anchors carets;
    }

-- up to another gap, where that is less
pub AreAlikeLeftOf-up_to : (ends : Option ℕ) (from gap less : ℕ) (regions others : List Region) → AreEndsApart ends regions others →
    gap ≡ unwrap_or (earlier ends (Some from)) from → less ≤ gap → (gap ≤ from) × AreAlikeLeftOf less regions others
AreAlikeLeftOf-up_to None from gap less regions others same is le = (omega (arith, is), all_alike less regions others same)
AreAlikeLeftOf-up_to (Some at) from gap less regions others alike is le =
    (omega (arith, is), less_left at less regions others (omega (arith, is, le)) alike)

pub IsShownApart-both : (result ends styles : Option ℕ) (before after : View) → AreEndsApart ends before.regions after.regions →
    AreApartFrom styles before.layers after.layers → result ≡ earlier ends styles → IsShownApart result before after
IsShownApart-both result ends styles before after regions layers is =
    subst (λ o. IsShownApart o before after) (sym is) (by ends styles regions layers)
  where
    by : (ends styles : Option ℕ) → AreEndsApart ends before.regions after.regions → AreApartFrom styles before.layers after.layers →
        IsShownApart (earlier ends styles) before after
    by None None same alike = (same, alike)
    by None (Some at) same apart = (all_alike at before.regions after.regions same, apart.1)
    by (Some gap) None alike same = (alike, λ range left. ap (flat_map (spans_in range)) same)
    by (Some gap) (Some at) alike apart =
        (less_left gap (min gap at) before.regions after.regions (omega arith) alike, λ range left. apart.1 range (omega arith))

pub ends-same : (regions : List Region) → are_same_ends regions regions ≡ true
ends-same [] = refl
ends-same (region ∷ regions) =
    ap₂ (λ a b. a && b)
    (ap₂ (λ a b. a && b) (eq-eqb region.anchor region.anchor refl) (eq-eqb region.caret region.caret refl)) (ends-same regions)

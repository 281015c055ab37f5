-- The maximal runs of selected characters are those of the regions, one after the other.
use Rattle.std.proofs.Common.{◌≡◌, ℕ, Bool, true, false, ◌+◌, ◌-◌, ◌<◌, ◌≤◌, List, [], ◌∷◌, Option, Some, None, refl, ap, sym, ◌∙◌, arith}
use Rattle.std.specs.Prelude.{min, not, nat_lt, nat_le, ◌&&◌, ◌||◌, if◌then◌else◌}
use Rattle.std.specs.List.{filter}
use Rattle.std.proofs.lemmas.Bool.{le-leb, ltb-true, ltb-false}
use Rattle.std.proofs.lemmas.Bool.Decides.{nat_tests}
use Rattle.plain_text.specs.declared.run.Run.{Run}
use Rattle.plain_text.specs.declared.selection.Region.{Region}
use Rattle.plain_edits.specs.declared.style.Span.{Span}
use Rattle.selection_core.specs.Selection.{lesser_end, greater_end, IsSelection}
use Rattle.line_render.specs.Rendered.{is_selected, selected_spans}
use Rattle.line_render.specs.Inner.{touching_regions, onto_run, cut_region, selected_runs}
use Rattle.line_render.proofs.OrderLemmas.{AreFrom, AreFrom-selection, AreFrom-filter, ends_rise}
use Rattle.line_render.proofs.RunLemmas.{runs_by, runs_by-same, runs_by-none, runs_by-all}

-- ---- the characters that regions select

or_only : (a b : Bool) → a ≡ false → (a || b) ≡ b
or_only true b g = cc
or_only false b g = refl

or_first : (a b : Bool) → a ≡ true → (a || b) ≡ true
or_first true b g = refl
or_first false b g = cc

abbrev stands_in : Region → ℕ → Bool
stands_in region index = nat_le (lesser_end region) index && nat_lt index (greater_end region)

test_in : (a b c : ℕ) → a ≤ b → b < c → (nat_le a b && nat_lt b c) ≡ true
test_in a b c le lt = grind (arith, nat_tests)

test_left : (a b c : ℕ) → b < a → (nat_le a b && nat_lt b c) ≡ false
test_left a b c lt = grind (arith, nat_tests)

test_right : (a b c : ℕ) → c ≤ b → (nat_le a b && nat_lt b c) ≡ false
test_right a b c le = grind (arith, nat_tests)

parts_in : (a b c : ℕ) → (nat_le a b && nat_lt b c) ≡ true → (a ≤ b) × (b < c)
parts_in a b c is = (grind (arith, nat_tests), grind (arith, nat_tests))

is_selected-below : (low index : ℕ) (regions : List Region) → AreFrom low regions → index < low → is_selected regions index ≡ false
is_selected-below low index [] are below = refl
is_selected-below low index (region ∷ regions) are below =
    let le = are.0 in let rise = ends_rise region in
    or_only (stands_in region index) (is_selected regions index) (test_left (lesser_end region) index (greater_end region) (omega arith)) ∙
    is_selected-below (greater_end region) index regions are.1 (omega arith)

abbrev styled : List Region → ℕ → ℕ → Option ℕ
styled regions start gap = if is_selected regions (start + gap) then Some 0 else None

styled-by : (b c : Bool) → b ≡ c → ◌≡◌ {A = Option ℕ} (if b then Some 0 else None) (if c then Some 0 else None)
styled-by b c same = ap (λ t. if t then Some 0 else None) same

-- THE RUNS OF THE REGIONS are the maximal runs of what they select
pub selected_runs-spans : (start end len low from n : ℕ) (regions : List Region) → start + len ≡ end → AreFrom low regions →
    from ≤ min low end - start → from + n ≡ len → selected_runs start end regions ≡ runs_by (styled regions start) from n
selected_runs-spans start end len low from n [] is are reach long =
    sym (runs_by-none (styled [] start) from n 0 n (from + n) (λ i le lt. refl) (omega arith) refl)
selected_runs-spans start end len low from n (region ∷ regions) is are reach long =
    by (nat_lt run.start run.end) refl
    (selected_runs-spans start end len (greater_end region) from n regions is are.1 (let le = are.0 in let rise = ends_rise region in omega arith) long)
    (selected_runs-spans start end len (greater_end region) run.end (len - run.end) regions is are.1 (omega arith))
  where
    run : Run
    run = cut_region start end region

    whole : List Span
    whole = runs_by (styled (region ∷ regions) start) from n

    skipped : run.end ≤ run.start → whole ≡ runs_by (styled regions start) from n
    skipped none = runs_by-same (styled (region ∷ regions) start) (styled regions start) from n (λ i le lt.
        styled-by (stands_in region (start + i) || is_selected regions (start + i)) (is_selected regions (start + i))
        (or_only (stands_in region (start + i)) (is_selected regions (start + i)) (away i lt)))
      where
        away : (i : ℕ) → i < from + n → stands_in region (start + i) ≡ false
        away i lt = by_test (stands_in region (start + i)) refl
          where
            by_test : (b : Bool) → stands_in region (start + i) ≡ b → b ≡ false
            by_test true there = let both = parts_in (lesser_end region) (start + i) (greater_end region) there in
                let one = both.0 in let other = both.1 in absurd (omega arith)
            by_test false there = refl

    before : (i : ℕ) → i < run.start → styled (region ∷ regions) start i ≡ None
    before i lt =
        let rise = ends_rise region in
        styled-by (stands_in region (start + i) || is_selected regions (start + i)) false
        (or_only (stands_in region (start + i)) (is_selected regions (start + i)) (test_left (lesser_end region) (start + i) (greater_end region) (omega arith)) ∙
        is_selected-below (greater_end region) (start + i) regions are.1 (omega arith))

    inside : run.start < run.end → (i : ℕ) → run.start ≤ i → i < run.end → styled (region ∷ regions) start i ≡ Some 0
    inside some i le lt =
        styled-by (stands_in region (start + i) || is_selected regions (start + i)) true
        (or_first (stands_in region (start + i)) (is_selected regions (start + i)) (test_in (lesser_end region) (start + i) (greater_end region) (omega arith) (omega arith)))

    after : (i : ℕ) → run.end ≤ i → i < len → styled (region ∷ regions) start i ≡ styled regions start i
    after i le lt =
        styled-by (stands_in region (start + i) || is_selected regions (start + i)) (is_selected regions (start + i))
        (or_only (stands_in region (start + i)) (is_selected regions (start + i)) (test_right (lesser_end region) (start + i) (greater_end region) (omega arith)))

    reached : run.start < run.end → whole ≡ onto_run 0 run (runs_by (styled regions start) run.end (len - run.end))
    reached some =
        let le = are.0 in
        let begin : from ≤ run.start = omega arith in
        let end_in : run.end ≤ len = omega arith in
        runs_by-none (styled (region ∷ regions) start) from (run.start - from) (n - (run.start - from)) n run.start (λ i from_here lt. before i (omega arith)) (omega arith) (omega arith) ∙
        runs_by-all 0 (styled (region ∷ regions) start) run.start (run.end - run.start - 1) (len - run.end) (n - (run.start - from)) run.end (inside some) (omega arith) (omega arith) ∙
        ap (onto_run 0 run) (runs_by-same (styled (region ∷ regions) start) (styled regions start) run.end (len - run.end) (λ i from_end lt. after i from_end (omega arith)))

    by : (b : Bool) → nat_lt run.start run.end ≡ b → selected_runs start end regions ≡ runs_by (styled regions start) from n →
        (run.end + (len - run.end) ≡ len → selected_runs start end regions ≡ runs_by (styled regions start) run.end (len - run.end)) →
        (if b then onto_run 0 run (selected_runs start end regions) else selected_runs start end regions) ≡ whole
    by true some rest_same rest =
        let lt = ltb-true run.start run.end some in
        ap (onto_run 0 run) (rest (omega arith)) ∙ sym (reached lt)
    by false some rest_same rest = rest_same ∙ sym (skipped (ltb-false run.start run.end some))

-- ---- the regions that touch

is_selected-filter : (p : Region → Bool) (index : ℕ) → ((region : Region) → stands_in region index ≡ true → p region ≡ true) → (regions : List Region) →
    is_selected (filter p regions) index ≡ is_selected regions index
is_selected-filter p index implies [] = refl
is_selected-filter p index implies (region ∷ regions) = by (p region) (stands_in region index) refl refl (is_selected-filter p index implies regions)
  where
    by : (b c : Bool) → p region ≡ b → stands_in region index ≡ c → is_selected (filter p regions) index ≡ is_selected regions index →
        is_selected (if b then region ∷ filter p regions else filter p regions) index ≡ (stands_in region index || is_selected regions index)
    by true c is there rest = ap (λ t. stands_in region index || t) rest
    by false true is there rest = absurd (let passes = implies region there in cc)
    by false false is there rest = rest ∙ sym (or_only (stands_in region index) (is_selected regions index) there)

far_enough : (a b : ℕ) → b ≤ a → not (nat_lt a b) ≡ true
far_enough a b le = grind (arith, nat_tests)

-- THE RUNS OF THE REGIONS THAT TOUCH are the maximal runs of what is selected
pub selected_runs-touching : (start len end : ℕ) (regions : List Region) → start + len ≡ end → IsSelection regions →
    selected_runs start end (touching_regions start end regions) ≡ selected_spans regions start len
selected_runs-touching start len end regions long is =
    let near = filter (λ (region : Region). not (nat_lt (greater_end region) start)) regions in
    let up : AreFrom 0 (touching_regions start end regions) =
    AreFrom-filter (λ region. nat_le (lesser_end region) end) 0 near
    (AreFrom-filter (λ region. not (nat_lt (greater_end region) start)) 0 regions (AreFrom-selection regions is)) in
    selected_runs-spans start end len 0 0 len (touching_regions start end regions) long up (omega arith) (omega arith) ∙
    runs_by-same (styled (touching_regions start end regions) start) (styled regions start) 0 len
    (λ i le lt. styled-by (is_selected (touching_regions start end regions) (start + i)) (is_selected regions (start + i))
    (is_selected-filter (λ region. nat_le (lesser_end region) end) (start + i)
    (λ region there. let both = parts_in (lesser_end region) (start + i) (greater_end region) there in let one = both.0 in le-leb (lesser_end region) end (omega arith)) near ∙
    is_selected-filter (λ region. not (nat_lt (greater_end region) start)) (start + i)
    (λ region there. let both = parts_in (lesser_end region) (start + i) (greater_end region) there in let other = both.1 in far_enough (greater_end region) start (omega arith)) regions))

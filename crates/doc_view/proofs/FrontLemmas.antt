-- How far an edit leaves a text and what is shown on it as they are.
use Rattle.std.proofs.Common.{◌≡◌, ℕ, zero, suc, ◌+◌, ◌-◌, ◌<◌, ◌≤◌, Bool, true, false, cond, List, [], ◌∷◌, ◌++◌, length, map, take, drop, Option, None, Some, refl, ap, ap₂, sym, subst, ◌∙◌, arith, take-append-drop}
use Rattle.std.specs.Prelude.{if◌then◌else◌, min, nat_lt, nat_le, not, ◌==◌, ◌&&◌, ◌||◌}
use Rattle.std.specs.List.{AllByRecursion, filter, flat_map}
use Rattle.std.specs.Option.{unwrap_or}
use Rattle.std.proofs.lemmas.Bool.{eqb-true, lt-leb, ne_eqb}
use Rattle.std.proofs.lemmas.Bool.Decides.{nat_tests}
use Rattle.std.proofs.lemmas.List.{length-map, length-take-le, take-take}
use Rattle.plain_text.specs.declared.run.Run.{Run}
use Rattle.plain_text.specs.declared.selection.Region.{Region}
use Rattle.plain_text.specs.Woven.{woven}
use Rattle.plain_edits.specs.declared.delta.Added.{Added}
use Rattle.plain_edits.specs.declared.delta.UnitDelta.{UnitDelta}
use Rattle.plain_edits.specs.Delta.{is_in_runs, text_at_gap}
use Rattle.plain_edits.specs.Styles.{Layer, mapped_layer}
use Rattle.plain_edits.specs.UnitDelta.{AreAdds, AreRuns, IsUnitDelta, unit_adds, unit_keeps}
use Rattle.plain_screen.specs.Plan.{is_within}
use Rattle.span_runs.specs.Spans.{spans_from, spans_in}
use Rattle.span_styles.specs.Layers.{AreOver, mapped_layers}
use Rattle.find_core.specs.Laws.{AreMatchesFrom}
use Rattle.find_core.specs.Matches.{folded, matches_of}
use Rattle.find_core.proofs.ForCallers.{matches_of-are}
use Rattle.match_index.specs.Laws.{FrontsStay}
use Rattle.doc_layout.specs.Changed.{IsChangeOf}
use Rattle.doc_layout.specs.Found.{is_found}
use Rattle.doc_layout.proofs.ForCallers.{slice-alike}
use Rattle.doc_view.specs.Front.{KeepsFront}
use Rattle.doc_view.specs.Inner.{AreAlikeViews, AreEndsApart, earlier, first_end, first_gap}
use Rattle.doc_view.specs.Told.{IsKeptLeftOf, is_cut_alike}
use Rattle.doc_view.specs.View.{View}
use Rattle.doc_view.proofs.IdleLemmas.{first_has, runs-reach}
use Rattle.doc_view.proofs.LaidLemmas.{results-same, same-search}
use Rattle.doc_view.proofs.RegionLemmas.{AreAlikeLeftOf-up_to}

-- ---- what an edit keeps at the start

first-inside : (base : ℕ) (runs : List Run) → AreRuns base 0 runs → first_end runs ≤ base
first-inside base [] are = omega arith
first-inside base (run ∷ runs) are = by (run.start == 0)
  where
    by : (b : Bool) → (if b then run.end else 0) ≤ base
    by true = runs-reach base run.end runs are.2
    by false = omega arith

first-kept : (runs : List Run) (index : ℕ) → index < first_end runs → is_in_runs runs index ≡ true
first-kept [] index left = absurd (omega arith)
first-kept (run ∷ runs) index left = by (run.start == 0) refl left
  where
    by : (b : Bool) → (run.start == 0) ≡ b → index < (if b then run.end else 0) → is_in_runs (run ∷ runs) index ≡ true
    by true start before = first_has run runs index (omega (arith, eqb-true run.start 0 start)) before
    by false start before = absurd (omega (arith, before))

no_text : (base from gap : ℕ) (adds : List Added) → AreAdds base from adds → gap < from → text_at_gap adds gap ≡ []
no_text base from gap [] are left = refl
no_text base from gap (added ∷ adds) are left =
    ap (λ (b : Bool). (if b then added.text else []) ++ text_at_gap adds gap) (ne_eqb added.gap gap (λ same. omega (arith, same, are.0, left))) ∙
    no_text base (added.gap + 1) gap adds are.3 (omega (arith, are.0, left))

first-added : (base : ℕ) (adds : List Added) (gap : ℕ) → AreAdds base 0 adds → gap < first_gap base adds → text_at_gap adds gap ≡ []
first-added base [] gap are left = refl
first-added base (added ∷ adds) gap are left = no_text base added.gap gap (added ∷ adds) (omega arith, are.1, are.2, are.3) left

pub KeepsFront-first : (units : UnitDelta) → IsUnitDelta units → KeepsFront units (min (first_end units.kept) (first_gap units.base units.added))
KeepsFront-first units are = record {
  inside = omega (arith, first-inside units.base units.kept are.runs);
  kept = λ index left. first-kept units.kept index (omega (arith, left));
  added = λ gap left. first-added units.base units.added gap are.adds (omega (arith, left));
}

-- ---- a text and its styles after an edit

front-woven : {X : Type 0} (between : ℕ → List X) (kept : ℕ → Bool) (index count : ℕ) (xs : List X) → count ≤ length xs →
    ((k : ℕ) → index ≤ k → k < index + count → kept k ≡ true) → ((k : ℕ) → index ≤ k → k < index + count → between k ≡ []) →
    take count (woven between (λ i x. if kept i then x ∷ [] else []) index xs) ≡ take count xs
front-woven between kept index zero xs room all none = refl
front-woven between kept index (suc count) [] room all none = absurd (omega arith)
front-woven {X} between kept index (suc count) (x ∷ xs) room all none =
    ap₂ (λ (ys : List X) (b : Bool). take (suc count) (ys ++ ((if b then x ∷ [] else []) ++ rest))) (none index (omega arith) (omega arith))
    (all index (omega arith) (omega arith)) ∙
    ap (λ (ys : List X). x ∷ ys)
    (front-woven between kept (index + 1) count xs (omega arith) (λ k low high. all k (omega arith) (omega (arith, high)))
    (λ k low high. none k (omega arith) (omega (arith, high))))
  where
    rest : List X
    rest = woven between (λ i x. if kept i then x ∷ [] else []) (index + 1) xs

spans-alike : (units : UnitDelta) (gap len : ℕ) (layers : List Layer) (range : Run) → KeepsFront units gap → gap ≤ len → AreOver len layers → range.end ≤ gap →
    flat_map (spans_in range) layers ≡ flat_map (spans_in range) (mapped_layers units layers)
spans-alike units gap len [] range keeps room over left = refl
spans-alike units gap len (layer ∷ layers) range keeps room over left =
    ap₂ (λ (xs ys : _). xs ++ ys)
    (ap (spans_from range.start)
    (slice-alike gap range.start range.end layer (mapped_layer (unit_keeps units) (unit_adds units) layer)
    (sym (front-woven (λ at. map (λ c. None) (unit_adds units at)) (unit_keeps units) 0 gap layer (omega (arith, over.0, room))
    (λ k low high. keeps.kept k (omega (arith, high))) (λ k low high. ap (map (λ c. None)) (keeps.added k (omega (arith, high)))))) left))
    (spans-alike units gap len layers range keeps room over.1 left)

pub IsKeptLeftOf-edited : (before : View) (made : List ℕ) (units : UnitDelta) (regions : List Region) (gap : ℕ) → IsChangeOf before.text made units →
    AreOver (length before.text) before.layers → KeepsFront units gap →
    IsKeptLeftOf gap before (record before { text = made; regions = regions; layers = mapped_layers units before.layers })
IsKeptLeftOf-edited before made units regions gap changes over keeps =
    let room : gap ≤ length before.text = omega (arith, keeps.inside, changes.base) in
    record {
      inside = room;
      characters =
          sym (ap (take gap) changes.leads ∙
          front-woven (unit_adds units) (unit_keeps units) 0 gap before.text room (λ k low high. keeps.kept k (omega (arith, high)))
          (λ k low high. keeps.added k (omega (arith, high))));
      styled = λ range left. spans-alike units gap (length before.text) before.layers range keeps room over left;
    }

-- ---- what a search finds left of a gap

-- each run has so many characters
abbrev AreLong : ℕ → List Run → Type 0
AreLong len runs = AllByRecursion (λ (run : Run). run.end ≡ run.start + len) runs

AreLong-from : (chars text : List ℕ) (from : ℕ) (runs : List Run) → AreMatchesFrom chars text from runs → AreLong (length chars) runs
AreLong-from chars text from [] are = tt
AreLong-from chars text from (run ∷ runs) are = (are.0.end, AreLong-from chars text run.end runs are.1)

pub folded-long : (fold : Bool) (text : List ℕ) → length (folded fold text) ≡ length text
folded-long true text = length-map text _
folded-long false text = refl

AreLong-matches : (text chars : List ℕ) (fold : Bool) → AreLong (length chars) (matches_of text chars fold)
AreLong-matches text [] fold = tt
AreLong-matches text (c ∷ chars) fold =
    subst (λ (n : ℕ). AreLong n (matches_of text (c ∷ chars) fold)) (folded-long fold (c ∷ chars))
    (AreLong-from (folded fold (c ∷ chars)) (folded fold text) 0 (matches_of text (c ∷ chars) fold) (matches_of-are text (c ∷ chars) fold (omega arith)))

abbrev by_then : ℕ → Run → Bool
by_then gap run = nat_le run.end gap

-- a match that ends right of a gap has no character that is so far left of it
found-by : (len gap index : ℕ) (runs : List Run) → AreLong len runs → index + len ≤ gap → is_found runs index ≡ is_found (filter (by_then gap) runs) index
found-by len gap index [] are left = refl
found-by len gap index (run ∷ runs) are left = by (nat_le run.end gap) refl (found-by len gap index runs are.1 left)
  where
    not_le : (n m : ℕ) → nat_le n m ≡ false → m < n
    not_le n m none = grind (arith, nat_tests, none)

    by : (b : Bool) → nat_le run.end gap ≡ b → is_found runs index ≡ is_found (filter (by_then gap) runs) index →
        is_found (run ∷ runs) index ≡ is_found (cond b (run ∷ filter (by_then gap) runs) (filter (by_then gap) runs)) index
    by true ends rest = ap (λ (b : Bool). is_within run index || b) rest
    by false ends rest =
        ap (λ (b : Bool). b && nat_lt index run.end || is_found runs index)
        (lt-leb run.start index (omega (arith, are.0, left, not_le run.end gap ends))) ∙ rest

found-left : FrontsStay → (text other chars : List ℕ) (fold : Bool) (gap index : ℕ) → gap ≤ length text → take gap text ≡ take gap other →
    index + length chars ≤ gap → is_found (matches_of text chars fold) index ≡ is_found (matches_of other chars fold) index
found-left stay text other chars fold gap index inside same left =
    found-by (length chars) gap index (matches_of text chars fold) (AreLong-matches text chars fold) left ∙
    ap (λ (runs : List Run). is_found runs index) fronts ∙
    sym (found-by (length chars) gap index (matches_of other chars fold) (AreLong-matches other chars fold) left)
  where
    front : List ℕ
    front = take gap text

    one : front ++ drop gap text ≡ text
    one = take-append-drop gap text

    another : front ++ drop gap other ≡ other
    another = ap (λ (xs : List ℕ). xs ++ drop gap other) same ∙ take-append-drop gap other

    long : length front ≡ gap
    long = length-take-le gap text inside

    fronts : filter (by_then gap) (matches_of text chars fold) ≡ filter (by_then gap) (matches_of other chars fold)
    fronts =
        ap₂ (λ (n : ℕ) (t : List ℕ). filter (by_then n) (matches_of t chars fold)) (sym long) (sym one) ∙
        stay front (drop gap text) (drop gap other) chars fold ∙
        ap₂ (λ (n : ℕ) (t : List ℕ). filter (by_then n) (matches_of t chars fold)) long another

pub take-less : (less gap : ℕ) (xs ys : List ℕ) → less ≤ gap → take gap xs ≡ take gap ys → take less xs ≡ take less ys
take-less less gap xs ys le same = sym (take-take less gap xs le) ∙ ap (take less) same ∙ take-take less gap ys le

-- ---- both views are alike up to there

nothing-left : (index gap len : ℕ) → len ≡ 0 → index < gap - (len - 1) → index + len ≤ gap
nothing-left index gap len none left = omega (arith, none, left)

pub AreAlikeViews-made : FrontsStay → (before after : View) (ends : Option ℕ) (from gap len : ℕ) → IsKeptLeftOf from before after →
    is_cut_alike before after ≡ true → AreEndsApart ends before.regions after.regions → gap ≡ unwrap_or (earlier ends (Some from)) from →
    len ≡ length before.query.chars → AreAlikeViews (gap - (len - 1)) before after
AreAlikeViews-made stay before after ends from gap len kept alike apart gap_is len_is =
    let up_to = AreAlikeLeftOf-up_to ends from gap (gap - (len - 1)) before.regions after.regions apart gap_is (omega arith) in
    record {
      characters = take-less (gap - (len - 1)) from before.text after.text (omega (arith, up_to.0)) kept.characters;
      regions = up_to.1;
      found = λ index left.
          found-left stay before.text after.text before.query.chars (not before.query.case_counts) from index kept.inside kept.characters
          (omega (arith, left, len_is, up_to.0)) ∙
          ap (λ (runs : List Run). is_found runs index) (results-same after.text before.query after.query (same-search before after alike));
      styled = λ range left. kept.styled range (omega (arith, left, up_to.0));
    }

-- Merging keeps a selection sorted, with no two regions that meet.
use Rattle.std.proofs.Common.{◌≡◌, ◌≢◌, ℕ, suc, true, false, Bool, ◌+◌, ◌-◌, ◌<◌, ◌≤◌, List, [], ◌∷◌, length, get_or, drop, drop-cons, refl, ap, sym, ◌∙◌, arith}
use Rattle.std.specs.Prelude.{min, max, ◌||◌, ◌&&◌, nat_lt, nat_le, ◌==◌}
use Rattle.std.proofs.lemmas.Bool.{both_ways, ltb-true, ltb-false, eqb-true, lt-ltb, le-ltb, le-leb, lt-leb, eq-eqb, ne_eqb, and_parts, and_from, and_left, and_right, or_cases, cases_lt, cases_eq, cond_both}
use Rattle.std.proofs.Common.{⊎_elim}
use Rattle.plain_text.specs.declared.selection.Region.{Region}
use Rattle.selection_core.specs.Selection.{lesser_end, greater_end, is_caret, is_forward, meets, spanning, joined, merged_from, merged_regions, comes_before, with_in_order, with_region, AreRightOf, IsSelection, last_caret}

or_left : (x y : Bool) → x ≡ true → (x || y) ≡ true
or_left true y e = refl
or_left false y e = absurd (both_ways false refl e)

or_right : (x y : Bool) → y ≡ true → (x || y) ≡ true
or_right true y e = refl
or_right false y e = e

or_from : (x y : Bool) → x ≡ false → y ≡ false → (x || y) ≡ false
or_from true y e f = absurd (both_ways true e refl)
or_from false y e f = f

or_none : (x y : Bool) → (x || y) ≡ false → (x ≡ false) × (y ≡ false)
or_none true y e = absurd (both_ways true e refl)
or_none false y e = (refl, e)

apart_is : (a b c d : ℕ) (one other : Bool) → a ≤ c → c ≤ d → (c ≡ d → other ≡ true) →
    (nat_lt a d && nat_lt c b || (nat_le a d && nat_le c b) && (one || other)) ≡ false → b ≤ c
apart_is a b c d one other order rises caret unmet =
    ⊎_elim
    (λ (over : c < b).
    ⊎_elim
    (λ (left : a < d). absurd (both_ways _ unmet (or_left _ _ (and_from _ _ (lt-ltb a d left) (lt-ltb c b over)))))
    (λ (past : d ≤ a).
    absurd (both_ways _ unmet (or_right _ _ (and_from _ _ (and_from _ _ (le-leb a d (omega arith)) (le-leb c b (omega arith))) (or_right _ _ (caret (omega arith)))))))
    (cases_lt a d))
    (λ (fine : b ≤ c). fine)
    (cases_lt c b)

apart_from : (a b c d : ℕ) (one other : Bool) → b ≤ c → (b ≡ c → (one || other) ≡ false) →
    (nat_lt a d && nat_lt c b || (nat_le a d && nat_le c b) && (one || other)) ≡ false
apart_from a b c d one other order none =
    or_from (nat_lt a d && nat_lt c b) ((nat_le a d && nat_le c b) && (one || other)) (and_right (nat_lt a d) (nat_lt c b) (le-ltb c b order)) touch
  where
    strict : (b ≡ c → ⊥) → b < c
    strict differ = ⊎_elim (λ (fine : b < c). fine) (λ (le : c ≤ b). absurd (differ (omega arith))) (cases_lt b c)

    touch : ((nat_le a d && nat_le c b) && (one || other)) ≡ false
    touch =
        ⊎_elim
        (λ (same : b ≡ c). and_right (nat_le a d && nat_le c b) (one || other) (none same))
        (λ (differ : b ≡ c → ⊥). and_left (nat_le a d && nat_le c b) (one || other) (and_right (nat_le a d) (nat_le c b) (lt-leb c b (strict differ))))
        (cases_eq b c)

not_carets : (a b c d : ℕ) (one other : Bool) → a ≤ d → c ≤ b →
    (nat_lt a d && nat_lt c b || (nat_le a d && nat_le c b) && (one || other)) ≡ false → (one || other) ≡ false
not_carets a b c d true other left right unmet =
    absurd (both_ways _ unmet (or_right _ _ (and_from _ _ (and_from _ _ (le-leb a d left) (le-leb c b right)) refl)))
not_carets a b c d false true left right unmet =
    absurd (both_ways _ unmet (or_right _ _ (and_from _ _ (and_from _ _ (le-leb a d left) (le-leb c b right)) refl)))
not_carets a b c d false false left right unmet = refl

ends_rise : (region : Region) → lesser_end region ≤ greater_end region
ends_rise region = omega arith

is_caret-from : (region : Region) → lesser_end region ≡ greater_end region → is_caret region ≡ true
is_caret-from region same = eq-eqb region.anchor region.caret (omega arith)

is_caret-not : (region : Region) → lesser_end region < greater_end region → is_caret region ≡ false
is_caret-not region wide = ne_eqb region.anchor region.caret (λ same. omega arith)

caret_wide : (region : Region) → is_caret region ≡ false → lesser_end region < greater_end region
caret_wide region wide =
    ⊎_elim (λ (fine : lesser_end region < greater_end region). fine)
    (λ (past : greater_end region ≤ lesser_end region). absurd (both_ways _ wide (is_caret-from region (omega arith))))
    (cases_lt (lesser_end region) (greater_end region))

lesser_end-spanning : (forward : Bool) (from to : ℕ) → from ≤ to → lesser_end (spanning forward from to) ≡ from
lesser_end-spanning true from to rises = omega arith
lesser_end-spanning false from to rises = omega arith

greater_end-spanning : (forward : Bool) (from to : ℕ) → from ≤ to → greater_end (spanning forward from to) ≡ to
greater_end-spanning true from to rises = omega arith
greater_end-spanning false from to rises = omega arith

lesser_end-joined : (last region : Region) → lesser_end last ≤ lesser_end region → lesser_end (joined last region) ≡ lesser_end last
lesser_end-joined last region order =
    lesser_end-spanning (is_forward last || is_forward region) (min (lesser_end last) (lesser_end region)) (max (greater_end last) (greater_end region)) (omega arith) ∙
    omega arith

greater_end-joined : (last region : Region) → greater_end last ≤ greater_end (joined last region)
greater_end-joined last region =
    let is = greater_end-spanning (is_forward last || is_forward region) (min (lesser_end last) (lesser_end region)) (max (greater_end last) (greater_end region)) (omega arith) in
    omega (arith, is)

-- a region stands right of another and does not meet it
pub record IsRightOf (last region : Region) : Type 0 where
  pub order : greater_end last ≤ lesser_end region
  pub apart : meets last region ≡ false

IsRightOf-from : (last region : Region) → lesser_end last ≤ lesser_end region → meets last region ≡ false → IsRightOf last region
IsRightOf-from last region order unmet = record {
  order =
      apart_is (lesser_end last) (greater_end last) (lesser_end region) (greater_end region) (is_caret last) (is_caret region) order (ends_rise region)
      (is_caret-from region) unmet;
  apart = unmet;
}

IsRightOf-joined : (before last region : Region) → IsRightOf before last → lesser_end last ≤ lesser_end region → IsRightOf before (joined last region)
IsRightOf-joined before last region right order =
    let starts = lesser_end-joined last region order in
    let ends = greater_end-joined last region in record {
      order = omega (arith, right.order, starts);
      apart =
          apart_from (lesser_end before) (greater_end before) (lesser_end (joined last region)) (greater_end (joined last region)) (is_caret before) (is_caret (joined last region))
          (omega (arith, right.order, starts))
          (λ same.
          let none =
          or_none (is_caret before) (is_caret last)
          (not_carets (lesser_end before) (greater_end before) (lesser_end last) (greater_end last) (is_caret before) (is_caret last)
          (omega (arith, right.order)) (omega (arith, starts, same)) right.apart) in
          or_from (is_caret before) (is_caret (joined last region)) none.0 (is_caret-not (joined last region) (omega (arith, starts, ends, caret_wide last none.1))));
    }

-- the lesser ends rise, and none is below `low`
abbrev pub AreInOrder : ℕ → List Region → Type 0
AreInOrder low [] = Unit {0}
AreInOrder low (region ∷ regions) = (low ≤ lesser_end region) × AreInOrder (lesser_end region) regions

AreInOrder-weaker : (low high : ℕ) (regions : List Region) → low ≤ high → AreInOrder high regions → AreInOrder low regions
AreInOrder-weaker low high [] below order = tt
AreInOrder-weaker low high (region ∷ regions) below order = (omega (arith, order.0), order.1)

AreRightOf-merged_from : (before last : Region) (regions : List Region) → IsRightOf before last → AreInOrder (lesser_end last) regions → AreRightOf before (merged_from last regions)
AreRightOf-merged_from before last [] right order = (right.order, right.apart, tt)
AreRightOf-merged_from before last (region ∷ regions) right order =
    cond_both (meets last region) (merged_from (joined last region) regions) (last ∷ merged_from region regions) (λ xs. AreRightOf before xs)
    (λ meet.
    AreRightOf-merged_from before (joined last region) regions (IsRightOf-joined before last region right order.0)
    (AreInOrder-weaker (lesser_end (joined last region)) (lesser_end region) regions (omega (arith, order.0, lesser_end-joined last region order.0)) order.1))
    (λ unmet. (right.order, right.apart, AreRightOf-merged_from last region regions (IsRightOf-from last region order.0 unmet) order.1))

IsSelection-merged_from : (last : Region) (regions : List Region) → AreInOrder (lesser_end last) regions → IsSelection (merged_from last regions)
IsSelection-merged_from last [] order = tt
IsSelection-merged_from last (region ∷ regions) order =
    cond_both (meets last region) (merged_from (joined last region) regions) (last ∷ merged_from region regions) (λ xs. IsSelection xs)
    (λ meet.
    IsSelection-merged_from (joined last region) regions
    (AreInOrder-weaker (lesser_end (joined last region)) (lesser_end region) regions (omega (arith, order.0, lesser_end-joined last region order.0)) order.1))
    (λ unmet. AreRightOf-merged_from last region regions (IsRightOf-from last region order.0 unmet) order.1)

-- MERGING KEEPS A SELECTION: regions whose lesser ends rise become a selection
pub IsSelection-merged_regions : (low : ℕ) (regions : List Region) → AreInOrder low regions → IsSelection (merged_regions regions)
IsSelection-merged_regions low [] order = tt
IsSelection-merged_regions low (region ∷ regions) order = IsSelection-merged_from region regions order.1

comes_before-true : (first second : Region) → comes_before first second ≡ true → lesser_end first ≤ lesser_end second
comes_before-true first second e =
    ⊎_elim (λ one. let less = ltb-true (lesser_end first) (lesser_end second) one in omega (arith, less))
    (λ other. let same = eqb-true (lesser_end first) (lesser_end second) (and_parts _ _ other).0 in omega (arith, same))
    (or_cases (nat_lt (lesser_end first) (lesser_end second)) (lesser_end first == lesser_end second && nat_lt (greater_end first) (greater_end second)) e)

pub comes_before-false : (first second : Region) → comes_before first second ≡ false → lesser_end second ≤ lesser_end first
comes_before-false first second e =
    ltb-false (lesser_end first) (lesser_end second)
    (or_none (nat_lt (lesser_end first) (lesser_end second)) (lesser_end first == lesser_end second && nat_lt (greater_end first) (greater_end second)) e).0

AreInOrder-with_in_order : (low : ℕ) (region : Region) (regions : List Region) → low ≤ lesser_end region → AreInOrder low regions → AreInOrder low (with_in_order region regions)
AreInOrder-with_in_order low region [] below order = (below, tt)
AreInOrder-with_in_order low region (first ∷ regions) below order =
    cond_both (comes_before first region) (first ∷ with_in_order region regions) (region ∷ first ∷ regions) (λ xs. AreInOrder low xs)
    (λ left. (order.0, AreInOrder-with_in_order (lesser_end first) region regions (comes_before-true first region left) order.1))
    (λ right. (below, (comes_before-false first region right, order.1)))

AreInOrder-right : (last : Region) (regions : List Region) → AreRightOf last regions → AreInOrder (lesser_end last) regions
AreInOrder-right last [] right = tt
AreInOrder-right last (region ∷ regions) right = (omega (arith, right.0), AreInOrder-right region regions right.2)

AreInOrder-selection : (regions : List Region) → IsSelection regions → AreInOrder 0 regions
AreInOrder-selection [] sound = tt
AreInOrder-selection (region ∷ regions) sound = (omega arith, AreInOrder-right region regions sound)

pub IsSelection-with_region : (region : Region) (regions : List Region) → IsSelection regions → IsSelection (with_region region regions)
IsSelection-with_region region regions sound =
    IsSelection-merged_regions 0 (with_in_order region regions) (AreInOrder-with_in_order 0 region regions (omega arith) (AreInOrder-selection regions sound))

last_caret-get_or : (regions : List Region) (d : Region) → regions ≢ [] → last_caret regions ≡ (get_or regions (length regions - 1) d).caret
last_caret-get_or [] d some = absurd (some refl)
last_caret-get_or (region ∷ []) d some = refl
last_caret-get_or (region ∷ (next ∷ regions)) d some =
    let e : length (region ∷ (next ∷ regions)) - 1 ≡ suc (length (next ∷ regions) - 1) = omega arith in
    rw e (last_caret-get_or (next ∷ regions) d (λ none. absurd cc))

pub drop-next : {X : Type 0} → (xs : List X) (i : ℕ) (d : X) → i < length xs → drop i xs ≡ get_or xs i d ∷ drop (i + 1) xs
drop-next xs i d below =
    let e : suc i ≡ i + 1 = omega arith in drop-cons xs i d below ∙ ap (λ k. get_or xs i d ∷ drop k xs) e

pub drop-item : {X : Type 0} → (xs : List X) (i : ℕ) (x : X) → i < length xs → x ≡ get_or xs i x → drop i xs ≡ x ∷ drop (i + 1) xs
drop-item xs i x below is = drop-next xs i x below ∙ ap (λ y. y ∷ drop (i + 1) xs) (sym is)

pub IsSelection-added : (region : Region) (old seen list listed new : List Region) → new ≡ merged_regions listed → listed ≡ list → list ≡ with_in_order region seen → seen ≡ old →
    IsSelection old → IsSelection new
IsSelection-added region old seen list listed new is again here same sound = rw (is, again, here, same) (IsSelection-with_region region old sound)

pub last_caret-seen : (regions seen : List Region) (d : Region) → seen ≡ regions → regions ≢ [] → (get_or seen (length seen - 1) d).caret ≡ last_caret regions
last_caret-seen regions seen d same some = rw same (sym (last_caret-get_or regions d some))

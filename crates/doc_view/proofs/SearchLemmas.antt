-- Which match a search selects, and that it lies in the text.
use Rattle.std.proofs.Common.{◌≡◌, ◌≢◌, ℕ, zero, suc, ◌+◌, ◌-◌, ◌<◌, ◌≤◌, Bool, true, false, cond, List, [], ◌∷◌, length, Option, Some, None, refl, ap, ◌∙◌, arith}
use Rattle.std.specs.Prelude.{if◌then◌else◌, slice_get, nat_le, not, ◌==◌, IfSome}
use Rattle.std.specs.Option.{option_or, unwrap_or}
use Rattle.std.specs.List.{AllByRecursion, filter, find, last_or}
use Rattle.std.proofs.lemmas.Bool.{eqb-true, le-leb}
use Rattle.plain_text.specs.declared.run.Run.{Run}
use Rattle.plain_text.specs.declared.selection.Region.{Region}
use Rattle.find_core.specs.Matches.{matches_of}
use Rattle.find_core.proofs.ForCallers.{matches_of-inside}
use Rattle.match_index.specs.Found.{Found, runs_in}
use Rattle.selection_core.specs.Mapped.{AreWithin}
use Rattle.selection_core.specs.Selection.{IsSelection, greater_end}
use Rattle.doc_view.specs.declared.search.Search.{Search}
use Rattle.doc_view.specs.Search.{end_of_regions, if_wraps, is_for_nothing, next_found, next_match, previous_found, previous_match, results, start_of_regions, with_match}

-- ---- the first match and the last

-- the first match from the start on is the first, and the last one to the end of the text the last
pub find-all : (runs : List Run) → find (λ (run : Run). nat_le 0 run.start) runs ≡ slice_get runs 0
find-all [] = refl
find-all (run ∷ runs) = ap (λ (b : Bool). cond b (Some run) (find (λ (own : Run). nat_le 0 own.start) runs)) (le-leb 0 run.start (omega arith))

last-all : (len : ℕ) (o : Option Run) (runs : List Run) → AllByRecursion (λ (run : Run). (run.start < run.end) × (run.end ≤ len)) runs →
    last_or o (filter (λ (run : Run). nat_le run.end len) runs) ≡ last_or o runs
last-all len o [] all = refl
last-all len o (run ∷ runs) all =
    ap (λ (b : Bool). last_or o (cond b (run ∷ filter (λ (own : Run). nat_le own.end len) runs) (filter (λ (own : Run). nat_le own.end len) runs)))
    (le-leb run.end len all.0.1) ∙
    last-all len (Some run) runs all.1

pub last-matches : (found : Found) → last_or None (filter (λ (run : Run). nat_le run.end (length found.text)) (runs_in found)) ≡ last_or None (runs_in found)
last-matches found = last-all (length found.text) None (runs_in found) (matches_of-inside found.text found.chars found.fold)

end-at : (regions : List Region) (index : ℕ) (region : Region) → index + 1 ≡ length regions → Some region ≡ slice_get regions index →
    greater_end region ≡ end_of_regions regions
end-at [] index region len is = absurd cc
end-at (first ∷ []) zero region len is = ap (λ o. greater_end (unwrap_or o region)) is
end-at (first ∷ []) (suc index) region len is = absurd cc
end-at (first ∷ next ∷ regions) zero region len is = absurd (omega (arith, len))
end-at (first ∷ next ∷ regions) (suc index) region len is = end-at (next ∷ regions) index region (omega (arith, len)) is

pub end_of_regions-is : (regions : List Region) (region : Region) → Some region ≡ slice_get regions (length regions - 1) →
    greater_end region ≡ end_of_regions regions
end_of_regions-is [] region is = absurd cc
end_of_regions-is (first ∷ regions) region is = end-at (first ∷ regions) (length (first ∷ regions) - 1) region (omega arith) is

-- ---- a fact of all matches is one of the match that is found

pub find-holds : {X : Type 0} (P : X → Type 0) (test : X → Bool) (xs : List X) → AllByRecursion P xs → IfSome (find test xs) P
find-holds P test [] all = tt
find-holds P test (x ∷ xs) all = by (test x) (find-holds P test xs all.1)
  where
    by : (b : Bool) → IfSome (find test xs) P → IfSome (cond b (Some x) (find test xs)) P
    by true rest = all.0
    by false rest = rest

filter-holds : {X : Type 0} (P : X → Type 0) (test : X → Bool) (xs : List X) → AllByRecursion P xs → AllByRecursion P (filter test xs)
filter-holds P test [] all = tt
filter-holds P test (x ∷ xs) all = by (test x) (filter-holds P test xs all.1)
  where
    by : (b : Bool) → AllByRecursion P (filter test xs) → AllByRecursion P (cond b (x ∷ filter test xs) (filter test xs))
    by true rest = (all.0, rest)
    by false rest = rest

last-holds : {X : Type 0} (P : X → Type 0) (o : Option X) (xs : List X) → IfSome o P → AllByRecursion P xs → IfSome (last_or o xs) P
last-holds P o [] here all = here
last-holds P o (x ∷ xs) here all = last-holds P (Some x) xs all.0 all.1

first-holds : {X : Type 0} (P : X → Type 0) (xs : List X) → AllByRecursion P xs → IfSome (slice_get xs 0) P
first-holds P [] all = tt
first-holds P (x ∷ xs) all = all.0

wraps-holds : (P : Run → Type 0) (wrap_around : Option Bool) (o : Option Run) → IfSome o P → IfSome (if_wraps wrap_around o) P
wraps-holds P wrap_around o here = by (unwrap_or wrap_around false)
  where
    by : (b : Bool) → IfSome (if b then o else None) P
    by true = here
    by false = tt

or-holds : {X : Type 0} (P : X → Type 0) (o p : Option X) → IfSome o P → IfSome p P → IfSome (option_or o p) P
or-holds P None p one other = other
or-holds P (Some x) p one other = one

-- a run lies in a text of this length, and has characters
abbrev pub IsInside : ℕ → Run → Type 0
IsInside len run = (run.start < run.end) × (run.end ≤ len)

module _ (text : List ℕ) (query : Search) (wrap_around : Option Bool) (regions : List Region) where
  all_inside : AllByRecursion (IsInside (length text)) (results text query)
  all_inside = matches_of-inside text query.chars (not query.case_counts)

  pub next_match-inside : IfSome (next_match (results text query) wrap_around regions) (IsInside (length text))
  next_match-inside =
      or-holds (IsInside (length text)) (find (λ (run : Run). nat_le (end_of_regions regions) run.start) (results text query)) _
      (find-holds (IsInside (length text)) (λ (run : Run). nat_le (end_of_regions regions) run.start) (results text query) all_inside)
      (wraps-holds (IsInside (length text)) wrap_around (slice_get (results text query) 0) (first-holds (IsInside (length text)) (results text query) all_inside))

  pub previous_match-inside : IfSome (previous_match (results text query) wrap_around regions) (IsInside (length text))
  previous_match-inside =
      or-holds (IsInside (length text)) (last_or None (filter (λ (run : Run). nat_le run.end (start_of_regions regions)) (results text query))) _
      (last-holds (IsInside (length text)) None (filter (λ (run : Run). nat_le run.end (start_of_regions regions)) (results text query)) tt
      (filter-holds (IsInside (length text)) (λ (run : Run). nat_le run.end (start_of_regions regions)) (results text query) all_inside))
      (wraps-holds (IsInside (length text)) wrap_around (last_or None (results text query)) (last-holds (IsInside (length text)) None (results text query) tt all_inside))

-- ---- the regions then

pub with_match-some : (regions : List Region) (found : Option Run) → regions ≢ [] → with_match regions found ≢ []
with_match-some regions None some = some
with_match-some regions (Some run) some = λ none. cc

pub with_match-sound : (regions : List Region) (found : Option Run) → IsSelection regions → IsSelection (with_match regions found)
with_match-sound regions None is = is
with_match-sound regions (Some run) is = tt

with_match-within : (len : ℕ) (regions : List Region) (found : Option Run) → AreWithin len regions → IfSome found (IsInside len) →
    AreWithin len (with_match regions found)
with_match-within len regions None are inside = are
with_match-within len regions (Some run) are inside = (omega (arith, inside.0, inside.1), tt)

pub next_found-within : (text : List ℕ) (query : Search) (wrap_around : Option Bool) (regions : List Region) → AreWithin (length text) regions →
    AreWithin (length text) (next_found text query wrap_around regions)
next_found-within text query wrap_around regions are =
    with_match-within (length text) regions (next_match (results text query) wrap_around regions) are (next_match-inside text query wrap_around regions)

pub previous_found-within : (text : List ℕ) (query : Search) (wrap_around : Option Bool) (regions : List Region) → AreWithin (length text) regions →
    AreWithin (length text) (previous_found text query wrap_around regions)
previous_found-within text query wrap_around regions are =
    with_match-within (length text) regions (previous_match (results text query) wrap_around regions) are (previous_match-inside text query wrap_around regions)

-- ---- all results

-- a search for no characters has none
pub results-none : (text : List ℕ) (query : Search) → is_for_nothing query ≡ true → results text query ≡ []
results-none text query none = by query.chars none
  where
    by : (chars : List ℕ) → (length chars == 0) ≡ true → matches_of text chars (not query.case_counts) ≡ []
    by [] none = refl
    by (c ∷ chars) none = absurd (omega (arith, eqb-true (length (c ∷ chars)) 0 none))

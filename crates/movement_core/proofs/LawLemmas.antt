-- The laws of motions.
use Rattle.std.proofs.Common.{◌≡◌, ◌≢◌, ◌⊎◌, inl, inr, ⊎_elim, ℕ, zero, suc, ◌+◌, ◌-◌, ◌<◌, ◌≤◌, Bool, true, false, List, [], ◌∷◌, reverse, length, take, drop, Some, None, refl, sym, ap, subst, ◌∙◌, arith}
use Rattle.std.specs.Prelude.{min, max, nat_lt, nat_le, ◌==◌, ◌&&◌, ◌||◌, if◌then◌else◌, unwrap_or, slice_range}
use Rattle.std.specs.List.{Contains, concat, find, flat_map, fold}
use Rattle.std.specs.Str.{all_scalars}
use Rattle.std.proofs.lemmas.Bool.{and_from, and_parts, cases_Bool, cases_lt, eq-eqb, eqb-true, le-leb, leb-true, lt-ltb, ltb-true, ne_eqb}
use Rattle.std.proofs.lemmas.List.{reverse-append, reverse-reverse}
use Rattle.std.proofs.lemmas.List.Elements.{Contains-append_cases}
use Rattle.plain_text.specs.Lines.{logical_lines}
use Rattle.plain_text.specs.declared.selection.Region.{Region}
use Rattle.plain_screen.specs.declared.piece.Piece.{Piece}
use Rattle.plain_screen.specs.View.{ArePieces, layout_line_of, logical_line_of}
use Rattle.plain_screen.proofs.callers.ViewLemmas.{IsLayoutLineOf-layout_line_of, concat-logical_lines}
use Rattle.plain_screen.proofs.callers.OwnLemmas.{layout_line_of-start}
use Rattle.xi_plain.specs.declared.motion.Motion.{Motion}
use Rattle.xi_plain.specs.declared.motion.Motion.TheVariants.{Left, Right, Up, Down, WordLeft, WordRight, LineStart, LineEnd, TextStart, TextEnd}
use Rattle.selection_core.specs.Selection.{greater_end, is_caret, lesser_end}
use Rattle.cluster_core.specs.Boundaries.{clusters_in, text_boundaries}
use Rattle.cluster_core.specs.Columns.{clipped, column_after, columns_between}
use Rattle.movement_core.specs.Places.{IsPlace, greatest_place, least_place, left_of, right_of}
use Rattle.movement_core.specs.Lines.{StartAtPlaces, above, below, belongs_to, column_of, place_at_column, start_of}
use Rattle.movement_core.specs.Words.{word_len}
use Rattle.movement_core.specs.Motions.{region_after, target}
use Rattle.movement_core.specs.Laws.{IsInLine, StandsAtPlaces}
use Rattle.movement_core.proofs.PlaceLemmas.{IsRisingFrom, first, first_or_later, later, low-le, none_in, text_boundaries-rises, greatest_place-is, ends_from-last, lines-whole}

-- ---- what is found is a boundary

pub start-is_place : (text : List ℕ) → IsPlace text 0
start-is_place text = first 0 _

pub end-is_place : (text : List ℕ) → all_scalars text ≡ true → IsPlace text (length text)
end-is_place text scalars =
    let lines = logical_lines text in
    let whole = concat-logical_lines text in
    let long : 0 + length (concat (flat_map clusters_in lines)) ≡ length text =
    omega (arith, ap length (lines-whole lines (subst (λ t. all_scalars t ≡ true) (sym whole) scalars) ∙ whole)) in
    subst (IsPlace text) long (ends_from-last 0 (flat_map clusters_in lines))

-- the first that passes, if there is one
pub FindsLeast : (ℕ → Bool) → List ℕ → Type 0
FindsLeast p xs = (x : ℕ) × (find p xs ≡ Some x) × Contains xs x × (p x ≡ true) × ((other : ℕ) → Contains xs other → p other ≡ true → x ≤ other)

pub find-cases : (p : ℕ → Bool) (low : ℕ) (xs : List ℕ) → IsRisingFrom low xs → FindsLeast p xs ⊎ ((find p xs ≡ None) × ((other : ℕ) → Contains xs other → p other ≡ false))
unfolding FindsLeast
find-cases p low [] rising = inr (refl, λ other found. absurd (none_in other found))
find-cases p low (x ∷ xs) rising =
    ⊎_elim
    (λ passes. inl (
      x,
      rw passes refl,
      first x xs,
      passes,
      λ other found yes.
          ⊎_elim (λ here. omega arith) (λ past. low-le x xs rising.1 other past) (first_or_later x xs other found),
    ))
    (λ fails. ⊎_elim
    (λ found. inl (
      found.0,
      rw fails found.1,
      later x xs found.0 found.2,
      found.3,
      λ other is yes.
          ⊎_elim (λ here. absurd (both (p x) fails (ap p here ∙ yes))) (λ past. found.4 other past yes) (first_or_later x xs other is),
    ))
    (λ none. inr (rw fails none.0, λ other is. ⊎_elim (λ here. ap p (sym here) ∙ fails) (λ past. none.1 other past) (first_or_later x xs other is)))
    (find-cases p x xs rising.1))
    (cases_Bool (p x))
  where
    both : (b : Bool) → b ≡ false → b ≡ true → ⊥
    both true one other = cc
    both false one other = cc

find-contains : (p : ℕ → Bool) (xs : List ℕ) (d : ℕ) → (find p xs ≡ None) ⊎ Contains xs (unwrap_or (find p xs) d)
find-contains p [] d = inl refl
find-contains p (x ∷ xs) d =
    ⊎_elim
    (λ passes. inr (rw passes (first x xs)))
    (λ fails. ⊎_elim (λ none. inl (rw fails none)) (λ found. inr (rw fails (later x xs _ found))) (find-contains p xs d))
    (cases_Bool (p x))

pub Contains-reversed : (xs : List ℕ) (y : ℕ) → Contains (reverse xs) y → Contains xs y
Contains-reversed [] y found = found
Contains-reversed (x ∷ xs) y found =
    ⊎_elim
    (λ past. later x xs y (Contains-reversed xs y past))
    (λ last. ⊎_elim (λ here. subst (Contains (x ∷ xs)) here (first x xs)) (λ none. absurd (none_in y none)) (first_or_later x [] y last))
    (Contains-append_cases (reverse xs) (x ∷ []) y (subst (λ ys. Contains ys y) (reverse-append (x ∷ []) xs) found))

pub least_place-is_place : (p : ℕ → Bool) (text : List ℕ) → all_scalars text ≡ true → IsPlace text (least_place p text)
least_place-is_place p text scalars =
    ⊎_elim
    (λ none. let is : length text ≡ least_place p text = sym (ap (λ o. unwrap_or o (length text)) none) in subst (IsPlace text) is (end-is_place text scalars))
    (λ found. found)
    (find-contains p (text_boundaries text) (length text))

pub greatest_place-is_place : (p : ℕ → Bool) (text : List ℕ) → IsPlace text (greatest_place p text)
greatest_place-is_place p text =
    ⊎_elim
    (λ none. let is : 0 ≡ greatest_place p text = sym (ap (λ o. unwrap_or o 0) none) in subst (IsPlace text) is (start-is_place text))
    (λ found. Contains-reversed (text_boundaries text) _ found)
    (find-contains p (reverse (text_boundaries text)) 0)

-- ---- right and then left

pub left_of-right_of : (text : List ℕ) (gap : ℕ) → all_scalars text ≡ true → IsPlace text gap → gap < length text → left_of text (right_of text gap) ≡ gap
unfolding FindsLeast
left_of-right_of text gap scalars place below =
    ⊎_elim
    (λ found.
    let next = found.0 in
    let is : right_of text gap ≡ next = ap (λ o. unwrap_or o (length text)) found.1 in
    let past = ltb-true gap next found.3 in
    ap (left_of text) is ∙ greatest_place-is (λ other. nat_lt other next) text gap (record {
      place = place;
      passed = lt-ltb gap next past;
      greatest = λ other there less.
          let lt = ltb-true other next less in
          ⊎_elim (λ (over : gap < other). absurd (let least = found.4 other there (lt-ltb gap other over) in omega arith)) (λ (fine : other ≤ gap). fine) (cases_lt gap other);
    }))
    (λ none. absurd (let no = sym (lt-ltb gap (length text) below) ∙ none.1 (length text) (end-is_place text scalars) in cc))
    (find-cases (λ other. nat_lt gap other) 0 (text_boundaries text) (text_boundaries-rises text))

-- ---- boundaries are kept

IsPlace-min : (text : List ℕ) (a b : ℕ) → IsPlace text a → IsPlace text b → IsPlace text (min a b)
IsPlace-min text a b one other =
    ⊎_elim
    (λ (less : a < b). let is : a ≡ min a b = omega arith in subst (IsPlace text) is one)
    (λ (ge : b ≤ a). let is : b ≡ min a b = omega arith in subst (IsPlace text) is other)
    (cases_lt a b)

IsPlace-max : (text : List ℕ) (a b : ℕ) → IsPlace text a → IsPlace text b → IsPlace text (max a b)
IsPlace-max text a b one other =
    ⊎_elim
    (λ (less : a < b). let is : b ≡ max a b = omega arith in subst (IsPlace text) is other)
    (λ (ge : b ≤ a). let is : a ≡ max a b = omega arith in subst (IsPlace text) is one)
    (cases_lt a b)

IsPlace-if : (text : List ℕ) (b : Bool) (one other : ℕ) → IsPlace text one → IsPlace text other → IsPlace text (if b then one else other)
IsPlace-if text true one other a b = a
IsPlace-if text false one other a b = b

target-is_place : (tab : ℕ) (text : List ℕ) (pieces : List Piece) (motion : Motion) (extend : Bool) (region : Region) → all_scalars text ≡ true →
    StandsAtPlaces text region → IsPlace text (target tab text pieces motion extend region)
target-is_place tab text pieces Left extend region scalars stands =
    IsPlace-if text (extend || is_caret region) _ _ (greatest_place-is_place _ text) (IsPlace-min text region.anchor region.caret stands.anchor stands.caret)
target-is_place tab text pieces Right extend region scalars stands =
    IsPlace-if text (extend || is_caret region) _ _ (least_place-is_place (nat_lt region.caret) text scalars) (IsPlace-max text region.anchor region.caret stands.anchor stands.caret)
target-is_place tab text pieces Up extend region scalars stands =
    IsPlace-if text (layout_line_of pieces (if extend then region.caret else lesser_end region) == 0) _ _ (start-is_place text) (greatest_place-is_place _ text)
target-is_place tab text pieces Down extend region scalars stands =
    IsPlace-if text (layout_line_of pieces (if extend then region.caret else greater_end region) + 1 == length pieces) _ _ (end-is_place text scalars) (greatest_place-is_place _ text)
target-is_place tab text pieces WordLeft extend region scalars stands = greatest_place-is_place _ text
target-is_place tab text pieces WordRight extend region scalars stands =
    least_place-is_place (nat_le (region.caret + word_len (drop region.caret text))) text scalars
target-is_place tab text pieces LineStart extend region scalars stands =
    least_place-is_place (belongs_to pieces (layout_line_of pieces region.caret)) text scalars
target-is_place tab text pieces LineEnd extend region scalars stands = greatest_place-is_place _ text
target-is_place tab text pieces TextStart extend region scalars stands = start-is_place text
target-is_place tab text pieces TextEnd extend region scalars stands = end-is_place text scalars

pub StandsAtPlaces-moved : (tab : ℕ) (text : List ℕ) (pieces : List Piece) (motion : Motion) (extend : Bool) (region : Region) → all_scalars text ≡ true →
    StandsAtPlaces text region → StandsAtPlaces text (region_after tab text pieces motion extend region)
StandsAtPlaces-moved tab text pieces motion extend region scalars stands =
    let caret = target-is_place tab text pieces motion extend region scalars stands in
    record { anchor = IsPlace-if text extend region.anchor _ stands.anchor caret; caret = caret }

-- ---- where layout lines start

pub start-is_place_too : (text : List ℕ) (pieces : List Piece) (line : ℕ) → StartAtPlaces text pieces → IsPlace text (start_of pieces line)
start-is_place_too text [] line starts = start-is_place text
start-is_place_too text (piece ∷ pieces) zero starts = starts.0
start-is_place_too text (piece ∷ pieces) (suc line) starts = start-is_place_too text pieces line starts.1

-- nothing stands between a gap and itself
pub columns_between-none : (tab : ℕ) (line : List ℕ) (gap : ℕ) → columns_between tab line gap gap ≡ 0
columns_between-none tab line gap = none 0 (clusters_in line)
  where
    part : (gap at : ℕ) (cluster : List ℕ) → slice_range cluster (gap - at) (gap - at) ≡ []
    part gap at cluster = let few : gap - at - (gap - at) ≡ 0 = omega arith in ap (λ n. take n (drop (gap - at) cluster)) few

    none : (at : ℕ) (clusters : List (List ℕ)) → fold (column_after tab) 0 (clipped gap gap at clusters) ≡ 0
    none at [] = refl
    none at (cluster ∷ clusters) =
        ap (λ p. fold (column_after tab) (column_after tab 0 p) (clipped gap gap (at + length cluster) clusters)) (part gap at cluster) ∙
        none (at + length cluster) clusters

column_of-start : (tab : ℕ) (text : List ℕ) (pieces : List Piece) (line : ℕ) → ArePieces text pieces → line < length pieces →
    column_of tab text pieces (start_of pieces line) ≡ 0
column_of-start tab text pieces line are inside =
    let own = logical_line_of text (start_of pieces line) in
    ap (λ n. columns_between tab own.text (start_of pieces n - own.start) (start_of pieces line - own.start)) (layout_line_of-start text pieces line are inside) ∙
    columns_between-none tab own.text (start_of pieces line - own.start)

-- the greatest that passes passes, where one does
greatest_place-passes : (p : ℕ → Bool) (text : List ℕ) (one : ℕ) → IsPlace text one → p one ≡ true → p (greatest_place p text) ≡ true
greatest_place-passes p text one place passes =
    ⊎_elim (λ none. absurd (fails none)) (λ found. found) (passes_or_none (reverse (text_boundaries text)))
  where
    passes_or_none : (xs : List ℕ) → (find p xs ≡ None) ⊎ (p (unwrap_or (find p xs) 0) ≡ true)
    passes_or_none [] = inl refl
    passes_or_none (x ∷ xs) = ⊎_elim (λ yes. inr (rw yes yes)) (λ no. rw no (passes_or_none xs)) (cases_Bool (p x))

    found_some : (xs : List ℕ) → Contains xs one → find p xs ≡ None → ⊥
    found_some [] found none = none_in one found
    found_some (x ∷ xs) found none =
        ⊎_elim
        (λ yes. let some = sym (find-first x xs yes) ∙ none in cc)
        (λ no. ⊎_elim (λ here. let both = sym no ∙ ap p here ∙ passes in cc) (λ past. found_some xs past (sym (find-rest x xs no) ∙ none)) (first_or_later x xs one found))
        (cases_Bool (p x))
      where
        find-first : (x : ℕ) (xs : List ℕ) → p x ≡ true → find p (x ∷ xs) ≡ Some x
        find-first x xs passed = rw passed refl

        find-rest : (x : ℕ) (xs : List ℕ) → p x ≡ false → find p (x ∷ xs) ≡ find p xs
        find-rest x xs failed = rw failed refl

    fails : find p (reverse (text_boundaries text)) ≡ None → ⊥
    fails none = found_some (reverse (text_boundaries text)) (Contains-to_reverse (text_boundaries text) one place) none
      where
        Contains-to_reverse : (xs : List ℕ) (y : ℕ) → Contains xs y → Contains (reverse xs) y
        Contains-to_reverse xs y found = Contains-reversed (reverse xs) y (subst (λ ys. Contains ys y) (sym (reverse-reverse xs)) found)

pub IsInLine-place : (tab column line : ℕ) (text : List ℕ) (pieces : List Piece) → ArePieces text pieces → StartAtPlaces text pieces → line < length pieces →
    IsInLine tab text pieces column line (place_at_column tab text pieces line column)
IsInLine-place tab column line text pieces are starts inside =
    let passes : ℕ → Bool = λ place. belongs_to pieces line place && nat_le (column_of tab text pieces place) column in
    let start = start_of pieces line in
    let none = column_of-start tab text pieces line are inside in
    let yes : passes start ≡ true = and_from _ _ (eq-eqb _ _ (layout_line_of-start text pieces line are inside)) (le-leb (column_of tab text pieces start) column (omega arith)) in
    let both = and_parts _ _ (greatest_place-passes passes text start (start-is_place_too text pieces line starts) yes) in
    record { stands = eqb-true _ _ both.0; column = leb-true _ _ both.1 }

pub IsInLine-above : (tab column gap : ℕ) (text : List ℕ) (pieces : List Piece) → ArePieces text pieces → StartAtPlaces text pieces →
    layout_line_of pieces gap ≢ 0 → IsInLine tab text pieces column (layout_line_of pieces gap - 1) (above tab text pieces column gap)
IsInLine-above tab column gap text pieces are starts some =
    let line = layout_line_of pieces gap in
    let inside = (IsLayoutLineOf-layout_line_of text pieces gap are).inside in
    let is : above tab text pieces column gap ≡ place_at_column tab text pieces (line - 1) column =
    ap (λ b. if b then 0 else place_at_column tab text pieces (line - 1) column) (ne_eqb line 0 some) in
    subst (IsInLine tab text pieces column (line - 1)) (sym is) (IsInLine-place tab column (line - 1) text pieces are starts (omega arith))

pub IsInLine-below : (tab column gap : ℕ) (text : List ℕ) (pieces : List Piece) → ArePieces text pieces → StartAtPlaces text pieces →
    layout_line_of pieces gap + 1 ≢ length pieces → IsInLine tab text pieces column (layout_line_of pieces gap + 1) (below tab text pieces column gap)
IsInLine-below tab column gap text pieces are starts some =
    let line = layout_line_of pieces gap in
    let inside = (IsLayoutLineOf-layout_line_of text pieces gap are).inside in
    let is : below tab text pieces column gap ≡ place_at_column tab text pieces (line + 1) column =
    ap (λ b. if b then length text else place_at_column tab text pieces (line + 1) column) (ne_eqb (line + 1) (length pieces) some) in
    let more : line + 1 < length pieces = ⊎_elim (λ (fine : line + 1 < length pieces). fine) (λ (past : length pieces ≤ line + 1). absurd (some (omega arith))) (cases_lt (line + 1) (length pieces)) in
    subst (IsInLine tab text pieces column (line + 1)) (sym is) (IsInLine-place tab column (line + 1) text pieces are starts more)

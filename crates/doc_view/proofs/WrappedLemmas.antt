-- The pieces of a text by wrapping: each starts at a boundary.
use Rattle.std.proofs.Common.{◌≡◌, ◌⊎◌, inl, inr, ⊎_elim, ℕ, zero, suc, ◌+◌, true, List, [], ◌∷◌, ◌++◌, length, map, Option, Some, refl, sym, ap, subst, ◌∙◌, arith, length-append}
use Rattle.std.specs.Prelude.{encode_utf8_all}
use Rattle.std.specs.List.{AllByRecursion, Contains, concat, flat_map}
use Rattle.std.specs.Str.{all_scalars}
use Rattle.std.proofs.lemmas.Bool.{and_from, and_parts}
use Rattle.std.proofs.lemmas.List.Elements.{Contains-append_left, Contains-append_right, Contains-append_cases}
use Rattle.std.proofs.lemmas.Str.{chars-encodes}
use Rattle.plain_text.specs.Lines.{logical_lines}
use Rattle.plain_text.proofs.callers.ListLemmas.{AllByRecursion-append, AllByRecursion-weaker}
use Rattle.plain_screen.specs.declared.piece.Piece.{Piece}
use Rattle.plain_screen.specs.View.{pieces_from, pieces_of_line}
use Rattle.plain_screen.proofs.callers.ViewLemmas.{concat-logical_lines}
use Rattle.cluster_core.specs.Boundaries.{clusters_in, ends_from}
use Rattle.cluster_core.proofs.ForCallers.{concat-clusters}
use Rattle.line_break.specs.Breaks.{breaks_of, cluster_ends}
use Rattle.line_break.specs.Pieces.{wrapped_pieces}
use Rattle.line_break.specs.Test.{AreBreaks, AreBreaksFrom, IsEndPast, IsPieceEnd}
use Rattle.line_break.proofs.ForCallers.{breaks_of-pass}
use Rattle.movement_core.specs.Lines.{StartAtPlaces}

-- ---- what a list has

first : (x : ℕ) (xs : List ℕ) → Contains (x ∷ xs) x
first x xs = (0, omega arith, refl)

later : (x : ℕ) (xs : List ℕ) (y : ℕ) → Contains xs y → Contains (x ∷ xs) y
later x xs y found = Contains-append_right (x ∷ []) xs y found

first_or_later : (x : ℕ) (xs : List ℕ) (y : ℕ) → Contains (x ∷ xs) y → (x ≡ y) ⊎ Contains xs y
first_or_later x xs y found = ⊎_elim (λ here. inl (only here)) (λ past. inr past) (Contains-append_cases (x ∷ []) xs y found)
  where
    only : Contains (x ∷ []) y → x ≡ y
    only (zero, lt, is) = is
    only (suc k, lt, is) = absurd (omega arith)

-- ---- ends of clusters

ends_from-append : (at : ℕ) (xs ys : List (List ℕ)) → ends_from at (xs ++ ys) ≡ ends_from at xs ++ ends_from (at + length (concat xs)) ys
ends_from-append at [] ys = let same : at ≡ at + 0 = omega arith in ap (λ n. ends_from n ys) same
ends_from-append at (x ∷ xs) ys =
    let sum : at + length x + length (concat xs) ≡ at + length (concat (x ∷ xs)) = omega (arith, length-append x (concat xs)) in
    ap (λ zs. (at + length x) ∷ zs) (ends_from-append (at + length x) xs ys ∙ ap (λ n. ends_from (at + length x) xs ++ ends_from n ys) sum)

ends_from-last : (at : ℕ) (clusters : List (List ℕ)) → Contains (at ∷ ends_from at clusters) (at + length (concat clusters))
ends_from-last at [] = let same : at ≡ at + 0 = omega arith in subst (Contains (at ∷ [])) same (first at [])
ends_from-last at (cluster ∷ clusters) =
    let long : at + length cluster + length (concat clusters) ≡ at + length (concat (cluster ∷ clusters)) =
    omega (arith, length-append cluster (concat clusters)) in
    later at (ends_from at (cluster ∷ clusters)) (at + length (concat (cluster ∷ clusters)))
    (subst (Contains (ends_from at (cluster ∷ clusters))) long (ends_from-last (at + length cluster) clusters))

-- the same ends, counted from elsewhere
ends_from-moved : (at by : ℕ) (clusters : List (List ℕ)) (n : ℕ) → Contains (at ∷ ends_from at clusters) n →
    Contains ((by + at) ∷ ends_from (by + at) clusters) (by + n)
ends_from-moved at by [] n found =
    ⊎_elim (λ here. let same : by + at ≡ by + n = omega (arith, here) in subst (Contains ((by + at) ∷ [])) same (first (by + at) []))
    (λ past. later (by + at) [] (by + n) (absurd (none past))) (first_or_later at [] n found)
  where
    none : Contains [] n → ⊥
    none (k, lt, is) = absurd (omega arith)
ends_from-moved at by (cluster ∷ clusters) n found =
    let sum : by + (at + length cluster) ≡ by + at + length cluster = omega arith in
    let there = ends_from (by + at) (cluster ∷ clusters) in
    ⊎_elim
    (λ here. let same : by + at ≡ by + n = omega (arith, here) in subst (Contains ((by + at) ∷ there)) same (first (by + at) there))
    (λ past. later (by + at) there (by + n)
    (subst (λ m. Contains (m ∷ ends_from m clusters) (by + n)) sum (ends_from-moved (at + length cluster) by clusters n past)))
    (first_or_later at (ends_from at (cluster ∷ clusters)) n found)

clusters-whole : (line : List ℕ) → all_scalars line ≡ true → concat (clusters_in line) ≡ line
clusters-whole line scalars = concat-clusters (encode_utf8_all line) (line, (scalars, refl)) ∙ chars-encodes line scalars

-- ---- the breaks of a line are ends of its clusters

IsEndPast-piece : (width tab : ℕ) (line : List ℕ) (start end : ℕ) → IsPieceEnd width tab line start end → IsEndPast line start end
IsEndPast-piece width tab line start end (inl candidate) = candidate.is.fitting.end_past
IsEndPast-piece width tab line start end (inr (inl fitting)) = fitting.1.is.end_past
IsEndPast-piece width tab line start end (inr (inr first)) = first.1.is

-- a gap stands at the start of a line, or where a cluster of it ends
abbrev pub IsCut : List ℕ → ℕ → Type 0
IsCut line gap = Contains (0 ∷ cluster_ends line) gap

cuts-from : (width tab : ℕ) (line : List ℕ) (start : ℕ) (ends : List ℕ) → AreBreaksFrom width tab line start ends → AllByRecursion (IsCut line) ends
cuts-from width tab line start [] are = tt
cuts-from width tab line start (end ∷ ends) are =
    (later 0 _ end (IsEndPast-piece width tab line start end are.1).cluster, cuts-from width tab line end ends are.2)

breaks-cut : (width tab : ℕ) (line ends : List ℕ) → all_scalars line ≡ true → AreBreaks width tab line ends → AllByRecursion (IsCut line) ends
breaks-cut width tab [] ends scalars are = subst (AllByRecursion (IsCut [])) (sym are) (first 0 _, tt)
breaks-cut zero tab (c ∷ line) ends scalars are =
    let long : 0 + length (concat (clusters_in (c ∷ line))) ≡ length (c ∷ line) =
    omega (arith, ap length (clusters-whole (c ∷ line) scalars)) in
    subst (AllByRecursion (IsCut (c ∷ line))) (sym are) (subst (IsCut (c ∷ line)) long (ends_from-last 0 (clusters_in (c ∷ line))), tt)
breaks-cut (suc width) tab (c ∷ line) ends scalars are = cuts-from (suc width) tab (c ∷ line) 0 ends are

-- ---- pieces start there

-- a piece starts where the line at `start` does, or where a cluster ends that stands from there on
abbrev StartsAmong : ℕ → List (List ℕ) → Piece → Type 0
StartsAmong start clusters piece = Contains (start ∷ ends_from start clusters) piece.start

starts-line : (line : List ℕ) (start : ℕ) (ln : Option ℕ) (from : ℕ) (ends : List ℕ) → IsCut line from → AllByRecursion (IsCut line) ends →
    AllByRecursion (StartsAmong start (clusters_in line)) (pieces_of_line start ln from ends)
starts-line line start ln from [] cut cuts = tt
starts-line line start ln from (end ∷ ends) cut cuts =
    let same : start + 0 ≡ start = omega arith in (
      subst (λ at. Contains (at ∷ ends_from at (clusters_in line)) (start + from)) same (ends_from-moved 0 start (clusters_in line) from cut),
      starts-line line start _ end ends cuts.0 cuts.1,
    )

-- what starts in a line, or in the lines after it, starts in all of them
module _ (line : List ℕ) (lines : List (List ℕ)) (start : ℕ) (scalars : all_scalars line ≡ true) where
  parts : ends_from start (flat_map clusters_in (line ∷ lines)) ≡
      ends_from start (clusters_in line) ++ ends_from (start + length line) (flat_map clusters_in lines)
  parts =
      ends_from-append start (clusters_in line) (flat_map clusters_in lines) ∙
      ap (λ (cs : List ℕ). ends_from start (clusters_in line) ++ ends_from (start + length cs) (flat_map clusters_in lines)) (clusters-whole line scalars)

  in_line : (piece : Piece) → StartsAmong start (clusters_in line) piece → StartsAmong start (flat_map clusters_in (line ∷ lines)) piece
  in_line piece found =
      subst (λ zs. Contains (start ∷ zs) piece.start) (sym parts)
      (Contains-append_left (start ∷ ends_from start (clusters_in line)) (ends_from (start + length line) (flat_map clusters_in lines)) piece.start found)

  in_later : (piece : Piece) → StartsAmong (start + length line) (flat_map clusters_in lines) piece →
      StartsAmong start (flat_map clusters_in (line ∷ lines)) piece
  in_later piece found =
      let long : start + length (concat (clusters_in line)) ≡ start + length line = ap (λ (cs : List ℕ). start + length cs) (clusters-whole line scalars) in
      subst (λ zs. Contains (start ∷ zs) piece.start) (sym parts)
      (⊎_elim
      (λ here. Contains-append_left (start ∷ ends_from start (clusters_in line)) (ends_from (start + length line) (flat_map clusters_in lines)) piece.start
      (subst (Contains (start ∷ ends_from start (clusters_in line))) (long ∙ here) (ends_from-last start (clusters_in line))))
      (λ past. Contains-append_right (start ∷ ends_from start (clusters_in line)) (ends_from (start + length line) (flat_map clusters_in lines)) piece.start past)
      (first_or_later (start + length line) _ piece.start found))

all_scalars-parts : (xs ys : List ℕ) → all_scalars (xs ++ ys) ≡ true → (all_scalars xs ≡ true) × (all_scalars ys ≡ true)
all_scalars-parts [] ys all = (refl, all)
all_scalars-parts (x ∷ xs) ys all =
    let halves = and_parts _ _ all in
    let rest = all_scalars-parts xs ys halves.1 in
    (and_from _ _ halves.0 rest.0, rest.1)

starts-lines : (width tab number start : ℕ) (lines : List (List ℕ)) → all_scalars (concat lines) ≡ true →
    AllByRecursion (StartsAmong start (flat_map clusters_in lines)) (pieces_from number start (map (λ line. (line, breaks_of width tab line)) lines))
starts-lines width tab number start [] scalars = tt
starts-lines width tab number start (line ∷ lines) scalars =
    let halves = all_scalars-parts line (concat lines) scalars in
    let cuts = breaks-cut width tab line (breaks_of width tab line) halves.0 (breaks_of-pass width tab line halves.0) in
    AllByRecursion-append (StartsAmong start (flat_map clusters_in (line ∷ lines))) (pieces_of_line start (Some number) 0 (breaks_of width tab line)) _
    (AllByRecursion-weaker (StartsAmong start (clusters_in line)) (StartsAmong start (flat_map clusters_in (line ∷ lines)))
    (in_line line lines start halves.0) _ (starts-line line start (Some number) 0 (breaks_of width tab line) (first 0 _) cuts))
    (AllByRecursion-weaker (StartsAmong (start + length line) (flat_map clusters_in lines)) (StartsAmong start (flat_map clusters_in (line ∷ lines)))
    (in_later line lines start halves.0) _ (starts-lines width tab (number + 1) (start + length line) lines halves.1))

pub StartAtPlaces-wrapped : (width tab : ℕ) (text : List ℕ) → all_scalars text ≡ true → StartAtPlaces text (wrapped_pieces width tab text)
StartAtPlaces-wrapped width tab text scalars =
    starts-lines width tab 1 0 (logical_lines text) (subst (λ t. all_scalars t ≡ true) (sym (concat-logical_lines text)) scalars)

-- Lemmas on the columns of a piece, which is whole clusters of a line and a part of one more.
use Rattle.std.proofs.Common.{◌≡◌, ℕ, zero, suc, ◌+◌, ◌-◌, ◌*◌, ◌/◌, ◌<◌, ◌≤◌, ◌==◌, Bool, true, false, cond, List, [], ◌∷◌, ◌++◌, length, take, drop, refl, sym, ap, ap₂, subst, ◌∙◌, arith, append_assoc, append-nil, length-append, take_at, drop_at, add-one}
use Rattle.std.specs.Prelude.{slice_range}
use Rattle.std.specs.Char.{is_control}
use Rattle.std.specs.List.{concat, fold}
use Rattle.std.proofs.Math.Nat.{lt-div-mul-add, suc-mul}
use Rattle.std.proofs.lemmas.Bool.Decides.{nat_tests}
use Rattle.std.proofs.lemmas.List.{take_all, drop_all}
use Rattle.std.proofs.lemmas.List.Folds.{concat-append}
use Rattle.cluster_core.specs.Boundaries.{clusters_in}
use Rattle.cluster_core.specs.Columns.{tab_stop, column_after, clipped, columns_between}
use Rattle.line_break.specs.Breaks.{shown_len, piece_columns}
use Rattle.line_break.specs.Inner.{solid_len}
use Rattle.line_break.proofs.TailLemmas.{StandsApart, shown_len-none, shown_len-some, solid_len-none, solid_len-some}

-- ---- columns never fall along a line

le_cond : (b : Bool) (n x y : ℕ) → n ≤ x → n ≤ y → n ≤ cond b x y
le_cond true n x y first second = first
le_cond false n x y first second = second

not_zero : (n : ℕ) → suc n == 0 ≡ false
not_zero n = grind (arith, nat_tests)

tab_stop-grows : (tab column : ℕ) → column ≤ tab_stop tab column
tab_stop-grows zero column = omega arith
tab_stop-grows (suc n) column =
    let quotient = column / suc n in
    let past = lt-div-mul-add {a = column} {b = suc n} (omega arith) in
    let is : tab_stop (suc n) column ≡ (quotient + 1) * suc n = ap (λ b. cond b column ((quotient + 1) * suc n)) (not_zero n) in
    let sum : (quotient + 1) * suc n ≡ quotient * suc n + suc n = ap (λ k. k * suc n) (add-one quotient) ∙ suc-mul quotient (suc n) in
    omega (arith, is, sum, past)

column_after-grows : (tab column : ℕ) (cluster : List ℕ) → column ≤ column_after tab column cluster
column_after-grows tab column [] = omega arith
column_after-grows tab column (c ∷ cluster) =
    le_cond (c == 9) column _ _ (tab_stop-grows tab column) (le_cond (is_control c) column _ _ (omega arith) (omega arith))

pub fold-grows : (tab column : ℕ) (clusters : List (List ℕ)) → column ≤ fold (column_after tab) column clusters
fold-grows tab column [] = omega arith
fold-grows tab column (cluster ∷ clusters) =
    let first = column_after-grows tab column cluster in
    let rest = fold-grows tab (column_after tab column cluster) clusters in omega arith

pub fold-push : (tab column : ℕ) (front : List (List ℕ)) (cluster : List ℕ) →
    fold (column_after tab) column (front ++ cluster ∷ []) ≡ column_after tab (fold (column_after tab) column front) cluster
fold-push tab column [] cluster = refl
fold-push tab column (first ∷ front) cluster = fold-push tab (column_after tab column first) front cluster

pub fold-append : (tab column : ℕ) (front back : List (List ℕ)) →
    fold (column_after tab) column (front ++ back) ≡ fold (column_after tab) (fold (column_after tab) column front) back
fold-append tab column [] back = refl
fold-append tab column (cluster ∷ front) back = fold-append tab (column_after tab column cluster) front back

-- ---- what stands between two gaps

pub clipped-append : (from to at : ℕ) (front back : List (List ℕ)) →
    clipped from to at (front ++ back) ≡ clipped from to at front ++ clipped from to (at + length (concat front)) back
clipped-append from to at [] back = let same : at ≡ at + 0 = omega arith in ap (λ n. clipped from to n back) same
clipped-append from to at (cluster ∷ front) back =
    let sum : at + length cluster + length (concat front) ≡ at + length (cluster ++ concat front) = omega (arith, length-append cluster (concat front)) in
    ap (λ cs. slice_range cluster (from - at) (to - at) ∷ cs)
    (clipped-append from to (at + length cluster) front back ∙
    ap (λ n. clipped from to (at + length cluster) front ++ clipped from to n back) sum)

-- clusters left of the first gap take no columns
clipped-before : (tab column from to at : ℕ) (clusters : List (List ℕ)) → at + length (concat clusters) ≤ from →
    fold (column_after tab) column (clipped from to at clusters) ≡ column
clipped-before tab column from to at [] before = refl
clipped-before tab column from to at (cluster ∷ clusters) before =
    let long = length-append cluster (concat clusters) in
    let none : slice_range cluster (from - at) (to - at) ≡ [] =
    ap (take (to - at - (from - at))) (drop_all (from - at) cluster (omega arith)) ∙ take_all (to - at - (from - at)) [] (omega arith) in
    ap (λ part. fold (column_after tab) (column_after tab column part) (clipped from to (at + length cluster) clusters)) none ∙
    clipped-before tab column from to (at + length cluster) clusters (omega arith)

-- nor do those past the second
pub clipped-past : (tab column from to at : ℕ) (clusters : List (List ℕ)) → to ≤ at → fold (column_after tab) column (clipped from to at clusters) ≡ column
clipped-past tab column from to at [] past = refl
clipped-past tab column from to at (cluster ∷ clusters) past =
    let none : to - at - (from - at) ≡ 0 = omega arith in
    ap (λ n. fold (column_after tab) (column_after tab column (take n (drop (from - at) cluster))) (clipped from to (at + length cluster) clusters)) none ∙
    clipped-past tab column from to (at + length cluster) clusters (omega arith)

clipped-inside : (from to at : ℕ) (clusters : List (List ℕ)) → from ≤ at → at + length (concat clusters) ≤ to → clipped from to at clusters ≡ clusters
clipped-inside from to at [] after within = refl
clipped-inside from to at (cluster ∷ clusters) after within =
    let long = length-append cluster (concat clusters) in
    let start : from - at ≡ 0 = omega arith in
    ap₂ (λ (c : List ℕ) (cs : List (List ℕ)). c ∷ cs)
    (ap (λ n. take (to - at - n) (drop n cluster)) start ∙ take_all (to - at - 0) cluster (omega arith))
    (clipped-inside from to (at + length cluster) clusters (omega arith) (omega arith))

module _ (tab : ℕ) (line : List ℕ) (front : List (List ℕ)) where
  -- the columns up to a gap, by the clusters before it that stand whole
  columns-past : (these back : List (List ℕ)) (to : ℕ) → clusters_in line ≡ front ++ (these ++ back) → length (concat front) + length (concat these) ≤ to →
      columns_between tab line (length (concat front)) to
      ≡ fold (column_after tab) (fold (column_after tab) 0 these) (clipped (length (concat front)) to (length (concat front) + length (concat these)) back)
  columns-past these back to parts past =
      let from = length (concat front) in
      let columns : ℕ → List (List ℕ) → ℕ = fold (column_after tab) in
      ap (λ cs. columns 0 (clipped from to 0 cs)) parts ∙
      ap (columns 0) (clipped-append from to 0 front (these ++ back)) ∙
      fold-append tab 0 (clipped from to 0 front) (clipped from to (0 + from) (these ++ back)) ∙
      ap (λ column. columns column (clipped from to (0 + from) (these ++ back))) (clipped-before tab 0 from to 0 front (omega arith)) ∙
      ap (columns 0) (clipped-append from to (0 + from) these back) ∙
      fold-append tab 0 (clipped from to (0 + from) these) (clipped from to (0 + from + length (concat these)) back) ∙
      ap (λ cs. columns (columns 0 cs) (clipped from to (0 + from + length (concat these)) back))
      (clipped-inside from to (0 + from) these (omega arith) (omega arith)) ∙
      ap (λ n. columns (columns 0 these) (clipped from to (n + length (concat these)) back)) (zero_plus from)
    where
      zero_plus : (n : ℕ) → 0 + n ≡ n
      zero_plus n = omega arith

  pub columns-least : (these back : List (List ℕ)) (to : ℕ) → clusters_in line ≡ front ++ (these ++ back) →
      length (concat front) + length (concat these) ≤ to → fold (column_after tab) 0 these ≤ columns_between tab line (length (concat front)) to
  columns-least these back to parts past =
      subst (λ n. fold (column_after tab) 0 these ≤ n) (sym (columns-past these back to parts past))
      (fold-grows tab (fold (column_after tab) 0 these) (clipped (length (concat front)) to (length (concat front) + length (concat these)) back))

  pub columns-none : (back : List (List ℕ)) → clusters_in line ≡ front ++ back →
      columns_between tab line (length (concat front)) (length (concat front) + 0) ≡ 0
  columns-none back parts =
      columns-past [] back (length (concat front) + 0) parts (omega arith) ∙
      clipped-past tab 0 (length (concat front)) (length (concat front) + 0) (length (concat front) + 0) back (omega arith)

  -- and where the gap stands in the cluster after them
  columns-inside : (these back : List (List ℕ)) (cluster : List ℕ) (k : ℕ) → clusters_in line ≡ front ++ (these ++ cluster ∷ back) → k ≤ length cluster →
      columns_between tab line (length (concat front)) (length (concat front) + length (concat these) + k)
      ≡ column_after tab (fold (column_after tab) 0 these) (take k cluster)
  columns-inside these back cluster k parts within =
      let from = length (concat front) in
      let at = length (concat front) + length (concat these) in
      let start : from - at ≡ 0 = omega arith in
      let count : at + k - at - (from - at) ≡ k = omega arith in
      columns-past these (cluster ∷ back) (at + k) parts (omega arith) ∙
      clipped-past tab (column_after tab (fold (column_after tab) 0 these) (slice_range cluster (from - at) (at + k - at))) from (at + k) (at + length cluster) back (omega arith) ∙
      ap₂ (λ n m. column_after tab (fold (column_after tab) 0 these) (take n (drop m cluster))) count start

  -- ---- the piece that ends after a cluster
  module _ (whole : concat (clusters_in line) ≡ line) where
    pub piece-is : (these back : List (List ℕ)) → clusters_in line ≡ front ++ (these ++ back) →
        slice_range line (length (concat front)) (length (concat front) + length (concat these)) ≡ concat these
    piece-is these back parts =
        let from = length (concat front) in
        let cut : line ≡ concat front ++ (concat these ++ concat back) =
        sym whole ∙ ap concat parts ∙ concat-append front (these ++ back) ∙ ap (λ t. concat front ++ t) (concat-append these back) in
        let count : from + length (concat these) - from ≡ length (concat these) = omega arith in
        ap₂ (λ n t. take n (drop from t)) count cut ∙
        ap (take (length (concat these))) (drop_at (concat front) (concat these ++ concat back) from refl) ∙
        take_at (concat these) (concat back) (length (concat these)) refl

    -- what is shown of the piece, by the cluster at its end
    module _ (these back : List (List ℕ)) (cluster : List ℕ) (parts : clusters_in line ≡ front ++ (these ++ cluster ∷ back)) where
      more : clusters_in line ≡ front ++ ((these ++ cluster ∷ []) ++ back)
      more = parts ∙ ap (λ cs. front ++ cs) (sym (append_assoc these (cluster ∷ []) back))

      joined : concat (these ++ cluster ∷ []) ≡ concat these ++ cluster
      joined = concat-append these (cluster ∷ []) ∙ ap (λ c. concat these ++ c) (append-nil cluster)

      piece : slice_range line (length (concat front)) (length (concat front) + length (concat these) + length cluster) ≡ concat these ++ cluster
      piece =
          let long : length (concat front) + length (concat (these ++ cluster ∷ [])) ≡ length (concat front) + length (concat these) + length cluster =
          omega (arith, ap length joined, length-append (concat these) cluster) in
          ap (slice_range line (length (concat front))) (sym long) ∙ piece-is (these ++ cluster ∷ []) back more ∙ joined

      pub columns-blank : 0 < length cluster → StandsApart (concat these) cluster → shown_len cluster ≡ 0 →
          piece_columns tab line (length (concat front)) (length (concat front) + length (concat these) + length cluster)
          ≡ columns_between tab line (length (concat front)) (length (concat front) + solid_len (concat these))
      columns-blank some apart none =
          ap (λ t. columns_between tab line (length (concat front)) (length (concat front) + shown_len t)) piece ∙
          ap (λ n. columns_between tab line (length (concat front)) (length (concat front) + n)) (shown_len-none (concat these) cluster some apart none)

      pub columns-shown : 0 < shown_len cluster → shown_len cluster ≤ length cluster →
          piece_columns tab line (length (concat front)) (length (concat front) + length (concat these) + length cluster)
          ≡ column_after tab (fold (column_after tab) 0 these) (take (shown_len cluster) cluster)
      columns-shown some le =
          let sum : length (concat front) + (length (concat these) + shown_len cluster) ≡ length (concat front) + length (concat these) + shown_len cluster = omega arith in
          ap (λ t. columns_between tab line (length (concat front)) (length (concat front) + shown_len t)) piece ∙
          ap (λ n. columns_between tab line (length (concat front)) (length (concat front) + n)) (shown_len-some (concat these) cluster (omega arith) some) ∙
          ap (columns_between tab line (length (concat front))) sum ∙
          columns-inside these back cluster (shown_len cluster) parts le

      pub solid-blank : solid_len cluster ≡ 0 →
          columns_between tab line (length (concat front)) (length (concat front) + solid_len (concat (these ++ cluster ∷ [])))
          ≡ columns_between tab line (length (concat front)) (length (concat front) + solid_len (concat these))
      solid-blank none =
          ap (λ t. columns_between tab line (length (concat front)) (length (concat front) + solid_len t)) joined ∙
          ap (λ n. columns_between tab line (length (concat front)) (length (concat front) + n)) (solid_len-none (concat these) cluster none)

      pub solid-shown : 0 < solid_len cluster → solid_len cluster ≤ length cluster →
          columns_between tab line (length (concat front)) (length (concat front) + solid_len (concat (these ++ cluster ∷ [])))
          ≡ column_after tab (fold (column_after tab) 0 these) (take (solid_len cluster) cluster)
      solid-shown some le =
          let sum : length (concat front) + (length (concat these) + solid_len cluster) ≡ length (concat front) + length (concat these) + solid_len cluster = omega arith in
          ap (λ t. columns_between tab line (length (concat front)) (length (concat front) + solid_len t)) joined ∙
          ap (λ n. columns_between tab line (length (concat front)) (length (concat front) + n)) (solid_len-some (concat these) cluster some) ∙
          ap (columns_between tab line (length (concat front))) sum ∙
          columns-inside these back cluster (solid_len cluster) parts le

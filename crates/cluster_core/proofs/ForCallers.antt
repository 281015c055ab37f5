-- Lemmas on the clusters of a line, and on the columns that a walk counts.
use Rattle.std.proofs.Common.{◌≡◌, ℕ, ◌+◌, ◌-◌, ◌≤◌, List, [], ◌∷◌, ◌++◌, length, take, refl, sym, ap, subst, ◌∙◌, arith, append_assoc, length-append, append-nil}
use Rattle.std.specs.Prelude.{slice_range}
use Rattle.std.specs.List.{AllByRecursion, concat, fold}
use Rattle.std.proofs.lemmas.List.{take_all, drop_all}
use Rattle.std.proofs.lemmas.List.Folds.{concat-append}
use Rattle.cluster_core.specs.Boundaries.{clusters_in}
use Rattle.cluster_core.specs.Columns.{column_after, clipped, columns_between}
use Rattle.cluster_core.specs.Walk.{ClusterAt, counted_anew, placed}
use Rattle.cluster_core.proofs.ColumnLemmas.{clipped-past, clipped-inside}
pub use Rattle.cluster_core.proofs.ColumnLemmas.{clusters_in-chars, concat-clusters, columns_between-whole}
-- a part of the printable characters that come next comes next too, and each takes one column
pub use Rattle.cluster_core.proofs.WalkLemmas.{WalkBegins-take}
pub use Rattle.cluster_core.proofs.PrintableLemmas.{column_after-one}
-- no cluster begins between CR and LF; and LF or CR LF behind a line is one cluster more
pub use Rattle.cluster_core.proofs.FeedLemmas.{clusters-parted, clusters-feed, clusters-return_feed}

-- what stands between two gaps, by the first of the clusters
clipped-append : (from to at : ℕ) (front back : List (List ℕ)) →
    clipped from to at (front ++ back) ≡ clipped from to at front ++ clipped from to (at + length (concat front)) back
clipped-append from to at [] back = let same : at ≡ at + 0 = omega arith in ap (λ n. clipped from to n back) same
clipped-append from to at (cluster ∷ front) back =
    let sum : at + length cluster + length (concat front) ≡ at + length (cluster ++ concat front) = omega (arith, length-append cluster (concat front)) in
    ap (λ cs. slice_range cluster (from - at) (to - at) ∷ cs)
    (clipped-append from to (at + length cluster) front back ∙
    ap (λ n. clipped from to (at + length cluster) front ++ clipped from to n back) sum)

fold-append : (tab column : ℕ) (front back : List (List ℕ)) →
    fold (column_after tab) column (front ++ back) ≡ fold (column_after tab) (fold (column_after tab) column front) back
fold-append tab column [] back = refl
fold-append tab column (cluster ∷ front) back = fold-append tab (column_after tab column cluster) front back

-- clusters left of the first gap take no columns
clipped-before : (tab column from to at : ℕ) (clusters : List (List ℕ)) → at + length (concat clusters) ≤ from →
    fold (column_after tab) column (clipped from to at clusters) ≡ column
clipped-before tab column from to at [] before = refl
clipped-before tab column from to at (cluster ∷ clusters) before =
    let long = length-append cluster (concat clusters) in
    let none : slice_range cluster (from - at) (to - at) ≡ [] =
    ap (take (to - at - (from - at))) (drop_all (from - at) cluster (omega arith)) ∙ take_all (to - at - (from - at)) [] (omega arith) in
    ap (λ part. fold (column_after tab) (column_after tab column part) (clipped from to (at + length cluster) clusters)) none ∙
    clipped-before tab column from to (at + length cluster) clusters (omega arith)

-- THE COLUMNS OF WHOLE CLUSTERS of a line, from the end of those before them
pub columns_between-clusters : (tab : ℕ) (line : List ℕ) (front these back : List (List ℕ)) → clusters_in line ≡ front ++ (these ++ back) →
    columns_between tab line (length (concat front)) (length (concat front) + length (concat these)) ≡ fold (column_after tab) 0 these
columns_between-clusters tab line front these back parts =
    let from = length (concat front) in
    let to = length (concat front) + length (concat these) in
    let columns : ℕ → List (List ℕ) → ℕ = fold (column_after tab) in
    ap (λ cs. columns 0 (clipped from to 0 cs)) parts ∙
    ap (columns 0) (clipped-append from to 0 front (these ++ back)) ∙
    fold-append tab 0 (clipped from to 0 front) (clipped from to (0 + from) (these ++ back)) ∙
    ap (λ column. columns column (clipped from to (0 + from) (these ++ back))) (clipped-before tab 0 from to 0 front (omega arith)) ∙
    ap (columns 0) (clipped-append from to (0 + from) these back) ∙
    fold-append tab 0 (clipped from to (0 + from) these) (clipped from to (0 + from + length (concat these)) back) ∙
    clipped-past tab (columns 0 (clipped from to (0 + from) these)) from to (0 + from + length (concat these)) back (omega arith) ∙
    ap (columns 0) (clipped-inside from to (0 + from) these (omega arith) (omega arith))

-- a walk counts these columns
walk_tells-from : (tab : ℕ) (line : List ℕ) (front these back : List (List ℕ)) → clusters_in line ≡ front ++ (these ++ back) →
    AllByRecursion (λ item. item.column ≡ columns_between tab line (length (concat front)) item.end)
    (placed tab (length (concat front) + length (concat these)) (fold (column_after tab) 0 these) back)
walk_tells-from tab line front these [] parts = tt
walk_tells-from tab line front these (cluster ∷ back) parts =
    let from = length (concat front) in
    let more = these ++ cluster ∷ [] in
    let again : clusters_in line ≡ front ++ (more ++ back) = parts ∙ ap (λ cs. front ++ cs) (sym (append_assoc these (cluster ∷ []) back)) in
    let joined : length (concat more) ≡ length (concat these) + length cluster =
    ap length (concat-append these (cluster ∷ [])) ∙ length-append (concat these) (cluster ++ []) ∙
    ap (λ (c : List ℕ). length (concat these) + length c) (append-nil cluster) in
    let long : from + length (concat more) ≡ from + length (concat these) + length cluster = omega arith in
    let measured : fold (column_after tab) 0 more ≡ column_after tab (fold (column_after tab) 0 these) cluster = fold-append tab 0 these (cluster ∷ []) in
    let Tells : List ClusterAt → Type 0 = AllByRecursion (λ item. item.column ≡ columns_between tab line from item.end) in (
      sym measured ∙ sym (columns_between-clusters tab line front more back again) ∙ ap (columns_between tab line from) long,
      subst (λ (n : ℕ). Tells (placed tab n (column_after tab (fold (column_after tab) 0 these) cluster) back)) long
          (subst (λ (column : ℕ). Tells (placed tab (from + length (concat more)) column back)) measured (walk_tells-from tab line front more back again)),
    )

pub walk_tells : (tab : ℕ) (line : List ℕ) (front back : List (List ℕ)) → clusters_in line ≡ front ++ back →
    AllByRecursion (λ item. item.column ≡ columns_between tab line (length (concat front)) item.end)
    (placed tab (length (concat front)) 0 back)
walk_tells tab line front back parts =
    let from = length (concat front) in
    let same : from + 0 ≡ from = omega arith in
    subst (λ (n : ℕ). AllByRecursion (λ item. item.column ≡ columns_between tab line from item.end) (placed tab n 0 back)) same
    (walk_tells-from tab line front [] back parts)

-- what is counted anew is what a walk gives that begins to count there
pub counted_anew-placed : (tab gap column from : ℕ) (clusters : List (List ℕ)) →
    counted_anew tab from (placed tab gap column clusters) ≡ placed tab gap from clusters
counted_anew-placed tab gap column from [] = refl
counted_anew-placed tab gap column from (cluster ∷ clusters) =
    ap (λ items. record { cluster = cluster; end = gap + length cluster; column = column_after tab from cluster } ∷ items)
    (counted_anew-placed tab (gap + length cluster) (column_after tab column cluster) (column_after tab from cluster) clusters)

-- A stretch of a line has the line's clusters: its boundaries and its columns are those of the line.
use Rattle.std.proofs.Common.{◌≡◌, ◌⊎◌, inl, inr, ⊎_elim, ℕ, ◌+◌, ◌-◌, ◌<◌, ◌≤◌, true, List, [], ◌∷◌, ◌++◌, length, take, drop, refl, sym, ap, ap₂, subst, ◌∙◌, arith, append-nil, length-append, length-take-le}
use Rattle.std.specs.Prelude.{slice_range}
use Rattle.std.specs.List.{Contains, concat, fold}
use Rattle.std.specs.Str.{all_scalars}
use Rattle.std.proofs.lemmas.Bool.{cases_lt}
use Rattle.std.proofs.lemmas.List.{drop-append-le, drop_all, length-drop, take-append-drop, take-append-le, take_all}
use Rattle.std.proofs.Math.Seq.{drop-append-add}
use Rattle.plain_text.specs.declared.run.Run.{Run}
use Rattle.plain_screen.specs.declared.piece.Piece.{Piece}
use Rattle.plain_screen.specs.View.{LogicalLine, extent_of, line_under}
use Rattle.cluster_core.specs.Boundaries.{clusters_in, ends_from}
use Rattle.cluster_core.specs.Columns.{clipped, column_after, columns_between}
use Rattle.cluster_core.specs.Plain.{PlainStandAlone}
use Rattle.movement_core.specs.declared.nearby.Stretch.{Stretch}
use Rattle.movement_core.specs.Inner.{IsGapOf, IsGapUpTo, IsNextGap}
use Rattle.movement_core.specs.Nearby.{EndsPast, IsApartAt, IsStretchOf, StartsBy}
use Rattle.movement_core.proofs.ApartLemmas.{IsApartAt-drop, IsApartAt-take, apart-parted}
use Rattle.movement_core.proofs.PlaceLemmas.{AreParts, all_scalars-parts, clusters-whole, cuts-from, cuts-in, scalars-line, text-is}
use Rattle.movement_core.proofs.LineLemmas.{under-le, under-parts}

-- ---- a stretch is cut out of a line where two characters are apart

scalars-taken : (line : List ℕ) (n : ℕ) → all_scalars line ≡ true → (all_scalars (take n line) ≡ true) × (all_scalars (drop n line) ≡ true)
scalars-taken line n scalars = all_scalars-parts (take n line) (drop n line) (subst (λ cs. all_scalars cs ≡ true) (sym (take-append-drop n line)) scalars)

module _ (law : PlainStandAlone) where
  front-of : (line : List ℕ) (n : ℕ) → all_scalars line ≡ true → (n ≡ 0) ⊎ IsApartAt line n →
      (front : List (List ℕ)) × (clusters_in line ≡ front ++ clusters_in (drop n line)) × (concat front ≡ take n line)
  front-of line n scalars (inl start) =
      ([], ap (λ m. clusters_in (drop m line)) (sym start), ap (λ m. take m line) (sym start))
  front-of line n scalars (inr apart) =
      (clusters_in (take n line), apart-parted law line n scalars apart, clusters-whole (take n line) (scalars-taken line n scalars).0)

  back-of : (line : List ℕ) (n : ℕ) (More : Type 0) → all_scalars line ≡ true → (n ≡ length line) ⊎ (More × IsApartAt line n) →
      (back : List (List ℕ)) × (clusters_in line ≡ clusters_in (take n line) ++ back) × (concat back ≡ drop n line) × (More ⊎ (back ≡ []))
  back-of line n More scalars (inl end) = (
    [],
    sym (ap clusters_in (take_all n line (omega arith))) ∙ sym (append-nil (clusters_in (take n line))),
    sym (drop_all n line (omega arith)),
    inr refl,
  )
  back-of line n More scalars (inr (more, apart)) =
      (clusters_in (drop n line), apart-parted law line n scalars apart, clusters-whole (drop n line) (scalars-taken line n scalars).1, inl more)

  IsStretchOf-cut : (line : LogicalLine) (from to n m : ℕ) (held : Stretch) (front back : List (List ℕ)) → n ≤ length line.text →
      held.text ≡ take m (drop n line.text) → clusters_in line.text ≡ front ++ clusters_in (drop n line.text) → concat front ≡ take n line.text →
      clusters_in (drop n line.text) ≡ clusters_in (take m (drop n line.text)) ++ back → concat back ≡ drop m (drop n line.text) →
      held.start ≡ line.start + n → held.start ≤ from → (to < held.start + length held.text) ⊎ (back ≡ []) → IsStretchOf line from to held
  IsStretchOf-cut line from to n m held front back inside same fronts left backs right at before past = record {
    front = front;
    back = back;
    text = sym (take-append-drop n line.text) ∙
        ap₂ (λ (xs ys : List ℕ). xs ++ ys) (sym left)
        (sym (take-append-drop m (drop n line.text)) ∙ ap₂ (λ (xs ys : List ℕ). xs ++ ys) (sym same) (sym right));
    clusters = fronts ∙ ap (λ cs. front ++ cs) (backs ∙ ap (λ t. clusters_in t ++ back) (sym same));
    start = omega (arith, at, ap length left, length-take-le n line.text inside);
    before = before;
    past = past;
  }

  module _ (text : List ℕ) (line : LogicalLine) (parts : AreParts text line) (scalars : all_scalars line.text ≡ true) where
    part-of : (at n : ℕ) → at + n ≤ length line.text → take n (drop (line.start + at) text) ≡ take n (drop at line.text)
    part-of at n le =
        let start : line.start + at ≡ length (concat parts.front) + at = ap (λ m. m + at) parts.start in
        ap₂ (λ (m : ℕ) (cs : List ℕ). take n (drop m cs)) start (text-is text line parts) ∙
        ap (take n) (drop-append-add (concat parts.front) (line.text ++ concat parts.back) at ∙ drop-append-le at line.text (concat parts.back) (omega arith)) ∙
        take-append-le n (drop at line.text) (concat parts.back) (omega (arith, length-drop at line.text))

    apart-in : (gap : ℕ) → line.start < gap → gap < line.start + length line.text → IsApartAt text gap → IsApartAt line.text (gap - line.start)
    apart-in gap low high apart =
        let at : line.start + 0 ≡ line.start = omega arith in
        let whole : take (length line.text) (drop line.start text) ≡ line.text =
        sym (ap (λ m. take (length line.text) (drop m text)) at) ∙ part-of 0 (length line.text) (omega arith) ∙ take_all (length line.text) line.text (omega arith) in
        subst (λ cs. IsApartAt cs (gap - line.start)) whole
        (IsApartAt-take (drop line.start text) (gap - line.start) (length line.text) (IsApartAt-drop text gap line.start apart low) (omega arith))

    -- A PART OF A TEXT between such gaps is a stretch of the line
    pub IsStretchOf-part : (from to a b : ℕ) (held : Stretch) → from ≤ to → to ≤ line.start + length line.text → StartsBy text line.start from a →
        EndsPast text to (line.start + length line.text) b → held.start ≡ a → held.text ≡ slice_range text a b → IsStretchOf line from to held
    IsStretchOf-part from to a b held ordered inside starts ends at is =
        let low = starts.low in
        let high = starts.high in
        let after = ends.low in
        let within = ends.high in
        let n = a - line.start in
        let rest = drop n line.text in
        let m = b - a in
        let started : (n ≡ 0) ⊎ IsApartAt line.text n =
        ⊎_elim
        (λ start. inl (omega arith))
        (λ less. ⊎_elim
        (λ (past : line.start < a). inr (apart-in a past (let before = less.0 in omega arith) less.1))
        (λ (none : a ≤ line.start). inl (omega arith))
        (cases_lt line.start a))
        starts.apart in
        let ended : (m ≡ length rest) ⊎ ((to < b) × IsApartAt rest m) =
        ⊎_elim
        (λ end. inl (omega (arith, length-drop n line.text)))
        (λ more. ⊎_elim
        (λ (less : b < line.start + length line.text).
        let past = more.0 in
        let same : b - line.start - n ≡ m = omega arith in
        inr (past, subst (IsApartAt rest) same (IsApartAt-drop line.text (b - line.start) n (apart-in b (omega arith) less more.1) (omega arith))))
        (λ (all : line.start + length line.text ≤ b). inl (omega (arith, length-drop n line.text)))
        (cases_lt b (line.start + length line.text)))
        ends.apart in
        let fronts = front-of line.text n scalars started in
        let backs = back-of rest m (to < b) (scalars-taken line.text n scalars).1 ended in
        let same : held.text ≡ take m rest =
        is ∙ ap (λ k. take m (drop k text)) (let sum : a ≡ line.start + n = omega arith in sum) ∙ part-of n m (omega arith) in
        let long : length held.text ≡ m = ap length same ∙ length-take-le m rest (omega (arith, length-drop n line.text)) in
        IsStretchOf-cut line from to n m held fronts.0 backs.0 (omega arith) same fronts.1 fronts.2 backs.1 backs.2 (omega arith) (omega arith)
        (⊎_elim (λ more. inl (omega arith)) (λ none. inr none) backs.3)

-- the same by the run of a layout line's logical line
module _ (law : PlainStandAlone) (text : List ℕ) (pieces : List Piece) (line : ℕ) (scalars : all_scalars text ≡ true) (run : Run)
    (told : run ≡ extent_of (line_under text pieces line)) where
  run-start : run.start ≡ (line_under text pieces line).start
  run-start = ap (λ (r : Run). r.start) told

  run-end : run.end ≡ (line_under text pieces line).start + length (line_under text pieces line).text
  run-end = ap (λ (r : Run). r.end) told

  pub run-low : (from : ℕ) → (line_under text pieces line).start ≤ from → run.start ≤ from
  run-low from low = let start = run-start in omega arith

  pub run-high : (to : ℕ) → to ≤ (line_under text pieces line).start + length (line_under text pieces line).text → to ≤ run.end
  run-high to high = let end = run-end in omega arith

  pub run-inside : run.end ≤ length text
  run-inside = let end = run-end in omega (arith, under-le text pieces line)

  pub IsStretchOf-run : (from to a b : ℕ) (part : List ℕ) → from ≤ to → to ≤ (line_under text pieces line).start + length (line_under text pieces line).text →
      StartsBy text run.start from a → EndsPast text to run.end b → part ≡ slice_range text a b →
      IsStretchOf (line_under text pieces line) from to (record { start = a; text = part })
  IsStretchOf-run from to a b part ordered inside starts ends is =
      let own = line_under text pieces line in
      let parts = under-parts text pieces line in
      IsStretchOf-part law text own parts (scalars-line text own parts scalars) from to a b (record { start = a; text = part }) ordered inside
      (subst (λ n. StartsBy text n from a) run-start starts) (subst (λ n. EndsPast text to n b) run-end ends) refl is

-- ---- columns of some of the clusters of a line

clipped-shifted : (from to by at : ℕ) (clusters : List (List ℕ)) → clipped from to (by + at) clusters ≡ clipped (from - by) (to - by) at clusters
clipped-shifted from to by at [] = refl
clipped-shifted from to by at (cluster ∷ clusters) =
    let low : from - (by + at) ≡ from - by - at = omega arith in
    let high : to - (by + at) ≡ to - by - at = omega arith in
    let next : by + at + length cluster ≡ by + (at + length cluster) = omega arith in
    ap₂ (λ (c : List ℕ) (cs : List (List ℕ)). c ∷ cs)
    (ap₂ (λ n m. slice_range cluster n m) low high)
    (ap (λ n. clipped from to n clusters) next ∙ clipped-shifted from to by (at + length cluster) clusters)

module _ (tab from to : ℕ) where
  abbrev columns : ℕ → List (List ℕ) → ℕ
  columns = fold (column_after tab)

  -- what stands left of the first gap takes no columns
  columns-before : (column at : ℕ) (front clusters : List (List ℕ)) → at + length (concat front) ≤ from →
      columns column (clipped from to at (front ++ clusters)) ≡ columns column (clipped from to (at + length (concat front)) clusters)
  columns-before column at [] clusters before = let same : at ≡ at + 0 = omega arith in ap (λ n. columns column (clipped from to n clusters)) same
  columns-before column at (cluster ∷ front) clusters before =
      let long = length-append cluster (concat front) in
      let none : slice_range cluster (from - at) (to - at) ≡ [] =
      ap (take (to - at - (from - at))) (drop_all (from - at) cluster (omega arith)) ∙ take_all (to - at - (from - at)) [] (omega arith) in
      let sum : at + length cluster + length (concat front) ≡ at + length (cluster ++ concat front) = omega arith in
      ap (λ part. columns (column_after tab column part) (clipped from to (at + length cluster) (front ++ clusters))) none ∙
      columns-before column (at + length cluster) front clusters (omega arith) ∙
      ap (λ n. columns column (clipped from to n clusters)) sum

  -- nor does what stands right of the second
  columns-past : (column at : ℕ) (clusters : List (List ℕ)) → to ≤ at → columns column (clipped from to at clusters) ≡ column
  columns-past column at [] past = refl
  columns-past column at (cluster ∷ clusters) past =
      let none : to - at - (from - at) ≡ 0 = omega arith in
      ap (λ n. columns (column_after tab column (take n (drop (from - at) cluster))) (clipped from to (at + length cluster) clusters)) none ∙
      columns-past column (at + length cluster) clusters (omega arith)

  columns-behind : (column at : ℕ) (clusters back : List (List ℕ)) → (to ≤ at + length (concat clusters)) ⊎ (back ≡ []) →
      columns column (clipped from to at (clusters ++ back)) ≡ columns column (clipped from to at clusters)
  columns-behind column at clusters back (inr none) = ap (λ cs. columns column (clipped from to at cs)) (ap (λ (cs : List (List ℕ)). clusters ++ cs) none ∙ append-nil clusters)
  columns-behind column at [] back (inl past) = columns-past column at back (omega arith)
  columns-behind column at (cluster ∷ clusters) back (inl past) =
      columns-behind (column_after tab column (slice_range cluster (from - at) (to - at))) (at + length cluster) clusters back
      (inl (omega (arith, length-append cluster (concat clusters))))

-- ---- the boundaries and the columns of a stretch

module _ (line : LogicalLine) (from to : ℕ) (held : Stretch) (scalars : all_scalars line.text ≡ true) (is : IsStretchOf line from to held) where
  abbrev pub shift : ℕ
  shift = length (concat is.front)

  held-scalars : all_scalars held.text ≡ true
  held-scalars =
      (all_scalars-parts held.text (concat is.back)
      (all_scalars-parts (concat is.front) (held.text ++ concat is.back) (subst (λ cs. all_scalars cs ≡ true) is.text scalars)).1).0

  held-long : length (concat (clusters_in held.text)) ≡ length held.text
  held-long = ap length (clusters-whole held.text held-scalars)

  line-long : length line.text ≡ shift + length held.text + length (concat is.back)
  line-long = omega (arith, ap length is.text, length-append (concat is.front) (held.text ++ concat is.back), length-append held.text (concat is.back))

  back-none : is.back ≡ [] → length (concat is.back) ≡ 0
  back-none none = ap (λ cs. length (concat cs)) none

  pub stretch-shift : held.start ≡ line.start + shift
  stretch-shift = is.start

  pub stretch-inside : held.start + length held.text ≤ line.start + length line.text
  stretch-inside = let start = is.start in omega (arith, line-long)

  pub stretch-to-le : to ≤ line.start + length line.text → to ≤ held.start + length held.text
  stretch-to-le inside =
      let start = is.start in
      ⊎_elim (λ more. omega arith) (λ none. omega (arith, line-long, back-none none)) is.past

  pub stretch-to-lt : to < line.start + length line.text → to < held.start + length held.text
  stretch-to-lt inside =
      let start = is.start in
      ⊎_elim (λ more. more) (λ none. omega (arith, line-long, back-none none)) is.past

  pub gap-in : (n : ℕ) → shift ≤ n → n ≤ shift + length held.text → IsGapOf line.text n → IsGapOf held.text (n - shift)
  gap-in n low high found =
      cuts-in is.front (clusters_in held.text) is.back n low (omega (arith, held-long))
      (subst (λ cs. Contains (0 ∷ ends_from 0 cs) n) is.clusters found)

  pub gap-from : (n : ℕ) → IsGapOf held.text n → IsGapOf line.text (shift + n)
  gap-from n found =
      subst (λ cs. Contains (0 ∷ ends_from 0 cs) (shift + n)) (sym is.clusters) (cuts-from is.front (clusters_in held.text) is.back n found)

  pub IsGapUpTo-stretch : (gap n : ℕ) → held.start ≤ gap → gap ≤ held.start + length held.text → IsGapUpTo held.text (gap - held.start) n →
      IsGapUpTo line.text (gap - line.start) (shift + n)
  IsGapUpTo-stretch gap n low high up_to =
      let start = is.start in
      let inside = up_to.inside in
      let by_then = up_to.by_then in record {
        gap = gap-from n up_to.gap;
        inside = omega (arith, line-long);
        by_then = omega arith;
        greatest = λ other found at_most within.
            ⊎_elim
            (λ (before : other < shift). omega arith)
            (λ (past : shift ≤ other).
            let more = up_to.greatest (other - shift) (gap-in other past (omega arith) found) (omega arith) inside in omega arith)
            (cases_lt other shift);
      }

  pub IsNextGap-stretch : (gap n : ℕ) → held.start ≤ gap → IsNextGap held.text (gap - held.start) n → IsNextGap line.text (gap - line.start) (shift + n)
  IsNextGap-stretch gap n low next =
      let start = is.start in
      let inside = next.inside in
      let above = next.above in record {
        gap = gap-from n next.gap;
        inside = omega (arith, line-long);
        above = omega arith;
        least = λ other found past within.
            ⊎_elim
            (λ (beyond : shift + length held.text < other). omega arith)
            (λ (up_to : other ≤ shift + length held.text).
            let more = next.least (other - shift) (gap-in other (omega arith) up_to found) (omega arith) (omega arith) in omega arith)
            (cases_lt (shift + length held.text) other);
      }

  -- THE COLUMNS between two gaps, of which the second may be past the line's end where the stretch goes on to there
  pub columns-stretch : (tab first second : ℕ) → held.start ≤ first → (second ≤ held.start + length held.text) ⊎ (is.back ≡ []) →
      columns_between tab line.text (first - line.start) (second - line.start) ≡ columns_between tab held.text (first - held.start) (second - held.start)
  columns-stretch tab first second low high =
      let start = is.start in
      let f = first - line.start in
      let t = second - line.start in
      let less : f - shift ≡ first - held.start = omega arith in
      let few : t - shift ≡ second - held.start = omega arith in
      let at : 0 + shift ≡ shift + 0 = omega arith in
      ap (λ cs. columns tab f t 0 (clipped f t 0 cs)) is.clusters ∙
      columns-before tab f t 0 0 is.front (clusters_in held.text ++ is.back) (omega arith) ∙
      columns-behind tab f t 0 (0 + shift) (clusters_in held.text) is.back
      (⊎_elim (λ within. inl (omega (arith, held-long))) (λ none. inr none) high) ∙
      ap (λ n. columns tab f t 0 (clipped f t n (clusters_in held.text))) at ∙
      ap (columns tab f t 0) (clipped-shifted f t shift 0 (clusters_in held.text)) ∙
      ap₂ (λ n m. columns tab f t 0 (clipped n m 0 (clusters_in held.text))) less few

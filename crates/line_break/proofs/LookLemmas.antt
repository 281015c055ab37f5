-- Lemmas on looking through a piece, cluster by cluster.
use Rattle.std.proofs.Common.{◌≡◌, ⊎_elim, ℕ, ◌+◌, ◌-◌, ◌<◌, ◌≤◌, nat_lt, nat_le, ◌==◌, Bool, true, false, cond, ◌&&◌, ◌||◌, List, [], ◌∷◌, ◌++◌, length, reverse, take, Some, None, refl, sym, ap, ap₂, subst, ◌∙◌, arith, append_assoc, append-nil, length-append}
use Rattle.std.specs.Prelude.{Option, unwrap_or, slice_get, slice_index, slice_range, is_none, IsNone, IfSome}
use Rattle.std.specs.Char.{is_control}
use Rattle.std.specs.Option.{ForSome, IsSomeAnd, option_or}
use Rattle.std.specs.List.{concat, filter, fold, last_or}
use Rattle.std.specs.Str.{all_scalars}
use Rattle.std.proofs.lemmas.Bool.{cases_lt, cases_Bool, eqb-true, eqb-false, lt-leb}
use Rattle.std.proofs.lemmas.List.{take_all, reverse-append, reverse-reverse}
use Rattle.std.proofs.lemmas.Grind.{common_steps}
use Rattle.std.proofs.lemmas.List.Folds.{concat-append}
use Rattle.unicode_width.specs.Width.{str_width}
use Rattle.cluster_core.specs.Boundaries.{clusters_in, ends_from}
use Rattle.cluster_core.specs.Columns.{tab_stop, column_after, columns_between}
use Rattle.cluster_core.specs.Walk.{ClusterAt, counted_anew, placed, walk_left, walk_tab}
use Rattle.cluster_core.specs.declared.walk.Walk.{Walk}
use Rattle.cluster_core.proofs.ForCallers.{counted_anew-placed}
use Rattle.line_break.specs.Breaks.{cluster_ends, is_breaking, is_candidate, shown_len, piece_columns, fits, piece_end}
use Rattle.line_break.specs.Inner.{solid_len, breaks_first, IsTail, StandsAt, IsAhead, IsLater, inside_column, end_among, end_of, Looked, IsThrough}
use Rattle.line_break.specs.declared.tail.Tail.{Tail}
use Rattle.line_break.specs.declared.line.Place.{Place}
use Rattle.line_break.specs.declared.line.Look.{Look}
use Rattle.line_break.proofs.ClusterLemmas.{clusters-whole, clusters-some, clusters-apart}
use Rattle.line_break.proofs.ColumnLemmas.{fold-push, columns-least, columns-none, columns-blank, columns-shown, solid-blank, solid-shown, piece-is}
use Rattle.line_break.proofs.EndLemmas.{NoneEmpty, filter-no, ahead-is}
use Rattle.line_break.proofs.TailLemmas.{StandsApart, solid_len-le, shown-le-solid, shown_is_solid, solid_len-none, solid_len-some, shown_len-none, shown_len-some}

-- ---- the columns of a part of a cluster

nine_is_control : (c : ℕ) → c == 9 ≡ true → is_control c ≡ true
nine_is_control c nine = ap is_control (eqb-true c 9 nine)

pub inside_column-is : (tab column whole : ℕ) (part rest : List ℕ) → 0 < length part → whole ≡ column_after tab column (part ++ rest) →
    inside_column column whole part ≡ column_after tab column part
inside_column-is tab column whole [] rest some is = absurd (omega arith)
inside_column-is tab column whole (c ∷ part) rest some is = by (c == 9) (is_control c) (nine_is_control c) is
  where
    by : (nine control : Bool) → (nine ≡ true → control ≡ true) →
        whole ≡ cond nine (tab_stop tab column) (cond control (column + 1) (column + str_width false (c ∷ part ++ rest))) →
        cond control whole (column + str_width false (c ∷ part))
        ≡ cond nine (tab_stop tab column) (cond control (column + 1) (column + str_width false (c ∷ part)))
    by true true both same = same
    by false true both same = same
    by true false both same = let no = both refl in cc
    by false false both same = refl

-- ---- the first of what a walk has left

record Split (tab gap column : ℕ) (item : ClusterAt) (left : List ClusterAt) (back : List (List ℕ)) : Type 0 where
  rest : List (List ℕ)
  parts : back ≡ item.cluster ∷ rest
  end : item.end ≡ gap + length item.cluster
  after : item.column ≡ column_after tab column item.cluster
  left_is : left ≡ placed tab item.end item.column rest

split : (tab gap column : ℕ) (item : ClusterAt) (left : List ClusterAt) (back : List (List ℕ)) → item ∷ left ≡ placed tab gap column back →
    Split tab gap column item left back
split tab gap column item left [] is = let broken = is in cc
split tab gap column item left (cluster ∷ back) is =
    let first : item ≡ record { cluster = cluster; end = gap + length cluster; column = column_after tab column cluster } = cc in
    let others : left ≡ placed tab (gap + length cluster) (column_after tab column cluster) back = cc in
    let own : item.cluster ≡ cluster = ap (λ i. i.cluster) first in
    let end : item.end ≡ gap + length cluster = ap (λ i. i.end) first in
    let after : item.column ≡ column_after tab column cluster = ap (λ i. i.column) first in record {
      rest = back;
      parts = ap (λ c. c ∷ back) (sym own);
      end = end ∙ ap (λ c. gap + length c) (sym own);
      after = after ∙ ap (column_after tab column) (sym own);
      left_is = others ∙ ap₂ (λ n m. placed tab n m back) (sym end) (sym after);
    }

NoneEmpty-at : (front : List (List ℕ)) (cluster : List ℕ) (back : List (List ℕ)) → NoneEmpty (front ++ cluster ∷ back) → 0 < length cluster
NoneEmpty-at [] cluster back some = some.0
NoneEmpty-at (first ∷ front) cluster back some = NoneEmpty-at front cluster back some.1

-- ---- the last character of a cluster

last_index : (front text back : List ℕ) (d : ℕ) → slice_index ((front ++ (text ++ d ∷ [])) ++ back) (length front + length text) ≡ d
last_index front text back d = grind (arith, common_steps)

breaks_at_end : (front cluster back : List ℕ) → 0 < length cluster →
    breaks_first (reverse cluster) ≡ is_breaking (slice_index ((front ++ cluster) ++ back) (length front + length cluster - 1))
breaks_at_end front cluster back some = by (reverse cluster) (reverse-reverse cluster)
  where
    by : (back_first : List ℕ) → reverse back_first ≡ cluster →
        breaks_first back_first ≡ is_breaking (slice_index ((front ++ cluster) ++ back) (length front + length cluster - 1))
    by [] is = let none = ap length is in absurd (omega arith)
    by (d ∷ before) is =
        let whole : reverse before ++ d ∷ [] ≡ cluster = sym (reverse-append (d ∷ []) before) ∙ is in
        let long : length front + length cluster - 1 ≡ length front + length (reverse before) =
        omega (arith, ap length whole, length-append (reverse before) (d ∷ [])) in
        ap is_breaking (sym (last_index front (reverse before) back d) ∙
        ap₂ (λ c n. slice_index ((front ++ c) ++ back) n) whole (sym long))

-- ---- which ends are taken

among-step : (p q : ℕ → Bool) (len end : ℕ) (candidate fitting first : Option ℕ) (ends : List ℕ) →
    end_among p q len (cond (p end && q end) (Some end) candidate) (option_or (cond (p end || is_none fitting) (Some end) fitting) first) ends
    ≡ end_among p q len candidate (option_or fitting (Some end)) (end ∷ ends)
among-step p q len end candidate fitting first ends = by (p end) (q end) refl fitting
  where
    Wanted : Bool → Bool → Option ℕ → Type 0
    Wanted b c fit =
        unwrap_or (option_or (last_or (cond (b && c) (Some end) candidate) (filter q (filter p ends)))
        (last_or (option_or (cond (b || is_none fit) (Some end) fit) first) (filter p ends))) len
        ≡ unwrap_or (option_or (last_or candidate (filter q (cond b (end ∷ filter p ends) (filter p ends))))
        (last_or (option_or fit (Some end)) (cond b (end ∷ filter p ends) (filter p ends)))) len

    taken : (c : Bool) → last_or (cond c (Some end) candidate) (filter q (filter p ends))
        ≡ last_or candidate (cond c (end ∷ filter q (filter p ends)) (filter q (filter p ends)))
    taken true = refl
    taken false = refl

    by : (b c : Bool) → q end ≡ c → (fit : Option ℕ) → Wanted b c fit
    by false c is None = refl
    by false c is (Some f) = refl
    by true c is None =
        ap (λ o. unwrap_or (option_or o (last_or (Some end) (filter p ends))) len)
        (taken c ∙ ap (λ x. last_or candidate (cond x (end ∷ filter q (filter p ends)) (filter q (filter p ends)))) (sym is))
    by true c is (Some f) =
        ap (λ o. unwrap_or (option_or o (last_or (Some end) (filter p ends))) len)
        (taken c ∙ ap (λ x. last_or candidate (cond x (end ∷ filter q (filter p ends)) (filter q (filter p ends)))) (sym is))

IsLater-end : (before after : Option Place) (takes : Bool) (end : ℕ) (rest : Walk) → IsLater before takes end rest after →
    end_of after ≡ cond takes (Some end) (end_of before)
IsLater-end before after true end rest is = taken after (is.taken refl)
  where
    taken : (o : Option Place) → IsSomeAnd o (λ place. (place.end ≡ end) × (walk_left place.rest ≡ walk_left rest) × (walk_tab place.rest ≡ walk_tab rest)) →
        end_of o ≡ Some end
    taken None none = absurd none
    taken (Some place) all = ap Some all.0
IsLater-end before after false end rest is = ap end_of (is.kept refl)

end_of-none : (o : Option Place) → is_none (end_of o) ≡ is_none o
end_of-none None = refl
end_of-none (Some place) = refl

-- a place that was taken, or one from before
IsLater-ahead : (tab : ℕ) (line : List ℕ) (start : ℕ) (before after : Option Place) (takes : Bool) (end : ℕ) (rest : Walk) →
    IsLater before takes end rest after → ForSome before (IsAhead tab line start) →
    ((place : Place) → place.end ≡ end → walk_left place.rest ≡ walk_left rest → walk_tab place.rest ≡ walk_tab rest → IsAhead tab line start place) →
    ForSome after (IsAhead tab line start)
IsLater-ahead tab line start before after false end rest is old new place some = old place (sym (is.kept refl) ∙ some)
IsLater-ahead tab line start before after true end rest is old new place some = by after (is.taken refl) some
  where
    by : (o : Option Place) → IsSomeAnd o (λ p. (p.end ≡ end) × (walk_left p.rest ≡ walk_left rest) × (walk_tab p.rest ≡ walk_tab rest)) →
        o ≡ Some place → IsAhead tab line start place
    by None none same = absurd none
    by (Some p) all same =
        let own : p ≡ place = cc in
        subst (IsAhead tab line start) own (new p all.0 all.1 all.2)

or_true : (x : Bool) → (x || true) ≡ true
or_true true = refl
or_true false = refl

-- ---- the start of a piece

pub Looked-begin : (width tab : ℕ) (line : List ℕ) (place : Place) (look : Look) (left : List ClusterAt) → all_scalars line ≡ true →
    StandsAt tab line place → left ≡ counted_anew tab 0 (walk_left place.rest) →
    look.column ≡ 0 → look.solid ≡ 0 → look.candidate ≡ None → look.fitting ≡ None → Looked width tab line place.end look left
Looked-begin width tab line place look left scalars stands anew column solid candidate fitting =
    let start = place.end in
    let same : start ≡ start + 0 = omega arith in
    let ends : filter (λ end. nat_lt start end) (cluster_ends line) ≡ ends_from (start + 0) stands.back =
    ap (λ cs. filter (λ end. nat_lt start end) (ends_from 0 cs)) stands.parts ∙
    ahead-is start 0 stands.front stands.back (let gap = stands.gap in omega arith)
    (NoneEmpty-back stands.front stands.back (subst NoneEmpty stands.parts (clusters-some line scalars))) ∙
    ap (λ n. ends_from n stands.back) same in
    let chosen : List ℕ → ℕ =
    λ xs. unwrap_or (option_or (last_or None (filter (is_candidate line) (filter (fits width tab line start) xs)))
    (last_or (slice_get xs 0) (filter (fits width tab line start) xs))) (length line) in
    record {
      front = stands.front;
      these = [];
      back = stands.back;
      parts = stands.parts;
      gap = stands.gap;
      rest = anew ∙ ap (counted_anew tab 0) stands.left ∙ counted_anew-placed tab start stands.column 0 stands.back ∙
          ap₂ (λ n m. placed tab n m stands.back) same (sym column);
      column = column;
      solid = solid ∙ sym (subst (λ n. columns_between tab line n (n + 0) ≡ 0) stands.gap (columns-none tab line stands.front stands.back stands.parts));
      candidate = λ p is. let broken = sym candidate ∙ is in cc;
      fitting = λ p is. let broken = sym fitting ∙ is in cc;
      begun = λ _. refl;
      found =
          ap₂ (λ c f. end_among (fits width tab line start) (is_candidate line) (length line) (end_of c)
          (option_or (end_of f) (slice_get (ends_from (start + 0) stands.back) 0)) (ends_from (start + 0) stands.back)) candidate fitting ∙
          ap chosen (sym ends);
    }
  where
    NoneEmpty-back : (front back : List (List ℕ)) → NoneEmpty (front ++ back) → NoneEmpty back
    NoneEmpty-back [] back some = some
    NoneEmpty-back (first ∷ front) back some = NoneEmpty-back front back some.1

-- ---- one cluster more

module _ (width tab : ℕ) (line : List ℕ) (scalars : all_scalars line ≡ true) (start : ℕ) (look : Look) (item : ClusterAt) (left : List ClusterAt)
    (s : Looked width tab line start look (item ∷ left)) where
  whole : concat (clusters_in line) ≡ line
  whole = clusters-whole line scalars

  cut_here : Split tab (start + length (concat s.these)) look.column item left s.back
  cut_here = split tab (start + length (concat s.these)) look.column item left s.back s.rest

  parts : clusters_in line ≡ s.front ++ (s.these ++ item.cluster ∷ cut_here.rest)
  parts = s.parts ∙ ap (λ b. s.front ++ (s.these ++ b)) cut_here.parts

  more_parts : clusters_in line ≡ s.front ++ ((s.these ++ item.cluster ∷ []) ++ cut_here.rest)
  more_parts = parts ∙ ap (λ cs. s.front ++ cs) (sym (append_assoc s.these (item.cluster ∷ []) cut_here.rest))

  some_cluster : 0 < length item.cluster
  some_cluster =
      NoneEmpty-at (s.front ++ s.these) item.cluster cut_here.rest
      (subst NoneEmpty (parts ∙ sym (append_assoc s.front s.these (item.cluster ∷ cut_here.rest))) (clusters-some line scalars))

  joined : concat (s.these ++ item.cluster ∷ []) ≡ concat s.these ++ item.cluster
  joined = concat-append s.these (item.cluster ∷ []) ∙ ap (λ c. concat s.these ++ c) (append-nil item.cluster)

  end_is : item.end ≡ start + length (concat s.these) + length item.cluster
  end_is = cut_here.end

  end_more : item.end ≡ start + length (concat (s.these ++ item.cluster ∷ []))
  end_more = omega (arith, end_is, ap length joined, length-append (concat s.these) item.cluster)

  column_is : item.column ≡ column_after tab (fold (column_after tab) 0 s.these) item.cluster
  column_is = cut_here.after ∙ ap (λ n. column_after tab n item.cluster) s.column

  -- the columns of the piece that ends here
  columns_are : (tail : Tail) (columns : ℕ) → IsTail item.cluster tail → (tail.shown ≡ 0 → columns ≡ look.solid) →
      ((t : ℕ) → 0 < tail.shown → item.column ≡ column_after t look.column item.cluster → columns ≡ column_after t look.column (take tail.shown item.cluster)) →
      columns ≡ piece_columns tab line start item.end
  columns_are tail columns is none some = ⊎_elim
      (λ shown.
      let own : 0 < shown_len item.cluster = subst (λ n. 0 < n) is.shown shown in
      let le : shown_len item.cluster ≤ length item.cluster = omega (arith, shown-le-solid item.cluster, solid_len-le item.cluster) in
      some tab shown cut_here.after ∙ ap₂ (λ n m. column_after tab n (take m item.cluster)) s.column is.shown ∙
      sym (subst (λ n. piece_columns tab line n (n + length (concat s.these) + length item.cluster) ≡ column_after tab (fold (column_after tab) 0 s.these) (take (shown_len item.cluster) item.cluster))
      s.gap (columns-shown tab line s.front whole s.these cut_here.rest item.cluster parts own le)) ∙
      ap (piece_columns tab line start) (sym end_is))
      (λ ge.
      let zero_shown : tail.shown ≡ 0 = omega arith in
      let own : shown_len item.cluster ≡ 0 = sym is.shown ∙ zero_shown in
      none zero_shown ∙ s.solid ∙
      sym (subst (λ n. piece_columns tab line n (n + length (concat s.these) + length item.cluster) ≡ columns_between tab line n (n + solid_len (concat s.these)))
      s.gap (columns-blank tab line s.front whole s.these cut_here.rest item.cluster parts some_cluster (clusters-apart line scalars s.front s.these item.cluster cut_here.rest parts) own)) ∙
      ap (piece_columns tab line start) (sym end_is))
      (cases_lt 0 tail.shown)

  -- and those without trailing blanks
  solid_is : (tail : Tail) (columns solid : ℕ) → IsTail item.cluster tail → (tail.shown ≡ 0 → columns ≡ look.solid) →
      ((t : ℕ) → 0 < tail.shown → item.column ≡ column_after t look.column item.cluster → columns ≡ column_after t look.column (take tail.shown item.cluster)) →
      solid ≡ cond (tail.solid == tail.len) item.column columns →
      solid ≡ columns_between tab line start (start + solid_len (concat (s.these ++ item.cluster ∷ [])))
  solid_is tail columns solid is none some same = ⊎_elim
      (λ all.
      let full : solid_len item.cluster ≡ length item.cluster = sym is.solid ∙ eqb-true tail.solid tail.len all ∙ is.len in
      let pos = some_cluster in
      let own : 0 < solid_len item.cluster = omega arith in
      same ∙ ap (λ b. cond b item.column columns) all ∙ column_is ∙
      ap (column_after tab (fold (column_after tab) 0 s.these)) (sym (take_all (solid_len item.cluster) item.cluster (omega arith))) ∙
      sym (subst (λ n. columns_between tab line n (n + solid_len (concat (s.these ++ item.cluster ∷ []))) ≡ column_after tab (fold (column_after tab) 0 s.these) (take (solid_len item.cluster) item.cluster))
      s.gap (solid-shown tab line s.front whole s.these cut_here.rest item.cluster parts own (omega (arith, solid_len-le item.cluster)))))
      (λ part.
      let apart = eqb-false tail.solid tail.len part in
      let bound = solid_len-le item.cluster in
      let one = is.solid in
      let two = is.len in
      let less : solid_len item.cluster < length item.cluster = omega arith in
      let as_shown : shown_len item.cluster ≡ solid_len item.cluster = shown_is_solid item.cluster less in
      let the_same : tail.shown ≡ solid_len item.cluster = is.shown ∙ as_shown in
      same ∙ ap (λ b. cond b item.column columns) part ∙
      ⊎_elim
      (λ shown.
      let own : 0 < solid_len item.cluster = subst (λ n. 0 < n) the_same shown in
      some tab shown cut_here.after ∙ ap₂ (λ n m. column_after tab n (take m item.cluster)) s.column the_same ∙
      sym (subst (λ n. columns_between tab line n (n + solid_len (concat (s.these ++ item.cluster ∷ []))) ≡ column_after tab (fold (column_after tab) 0 s.these) (take (solid_len item.cluster) item.cluster))
      s.gap (solid-shown tab line s.front whole s.these cut_here.rest item.cluster parts own bound)))
      (λ ge.
      let zero_shown : tail.shown ≡ 0 = omega arith in
      none zero_shown ∙ s.solid ∙
      sym (subst (λ n. columns_between tab line n (n + solid_len (concat (s.these ++ item.cluster ∷ []))) ≡ columns_between tab line n (n + solid_len (concat s.these)))
      s.gap (solid-blank tab line s.front whole s.these cut_here.rest item.cluster parts (sym the_same ∙ zero_shown))))
      (cases_lt 0 tail.shown))
      (cases_Bool (tail.solid == tail.len))

  -- a place that the walk has reached
  ahead_here : (rest : Walk) → left ≡ walk_left rest → walk_tab rest ≡ tab →
      (place : Place) → place.end ≡ item.end → walk_left place.rest ≡ walk_left rest → walk_tab place.rest ≡ walk_tab rest → IsAhead tab line start place
  ahead_here rest left_is tab_is place end_same rest_same tab_same =
      let these = s.these ++ item.cluster ∷ [] in
      let pos = some_cluster in
      let gap_is = s.gap in
      record {
        stands = record {
          front = s.front ++ these;
          back = cut_here.rest;
          column = item.column;
          parts = more_parts ∙ sym (append_assoc s.front these cut_here.rest);
          gap = omega (arith, end_more, end_same, gap_is, ap length (concat-append s.front these), length-append (concat s.front) (concat these));
          left = rest_same ∙ sym left_is ∙ cut_here.left_is ∙ ap (λ n. placed tab n item.column cut_here.rest) (sym end_same);
          tab_width = tab_same ∙ tab_is;
        };
        past = omega (arith, end_is, end_same, pos);
      }

  breaks_are : (tail : Tail) → IsTail item.cluster tail → tail.breaks ≡ is_breaking (slice_index line (item.end - 1))
  breaks_are tail is =
      let front = concat s.front ++ concat s.these in
      let back = concat cut_here.rest in
      let line_is : line ≡ (front ++ item.cluster) ++ back =
      sym whole ∙ ap concat parts ∙ concat-append s.front (s.these ++ item.cluster ∷ cut_here.rest) ∙
      ap (λ t. concat s.front ++ t) (concat-append s.these (item.cluster ∷ cut_here.rest)) ∙
      sym (append_assoc (concat s.front) (concat s.these) (item.cluster ++ back)) ∙ sym (append_assoc front item.cluster back) in
      let gap_is = s.gap in
      let index : length front + length item.cluster - 1 ≡ item.end - 1 = omega (arith, end_is, gap_is, length-append (concat s.front) (concat s.these)) in
      is.breaks ∙ breaks_at_end front item.cluster back some_cluster ∙ ap₂ (λ t n. is_breaking (slice_index t n)) (sym line_is) index

  found_is : (tail : Tail) (columns : ℕ) (candidate fitting : Option Place) (rest : Walk) → IsTail item.cluster tail →
      columns ≡ piece_columns tab line start item.end →
      IsLater look.candidate (nat_le columns width && (item.end == length line || tail.breaks)) item.end rest candidate →
      IsLater look.fitting (nat_le columns width || is_none look.fitting) item.end rest fitting →
      end_among (fits width tab line start) (is_candidate line) (length line) (end_of candidate)
      (option_or (end_of fitting) (slice_get (ends_from (start + length (concat (s.these ++ item.cluster ∷ []))) cut_here.rest) 0))
      (ends_from (start + length (concat (s.these ++ item.cluster ∷ []))) cut_here.rest)
      ≡ piece_end width tab line start
  found_is tail columns candidate fitting rest is same later_candidate later_fitting =
      let is_fit : ℕ → Bool = fits width tab line start in
      let may_end : ℕ → Bool = is_candidate line in
      let len = length line in
      let end = item.end in
      let old_candidate = end_of look.candidate in
      let old_fitting = end_of look.fitting in
      let ends = ends_from (start + length (concat (s.these ++ item.cluster ∷ []))) cut_here.rest in
      let fit_is : nat_le columns width ≡ is_fit end = ap (λ n. nat_le n width) same in
      let takes : (nat_le columns width && (end == len || tail.breaks)) ≡ (is_fit end && may_end end) =
      ap₂ (λ a b. a && (end == len || b)) fit_is (breaks_are tail is) in
      let first : (nat_le columns width || is_none look.fitting) ≡ (is_fit end || is_none old_fitting) =
      ap₂ (λ a b. a || b) fit_is (sym (end_of-none look.fitting)) in
      let ends_are : ends_from (start + length (concat s.these)) s.back ≡ end ∷ ends =
      ap (ends_from (start + length (concat s.these))) cut_here.parts ∙ ap (λ n. n ∷ ends_from n cut_here.rest) (sym end_is) ∙
      ap (λ n. end ∷ ends_from n cut_here.rest) end_more in
      ap₂ (λ c f. end_among is_fit may_end len c (option_or f (slice_get ends 0)) ends)
      (IsLater-end look.candidate candidate _ end rest later_candidate ∙ ap (λ b. cond b (Some end) old_candidate) takes)
      (IsLater-end look.fitting fitting _ end rest later_fitting ∙ ap (λ b. cond b (Some end) old_fitting) first) ∙
      among-step is_fit may_end len end old_candidate old_fitting (slice_get ends 0) ends ∙
      sym (ap (λ xs. end_among is_fit may_end len old_candidate (option_or old_fitting (slice_get xs 0)) xs) ends_are) ∙
      s.found

fitting_some : (before after : Option Place) (fit : Bool) (end : ℕ) (rest : Walk) → IsLater before (fit || is_none before) end rest after → after ≡ None → ⊥
fitting_some before after fit end rest is none = ⊎_elim
    (λ takes. subst (λ o. IsSomeAnd o (λ place. (place.end ≡ end) × (walk_left place.rest ≡ walk_left rest) × (walk_tab place.rest ≡ walk_tab rest))) none (is.taken takes))
    (λ keeps.
    let gone : before ≡ None = sym (is.kept keeps) ∙ none in
    let broken : true ≡ false = sym (or_true fit) ∙ ap (λ o. fit || is_none o) (sym gone) ∙ keeps in cc)
    (cases_Bool (fit || is_none before))

pub Looked-step : (width tab : ℕ) (line : List ℕ) (start : ℕ) (look next : Look) (item : ClusterAt) (tail : Tail) (rest : Walk) (columns : ℕ) →
    all_scalars line ≡ true → IsTail item.cluster tail → walk_tab rest ≡ tab → (tail.shown ≡ 0 → columns ≡ look.solid) →
    ((t : ℕ) → 0 < tail.shown → item.column ≡ column_after t look.column item.cluster → columns ≡ column_after t look.column (take tail.shown item.cluster)) →
    next.column ≡ item.column → next.solid ≡ cond (tail.solid == tail.len) item.column columns →
    IsLater look.candidate (nat_le columns width && (item.end == length line || tail.breaks)) item.end rest next.candidate →
    IsLater look.fitting (nat_le columns width || is_none look.fitting) item.end rest next.fitting →
    Looked width tab line start look (item ∷ walk_left rest) → Looked width tab line start next (walk_left rest)
Looked-step width tab line start look next item tail rest columns scalars is tab_is none some column_same solid_same later_candidate later_fitting s =
    let left = walk_left rest in
    let here = cut_here width tab line scalars start look item left s in
    let these = s.these ++ item.cluster ∷ [] in
    let ahead = ahead_here width tab line scalars start look item left s rest refl tab_is in
    record {
      front = s.front;
      these = these;
      back = here.rest;
      parts = more_parts width tab line scalars start look item left s;
      gap = s.gap;
      rest = here.left_is ∙ ap₂ (λ n m. placed tab n m here.rest) (end_more width tab line scalars start look item left s) (sym column_same);
      column = column_same ∙ column_is width tab line scalars start look item left s ∙ sym (fold-push tab 0 s.these item.cluster);
      solid = solid_is width tab line scalars start look item left s tail columns next.solid is none some solid_same;
      candidate = IsLater-ahead tab line start look.candidate next.candidate _ item.end rest later_candidate s.candidate ahead;
      fitting = IsLater-ahead tab line start look.fitting next.fitting _ item.end rest later_fitting s.fitting ahead;
      begun = λ gone. absurd (fitting_some look.fitting next.fitting (nat_le columns width) item.end rest later_fitting gone);
      found = found_is width tab line scalars start look item left s tail columns next.candidate next.fitting rest is
          (columns_are width tab line scalars start look item left s tail columns is none some) later_candidate later_fitting;
    }

-- ---- past what shows beyond the width nothing fits

module _ (width tab : ℕ) (line : List ℕ) (scalars : all_scalars line ≡ true) (front these : List (List ℕ)) (wide : width < fold (column_after tab) 0 these) where
  not_fit : (since back : List (List ℕ)) → clusters_in line ≡ front ++ (these ++ (since ++ back)) → 0 < length (concat since) → 0 < shown_len (concat since) →
      fits width tab line (length (concat front)) (length (concat front) + length (concat these) + length (concat since)) ≡ false
  not_fit since back parts some shown =
      let from = length (concat front) in
      let more : clusters_in line ≡ front ++ ((these ++ since) ++ back) = parts ∙ ap (λ cs. front ++ cs) (sym (append_assoc these since back)) in
      let joined = concat-append these since in
      let long : from + length (concat (these ++ since)) ≡ from + length (concat these) + length (concat since) =
      omega (arith, ap length joined, length-append (concat these) (concat since)) in
      let piece : slice_range line from (from + length (concat these) + length (concat since)) ≡ concat these ++ concat since =
      ap (slice_range line from) (sym long) ∙ piece-is tab line front (clusters-whole line scalars) (these ++ since) back more ∙ joined in
      let shown_is : shown_len (slice_range line from (from + length (concat these) + length (concat since))) ≡ length (concat these) + shown_len (concat since) =
      ap shown_len piece ∙ shown_len-some (concat these) (concat since) some shown in
      let least : fold (column_after tab) 0 these ≤ piece_columns tab line from (from + length (concat these) + length (concat since)) =
      columns-least tab line front these (since ++ back)
      (from + shown_len (slice_range line from (from + length (concat these) + length (concat since)))) parts (omega arith) in
      lt-leb (piece_columns tab line from (from + length (concat these) + length (concat since))) width (omega (arith, wide, least))

  none_fit : (since back : List (List ℕ)) → clusters_in line ≡ front ++ (these ++ (since ++ back)) → 0 < length (concat since) → 0 < solid_len (concat since) → NoneEmpty back →
      filter (fits width tab line (length (concat front))) (ends_from (length (concat front) + length (concat these) + length (concat since)) back) ≡ []
  none_fit since [] parts some solid full = refl
  none_fit since (cluster ∷ back) parts some solid full =
      let from = length (concat front) in
      let more = since ++ cluster ∷ [] in
      let pos = full.0 in
      let joined : concat more ≡ concat since ++ cluster =
      concat-append since (cluster ∷ []) ∙ ap (λ c. concat since ++ c) (append-nil cluster) in
      let count = length-append (concat since) cluster in
      let long = ap length joined in
      let again : clusters_in line ≡ front ++ (these ++ (more ++ back)) =
      parts ∙ ap (λ cs. front ++ (these ++ cs)) (sym (append_assoc since (cluster ∷ []) back)) in
      let end : from + length (concat these) + length (concat since) + length cluster ≡ from + length (concat these) + length (concat more) = omega arith in
      let apart : StandsApart (concat since) cluster =
      clusters-apart line scalars (front ++ these) since cluster back (parts ∙ sym (append_assoc front these (since ++ cluster ∷ back))) in
      let shown : 0 < shown_len (concat more) = subst (λ t. 0 < shown_len t) (sym joined) (shows since cluster pos apart solid) in
      let still : 0 < solid_len (concat more) = subst (λ t. 0 < solid_len t) (sym joined) (solids since cluster solid) in
      let fails : fits width tab line from (from + length (concat these) + length (concat since) + length cluster) ≡ false =
      ap (fits width tab line from) end ∙ not_fit more back again (omega arith) shown in
      filter-no (fits width tab line from) _ (ends_from (from + length (concat these) + length (concat since) + length cluster) back) fails ∙
      ap (λ n. filter (fits width tab line from) (ends_from n back)) end ∙
      none_fit more back again (omega arith) still full.1
    where
      shows : (since : List (List ℕ)) (cluster : List ℕ) → 0 < length cluster → StandsApart (concat since) cluster → 0 < solid_len (concat since) → 0 < shown_len (concat since ++ cluster)
      shows since cluster pos apart solid = ⊎_elim
          (λ shown. let is = shown_len-some (concat since) cluster pos shown in omega arith)
          (λ ge. let none : shown_len cluster ≡ 0 = omega arith in let is = shown_len-none (concat since) cluster pos apart none in omega arith)
          (cases_lt 0 (shown_len cluster))

      solids : (since : List (List ℕ)) (cluster : List ℕ) → 0 < solid_len (concat since) → 0 < solid_len (concat since ++ cluster)
      solids since cluster solid = ⊎_elim
          (λ own. let is = solid_len-some (concat since) cluster own in omega arith)
          (λ ge. let none : solid_len cluster ≡ 0 = omega arith in let is = solid_len-none (concat since) cluster none in omega arith)
          (cases_lt 0 (solid_len cluster))

  from_first : (cluster : List ℕ) (back : List (List ℕ)) → clusters_in line ≡ front ++ (these ++ cluster ∷ back) → 0 < shown_len cluster → NoneEmpty (cluster ∷ back) →
      filter (fits width tab line (length (concat front))) (ends_from (length (concat front) + length (concat these)) (cluster ∷ back)) ≡ []
  from_first cluster back parts shown full =
      let from = length (concat front) in
      let one : concat (cluster ∷ []) ≡ cluster = append-nil cluster in
      let pos = full.0 in
      let end : from + length (concat these) + length (concat (cluster ∷ [])) ≡ from + length (concat these) + length cluster = ap (λ t. from + length (concat these) + length t) one in
      let some : 0 < length (concat (cluster ∷ [])) = subst (λ t. 0 < length t) (sym one) pos in
      let fails : fits width tab line from (from + length (concat these) + length cluster) ≡ false =
      ap (fits width tab line from) (sym end) ∙ not_fit (cluster ∷ []) back parts some (subst (λ t. 0 < shown_len t) (sym one) shown) in
      let solid : 0 < solid_len cluster = omega (arith, shown-le-solid cluster) in
      filter-no (fits width tab line from) _ (ends_from (from + length (concat these) + length cluster) back) fails ∙
      ap (λ n. filter (fits width tab line from) (ends_from n back)) (sym end) ∙
      none_fit (cluster ∷ []) back parts some (subst (λ t. 0 < solid_len t) (sym one) solid) full.1

-- ---- the end of the piece that was found

pub IsThrough-end : (width tab : ℕ) (line : List ℕ) (start : ℕ) (look : Look) (left : List ClusterAt) → all_scalars line ≡ true → left ≡ [] →
    Looked width tab line start look left → IsThrough width tab line start look
IsThrough-end width tab line start look left scalars empty s =
    let back_is : s.back ≡ [] = nothing s.back (sym s.rest ∙ empty) in
    record {
      left = left;
      looked = s;
      none = ap (λ b. filter (fits width tab line start) (ends_from (start + length (concat s.these)) b)) back_is;
      at_end = λ gone.
          let all : clusters_in line ≡ s.front = s.parts ∙ ap₂ (λ t b. s.front ++ (t ++ b)) (s.begun gone) back_is ∙ append-nil s.front in
          sym s.gap ∙ ap (λ cs. length (concat cs)) (sym all) ∙ ap length (clusters-whole line scalars);
    }
  where
    nothing : (back : List (List ℕ)) → placed tab (start + length (concat s.these)) look.column back ≡ [] → back ≡ []
    nothing [] is = refl
    nothing (c ∷ back) is = let broken = is in cc

pub IsThrough-stop : (width tab : ℕ) (line : List ℕ) (start : ℕ) (look : Look) (item : ClusterAt) (left : List ClusterAt) (tail : Tail) → all_scalars line ≡ true →
    IsTail item.cluster tail → 0 < tail.shown → width < look.column → Looked width tab line start look (item ∷ left) →
    IsThrough width tab line start look
IsThrough-stop width tab line start look item left tail scalars is shown wide s =
    let here = cut_here width tab line scalars start look item left s in
    let own = parts width tab line scalars start look item left s in
    let past : width < fold (column_after tab) 0 s.these = subst (λ n. width < n) s.column wide in
    let full : NoneEmpty (item.cluster ∷ here.rest) = NoneEmpty-past s.front s.these (item.cluster ∷ here.rest) (subst NoneEmpty own (clusters-some line scalars)) in
    let none = from_first width tab line scalars s.front s.these past item.cluster here.rest own (subst (λ n. 0 < n) is.shown shown) full in
    record {
      left = item ∷ left;
      looked = s;
      none =
          ap (λ b. filter (fits width tab line start) (ends_from (start + length (concat s.these)) b)) here.parts ∙
          subst (λ n. filter (fits width tab line n) (ends_from (n + length (concat s.these)) (item.cluster ∷ here.rest)) ≡ []) s.gap none;
      at_end = λ gone. let zero_column : fold (column_after tab) 0 s.these ≡ 0 = ap (fold (column_after tab) 0) (s.begun gone) in absurd (omega arith);
    }
  where
    NoneEmpty-past : (front these back : List (List ℕ)) → NoneEmpty (front ++ (these ++ back)) → NoneEmpty back
    NoneEmpty-past [] [] back some = some
    NoneEmpty-past [] (c ∷ these) back some = NoneEmpty-past [] these back some.1
    NoneEmpty-past (c ∷ front) these back some = NoneEmpty-past front these back some.1

pub StandsAt-le : (tab : ℕ) (line : List ℕ) (place : Place) → all_scalars line ≡ true → StandsAt tab line place → place.end ≤ length line
StandsAt-le tab line place scalars stands =
    let gap = stands.gap in
    omega (
      arith,
      gap,
      ap length (sym (clusters-whole line scalars) ∙ ap concat stands.parts ∙ concat-append stands.front stands.back),
      length-append (concat stands.front) (concat stands.back),
    )

-- what a walk to the end of the piece answers
pub record Answers (width tab : ℕ) (line : List ℕ) (start : ℕ) (result : Option Place) : Type 0 where
  pub end : IfSome result (λ p. p.end ≡ piece_end width tab line start)
  pub ahead : IfSome result (IsAhead tab line start)
  pub none : (IsNone result → start ≡ length line) × (start ≡ length line → IsNone result)

pub IsThrough-answers : (width tab : ℕ) (line : List ℕ) (start : ℕ) (look : Look) → all_scalars line ≡ true →
    IsThrough width tab line start look → Answers width tab line start (option_or look.candidate look.fitting)
IsThrough-answers width tab line start look scalars through =
    let s = through.looked in
    let ends = ends_from (start + length (concat s.these)) s.back in
    let ended : unwrap_or (option_or (end_of look.candidate) (option_or (end_of look.fitting) (slice_get ends 0))) (length line) ≡ piece_end width tab line start =
    sym (ap (λ xs. unwrap_or (option_or (last_or (end_of look.candidate) (filter (is_candidate line) xs))
    (last_or (option_or (end_of look.fitting) (slice_get ends 0)) xs)) (length line)) through.none) ∙ s.found in
    by look.candidate look.fitting (slice_get ends 0) ended s.candidate s.fitting through.at_end
  where
    some : (place : Place) → place.end ≡ piece_end width tab line start → IsAhead tab line start place → Answers width tab line start (Some place)
    some place end ahead = record {
      end = end;
      ahead = ahead;
      none = (λ no. cc, λ same. let le = StandsAt-le tab line place scalars ahead.stands in let past = ahead.past in absurd (omega arith));
    }

    by : (candidate fitting : Option Place) (first : Option ℕ) →
        unwrap_or (option_or (end_of candidate) (option_or (end_of fitting) first)) (length line) ≡ piece_end width tab line start →
        ForSome candidate (IsAhead tab line start) → ForSome fitting (IsAhead tab line start) → (fitting ≡ None → start ≡ length line) →
        Answers width tab line start (option_or candidate fitting)
    by (Some place) fitting first end candidates others at_end = some place end (candidates place refl)
    by None (Some place) first end candidates others at_end = some place end (others place refl)
    by None None first end candidates others at_end = record { end = tt; ahead = tt; none = (λ no. at_end refl, λ same. refl) }

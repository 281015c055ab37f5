-- Where a piece ends that begins with printable characters, each of which is a cluster of one column.
use Rattle.std.proofs.Common.{◌≡◌, ◌⊎◌, inl, inr, ⊎_elim, ℕ, zero, suc, ◌+◌, ◌-◌, ◌<◌, ◌≤◌, ◌==◌, ◌&&◌, Bool, true, false, cond, List, [], ◌∷◌, ◌++◌, length, map, take, drop, reverse, refl, sym, ap, ap₂, subst, ◌∙◌, arith, append_assoc, append-nil, length-append}
use Rattle.std.specs.Prelude.{slice_index, slice_range}
use Rattle.std.specs.List.{Contains, concat, fold, list_all}
use Rattle.std.specs.Str.{all_scalars}
use Rattle.std.proofs.lemmas.Bool.{cases_lt}
use Rattle.std.proofs.lemmas.List.{length-take-le, take-append-drop, take_more, reverse-append, get_or-append-add, get_or_append_left}
use Rattle.std.proofs.lemmas.List.Folds.{concat-append}
use Rattle.std.proofs.Math.Seq.{take-append-add, drop-append_seam}
use Rattle.cluster_core.specs.Boundaries.{clusters_in, ends_from}
use Rattle.cluster_core.specs.Columns.{column_after, columns_between}
use Rattle.cluster_core.specs.Plain.{is_printable_character}
use Rattle.cluster_core.specs.Walk.{AreFirst, placed, walk_left, walk_tab}
use Rattle.cluster_core.proofs.ForCallers.{column_after-one, columns_between-clusters}
use Rattle.line_break.specs.Breaks.{cluster_ends, is_breaking, is_space_or_tab, shown_len, piece_columns, piece_end}
use Rattle.line_break.specs.Inner.{AddsPieces, ended_len, solid_len, StandsAt, IsAhead}
use Rattle.line_break.specs.Plain.{IsFirstShown, BreaksNowhere, IsLastBreak, IsPlainEnd}
use Rattle.line_break.specs.Test.{AreBreaksFrom, IsEndPast, IsFittingEnd, IsFittingCandidate, IsPieceEnd}
use Rattle.line_break.specs.declared.line.Place.{Place}
use Rattle.line_break.proofs.ClusterLemmas.{clusters-whole}
use Rattle.line_break.proofs.ColumnLemmas.{columns-least, piece-is}
use Rattle.line_break.proofs.EndLemmas.{first_is, first_or_later, in_none, later_is, end-last}
use Rattle.line_break.proofs.TailLemmas.{StandsApart, solid_len-le, solid_len-push, shown-le-solid, shown_len-none, shown_len-push, shown_len-some}
use Rattle.line_break.proofs.TestLemmas.{AreBreaksFrom-more, piece_end-by}

-- ---- characters as clusters

abbrev singles : List ℕ → List (List ℕ)
singles run = map (λ c. c ∷ []) run

concat-singles : (run : List ℕ) → concat (singles run) ≡ run
concat-singles [] = refl
concat-singles (c ∷ run) = ap (λ cs. c ∷ cs) (concat-singles run)

singles-parts : (k : ℕ) (run : List ℕ) → singles run ≡ singles (take k run) ++ singles (drop k run)
singles-parts zero run = refl
singles-parts (suc k) [] = refl
singles-parts (suc k) (c ∷ run) = ap (λ cs. (c ∷ []) ∷ cs) (singles-parts k run)

first_holds : (a b : Bool) → (a && b) ≡ true → (a ≡ true) × (b ≡ true)
first_holds true b is = (refl, is)
first_holds false b is = let broken = is in cc

all-take : (p : ℕ → Bool) (k : ℕ) (run : List ℕ) → list_all p run ≡ true → list_all p (take k run) ≡ true
all-take p zero run all = refl
all-take p (suc k) [] all = refl
all-take p (suc k) (c ∷ run) all =
    let parts = first_holds (p c) (list_all p run) all in
    ap₂ (λ a b. a && b) parts.0 (all-take p k run parts.1)

all-drop : (p : ℕ → Bool) (k : ℕ) (run : List ℕ) → list_all p run ≡ true → list_all p (drop k run) ≡ true
all-drop p zero run all = all
all-drop p (suc k) [] all = all
all-drop p (suc k) (c ∷ run) all = all-drop p k run (first_holds (p c) (list_all p run) all).1

all-at : (p : ℕ → Bool) (run : List ℕ) (i : ℕ) → list_all p run ≡ true → i < length run → p (slice_index run i) ≡ true
all-at p [] i all inside = absurd (omega arith)
all-at p (c ∷ run) zero all inside = (first_holds (p c) (list_all p run) all).0
all-at p (c ∷ run) (suc i) all inside = all-at p run i (first_holds (p c) (list_all p run) all).1 (omega arith)

fold-singles : (tab column : ℕ) (run : List ℕ) → list_all is_printable_character run ≡ true →
    fold (column_after tab) column (singles run) ≡ column + length run
fold-singles tab column [] all = omega arith
fold-singles tab column (c ∷ run) all =
    let parts = first_holds (is_printable_character c) (list_all is_printable_character run) all in
    let sum : column + 1 + length run ≡ column + length (c ∷ run) = omega arith in
    ap (λ n. fold (column_after tab) n (singles run)) (column_after-one tab column c parts.0) ∙ fold-singles tab (column + 1) run parts.1 ∙ sum

-- the first of what a walk has left
pub record Begun (run : List ℕ) (back : List (List ℕ)) : Type 0 where
  pub others : List (List ℕ)
  pub parts : back ≡ singles run ++ others
  pub printable : list_all is_printable_character run ≡ true

pub Begun-first : (tab gap column : ℕ) (run : List ℕ) (back : List (List ℕ)) → AreFirst run (placed tab gap column back) → Begun run back
Begun-first tab gap column [] back are = record { others = back; parts = refl; printable = refl }
Begun-first tab gap column (c ∷ run) [] are = absurd are
Begun-first tab gap column (c ∷ run) (cluster ∷ back) are =
    let rest = Begun-first tab (gap + length cluster) (column_after tab column cluster) run back are.2 in
    record {
      others = rest.others;
      parts = ap₂ (λ (first : List ℕ) (those : List (List ℕ)). first ∷ those) are.0 rest.parts;
      printable = ap₂ (λ a b. a && b) are.1 rest.printable;
    }

placed-drop : (tab gap column : ℕ) (these back : List (List ℕ)) →
    drop (length these) (placed tab gap column (these ++ back)) ≡ placed tab (gap + length (concat these)) (fold (column_after tab) column these) back
placed-drop tab gap column [] back = let same : gap ≡ gap + 0 = omega arith in ap (λ n. placed tab n column back) same
placed-drop tab gap column (cluster ∷ these) back =
    let sum : gap + length cluster + length (concat these) ≡ gap + length (cluster ++ concat these) = omega (arith, length-append cluster (concat these)) in
    placed-drop tab (gap + length cluster) (column_after tab column cluster) these back ∙
    ap (λ n. placed tab n (fold (column_after tab) column (cluster ∷ these)) back) sum

length-singles : (run : List ℕ) → length (singles run) ≡ length run
length-singles [] = refl
length-singles (c ∷ run) = ap (λ n. suc n) (length-singles run)

ends-front : (at : ℕ) (xs ys : List (List ℕ)) (end : ℕ) → Contains (ends_from at xs) end → Contains (ends_from at (xs ++ ys)) end
ends-front at [] ys end found = absurd (in_none end found)
ends-front at (x ∷ xs) ys end found = ⊎_elim
    (λ here. subst (Contains (ends_from at (x ∷ xs ++ ys))) here (first_is (at + length x) (ends_from (at + length x) (xs ++ ys))))
    (λ past. later_is (at + length x) (ends_from (at + length x) (xs ++ ys)) end (ends-front (at + length x) xs ys end past))
    (first_or_later (at + length x) (ends_from (at + length x) xs) end found)

-- ---- what is shown behind a character that is no blank

last_of : (text before : List ℕ) (c d : ℕ) → text ++ c ∷ [] ≡ before ++ d ∷ [] → c ≡ d
last_of text before c d same = by (sym (reverse-append text (c ∷ [])) ∙ ap reverse same ∙ reverse-append before (d ∷ []))
  where
    by : c ∷ reverse text ≡ d ∷ reverse before → c ≡ d
    by is = ap (λ xs. slice_index xs 0) is

not_feed : (c : ℕ) → is_printable_character c ≡ true → c == 10 ≡ false
not_feed c printable = grind arith

not_return : (c : ℕ) → is_printable_character c ≡ true → c ≡ 13 → ⊥
not_return c printable is = let broken : is_printable_character 13 ≡ true = ap is_printable_character (sym is) ∙ printable in cc

shown-least : (text : List ℕ) (c : ℕ) (more : List ℕ) → is_printable_character c ≡ true → is_space_or_tab c ≡ false →
    length text + 1 ≤ shown_len ((text ++ c ∷ []) ++ more)
shown-least text c [] printable solid =
    let own : shown_len (text ++ c ∷ []) ≡ length text + 1 =
    shown_len-push text c ∙ ap₂ (λ feed blank. cond feed (ended_len text) (cond blank (solid_len text) (length text + 1))) (not_feed c printable) solid in
    subst (λ t. length text + 1 ≤ shown_len t) (sym (nothing_more (text ++ c ∷ []))) (omega (arith, own))
  where
    nothing_more : (xs : List ℕ) → xs ++ [] ≡ xs
    nothing_more [] = refl
    nothing_more (x ∷ xs) = ap (λ ys. x ∷ ys) (nothing_more xs)
shown-least text c (d ∷ more) printable solid = ⊎_elim
    (λ (shown : 0 < shown_len (d ∷ more)). let is = shown_len-some (text ++ c ∷ []) (d ∷ more) (omega arith) shown in omega (arith, is, length-append text (c ∷ [])))
    (λ (none : shown_len (d ∷ more) ≤ 0).
    let zero_shown : shown_len (d ∷ more) ≡ 0 = omega arith in
    let apart : StandsApart (text ++ c ∷ []) (d ∷ more) = λ before return feed. not_return c printable (last_of text before c 13 return) in
    let is = shown_len-none (text ++ c ∷ []) (d ∷ more) (omega arith) apart zero_shown in
    let own : solid_len (text ++ c ∷ []) ≡ length text + 1 = solid_len-push text c ∙ ap (λ blank. cond blank (solid_len text) (length text + 1)) solid in
    omega (arith, is, own))
    (cases_lt 0 (shown_len (d ∷ more)))

-- blanks past the width are not shown
solid-few : (run : List ℕ) (width k : ℕ) → k ≤ length run → ((i : ℕ) → width ≤ i → i < k → is_space_or_tab (slice_index run i) ≡ true) →
    solid_len (take k run) ≤ width
solid-few run width zero le blank = omega arith
solid-few run width (suc k) le blank = ⊎_elim
    (λ (below : k < width). omega (arith, solid_len-le (take (suc k) run), length-take-le (suc k) run le))
    (λ (past : width ≤ k).
    let more : take (k + 1) run ≡ take k run ++ slice_index run k ∷ [] = take_more run k 0 (omega arith) in
    let is : solid_len (take (suc k) run) ≡ solid_len (take k run) =
    ap (λ n. solid_len (take n run)) (let next : suc k ≡ k + 1 = omega arith in next) ∙ ap solid_len more ∙ solid_len-push (take k run) (slice_index run k) ∙
    ap (λ b. cond b (solid_len (take k run)) (length (take k run) + 1)) (blank k past (omega arith)) in
    let rest = solid-few run width k (omega arith) (λ i low high. blank i low (omega arith)) in
    omega (arith, is, rest))
    (cases_lt k width)

-- ---- the end of the piece

module _ (width tab : ℕ) (line : List ℕ) (scalars : all_scalars line ≡ true) (front : List (List ℕ)) (run : List ℕ) (others : List (List ℕ))
    (parts : clusters_in line ≡ front ++ (singles run ++ others)) (printable : list_all is_printable_character run ≡ true) where
  abbrev start : ℕ
  start = length (concat front)

  whole : concat (clusters_in line) ≡ line
  whole = clusters-whole line scalars

  abbrev back_at : ℕ → List (List ℕ)
  back_at k = singles (drop k run) ++ others

  parts_at : (k : ℕ) → clusters_in line ≡ front ++ (singles (take k run) ++ back_at k)
  parts_at k =
      parts ∙ ap (λ cs. front ++ (cs ++ others)) (singles-parts k run) ∙
      ap (λ cs. front ++ cs) (append_assoc (singles (take k run)) (singles (drop k run)) others)

  long_at : (k : ℕ) → k ≤ length run → length (concat (singles (take k run))) ≡ k
  long_at k le = ap length (concat-singles (take k run)) ∙ length-take-le k run le

  fold_at : (k : ℕ) → k ≤ length run → fold (column_after tab) 0 (singles (take k run)) ≡ k
  fold_at k le = fold-singles tab 0 (take k run) (all-take is_printable_character k run printable) ∙ (let is = length-take-le k run le in omega arith)

  columns_at : (k : ℕ) → k ≤ length run → columns_between tab line start (start + k) ≡ k
  columns_at k le =
      ap (λ n. columns_between tab line start (start + n)) (sym (long_at k le)) ∙
      columns_between-clusters tab line front (singles (take k run)) (back_at k) (parts_at k) ∙ fold_at k le

  line_is : line ≡ concat front ++ (run ++ concat others)
  line_is =
      sym whole ∙ ap concat parts ∙ concat-append front (singles run ++ others) ∙
      ap (λ t. concat front ++ t) (concat-append (singles run) others ∙ ap (λ t. t ++ concat others) (concat-singles run))

  within : start + length run ≤ length line
  within = omega (arith, ap length line_is, length-append (concat front) (run ++ concat others), length-append run (concat others))

  piece_at : (k : ℕ) → k ≤ length run → slice_range line start (start + k) ≡ take k run
  piece_at k le =
      ap (λ n. slice_range line start (start + n)) (sym (long_at k le)) ∙
      piece-is tab line front whole (singles (take k run)) (back_at k) (parts_at k) ∙ concat-singles (take k run)

  character_at : (i : ℕ) → i < length run → slice_index line (start + i) ≡ slice_index run i
  character_at i inside =
      ap (λ t. slice_index t (start + i)) line_is ∙ get_or-append-add (concat front) (run ++ concat others) i 0 ∙
      get_or_append_left run (concat others) 0 i inside

  end_at : (k : ℕ) → 0 < k → k ≤ length run → IsEndPast line start (start + k)
  end_at k some le =
      let these = singles (take k run) in
      let joined = concat-append front these in
      let long : 0 + length (concat (front ++ these)) ≡ start + k =
      omega (arith, ap length joined, length-append (concat front) (concat these), long_at k le) in
      record {
        cluster =
            subst (Contains (cluster_ends line)) long
            (subst (λ cs. Contains (ends_from 0 cs) (0 + length (concat (front ++ these)))) (sym (parts_at k ∙ sym (append_assoc front these (back_at k))))
            (ends-front 0 (front ++ these) (back_at k) (0 + length (concat (front ++ these))) (end-last 0 (front ++ these) (omega arith))));
        past = omega arith;
      }

  module _ (stop : ℕ) (some : 0 < stop) (shown : IsFirstShown run width stop) where
    inside : stop < length run
    inside = shown.inside

    fitting_at : (k : ℕ) → 0 < k → k ≤ stop → IsFittingEnd width tab line start (start + k)
    fitting_at k first le =
        let few : k ≤ length run = omega (arith, inside) in
        let m = shown_len (take k run) in
        let solid : solid_len (take k run) ≤ width = solid-few run width k few (λ i low high. shown.blank i low (omega arith)) in
        let least : m ≤ solid_len (take k run) = shown-le-solid (take k run) in
        let bound : m ≤ length run = omega (arith, least, solid_len-le (take k run), length-take-le k run few) in
        let columns : piece_columns tab line start (start + k) ≡ m =
        ap (λ t. columns_between tab line start (start + shown_len t)) (piece_at k few) ∙ columns_at m bound in
        record { end_past = end_at k first few; fits = omega (arith, columns, least, solid) }

    wide : (other : ℕ) → start + stop < other → width < piece_columns tab line start other
    wide other past =
        let k = stop + 1 in
        let few : k ≤ length run = omega (arith, inside) in
        let own : take k run ≡ take stop run ++ slice_index run stop ∷ [] = take_more run stop 0 inside in
        let short : length (take stop run) ≡ stop = length-take-le stop run (omega (arith, inside)) in
        let rest = other - start - k in
        let count : other - start ≡ length (take k run) + rest = omega (arith, length-take-le k run few) in
        let line_at : line ≡ concat front ++ (take k run ++ (drop k run ++ concat others)) =
        line_is ∙ ap (λ t. concat front ++ (t ++ concat others)) (sym (take-append-drop k run)) ∙
        ap (λ t. concat front ++ t) (append_assoc (take k run) (drop k run) (concat others)) in
        let more = take rest (drop k run ++ concat others) in
        let piece : slice_range line start other ≡ (take stop run ++ slice_index run stop ∷ []) ++ more =
        ap (λ t. take (other - start) (drop start t)) line_at ∙
        ap (take (other - start)) (drop-append_seam (concat front) (take k run ++ (drop k run ++ concat others))) ∙
        ap (λ n. take n (take k run ++ (drop k run ++ concat others))) count ∙
        take-append-add (take k run) (drop k run ++ concat others) rest ∙ ap (λ t. t ++ more) own in
        let least : k ≤ shown_len (slice_range line start other) =
        subst (λ t. k ≤ shown_len t) (sym piece)
        (let is = shown-least (take stop run) (slice_index run stop) more (all-at is_printable_character run stop printable inside) shown.shown in omega (arith, is, short)) in
        let above = columns-least tab line front (singles (take k run)) (back_at k) (start + shown_len (slice_range line start other)) (parts_at k)
        (omega (arith, long_at k few, least)) in
        let low = shown.past in
        omega (arith, above, fold_at k few, low)

    no_later : (other : ℕ) → IsFittingEnd width tab line start other → other ≤ start + stop
    no_later other is = ⊎_elim (λ (past : start + stop < other). let far = wide other past in let fits = is.fits in absurd (omega arith)) (λ le. le) (cases_lt (start + stop) other)

    no_candidate : (low : ℕ) → BreaksNowhere run low stop → (other : ℕ) → IsFittingCandidate width tab line start other → other ≤ start + low
    no_candidate low nowhere other is = ⊎_elim
        (λ (past : start + low < other).
        let le = no_later other is.fitting in
        let i = other - start in
        let gap : start + (i - 1) ≡ other - 1 = omega arith in
        let fails : is_breaking (slice_index line (other - 1)) ≡ false =
        ap (λ n. is_breaking (slice_index line n)) (sym gap) ∙ ap is_breaking (character_at (i - 1) (omega (arith, inside))) ∙ nowhere i (omega arith) (omega arith) in
        ⊎_elim (λ at_end. absurd (omega (arith, at_end, le, within, inside))) (λ breaks. let broken : true ≡ false = sym breaks ∙ fails in cc) is.candidate)
        (λ le. le)
        (cases_lt (start + low) other)

    plain_end-is : (len : ℕ) → IsLastBreak run stop len → IsPieceEnd width tab line start (start + len)
    plain_end-is len is = ⊎_elim
        (λ breaks.
        let first = is.some in
        let few = is.few in
        let gap : start + (len - 1) ≡ start + len - 1 = omega arith in
        inl (record {
          is = record {
            fitting = fitting_at len first few;
            candidate = inr (ap (λ n. is_breaking (slice_index line n)) (sym gap) ∙ ap is_breaking (character_at (len - 1) (omega (arith, first, few, inside))) ∙ breaks.0);
          };
          greatest = no_candidate len breaks.1;
        }))
        (λ none.
        inr (inl (
          λ other candidate. let le = no_candidate 0 none.1 other candidate in let past = candidate.fitting.end_past.past in omega arith,
          record { is = fitting_at len is.some is.few; greatest = λ other fitting. let le = no_later other fitting in omega (arith, le, none.0) },
        )))
        is.last

-- ---- the place past some of them

begun_at : (tab : ℕ) (line : List ℕ) (from : Place) (run : List ℕ) (stands : StandsAt tab line from) → AreFirst run (walk_left from.rest) → Begun run stands.back
begun_at tab line from run s first = Begun-first tab from.end s.column run s.back (subst (AreFirst run) s.left first)

-- the clusters of the line, where the first `k` of the characters stand in front
parts_past : (tab : ℕ) (line : List ℕ) (from : Place) (run : List ℕ) (s : StandsAt tab line from) (begun : Begun run s.back) (k : ℕ) →
    clusters_in line ≡ (s.front ++ singles (take k run)) ++ (singles (drop k run) ++ begun.others)
parts_past tab line from run s begun k =
    s.parts ∙ ap (λ cs. s.front ++ cs) (begun.parts ∙ ap (λ cs. cs ++ begun.others) (singles-parts k run) ∙
    append_assoc (singles (take k run)) (singles (drop k run)) begun.others) ∙
    sym (append_assoc s.front (singles (take k run)) (singles (drop k run) ++ begun.others))

gap_past : (tab : ℕ) (line : List ℕ) (from : Place) (run : List ℕ) (s : StandsAt tab line from) (k : ℕ) → k ≤ length run →
    length (concat (s.front ++ singles (take k run))) ≡ from.end + k
gap_past tab line from run s k few =
    let joined = concat-append s.front (singles (take k run)) in
    let long : length (concat (singles (take k run))) ≡ k = ap length (concat-singles (take k run)) ∙ length-take-le k run few in
    let gap_is = s.gap in
    omega (arith, ap length joined, length-append (concat s.front) (concat (singles (take k run))), long, gap_is)

pub StandsAt-past : (tab : ℕ) (line : List ℕ) (from : Place) (run : List ℕ) (k : ℕ) (place : Place) → StandsAt tab line from → AreFirst run (walk_left from.rest) →
    k ≤ length run → place.end ≡ from.end + k → walk_left place.rest ≡ drop (length (take k run)) (walk_left from.rest) → walk_tab place.rest ≡ walk_tab from.rest →
    StandsAt tab line place
StandsAt-past tab line from run k place s first few end_is left tab_is =
    let begun = begun_at tab line from run s first in
    let these = singles (take k run) in
    let back = singles (drop k run) ++ begun.others in
    let back_is : s.back ≡ these ++ back = begun.parts ∙ ap (λ cs. cs ++ begun.others) (singles-parts k run) ∙ append_assoc these (singles (drop k run)) begun.others in
    let long : length (concat these) ≡ k = ap length (concat-singles (take k run)) ∙ length-take-le k run few in
    let end_here : from.end + length (concat these) ≡ place.end = omega (arith, end_is, long) in
    record {
      front = s.front ++ these;
      back = back;
      column = fold (column_after tab) s.column these;
      parts = parts_past tab line from run s begun k;
      gap = gap_past tab line from run s k few ∙ sym end_is;
      left = left ∙ ap (λ n. drop n (walk_left from.rest)) (sym (length-singles (take k run))) ∙
          ap (drop (length these)) (s.left ∙ ap (placed tab from.end s.column) back_is) ∙
          placed-drop tab from.end s.column these back ∙ ap (λ n. placed tab n (fold (column_after tab) s.column these) back) end_here;
      tab_width = tab_is ∙ s.tab_width;
    }

-- ---- the end of the piece that begins there

pub record IsNext (width tab : ℕ) (line : List ℕ) (start end : ℕ) : Type 0 where
  pub is : end ≡ piece_end width tab line start
  pub past : start < end
  pub inside : end ≤ length line

pub plain-next : (width tab : ℕ) (line : List ℕ) (from : Place) (run : List ℕ) (k len : ℕ) → all_scalars line ≡ true → StandsAt tab line from →
    AreFirst run (walk_left from.rest) → k ≤ length run → IsPlainEnd width (drop k run) len → IsNext width tab line (from.end + k) (from.end + k + len)
plain-next width tab line from run k len scalars s first few is =
    let begun = begun_at tab line from run s first in
    let front = s.front ++ singles (take k run) in
    let parts = parts_past tab line from run s begun k in
    let printable = all-drop is_printable_character k run begun.printable in
    let inside = within width tab line scalars front (drop k run) begun.others parts printable in
    let gap_is = gap_past tab line from run s k few in
    let stops = is.shown.inside in
    let some = is.last.some in
    let least = is.last.few in
    let is_end : IsPieceEnd width tab line (from.end + k) (from.end + k + len) =
    subst (λ n. IsPieceEnd width tab line n (n + len)) gap_is
    (plain_end-is width tab line scalars front (drop k run) begun.others parts printable is.stop is.some is.shown len is.last) in
    record {
      is = piece_end-by width tab line (from.end + k) (from.end + k + len) scalars (omega arith) is_end;
      past = omega arith;
      inside = omega arith;
    }

pub record Answers (width tab : ℕ) (line : List ℕ) (from : Place) (len : ℕ) (place : Place) : Type 0 where
  pub end : place.end ≡ piece_end width tab line from.end
  pub ahead : IsAhead tab line from.end place
  pub inside : from.end < length line

next-first : (width tab : ℕ) (line : List ℕ) (from : Place) (run : List ℕ) (len : ℕ) → all_scalars line ≡ true → StandsAt tab line from →
    AreFirst run (walk_left from.rest) → IsPlainEnd width run len → IsNext width tab line from.end (from.end + len)
next-first width tab line from run len scalars s first is =
    subst (λ n. IsNext width tab line n (n + len)) (let same : from.end + 0 ≡ from.end = omega arith in same)
    (plain-next width tab line from run 0 len scalars s first (omega arith) is)

pub plain-fits : (width tab : ℕ) (line : List ℕ) (from : Place) (run : List ℕ) (len : ℕ) → all_scalars line ≡ true → StandsAt tab line from →
    AreFirst run (walk_left from.rest) → IsPlainEnd width run len → from.end + len ≤ length line
plain-fits width tab line from run len scalars s first is = (next-first width tab line from run len scalars s first is).inside

pub plain-answers : (width tab : ℕ) (line : List ℕ) (from : Place) (run : List ℕ) (len : ℕ) (place : Place) → all_scalars line ≡ true → StandsAt tab line from →
    AreFirst run (walk_left from.rest) → IsPlainEnd width run len → place.end ≡ from.end + len →
    walk_left place.rest ≡ drop (length (take len run)) (walk_left from.rest) → walk_tab place.rest ≡ walk_tab from.rest → Answers width tab line from len place
plain-answers width tab line from run len place scalars s first is end_is left tab_is =
    let next = next-first width tab line from run len scalars s first is in
    let few : len ≤ length run = omega (arith, is.last.few, is.shown.inside) in
    let past = next.past in
    let within_line = next.inside in
    record {
      end = end_is ∙ next.is;
      ahead = record { stands = StandsAt-past tab line from run len place s first few end_is left tab_is; past = omega (arith, end_is, past) };
      inside = omega arith;
    }

-- ---- pieces one after the other

pub AddsPieces-none : (width tab : ℕ) (line : List ℕ) (first end : ℕ) (before : List ℕ) → first ≡ end → AddsPieces width tab line first end before before
AddsPieces-none width tab line first end before same =
    record { more = []; is = sym (append-nil before); breaks = λ rest are. subst (λ n. AreBreaksFrom width tab line n rest) (sym same) are }

pub AddsPieces-more : (width tab : ℕ) (line : List ℕ) (start end next : ℕ) (before after more : List ℕ) → all_scalars line ≡ true →
    AddsPieces width tab line start end before after → IsNext width tab line end next → more ≡ after ++ next ∷ [] →
    AddsPieces width tab line start next before more
AddsPieces-more width tab line start end next before after more scalars adds is pushed =
    record {
      more = adds.more ++ next ∷ [];
      is = pushed ∙ ap (λ ns. ns ++ next ∷ []) adds.is ∙ append_assoc before adds.more (next ∷ []);
      breaks = λ rest are.
          subst (AreBreaksFrom width tab line start) (sym (append_assoc adds.more (next ∷ []) rest))
          (adds.breaks (next ∷ rest) (AreBreaksFrom-more width tab line end next rest scalars is.past is.inside is.is are));
    }

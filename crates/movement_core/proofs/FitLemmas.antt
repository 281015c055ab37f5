-- Caret places of a layout line, by a walk along a stretch of its logical line.
use Rattle.std.proofs.Common.{◌≡◌, ◌≢◌, ◌⊎◌, inl, inr, ⊎_elim, ℕ, ◌+◌, ◌-◌, ◌<◌, ◌≤◌, Bool, true, false, List, [], ◌∷◌, ◌++◌, Some, Ok, Err, Result, length, refl, sym, ap, subst, ◌∙◌, arith, length-append}
use Rattle.std.specs.Prelude.{◌&&◌, if◌then◌else◌, min, nat_le, slice_get, IfOk}
use Rattle.std.specs.List.{AllByRecursion, Contains, concat}
use Rattle.std.specs.Str.{all_scalars}
use Rattle.std.proofs.lemmas.Bool.{and_from, and_parts, both_ways, cases_lt, eq-eqb, eqb-true, le-leb, leb-true, lt-leb, le-ltb, lt-ltb, ne_eqb}
use Rattle.std.proofs.lemmas.List.Elements.{Contains-append_cases, Contains-append_right}
use Rattle.plain_screen.specs.declared.piece.Piece.{Piece}
use Rattle.plain_screen.specs.View.{ArePieces, LogicalLine, layout_line_of}
use Rattle.plain_screen.proofs.callers.ViewLemmas.{IsLayoutLineOf-layout_line_of}
use Rattle.plain_screen.proofs.callers.OwnLemmas.{get_piece, layout_line_of-start, start_of-get}
use Rattle.cluster_core.specs.Boundaries.{clusters_in, ends_from}
use Rattle.cluster_core.specs.Columns.{column_after, columns_between}
use Rattle.cluster_core.specs.Walk.{ClusterAt, counted_anew, placed}
use Rattle.cluster_core.proofs.ForCallers.{counted_anew-placed, walk_tells}
use Rattle.movement_core.specs.Places.{IsPlace, IsGreatestPlace, greatest_place}
use Rattle.movement_core.specs.Lines.{StartAtPlaces, above, below, belongs_to, column_of, line_end, line_start, place_at_column, start_of, IsLastGap, line_under}
use Rattle.movement_core.specs.declared.nearby.Stretch.{Stretch}
use Rattle.movement_core.specs.Inner.{fitting, items_past}
use Rattle.movement_core.specs.Nearby.{IsStretchOf}
use Rattle.movement_core.proofs.PlaceLemmas.{AreParts, ends_from-append, ends_from-le, ends_from-rises, first, first_or_later, greatest_place-is, later, least_place-is, low-le, none_in, place-from_line, place-in_line, scalars-line}
use Rattle.movement_core.proofs.LawLemmas.{IsInLine-place, columns_between-none, greatest_place-is_place, start-is_place_too}
use Rattle.movement_core.proofs.LineLemmas.{IsLastGap-some, under-ahead, under-le, under-own, under-parts, under-same}
use Rattle.movement_core.proofs.BoundaryLemmas.{place-inside}
use Rattle.movement_core.proofs.StretchLemmas.{columns-stretch, gap-from, gap-in, shift, stretch-inside, stretch-shift, stretch-to-le}

-- ---- what a walk gives after one of the ends

record IsPast (tab from at column : ℕ) (clusters : List (List ℕ)) : Type 0 where
  pub front : List (List ℕ)
  pub back : List (List ℕ)
  pub reached : ℕ
  pub parts : clusters ≡ front ++ back
  pub long : at + length (concat front) ≡ from
  pub items : items_past from at (placed tab at column clusters) ≡ placed tab from reached back

items_past-none : (tab from at column : ℕ) (clusters : List (List ℕ)) → from ≤ at → items_past from at (placed tab at column clusters) ≡ placed tab at column clusters
items_past-none tab from at column [] le = refl
items_past-none tab from at column (cluster ∷ clusters) le = rw (le-ltb at from le) refl

IsPast-here : (tab from at column : ℕ) (clusters : List (List ℕ)) → from ≡ at → IsPast tab from at column clusters
IsPast-here tab from at column clusters is = record {
  front = [];
  back = clusters;
  reached = column;
  parts = refl;
  long = omega arith;
  items = items_past-none tab from at column clusters (omega arith) ∙ ap (λ n. placed tab n column clusters) (sym is);
}

IsPast-end : (tab from at column : ℕ) (clusters : List (List ℕ)) → Contains (at ∷ ends_from at clusters) from → IsPast tab from at column clusters
IsPast-end tab from at column [] found =
    ⊎_elim (λ here. IsPast-here tab from at column [] (sym here)) (λ past. absurd (none_in from past)) (first_or_later at [] from found)
IsPast-end tab from at column (cluster ∷ clusters) found =
    ⊎_elim
    (λ (ge : from ≤ at). ⊎_elim
    (λ here. IsPast-here tab from at column (cluster ∷ clusters) (sym here))
    (λ past.
    let low : at ≤ from = low-le at (ends_from at (cluster ∷ clusters)) (ends_from-rises at (cluster ∷ clusters)) from past in IsPast-here tab from at column (cluster ∷ clusters) (omega arith))
    (first_or_later at (ends_from at (cluster ∷ clusters)) from found))
    (λ (less : at < from). ⊎_elim
    (λ here. absurd (omega arith))
    (λ past. next less (IsPast-end tab from (at + length cluster) (column_after tab column cluster) clusters past))
    (first_or_later at (ends_from at (cluster ∷ clusters)) from found))
    (cases_lt_flip from at)
  where
    cases_lt_flip : (a b : ℕ) → (a ≤ b) ⊎ (b < a)
    cases_lt_flip a b = ⊎_elim (λ (lt : b < a). inr lt) (λ (le : a ≤ b). inl le) (cases_lt b a)

    next : at < from → IsPast tab from (at + length cluster) (column_after tab column cluster) clusters → IsPast tab from at column (cluster ∷ clusters)
    next less rest = record {
      front = cluster ∷ rest.front;
      back = rest.back;
      reached = rest.reached;
      parts = ap (λ cs. cluster ∷ cs) rest.parts;
      long = omega (arith, rest.long, length-append cluster (concat rest.front));
      items = rw (lt-ltb at from less) rest.items;
    }

-- nothing is passed over where the walk is far enough, or at its end
pub items_past-done : (from at : ℕ) (items : List ClusterAt) → from ≤ at → items_past from at items ≡ items
items_past-done from at [] le = refl
items_past-done from at (item ∷ items) le = rw (le-ltb at from le) refl

pub items_past-step : (from at : ℕ) (item : ClusterAt) (items all : List ClusterAt) → at < from → all ≡ item ∷ items → items_past from at all ≡ items_past from item.end items
items_past-step from at item items all less is = ap (items_past from at) is ∙ ap (λ b. if b then items_past from item.end items else item ∷ items) (lt-ltb at from less)

-- ---- what is kept of a walk is the greatest that fits

record IsFitting (last column : ℕ) (columns : ℕ → ℕ) (best : ℕ) (ends : List ℕ) (kept : ℕ) : Type 0 where
  pub found : (kept ≡ best) ⊎ (Contains ends kept × (kept ≤ last) × (columns kept ≤ column))
  pub low : best ≤ kept
  pub greatest : (other : ℕ) → Contains ends other → other ≤ last → columns other ≤ column → other ≤ kept

-- one end more, which does not fit, or does
module _ (last column : ℕ) (columns : ℕ → ℕ) (best at end now : ℕ) (ends : List ℕ) (kept : ℕ) (told : now ≡ columns end) where
  IsFitting-passed : column < now → IsFitting last column columns best ends kept → IsFitting last column columns best (end ∷ ends) kept
  IsFitting-passed wide known = record {
    found = ⊎_elim (λ same. inl same) (λ one. inr (later end _ _ one.0, one.1, one.2)) known.found;
    low = known.low;
    greatest = λ other found inside fits.
        ⊎_elim
        (λ here. absurd (let same : columns end ≡ columns other = ap columns here in omega (arith, told)))
        (λ past. known.greatest other past inside fits)
        (first_or_later end ends other found);
  }

  IsFitting-taken : best ≤ end → end ≤ last → now ≤ column → IsFitting last column columns end ends kept → IsFitting last column columns best (end ∷ ends) kept
  IsFitting-taken rises inside fits known =
      let from = known.low in
      let Is : ℕ → Type 0 = λ n. Contains (end ∷ ends) n × (n ≤ last) × (columns n ≤ column) in record {
        found = ⊎_elim
            (λ same. inr (subst Is (sym same) (first end _, inside, omega (arith, told))))
            (λ one. inr (later end _ _ one.0, one.1, one.2)) known.found;
        low = omega arith;
        greatest = λ other found within fit.
            ⊎_elim (λ here. omega arith) (λ past. known.greatest other past within fit) (first_or_later end ends other found);
      }

-- the first end is past the last one that counts
IsFitting-stopped : (last column : ℕ) (columns : ℕ → ℕ) (best end : ℕ) (clusters : List (List ℕ)) → last < end →
    IsFitting last column columns best (end ∷ ends_from end clusters) best
IsFitting-stopped last column columns best end clusters past = record {
  found = inl refl;
  low = omega arith;
  greatest = λ other found inside fits.
      let le : end ≤ other = ⊎_elim (λ here. omega arith) (λ more. low-le end _ (ends_from-rises end clusters) other more) (first_or_later end (ends_from end clusters) other found) in
      absurd (omega arith);
}

IsFitting-walk : (last column : ℕ) (columns : ℕ → ℕ) (best tab at reached : ℕ) (clusters : List (List ℕ)) → best ≤ at →
    AllByRecursion (λ item. item.column ≡ columns item.end) (placed tab at reached clusters) →
    IsFitting last column columns best (ends_from at clusters) (fitting last column best (placed tab at reached clusters))
IsFitting-walk last column columns best tab at reached [] low tells =
    record { found = inl refl; low = omega arith; greatest = λ other found. absurd (none_in other found) }
IsFitting-walk last column columns best tab at reached (cluster ∷ clusters) low tells =
    let end = at + length cluster in
    let now = column_after tab reached cluster in
    let rest = placed tab end now clusters in
    let Is : ℕ → Type 0 = IsFitting last column columns best (end ∷ ends_from end clusters) in
    let On : Bool → ℕ = λ b. if b then best else fitting last column (if nat_le now column then end else best) rest in
    let Then : Bool → ℕ = λ b. fitting last column (if b then end else best) rest in
    ⊎_elim
    (λ (past : last < end). subst Is (sym (ap On (lt-ltb last end past))) (IsFitting-stopped last column columns best end clusters past))
    (λ (inside : end ≤ last).
    subst Is (sym (ap On (le-ltb last end inside)))
    (⊎_elim
    (λ (wide : column < now).
    subst Is (sym (ap Then (lt-leb now column wide)))
    (IsFitting-passed last column columns best at end now (ends_from end clusters) (fitting last column best rest) tells.0 wide
    (IsFitting-walk last column columns best tab end now clusters (omega arith) tells.1)))
    (λ (fits : now ≤ column).
    subst Is (sym (ap Then (le-leb now column fits)))
    (IsFitting-taken last column columns best at end now (ends_from end clusters) (fitting last column end rest) tells.0 (omega arith) inside fits
    (IsFitting-walk last column columns end tab end now clusters (omega arith) tells.1)))
    (cases_lt column now)))
    (cases_lt last end)

-- ---- the caret places of a layout line

module _ (text : List ℕ) (pieces : List Piece) (line last : ℕ) (are : ArePieces text pieces) (scalars : all_scalars text ≡ true)
    (starts : StartAtPlaces text pieces) (there : line < length pieces) (gaps : IsLastGap text pieces line last) where
  abbrev own : LogicalLine
  own = line_under text pieces line

  parts : AreParts text own
  parts = under-parts text pieces line

  abbrev start : ℕ
  start = start_of pieces line

  start-place : IsPlace text start
  start-place = start-is_place_too text pieces line starts

  belongs : (gap : ℕ) → start ≤ gap → gap ≤ last → belongs_to pieces line gap ≡ true
  belongs gap low high = eq-eqb (layout_line_of pieces gap) line (gaps.own gap low high)

  -- a gap that belongs to the line stands from its start to its last gap
  range : (gap : ℕ) → IsPlace text gap → belongs_to pieces line gap ≡ true → (start ≤ gap) × (gap ≤ last)
  range gap place is =
      let same = eqb-true (layout_line_of pieces gap) line is in
      let sits = IsLayoutLineOf-layout_line_of text pieces gap are in
      let found = get_piece pieces line there in
      let by_then = sits.by_then found.0 (ap (slice_get pieces) same ∙ found.1) in
      let at = start_of-get pieces line found.0 found.1 in
      (omega arith, gaps.only gap (place-inside text gap scalars place) same)

  pub line_start-is : start ≡ line_start text pieces line
  line_start-is =
      let ordered = gaps.ordered in
      sym (least_place-is (belongs_to pieces line) text start (record {
        place = start-place;
        passed = belongs start (omega arith) ordered;
        least = λ other place is. (range other place is).0;
      }))

  pub line_end-is : (place : ℕ) → IsGreatestPlace (λ other. nat_le other last) text place → place ≡ line_end text pieces line
  line_end-is place is =
      let ordered = gaps.ordered in
      let low = is.greatest start start-place (le-leb start last ordered) in
      let high = leb-true place last is.passed in
      sym (greatest_place-is (belongs_to pieces line) text place (record {
        place = is.place;
        passed = belongs place low high;
        greatest = λ other there_too belongs_too. is.greatest other there_too (le-leb other last (range other there_too belongs_too).1);
      }))

  -- the greatest caret place that passes, where of the line's gaps those pass that are not past one of them
  pub greatest_place-within : (passes : ℕ → Bool) (gap place : ℕ) → start ≤ gap → gap ≤ last →
      ((other : ℕ) → start ≤ other → other ≤ gap → passes other ≡ true) → ((other : ℕ) → gap < other → other ≤ last → passes other ≡ false) →
      IsGreatestPlace (λ other. nat_le other gap) text place → place ≡ greatest_place (λ other. belongs_to pieces line other && passes other) text
  greatest_place-within passes gap place low high pass fail is =
      let from = is.greatest start start-place (le-leb start gap low) in
      let to = leb-true place gap is.passed in
      sym (greatest_place-is (λ other. belongs_to pieces line other && passes other) text place (record {
        place = is.place;
        passed = and_from _ _ (belongs place from (omega arith)) (pass place from to);
        greatest = λ other there_too passes_too.
            let both = and_parts _ _ passes_too in
            let within = range other there_too both.0 in
            ⊎_elim
            (λ (past : gap < other). absurd (both_ways (passes other) (fail other past within.1) both.1))
            (λ (by_then : other ≤ gap). is.greatest other there_too (le-leb other gap by_then))
            (cases_lt gap other);
      }))

  pub own-from : own.start ≤ start
  own-from =
      let sits = layout_line_of-start text pieces line are there in
      let ahead = under-ahead text pieces start are in
      let At : ℕ → Type 0 = λ l. (line_under text pieces l).start ≤ start_of pieces l in
      subst At sits ahead.0

  pub own-to : last ≤ own.start + length own.text
  own-to =
      let ordered = gaps.ordered in
      let inside = gaps.inside in
      let sits = gaps.own last ordered (omega arith) in
      let ahead = under-ahead text pieces last are in
      let At : ℕ → Type 0 = λ l. (last < (line_under text pieces l).start + length (line_under text pieces l).text) ⊎ ((line_under text pieces l).start + length (line_under text pieces l).text ≡ length text) in
      ⊎_elim (λ less. omega arith) (λ all. omega arith) (subst At sits ahead.2)

  -- ---- by a stretch of its logical line

  module _ (held : Stretch) (near : IsStretchOf own start last held) where
    near-scalars : all_scalars own.text ≡ true
    near-scalars = scalars-line text own parts scalars

    near-to : last ≤ held.start + length held.text
    near-to = stretch-to-le own start last held near-scalars near own-to

    near-shift : held.start ≡ own.start + shift own start last held near-scalars near
    near-shift = stretch-shift own start last held near-scalars near

    place-near : (gap : ℕ) → held.start ≤ gap → gap ≤ last → IsPlace text gap → Contains (0 ∷ ends_from 0 (clusters_in held.text)) (gap - held.start)
    place-near gap low high place =
        let by = near-shift in
        let end = own-to in
        let more = near-to in
        let same : gap - own.start - shift own start last held near-scalars near ≡ gap - held.start = omega arith in
        subst (Contains (0 ∷ ends_from 0 (clusters_in held.text))) same
        (gap-in own start last held near-scalars near (gap - own.start) (omega arith) (omega arith) (place-in_line text own parts scalars gap (omega arith) (omega arith) place))

    near-place : (n : ℕ) → Contains (0 ∷ ends_from 0 (clusters_in held.text)) n → IsPlace text (held.start + n)
    near-place n found =
        let by = near-shift in
        let same : own.start + (shift own start last held near-scalars near + n) ≡ held.start + n = omega arith in
        subst (IsPlace text) same (place-from_line text own parts scalars (shift own start last held near-scalars near + n) (gap-from own start last held near-scalars near n found))

    abbrev from : ℕ
    from = start - held.start

    from-gap : Contains (0 ∷ ends_from 0 (clusters_in held.text)) from
    from-gap = place-near start near.before gaps.ordered start-place

    column-near : (tab gap : ℕ) → layout_line_of pieces gap ≡ line → gap ≤ last → column_of tab text pieces gap ≡ columns_between tab held.text from (gap - held.start)
    column-near tab gap same inside =
        let end = near-to in
        ap (λ (l : LogicalLine). columns_between tab l.text (start_of pieces (layout_line_of pieces gap) - l.start) (gap - l.start)) (under-same text pieces line gap are there same) ∙
        ap (λ (n : ℕ). columns_between tab own.text (start_of pieces n - own.start) (gap - own.start)) same ∙
        columns-stretch own start last held near-scalars near tab start gap near.before (inl (omega arith))

    pub place_at_column-is : (tab column kept : ℕ) →
        kept ≡ fitting (last - held.start) column from (counted_anew tab 0 (items_past from 0 (placed tab 0 0 (clusters_in held.text)))) →
        held.start + kept ≡ place_at_column tab text pieces line column
    place_at_column-is tab column kept is =
        let past = IsPast-end tab from 0 0 (clusters_in held.text) from-gap in
        let long : length (concat past.front) ≡ from = let sum = past.long in omega arith in
        let columns : ℕ → ℕ = columns_between tab held.text from in
        let tells = subst (λ (n : ℕ). AllByRecursion (λ item. item.column ≡ columns_between tab held.text n item.end) (placed tab n 0 past.back)) long
        (walk_tells tab held.text past.front past.back past.parts) in
        let fits = IsFitting-walk (last - held.start) column columns from tab from 0 past.back (omega arith) tells in
        let same : kept ≡ fitting (last - held.start) column from (placed tab from 0 past.back) =
        is ∙ ap (λ items. fitting (last - held.start) column from (counted_anew tab 0 items)) past.items ∙
        ap (fitting (last - held.start) column from) (counted_anew-placed tab from past.reached 0 past.back) in
        found-place tab column kept past.front past.back past.parts long
        (subst (IsFitting (last - held.start) column columns from (ends_from from past.back)) (sym same) fits)
      where
        found-place : (tab column kept : ℕ) (front back : List (List ℕ)) → clusters_in held.text ≡ front ++ back → length (concat front) ≡ from →
            IsFitting (last - held.start) column (columns_between tab held.text from) from (ends_from from back) kept →
            held.start + kept ≡ place_at_column tab text pieces line column
        found-place tab column kept front back cut long fits =
            let low_near = near.before in
            let ordered = gaps.ordered in
            let low = fits.low in
            let ends : ends_from 0 (clusters_in held.text) ≡ ends_from 0 front ++ ends_from from back =
            ap (ends_from 0) cut ∙ ends_from-append 0 front back ∙ ap (λ n. ends_from 0 front ++ ends_from n back) (let sum : 0 + length (concat front) ≡ from = omega arith in sum) in
            let known : IsPlace text (held.start + kept) × (kept ≤ last - held.start) × (columns_between tab held.text from kept ≤ column) =
            ⊎_elim
            (λ one.
            let at : start ≡ held.start + kept = omega arith in
            let none : columns_between tab held.text from kept ≡ 0 = ap (columns_between tab held.text from) one ∙ columns_between-none tab held.text from in
            (subst (IsPlace text) at start-place, omega arith, omega arith))
            (λ one.
            let gap = later 0 _ kept (subst (λ xs. Contains xs kept) (sym ends) (Contains-append_right (ends_from 0 front) (ends_from from back) kept one.0)) in
            (near-place kept gap, one.1, one.2))
            fits.found in
            let less : held.start + kept - held.start ≡ kept = omega arith in
            let inside = known.1 in
            let narrow = known.2 in
            let sits = gaps.own (held.start + kept) (omega arith) (omega arith) in
            sym (greatest_place-is (λ place. belongs_to pieces line place && nat_le (column_of tab text pieces place) column) text (held.start + kept) (record {
              place = known.0;
              passed = and_from _ _ (belongs (held.start + kept) (omega arith) (omega arith))
                  (le-leb _ column (let is = column-near tab (held.start + kept) sits (omega arith) ∙ ap (columns_between tab held.text from) less in omega arith));
              greatest = λ other place passes.
                  let both = and_parts _ _ passes in
                  let within = range other place both.0 in
                  let at_least = within.0 in
                  let at_most = within.1 in
                  let there_too = eqb-true (layout_line_of pieces other) line both.0 in
                  let fit : columns_between tab held.text from (other - held.start) ≤ column =
                  let le = leb-true _ column both.1 in omega (arith, column-near tab other there_too at_most) in
                  let gap = place-near other (omega arith) at_most place in
                  let more : other - held.start ≤ kept =
                  ⊎_elim
                  (λ here. omega arith)
                  (λ beyond. ⊎_elim
                  (λ before. let le = ends_from-le 0 front (other - held.start) before in omega arith)
                  (λ after. fits.greatest (other - held.start) after (omega arith) fit)
                  (Contains-append_cases (ends_from 0 front) (ends_from from back) (other - held.start) (subst (λ xs. Contains xs (other - held.start)) ends beyond)))
                  (first_or_later 0 (ends_from 0 (clusters_in held.text)) (other - held.start) gap) in
                  omega arith;
            }))

-- ---- the column of a gap, by the stretch that is held

module _ (text : List ℕ) (pieces : List Piece) (gap : ℕ) (are : ArePieces text pieces) (line : ℕ) (is : line ≡ layout_line_of pieces gap)
    (piece : Piece) (found : slice_get pieces line ≡ Some piece) (to : ℕ) (capped : to ≡ min gap (length text)) where
  gap-start : start_of pieces (layout_line_of pieces gap) ≡ piece.start
  gap-start = ap (start_of pieces) (sym is) ∙ start_of-get pieces line piece found

  abbrev gap-own : LogicalLine
  gap-own = line_under text pieces (layout_line_of pieces gap)

  same-own : gap-own ≡ line_under text pieces line
  same-own = ap (line_under text pieces) (sym is)

  pub column-low : (line_under text pieces line).start ≤ piece.start
  column-low =
      let start = gap-start in
      subst (λ (own : LogicalLine). own.start ≤ piece.start) same-own (let low = (under-ahead text pieces gap are).0 in omega arith)

  pub column-ordered : piece.start ≤ to
  column-ordered =
      let start = gap-start in
      let high = (under-ahead text pieces gap are).1 in
      let gaps = (IsLastGap-some text pieces (layout_line_of pieces gap) are (IsLayoutLineOf-layout_line_of text pieces gap are).inside).1 in
      let ordered = gaps.ordered in
      let inside = gaps.inside in omega arith

  to-inside : to ≤ gap-own.start + length gap-own.text
  to-inside = ⊎_elim (λ less. omega arith) (λ all. omega arith) (under-ahead text pieces gap are).2

  pub column-inside : to ≤ (line_under text pieces line).start + length (line_under text pieces line).text
  column-inside = subst (λ (own : LogicalLine). to ≤ own.start + length own.text) same-own to-inside

  module _ (scalars : all_scalars text ≡ true) (held : Stretch) (near : IsStretchOf (line_under text pieces line) piece.start to held) where
    pub held-from-le : held.start ≤ piece.start
    held-from-le = near.before

    pub held-to-le : held.start ≤ gap
    held-to-le = let low = near.before in let high = (under-ahead text pieces gap are).1 in let start = gap-start in omega arith

    pub held-column : (tab : ℕ) → columns_between tab held.text (piece.start - held.start) (gap - held.start) ≡ column_of tab text pieces gap
    held-column tab = by (subst (λ (own : LogicalLine). IsStretchOf own piece.start to held) (sym same-own) near)
      where
        by : IsStretchOf gap-own piece.start to held → columns_between tab held.text (piece.start - held.start) (gap - held.start) ≡ column_of tab text pieces gap
        by own_near =
            let own_scalars = scalars-line text gap-own (under-parts text pieces (layout_line_of pieces gap)) scalars in
            let all = under-le text pieces (layout_line_of pieces gap) in
            let inside = stretch-inside gap-own piece.start to held own_scalars own_near in
            sym (columns-stretch gap-own piece.start to held own_scalars own_near tab piece.start gap own_near.before
            (⊎_elim (λ more. inl (omega arith)) (λ none. inr none) own_near.past)) ∙
            ap (λ (n : ℕ). columns_between tab gap-own.text (n - gap-own.start) (gap - gap-own.start)) (sym gap-start) ∙
            sym (ap (λ (l : LogicalLine). columns_between tab l.text (start_of pieces (layout_line_of pieces gap) - l.start) (gap - l.start)) (under-own text pieces gap are))

-- ---- the place at a column, by the stretch that is held

module _ (text : List ℕ) (pieces : List Piece) (line last : ℕ) (are : ArePieces text pieces) (scalars : all_scalars text ≡ true)
    (starts : StartAtPlaces text pieces) (there : line < length pieces) (gaps : IsLastGap text pieces line last)
    (piece : Piece) (found : slice_get pieces line ≡ Some piece) where
  piece-start : start_of pieces line ≡ piece.start
  piece-start = start_of-get pieces line piece found

  pub piece-low : (line_under text pieces line).start ≤ piece.start
  piece-low = let low = own-from text pieces line last are scalars starts there gaps in let at = piece-start in omega arith

  pub piece-ordered : piece.start ≤ last
  piece-ordered = let ordered = gaps.ordered in let at = piece-start in omega arith

  pub piece-inside : last ≤ (line_under text pieces line).start + length (line_under text pieces line).text
  piece-inside = own-to text pieces line last are scalars starts there gaps

  pub held-place-le : (tab column : ℕ) → place_at_column tab text pieces line column ≤ last
  held-place-le tab column =
      let place = place_at_column tab text pieces line column in
      gaps.only place (place-inside text place scalars (greatest_place-is_place _ text)) (IsInLine-place tab column line text pieces are starts there).stands

  module _ (held : Stretch) (near : IsStretchOf (line_under text pieces line) piece.start last held) where
    pub held-walk-from : held.start ≤ piece.start
    held-walk-from = near.before

    pub held-walk-last : held.start ≤ last
    held-walk-last = let low = near.before in let more = piece-ordered in omega arith

    pub held-place : (tab column kept : ℕ) →
        kept ≡ fitting (last - held.start) column (piece.start - held.start) (counted_anew tab 0 (items_past (piece.start - held.start) 0 (placed tab 0 0 (clusters_in held.text)))) →
        held.start + kept ≡ place_at_column tab text pieces line column
    held-place tab column kept is =
        let own = line_under text pieces line in
        let Walked : ℕ → ℕ = λ p. fitting (last - held.start) column (p - held.start) (counted_anew tab 0 (items_past (p - held.start) 0 (placed tab 0 0 (clusters_in held.text)))) in
        place_at_column-is text pieces line last are scalars starts there gaps held (subst (λ (n : ℕ). IsStretchOf own n last held) (sym piece-start) near) tab column kept
        (is ∙ ap Walked (sym piece-start))

-- ---- up and down

pub above-top : (tab : ℕ) (text : List ℕ) (pieces : List Piece) (column gap line : ℕ) → line ≡ layout_line_of pieces gap → line ≡ 0 → 0 ≡ above tab text pieces column gap
above-top tab text pieces column gap line is top =
    sym (ap (λ b. if b then 0 else place_at_column tab text pieces (layout_line_of pieces gap - 1) column) (eq-eqb (layout_line_of pieces gap) 0 (sym is ∙ top)))

pub above-up : (tab : ℕ) (text : List ℕ) (pieces : List Piece) (column gap line : ℕ) → line ≡ layout_line_of pieces gap → line ≢ 0 →
    place_at_column tab text pieces (line - 1) column ≡ above tab text pieces column gap
above-up tab text pieces column gap line is some =
    ap (λ n. place_at_column tab text pieces (n - 1) column) is ∙
    sym (ap (λ b. if b then 0 else place_at_column tab text pieces (layout_line_of pieces gap - 1) column) (ne_eqb (layout_line_of pieces gap) 0 (λ top. some (is ∙ top))))

pub below-bottom : (tab : ℕ) (text : List ℕ) (pieces : List Piece) (column gap line end : ℕ) → line ≡ layout_line_of pieces gap → line + 1 ≡ length pieces → end ≡ length text →
    end ≡ below tab text pieces column gap
below-bottom tab text pieces column gap line end is last at =
    at ∙ sym (ap (λ b. if b then length text else place_at_column tab text pieces (layout_line_of pieces gap + 1) column)
    (eq-eqb (layout_line_of pieces gap + 1) (length pieces) (ap (λ n. n + 1) (sym is) ∙ last)))

pub below-down : (tab : ℕ) (text : List ℕ) (pieces : List Piece) (column gap line : ℕ) → line ≡ layout_line_of pieces gap → line + 1 ≢ length pieces →
    place_at_column tab text pieces (line + 1) column ≡ below tab text pieces column gap
below-down tab text pieces column gap line is more =
    ap (λ n. place_at_column tab text pieces (n + 1) column) is ∙
    sym (ap (λ b. if b then length text else place_at_column tab text pieces (layout_line_of pieces gap + 1) column)
    (ne_eqb (layout_line_of pieces gap + 1) (length pieces) (λ last. more (ap (λ n. n + 1) is ∙ last))))

-- what a result tells, told in other words
pub IfOk-more : {X E : Type 0} (P Q : X → Type 0) (r : Result X E) → ((x : X) → P x → Q x) → IfOk r P → IfOk r Q
IfOk-more P Q (Ok x) more is = more x is
IfOk-more P Q (Err e) more is = tt

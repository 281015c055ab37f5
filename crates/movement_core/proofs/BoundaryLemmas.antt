-- Boundaries of a text beside a gap, by those of the gap's logical line.
use Rattle.std.proofs.Common.{◌≡◌, ⊎_elim, ℕ, ◌+◌, ◌-◌, ◌<◌, ◌≤◌, true, List, reverse, length, refl, sym, ap, subst, ◌∙◌, arith}
use Rattle.std.specs.Prelude.{nat_le, nat_lt, unwrap_or}
use Rattle.std.specs.List.{flat_map}
use Rattle.std.specs.Str.{all_scalars}
use Rattle.std.proofs.Math.Path.{fun_ext}
use Rattle.std.proofs.lemmas.Bool.{cases_lt, le-leb, leb-true, lt-leb, le-ltb, lt-ltb, ltb-true}
use Rattle.plain_text.specs.Lines.{logical_lines}
use Rattle.plain_screen.specs.declared.piece.Piece.{Piece}
use Rattle.plain_screen.specs.View.{ArePieces, LogicalLine, layout_line_of}
use Rattle.plain_screen.proofs.callers.ViewLemmas.{concat-logical_lines}
use Rattle.cluster_core.specs.Boundaries.{clusters_in, text_boundaries}
use Rattle.movement_core.specs.Places.{IsPlace, IsGreatestPlace, greatest_place, least_place, left_of, right_of, outward_left, outward_right}
use Rattle.movement_core.specs.declared.nearby.Stretch.{Stretch}
use Rattle.movement_core.specs.Lines.{line_under}
use Rattle.movement_core.specs.Inner.{IsNextGap, IsGapUpTo}
use Rattle.movement_core.specs.Nearby.{IsStretchOf}
use Rattle.movement_core.proofs.PlaceLemmas.{AreParts, ends_from-le, find-none, first_or_later, greatest_place-is, least_place-is, least_place-none, lines-whole, place-from_line, place-in_line, end-le, scalars-line}
use Rattle.movement_core.proofs.LineLemmas.{under-ahead, under-le, under-parts}
use Rattle.movement_core.proofs.StretchLemmas.{IsGapUpTo-stretch, IsNextGap-stretch, shift, stretch-inside, stretch-shift, stretch-to-le, stretch-to-lt}

-- a boundary lies in the text
pub place-inside : (text : List ℕ) (place : ℕ) → all_scalars text ≡ true → IsPlace text place → place ≤ length text
place-inside text place scalars found =
    let lines = logical_lines text in
    let whole = concat-logical_lines text in
    let long = ap length (lines-whole lines (subst (λ t. all_scalars t ≡ true) (sym whole) scalars) ∙ whole) in
    ⊎_elim
    (λ here. omega arith)
    (λ past. let le = ends_from-le 0 (flat_map clusters_in lines) place past in omega arith)
    (first_or_later 0 _ place found)

module _ (text : List ℕ) (pieces : List Piece) (gap : ℕ) (are : ArePieces text pieces) (scalars : all_scalars text ≡ true) where
  abbrev own : LogicalLine
  own = line_under text pieces (layout_line_of pieces gap)

  parts : AreParts text own
  parts = under-parts text pieces (layout_line_of pieces gap)

  pub own-start-le : own.start ≤ gap
  own-start-le = let ahead = under-ahead text pieces gap are in let low = ahead.0 in let high = ahead.1 in omega arith

  pub own-end-le : gap ≤ length text → gap - own.start ≤ length own.text
  own-end-le inside = ⊎_elim (λ less. omega arith) (λ all. omega arith) (under-ahead text pieces gap are).2

  pub own-end-lt : gap < length text → gap - own.start < length own.text
  own-end-lt inside = let le = own-start-le in ⊎_elim (λ less. omega arith) (λ all. omega arith) (under-ahead text pieces gap are).2

  pub own-fits : (n : ℕ) → n ≤ length own.text → own.start + n ≤ length text
  own-fits n le = let end = end-le text own parts scalars in omega arith

  pub IsGreatestPlace-own : (n : ℕ) → gap ≤ length text → IsGapUpTo own.text (gap - own.start) n → IsGreatestPlace (λ place. nat_le place gap) text (own.start + n)
  IsGreatestPlace-own n inside is =
      let start = own-start-le in
      let end = own-end-le inside in
      let by_then = is.by_then in record {
        place = place-from_line text own parts scalars n is.gap;
        passed = le-leb (own.start + n) gap (omega arith);
        greatest = λ other place passes.
            let le = leb-true other gap passes in
            ⊎_elim
            (λ (before : other < own.start). omega arith)
            (λ (from : own.start ≤ other).
            let found = place-in_line text own parts scalars other from (omega arith) place in
            let more = is.greatest (other - own.start) found (omega arith) is.inside in omega arith)
            (cases_lt other own.start);
      }

  pub right_of-own : (n : ℕ) → gap < length text → IsNextGap own.text (gap - own.start) n → own.start + n ≡ right_of text gap
  right_of-own n inside is =
      let start = own-start-le in
      let above = is.above in
      let fits = is.inside in
      sym (least_place-is (λ place. nat_lt gap place) text (own.start + n) (record {
        place = place-from_line text own parts scalars n is.gap;
        passed = lt-ltb gap (own.start + n) (omega arith);
        least = λ other place passes.
            let lt = ltb-true gap other passes in
            ⊎_elim
            (λ (past : own.start + length own.text < other). omega arith)
            (λ (up_to : other ≤ own.start + length own.text).
            let found = place-in_line text own parts scalars other (omega arith) up_to place in
            let more = is.least (other - own.start) found (omega arith) (omega arith) in omega arith)
            (cases_lt (own.start + length own.text) other);
      }))

pub right_of-end : (text : List ℕ) (gap : ℕ) → all_scalars text ≡ true → gap ≡ length text → gap ≡ right_of text gap
right_of-end text gap scalars is =
    is ∙ sym (least_place-none (λ place. nat_lt gap place) text (λ other place. let le = place-inside text other scalars place in le-ltb gap other (omega arith)))

pub left_of-start : (text : List ℕ) (gap : ℕ) → gap ≡ 0 → 0 ≡ left_of text gap
left_of-start text gap is =
    sym (ap (λ found. unwrap_or found 0) (find-none (λ place. nat_lt place gap) (reverse (text_boundaries text)) (λ other found. le-ltb other gap (omega arith))))

pub left_of-outward : (text : List ℕ) (gap : ℕ) → 0 < gap → outward_left text (gap - 1) ≡ left_of text gap
left_of-outward text gap some = ap (λ p. greatest_place p text) (fun_ext same)
  where
    same : (place : ℕ) → nat_le place (gap - 1) ≡ nat_lt place gap
    same place = ⊎_elim
        (λ (less : place < gap). le-leb place (gap - 1) (omega arith) ∙ sym (lt-ltb place gap less))
        (λ (ge : gap ≤ place). lt-leb place (gap - 1) (omega arith) ∙ sym (le-ltb place gap ge))
        (cases_lt place gap)

pub outward_right-start : (text : List ℕ) (gap : ℕ) → gap ≡ 0 → 0 ≡ outward_right text gap
outward_right-start text gap is = subst (λ n. 0 ≡ outward_right text n) (sym is) refl

pub right_of-outward : (text : List ℕ) (gap : ℕ) → 0 < gap → right_of text (gap - 1) ≡ outward_right text gap
right_of-outward text gap some = ap (λ p. least_place p text) (fun_ext same)
  where
    same : (place : ℕ) → nat_lt (gap - 1) place ≡ nat_le gap place
    same place = ⊎_elim
        (λ (less : place < gap). le-ltb (gap - 1) place (omega arith) ∙ sym (lt-leb gap place less))
        (λ (ge : gap ≤ place). lt-ltb (gap - 1) place (omega arith) ∙ sym (le-leb gap place ge))
        (cases_lt place gap)

-- ---- the same by a stretch of the logical line that is held

module _ (text : List ℕ) (pieces : List Piece) (gap : ℕ) (are : ArePieces text pieces) (scalars : all_scalars text ≡ true)
    (line : ℕ) (is : line ≡ layout_line_of pieces gap) where
  pub near-low : (line_under text pieces line).start ≤ gap
  near-low = subst (λ l. (line_under text pieces l).start ≤ gap) (sym is) (own-start-le text pieces gap are scalars)

  pub near-high : gap ≤ length text → gap ≤ (line_under text pieces line).start + length (line_under text pieces line).text
  near-high inside =
      let low = own-start-le text pieces gap are scalars in
      subst (λ l. gap ≤ (line_under text pieces l).start + length (line_under text pieces l).text) (sym is)
      (let high = own-end-le text pieces gap are scalars inside in omega arith)

  module _ (held : Stretch) (near : IsStretchOf (line_under text pieces line) gap gap held) where
    abbrev around : LogicalLine
    around = line_under text pieces (layout_line_of pieces gap)

    near-own : IsStretchOf around gap gap held
    near-own = subst (λ l. IsStretchOf (line_under text pieces l) gap gap held) is near

    near-scalars : all_scalars around.text ≡ true
    near-scalars = scalars-line text around (under-parts text pieces (layout_line_of pieces gap)) scalars

    pub held-start-le : held.start ≤ gap
    held-start-le = near.before

    pub held-end-le : gap ≤ length text → gap - held.start ≤ length held.text
    held-end-le inside =
        let low = own-start-le text pieces gap are scalars in
        let high = own-end-le text pieces gap are scalars inside in
        let end = stretch-to-le around gap gap held near-scalars near-own (omega arith) in omega arith

    pub held-end-lt : gap < length text → gap - held.start < length held.text
    held-end-lt inside =
        let before = near.before in
        let low = own-start-le text pieces gap are scalars in
        let high = own-end-lt text pieces gap are scalars inside in
        let end = stretch-to-lt around gap gap held near-scalars near-own (omega arith) in omega arith

    pub held-fits : (n : ℕ) → n ≤ length held.text → held.start + n ≤ length text
    held-fits n le =
        let end = stretch-inside around gap gap held near-scalars near-own in
        let all = under-le text pieces (layout_line_of pieces gap) in omega arith

    moved : (n : ℕ) → around.start + (shift around gap gap held near-scalars near-own + n) ≡ held.start + n
    moved n = let start = stretch-shift around gap gap held near-scalars near-own in omega arith

    pub held-greatest : (n : ℕ) → gap ≤ length text → IsGapUpTo held.text (gap - held.start) n → IsGreatestPlace (λ place. nat_le place gap) text (held.start + n)
    held-greatest n inside up_to =
        let end = held-end-le inside in
        subst (IsGreatestPlace (λ place. nat_le place gap) text) (moved n)
        (IsGreatestPlace-own text pieces gap are scalars (shift around gap gap held near-scalars near-own + n) inside
        (IsGapUpTo-stretch around gap gap held near-scalars near-own gap n near.before (let before = near.before in omega arith) up_to))

    pub held-outward : (n : ℕ) → gap ≤ length text → IsGapUpTo held.text (gap - held.start) n → held.start + n ≡ outward_left text gap
    held-outward n inside up_to = sym (greatest_place-is (λ place. nat_le place gap) text (held.start + n) (held-greatest n inside up_to))

    pub held-right : (n : ℕ) → gap < length text → IsNextGap held.text (gap - held.start) n → held.start + n ≡ right_of text gap
    held-right n inside next =
        sym (moved n) ∙
        right_of-own text pieces gap are scalars (shift around gap gap held near-scalars near-own + n) inside
        (IsNextGap-stretch around gap gap held near-scalars near-own gap n near.before next)

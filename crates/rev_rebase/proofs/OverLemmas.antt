-- Where an insertion stands in its block, carried over what the newest revision inserted there.
use Rattle.std.proofs.Common.{◌≡◌, ℕ, zero, suc, ◌+◌, ◌-◌, ◌<◌, ◌≤◌, Bool, true, false, not, inl, inr, if◌then◌else◌, nat_lt, List, [], ◌∷◌, ◌++◌, length, take, drop, filter, refl, ap, ap₂, sym, subst, ◌∙◌, arith, add-one, append_assoc, append-nil, length-append}
use Rattle.std.specs.List.{AllByRecursion}
use Rattle.std.proofs.Math.Seq.{take-append_seam, drop-append-add}
use Rattle.std.proofs.lemmas.Bool.{cases_lt, both_ways, ltb-false, not-true, not-false, eq-eqb, ne_eqb, not_from_true, not_from_false}
use Rattle.std.proofs.lemmas.List.Elements.{filter-append}
use Rattle.plain_text.specs.Woven.{nth_index}
use Rattle.plain_edits.specs.declared.rank.Rank.{Rank}
use Rattle.plain_edits.specs.History.{Tagged, Revision}
use Rattle.plain_edits.specs.Place.{is_by, goes_right, left_in_run}
use Rattle.plain_edits.specs.Blocks.{left_in_block}
use Rattle.plain_text.proofs.callers.ListLemmas.{AllByRecursion-weaker, filter_none}
use Rattle.plain_edits.proofs.callers.RunLemmas.{last_cut, filter-cut, AllByRecursion-filter, AllByRecursion-parts, left_in_run-nil, left_in_run-right, left_in_run-left, left_in_run-by_cuts, left_in_block-cut, left_in_block-late}
use Rattle.rev_rebase.specs.Until.{StartsOld, EndsOld, GoesBeside, IsOver}

-- ---- a cut, carried over new items

-- a list in two parts, whose old items were cut at the same place
pub record Over {X : Type 0} (new : X → Bool) (right : Bool) (xs : List X) (was is : ℕ) : Type 0 where
  pub left : List X
  pub rest : List X
  pub whole : xs ≡ left ++ rest
  pub is_at : is ≡ length left
  pub was_at : was ≡ length (filter (λ x. not (new x)) left)
  pub beside : GoesBeside new right left rest

module _ {X : Type 0} (new : X → Bool) where
  abbrev old : X → Bool
  old x = not (new x)

  pub IsOver-over : (right : Bool) (xs : List X) (was is : ℕ) → Over new right xs was is → IsOver new right xs was is
  IsOver-over right xs was is over =
      subst (λ ys. IsOver new right ys was is) (sym over.whole)
      (subst (IsOver new right (over.left ++ over.rest) was) (sym over.is_at)
      (subst (λ n. IsOver new right (over.left ++ over.rest) n (length over.left)) (sym over.was_at)
      (record {
        left = ap (filter old) (take-append_seam over.left over.rest) ∙ sym (ap (take count) parts ∙ take-append_seam (filter old over.left) (filter old over.rest));
        rest = ap (filter old) (behind over.left over.rest) ∙ sym (ap (drop count) parts ∙ behind (filter old over.left) (filter old over.rest));
        within = omega (arith, length-append over.left over.rest);
        beside =
            subst (GoesBeside new right (take (length over.left) (over.left ++ over.rest))) (sym (behind over.left over.rest))
            (subst (λ ys. GoesBeside new right ys over.rest) (sym (take-append_seam over.left over.rest)) over.beside);
      })))
    where
      count : ℕ
      count = length (filter old over.left)

      parts : filter old (over.left ++ over.rest) ≡ filter old over.left ++ filter old over.rest
      parts = filter-append old over.left over.rest

      behind : (ys zs : List X) → drop (length ys) (ys ++ zs) ≡ zs
      behind ys zs = (let none : length ys ≡ length ys + 0 = omega arith in ap (λ n. drop n (ys ++ zs)) none) ∙ drop-append-add ys zs 0

  ends_old-cons : (x : X) (xs : List X) → 0 < length xs → EndsOld new xs → EndsOld new (x ∷ xs)
  ends_old-cons x [] some ends = absurd (omega arith)
  ends_old-cons x (y ∷ xs) some ends = ends

  ends_old-cut : (front : List X) (x : X) (back : List X) → new x ≡ false → EndsOld new back → EndsOld new (front ++ x ∷ back)
  ends_old-cut [] x [] is ends = is
  ends_old-cut [] x (y ∷ back) is ends = ends
  ends_old-cut (z ∷ front) x back is ends =
      ends_old-cons z (front ++ x ∷ back) (omega (arith, length-append front (x ∷ back))) (ends_old-cut front x back is ends)

  -- the same behind an old item, and in front of one
  pub Over-behind : (right : Bool) (front : List X) (x : X) (back : List X) (was is : ℕ) → new x ≡ false → Over new right back was is →
      Over new right (front ++ x ∷ back) (length (filter old front) + 1 + was) (length front + 1 + is)
  Over-behind right front x back was is kept over = record {
    left = front ++ x ∷ over.left;
    rest = over.rest;
    whole = ap (λ ys. front ++ x ∷ ys) over.whole ∙ sym (append_assoc front (x ∷ over.left) over.rest);
    is_at = omega (arith, over.is_at, length-append front (x ∷ over.left));
    was_at =
        omega (arith, over.was_at, ap length (filter-cut old front x over.left (not_from_false (new x) kept)), length-append (filter old front) (x ∷ filter old over.left));
    beside = beside right over.beside;
  }
    where
      beside : (b : Bool) → GoesBeside new b over.left over.rest → GoesBeside new b (front ++ x ∷ over.left) over.rest
      beside true starts = starts
      beside false ends = ends_old-cut front x over.left kept ends

  pub Over-before : (right : Bool) (xs more : List X) (was is : ℕ) → StartsOld new more → Over new right xs was is → Over new right (xs ++ more) was is
  Over-before right xs more was is starts over = record {
    left = over.left;
    rest = over.rest ++ more;
    whole = ap (λ ys. ys ++ more) over.whole ∙ append_assoc over.left over.rest more;
    is_at = over.is_at;
    was_at = over.was_at;
    beside = beside right over.beside;
  }
    where
      starts_more : (ys : List X) → StartsOld new ys → StartsOld new (ys ++ more)
      starts_more [] _ = starts
      starts_more (y ∷ ys) old_first = old_first

      beside : (b : Bool) → GoesBeside new b over.left over.rest → GoesBeside new b over.left (over.rest ++ more)
      beside true first = starts_more over.rest first
      beside false ends = ends

  -- what is seen is old, and so what stands right of a gap of what is seen starts old
  pub starts_at : (seen : X → Bool) → ((x : X) → seen x ≡ true → new x ≡ false) → (gap : ℕ) (xs : List X) → StartsOld new (drop (nth_index seen gap xs) xs)
  starts_at seen kept gap [] = tt
  starts_at seen kept zero (x ∷ xs) =
      elim (seen x) as (λ b. seen x ≡ b → StartsOld new (drop (if b then 0 else nth_index seen 0 xs + 1) (x ∷ xs))) [
        | true ↦ λ is. kept x is
        | false ↦ λ _. rw (add-one (nth_index seen 0 xs)) (starts_at seen kept 0 xs)
      ] refl
  starts_at seen kept (suc gap) (x ∷ xs) =
      rw (add-one (nth_index seen (if seen x then gap else suc gap) xs)) (starts_at seen kept (if seen x then gap else suc gap) xs)

  -- where all items are new, all stand left or none does
  pub Over-new : (right : Bool) (xs : List X) (was is : ℕ) → AllByRecursion (λ x. new x ≡ true) xs → was ≡ 0 → (right ≡ true → is ≡ length xs) →
      (right ≡ false → is ≡ 0) → Over new right xs was is
  Over-new true xs was is all none left rest = record {
    left = xs;
    rest = [];
    whole = sym (append-nil xs);
    is_at = left refl;
    was_at = none ∙ sym (ap length (filter_none old xs (AllByRecursion-weaker (λ x. new x ≡ true) (λ x. old x ≡ false) (λ x is. not_from_true (new x) is) xs all)));
    beside = tt;
  }
  Over-new false xs was is all none left rest = record { left = []; rest = xs; whole = refl; is_at = rest refl; was_at = none; beside = tt }

-- ---- a run, and its block

-- the counts may take the revisions from lists that agree below the newest one
module _ (revisions others : List Revision) (rank : Rank) (rev : ℕ) (same : (r : ℕ) → r < rev → goes_right others rank r ≡ goes_right revisions rank r) where
  abbrev older : Tagged → Bool
  older tagged = not (is_by rev tagged)

  abbrev right : Bool
  right = goes_right revisions rank rev

  abbrev Steps : List Tagged → ℕ → Type 0
  Steps run is =
      AllByRecursion (λ tagged. tagged.inserted ≤ rev) run → (fewer : ℕ) → length (filter older run) ≤ fewer →
      Over (is_by rev) right run (left_in_run others rank fewer (filter older run)) is

  -- where the eldest edit is the newest revision, all is new
  all_new : (eldest : ℕ) (xs : List Tagged) → rev ≤ eldest → AllByRecursion (λ tagged. eldest ≤ tagged.inserted) xs →
      AllByRecursion (λ tagged. tagged.inserted ≤ rev) xs → AllByRecursion (λ tagged. is_by rev tagged ≡ true) xs
  all_new eldest [] top least each = tt
  all_new eldest (x ∷ xs) top least each = (eq-eqb x.inserted rev (omega (arith, top, least.0, each.0)), all_new eldest xs top least.1 each.1)

  none_new : (e : ℕ) (xs : List Tagged) → e ≡ rev → AllByRecursion (λ tagged. is_by rev tagged ≡ true) xs →
      AllByRecursion (λ tagged. is_by e tagged ≡ false) xs → xs ≡ []
  none_new e [] is all none = refl
  none_new e (x ∷ xs) is all none = absurd (both_ways (is_by rev x) (subst (λ n. is_by n x ≡ false) is none.0) all.0)

  none_older : (run : List Tagged) (fewer : ℕ) → AllByRecursion (λ tagged. is_by rev tagged ≡ true) run →
      left_in_run others rank fewer (filter older run) ≡ 0
  none_older run fewer all =
      ap (left_in_run others rank fewer) (filter_none older run (AllByRecursion-weaker (λ t. is_by rev t ≡ true) (λ t. older t ≡ false) (λ t by. not_from_true (is_by rev t) by) run all)) ∙
      left_in_run-nil others rank fewer

  -- without the newest revision's characters the run is cut at the same character
  module _ (front : List Tagged) (x : Tagged) (back : List Tagged) (least : AllByRecursion (λ tagged. x.inserted ≤ tagged.inserted) (front ++ x ∷ back))
      (below : x.inserted < rev) (fewer : ℕ) (small : length (filter older (front ++ x ∷ back)) ≤ fewer) where
    kept : is_by rev x ≡ false
    kept = ne_eqb x.inserted rev (omega (arith, below))

    cut : filter older (front ++ x ∷ back) ≡ filter older front ++ x ∷ filter older back
    cut = filter-cut older front x back (not_from_false (is_by rev x) kept)

    fewer_front : length (filter older front) ≤ fewer - 1
    fewer_front = omega (arith, small, ap length cut, length-append (filter older front) (x ∷ filter older back))

    fewer_back : length (filter older back) ≤ fewer - 1
    fewer_back = omega (arith, small, ap length cut, length-append (filter older front) (x ∷ filter older back))

    was : left_in_run others rank fewer (filter older (front ++ x ∷ back)) ≡
        left_in_run others rank (suc (fewer - 1)) (filter older front ++ x ∷ filter older back)
    was =
        let some : fewer ≡ suc (fewer - 1) = omega (arith, small, ap length cut, length-append (filter older front) (x ∷ filter older back)) in
        ap₂ (left_in_run others rank) some cut

    least' : AllByRecursion (λ tagged. x.inserted ≤ tagged.inserted) (filter older front ++ x ∷ filter older back)
    least' =
        subst (AllByRecursion (λ tagged. x.inserted ≤ tagged.inserted)) cut
        (AllByRecursion-filter (λ tagged. x.inserted ≤ tagged.inserted) older (front ++ x ∷ back) least)

  right_step : (front : List Tagged) (x : Tagged) (back : List Tagged) (k : ℕ) → AllByRecursion (λ tagged. x.inserted ≤ tagged.inserted) (front ++ x ∷ back) →
      AllByRecursion (λ tagged. is_by x.inserted tagged ≡ false) back → goes_right revisions rank x.inserted ≡ true →
      Steps back k → Steps (front ++ x ∷ back) (length front + 1 + k)
  right_step front x back k least none goes rest each fewer small =
      let parts = AllByRecursion-parts (λ tagged. tagged.inserted ≤ rev) front (x ∷ back) each in
      elim (cases_lt x.inserted rev) [
        | inl below ↦
            subst (λ n. Over (is_by rev) right (front ++ x ∷ back) n (length front + 1 + k))
            (sym (was front x back least below fewer small ∙
            left_in_run-right others rank (fewer - 1) (filter older front) x (filter older back) (least' front x back least below fewer small)
            (AllByRecursion-filter (λ t. is_by x.inserted t ≡ false) older back none) (same x.inserted below ∙ goes)))
            (Over-behind (is_by rev) right front x back _ k (kept front x back least below fewer small)
            (rest parts.1.1 (fewer - 1) (fewer_back front x back least below fewer small)))
        | inr top ↦
            let all = all_new x.inserted (front ++ x ∷ back) top least each in
            let is : x.inserted ≡ rev = omega (arith, top, parts.1.0) in
            let nothing = none_new x.inserted back is (AllByRecursion-parts (λ t. is_by rev t ≡ true) front (x ∷ back) all).1.1 none in
            let over = rest parts.1.1 (length back) (omega (arith, ap (λ ys. length (filter older ys)) nothing)) in
            Over-new (is_by rev) right (front ++ x ∷ back) _ _ all (none_older (front ++ x ∷ back) fewer all)
            (λ _. omega (arith, over.is_at, ap length over.whole, length-append over.left over.rest, ap length nothing, length-append front (x ∷ back)))
            (λ left. absurd (both_ways right left (subst (λ n. goes_right revisions rank n ≡ true) is goes)))
      ]

  left_step : (front : List Tagged) (x : Tagged) (back : List Tagged) (k : ℕ) → AllByRecursion (λ tagged. x.inserted ≤ tagged.inserted) (front ++ x ∷ back) →
      AllByRecursion (λ tagged. is_by x.inserted tagged ≡ false) front → goes_right revisions rank x.inserted ≡ false →
      Steps front k → Steps (front ++ x ∷ back) k
  left_step front x back k least none goes rest each fewer small =
      let parts = AllByRecursion-parts (λ tagged. tagged.inserted ≤ rev) front (x ∷ back) each in
      elim (cases_lt x.inserted rev) [
        | inl below ↦
            subst (λ n. Over (is_by rev) right (front ++ x ∷ back) n k)
            (sym (was front x back least below fewer small ∙
            left_in_run-left others rank (fewer - 1) (filter older front) x (filter older back) (least' front x back least below fewer small)
            (AllByRecursion-filter (λ t. is_by x.inserted t ≡ false) older front none) (same x.inserted below ∙ goes)))
            (Over-before (is_by rev) right front (x ∷ back) _ k (kept front x back least below fewer small)
            (rest parts.0 (fewer - 1) (fewer_front front x back least below fewer small)))
        | inr top ↦
            let all = all_new x.inserted (front ++ x ∷ back) top least each in
            let is : x.inserted ≡ rev = omega (arith, top, parts.1.0) in
            let nothing = none_new x.inserted front is (AllByRecursion-parts (λ t. is_by rev t ≡ true) front (x ∷ back) all).0 none in
            let over = rest parts.0 (length front) (omega (arith, ap (λ ys. length (filter older ys)) nothing)) in
            Over-new (is_by rev) right (front ++ x ∷ back) _ _ all (none_older (front ++ x ∷ back) fewer all)
            (λ goes_not. absurd (both_ways right (subst (λ n. goes_right revisions rank n ≡ false) is goes) goes_not))
            (λ _. omega (arith, over.is_at, ap length over.whole, length-append over.left over.rest, ap length nothing))
      ]

  left_in_run-step : (run : List Tagged) → AllByRecursion (λ tagged. tagged.inserted ≤ rev) run →
      Over (is_by rev) right run (left_in_run others rank (length (filter older run)) (filter older run)) (left_in_run revisions rank (length run) run)
  left_in_run-step run each =
      left_in_run-by_cuts revisions rank Steps
      (λ _ fewer small. Over-new (is_by rev) right [] _ 0 tt (left_in_run-nil others rank fewer) (λ _. refl) (λ _. refl))
      right_step left_step (length run) run (omega arith) each (length (filter older run)) (omega arith)

  -- ONE REVISION MORE: of a block the same older characters stay left, and of the newest revision's at the insertion all, or none
  pub left_in_block-step : (base : ℕ) (characters : List Tagged) → base < rev → AllByRecursion (λ tagged. tagged.inserted ≤ rev) characters →
      Over (is_by rev) right characters (left_in_block others base rank (filter older characters)) (left_in_block revisions base rank characters)
  left_in_block-step base characters after each =
      elim (last_cut (λ tagged. not (nat_lt base tagged.inserted)) characters) [
        | inl cut ↦
            subst (λ ys. Over (is_by rev) right ys (left_in_block others base rank (filter older ys)) (left_in_block revisions base rank ys))
            (sym cut.whole)
            (behind cut.front cut.item cut.back (not-true (nat_lt base cut.item.inserted) cut.passes) (late cut.back cut.none)
            (subst (AllByRecursion (λ tagged. tagged.inserted ≤ rev)) cut.whole each))
        | inr none ↦
            subst (λ n. Over (is_by rev) right characters n (left_in_block revisions base rank characters))
            (sym (left_in_block-late others base rank (filter older characters) (AllByRecursion-filter (λ t. nat_lt base t.inserted ≡ true) older characters (late characters none))))
            (subst (Over (is_by rev) right characters _) (sym (left_in_block-late revisions base rank characters (late characters none)))
            (left_in_run-step characters each))
      ]
    where
      late : (xs : List Tagged) → AllByRecursion (λ tagged. not (nat_lt base tagged.inserted) ≡ false) xs →
          AllByRecursion (λ tagged. nat_lt base tagged.inserted ≡ true) xs
      late xs none =
          AllByRecursion-weaker (λ tagged. not (nat_lt base tagged.inserted) ≡ false) (λ tagged. nat_lt base tagged.inserted ≡ true)
          (λ tagged is. not-false (nat_lt base tagged.inserted) is) xs none

      behind : (front : List Tagged) (x : Tagged) (back : List Tagged) → nat_lt base x.inserted ≡ false →
          AllByRecursion (λ tagged. nat_lt base tagged.inserted ≡ true) back → AllByRecursion (λ tagged. tagged.inserted ≤ rev) (front ++ x ∷ back) →
          Over (is_by rev) right (front ++ x ∷ back) (left_in_block others base rank (filter older (front ++ x ∷ back)))
          (left_in_block revisions base rank (front ++ x ∷ back))
      behind front x back early all within =
          let kept : is_by rev x ≡ false = ne_eqb x.inserted rev (let low = ltb-false base x.inserted early in omega arith) in
          subst (λ n. Over (is_by rev) right (front ++ x ∷ back) n (left_in_block revisions base rank (front ++ x ∷ back)))
          (sym (ap (left_in_block others base rank) (filter-cut older front x back (not_from_false (is_by rev x) kept)) ∙
          left_in_block-cut others base rank (filter older front) x (filter older back) early
          (AllByRecursion-filter (λ t. nat_lt base t.inserted ≡ true) older back all)))
          (subst (Over (is_by rev) right (front ++ x ∷ back) _) (sym (left_in_block-cut revisions base rank front x back early all))
          (Over-behind (is_by rev) right front x back _ _ kept
          (left_in_run-step back (AllByRecursion-parts (λ tagged. tagged.inserted ≤ rev) front (x ∷ back) within).1.1)))

-- The edit step goes by blocks: each insertion place stands in the block of its gap.
use Rattle.std.proofs.Common.{◌≡◌, ℕ, zero, suc, ◌+◌, ◌-◌, ◌<◌, ◌≤◌, Bool, true, false, cond, not, ◌&&◌, if◌then◌else◌, nat_lt, ◌==◌, List, [], ◌∷◌, ◌++◌, length, map, take, drop, filter, reverse, refl, ap, ap₂, subst, sym, ◌∙◌, inl, inr, arith, append_assoc, append-nil, length-append, length-drop}
use Rattle.std.specs.List.{AllByRecursion, count_by, suffix_len, prefix_len}
use Rattle.std.proofs.lemmas.Bool.{cases_order, cases_eq, eq-eqb, eqb-true, ne_eqb, le-ltb}
use Rattle.std.proofs.lemmas.List.{reverse-append, length-reverse, length-map, take-map, drop-map}
use Rattle.std.proofs.lemmas.List.Elements.{filter-append}
use Rattle.std.proofs.lemmas.List.Folds.{prefix_len-append}
use Rattle.std.proofs.lemmas.List.Sums.{suffix_len-le-length}
use Rattle.std.proofs.Math.Seq.{drop-append-add}
use Rattle.plain_text.specs.Woven.{woven, nth_index}
use Rattle.plain_text.proofs.callers.ListLemmas.{AllByRecursion-map, woven_same, woven_nothing, filter-yes, filter-no, nth_index-here, nth_index-yes, nth_index-no, nth_index-lt, flat_map_one, flat_map_none, count_by-take-nth_index}
use Rattle.plain_edits.specs.History.{Tagged, inserted_by, History, head, is_visible, visible_at}
use Rattle.plain_edits.specs.Place.{index_right_of, later_run, left_in_run, insertion_place}
use Rattle.plain_edits.specs.Edits.{PlainEdit, gap_count, inserted_at, is_deleted_by, with_deletion, edited, insertion_rank}
use Rattle.plain_edits.specs.Change.{block}
use Rattle.plain_edits.specs.Blocks.{block_at, older_len, left_in_block, put_behind, block_after, edited_by_blocks}
use Rattle.plain_edits.proofs.callers.HistoryLemmas.{becomes}
use Rattle.plain_edits.proofs.callers.PlaceLemmas.{is_visible-inserted, left_in_run-le, insertion_place-le, insertion_place-lt}
use Rattle.plain_edits.proofs.callers.ChangeLemmas.{woven_front, block-here, block-yes, block-first, block-no}

-- ---- the characters left of a block

-- the items up to the last one that passes left of a gap
abbrev pub front : {X : Type 0} → (X → Bool) → ℕ → List X → List X
front p zero xs = []
front p (suc gap) [] = []
front p (suc gap) (x ∷ xs) = x ∷ front p (if p x then gap else suc gap) xs

module _ {X : Type 0} (p : X → Bool) where
  front-yes : (gap : ℕ) (x : X) (xs : List X) → p x ≡ true → front p (suc gap) (x ∷ xs) ≡ x ∷ front p gap xs
  front-yes gap x xs passes = ap (λ b. x ∷ front p (if b then gap else suc gap) xs) passes

  front-no : (gap : ℕ) (x : X) (xs : List X) → p x ≡ false → front p (suc gap) (x ∷ xs) ≡ x ∷ front p (suc gap) xs
  front-no gap x xs fails = ap (λ b. x ∷ front p (if b then gap else suc gap) xs) fails

  -- the index of the item right of a gap, and what stands left of it
  nth_index-front : (gap : ℕ) (xs : List X) → nth_index p gap xs ≡ length (front p gap xs) + length (block p gap xs)
  nth_index-front zero [] = refl
  nth_index-front (suc gap) [] = refl
  nth_index-front zero (x ∷ xs) = by (p x) refl (nth_index-front zero xs)
    where
      by : (b : Bool) → p x ≡ b → nth_index p 0 xs ≡ 0 + length (block p 0 xs) → nth_index p 0 (x ∷ xs) ≡ 0 + length (block p 0 (x ∷ xs))
      by true passes rest = omega (arith, nth_index-here p x xs passes, ap length (block-here p x xs passes))
      by false fails rest = omega (arith, rest, nth_index-no p 0 x xs fails, ap length (block-first p x xs fails))
  nth_index-front (suc gap) (x ∷ xs) = by (p x) refl (nth_index-front gap xs) (nth_index-front (suc gap) xs)
    where
      by : (b : Bool) → p x ≡ b → nth_index p gap xs ≡ length (front p gap xs) + length (block p gap xs) →
          nth_index p (suc gap) xs ≡ length (front p (suc gap) xs) + length (block p (suc gap) xs) →
          nth_index p (suc gap) (x ∷ xs) ≡ length (front p (suc gap) (x ∷ xs)) + length (block p (suc gap) (x ∷ xs))
      by true passes here next =
          omega (arith, here, nth_index-yes p gap x xs passes, ap length (front-yes gap x xs passes), ap length (block-yes p x xs gap passes))
      by false fails here next =
          omega (arith, next, nth_index-no p (suc gap) x xs fails, ap length (front-no gap x xs fails), ap length (block-no p x xs gap fails))

  take-nth_index : (gap : ℕ) (xs : List X) → take (nth_index p gap xs) xs ≡ front p gap xs ++ block p gap xs
  take-nth_index zero [] = refl
  take-nth_index (suc gap) [] = refl
  take-nth_index zero (x ∷ xs) = by (p x) refl (take-nth_index zero xs)
    where
      by : (b : Bool) → p x ≡ b → take (nth_index p 0 xs) xs ≡ block p 0 xs → take (nth_index p 0 (x ∷ xs)) (x ∷ xs) ≡ block p 0 (x ∷ xs)
      by true passes rest = ap (λ n. take n (x ∷ xs)) (nth_index-here p x xs passes) ∙ sym (block-here p x xs passes)
      by false fails rest =
          (let next : nth_index p 0 (x ∷ xs) ≡ suc (nth_index p 0 xs) = omega (arith, nth_index-no p 0 x xs fails) in
          ap (λ n. take n (x ∷ xs)) next) ∙ ap (λ ys. x ∷ ys) rest ∙ sym (block-first p x xs fails)
  take-nth_index (suc gap) (x ∷ xs) = by (p x) refl (take-nth_index gap xs) (take-nth_index (suc gap) xs)
    where
      by : (b : Bool) → p x ≡ b → take (nth_index p gap xs) xs ≡ front p gap xs ++ block p gap xs →
          take (nth_index p (suc gap) xs) xs ≡ front p (suc gap) xs ++ block p (suc gap) xs →
          take (nth_index p (suc gap) (x ∷ xs)) (x ∷ xs) ≡ front p (suc gap) (x ∷ xs) ++ block p (suc gap) (x ∷ xs)
      by true passes here next =
          (let more : nth_index p (suc gap) (x ∷ xs) ≡ suc (nth_index p gap xs) = omega (arith, nth_index-yes p gap x xs passes) in
          ap (λ n. take n (x ∷ xs)) more) ∙ ap (λ ys. x ∷ ys) here ∙
          ap₂ (λ ys zs. ys ++ zs) (sym (front-yes gap x xs passes)) (sym (block-yes p x xs gap passes))
      by false fails here next =
          (let more : nth_index p (suc gap) (x ∷ xs) ≡ suc (nth_index p (suc gap) xs) = omega (arith, nth_index-no p (suc gap) x xs fails) in
          ap (λ n. take n (x ∷ xs)) more) ∙ ap (λ ys. x ∷ ys) next ∙
          ap₂ (λ ys zs. ys ++ zs) (sym (front-no gap x xs fails)) (sym (block-no p x xs gap fails))

  -- the next block stands one item behind the end of this one
  front-next : (gap : ℕ) (xs : List X) → gap < length (filter p xs) → length (front p (suc gap) xs) ≡ nth_index p gap xs + 1
  front-next gap [] below = absurd (omega arith)
  front-next zero (x ∷ xs) below =
      by (p x) refl (λ fails. front-next zero xs (subst (λ ys. 0 < length ys) (filter-no p x xs fails) below))
    where
      by : (b : Bool) → p x ≡ b → (p x ≡ false → length (front p 1 xs) ≡ nth_index p 0 xs + 1) →
          length (front p 1 (x ∷ xs)) ≡ nth_index p 0 (x ∷ xs) + 1
      by true passes rest = omega (arith, ap length (front-yes 0 x xs passes), nth_index-here p x xs passes)
      by false fails rest = omega (arith, rest fails, ap length (front-no 0 x xs fails), nth_index-no p 0 x xs fails)
  front-next (suc gap) (x ∷ xs) below =
      by (p x) refl
      (λ passes. front-next gap xs
      (let fewer : suc gap < suc (length (filter p xs)) = subst (λ ys. suc gap < length ys) (filter-yes p x xs passes) below in omega (arith, fewer)))
      (λ fails. front-next (suc gap) xs (subst (λ ys. suc gap < length ys) (filter-no p x xs fails) below))
    where
      by : (b : Bool) → p x ≡ b → (p x ≡ true → length (front p (suc gap) xs) ≡ nth_index p gap xs + 1) →
          (p x ≡ false → length (front p (suc (suc gap)) xs) ≡ nth_index p (suc gap) xs + 1) →
          length (front p (suc (suc gap)) (x ∷ xs)) ≡ nth_index p (suc gap) (x ∷ xs) + 1
      by true passes here next = omega (arith, here passes, ap length (front-yes (suc gap) x xs passes), nth_index-yes p gap x xs passes)
      by false fails here next = omega (arith, next fails, ap length (front-no (suc gap) x xs fails), nth_index-no p (suc gap) x xs fails)

  -- the items of a block fail the test
  pub block_fails : (gap : ℕ) (xs : List X) → AllByRecursion (λ x. p x ≡ false) (block p gap xs)
  block_fails gap [] = tt
  block_fails zero (x ∷ xs) = by (p x) refl (block_fails zero xs)
    where
      by : (b : Bool) → p x ≡ b → AllByRecursion (λ y. p y ≡ false) (block p 0 xs) →
          AllByRecursion (λ y. p y ≡ false) (if b then [] else x ∷ block p 0 xs)
      by true passes rest = tt
      by false fails rest = (fails, rest)
  block_fails (suc gap) (x ∷ xs) = block_fails (if p x then gap else suc gap) xs

  -- a test that fails where the first one passes stops at the end of what is left of a block
  module _ (q : X → Bool) (stops : (x : X) → p x ≡ true → q x ≡ false) where
    suffix_len-append : (xs ys : List X) → suffix_len q xs ≡ 0 → suffix_len q (xs ++ ys) ≡ suffix_len q ys
    suffix_len-append xs ys none =
        ap (prefix_len q) (reverse-append xs ys) ∙ prefix_len-append q (reverse ys) (reverse xs) ∙
        by (prefix_len q (reverse ys) == length (reverse ys)) refl
      where
        by : (b : Bool) → (prefix_len q (reverse ys) == length (reverse ys)) ≡ b →
            cond b (length (reverse ys) + prefix_len q (reverse xs)) (prefix_len q (reverse ys)) ≡ prefix_len q (reverse ys)
        by true all = omega (arith, none, eqb-true (prefix_len q (reverse ys)) (length (reverse ys)) all)
        by false some = refl

    suffix_len-cons : (x : X) (xs : List X) → suffix_len q xs ≡ 0 → 0 < length xs → suffix_len q (x ∷ xs) ≡ 0
    suffix_len-cons x xs none some =
        ap (prefix_len q) (reverse-append (x ∷ []) xs) ∙ prefix_len-append q (reverse xs) (x ∷ []) ∙
        ap (λ b. cond b (length (reverse xs) + prefix_len q (x ∷ [])) (prefix_len q (reverse xs)))
        (ne_eqb (prefix_len q (reverse xs)) (length (reverse xs)) (λ same. omega (arith, none, same, some, length-reverse xs))) ∙ none

    suffix_len-front : (gap : ℕ) (xs : List X) → gap ≤ length (filter p xs) → suffix_len q (front p gap xs) ≡ 0
    suffix_len-front zero xs within = refl
    suffix_len-front (suc gap) [] within = refl
    suffix_len-front (suc gap) (x ∷ xs) within =
        by (p x) refl gap
        (λ passes. suffix_len-front gap xs
        (let fewer : suc gap ≤ suc (length (filter p xs)) = subst (λ ys. suc gap ≤ length ys) (filter-yes p x xs passes) within in omega (arith, fewer)))
        (λ fails. suffix_len-front (suc gap) xs (subst (λ ys. suc gap ≤ length ys) (filter-no p x xs fails) within))
        within
      where
        some_front : (g : ℕ) (ys : List X) → suc g ≤ length (filter p ys) → 0 < length (front p (suc g) ys)
        some_front g [] inside = absurd (omega (arith, inside))
        some_front g (y ∷ ys) inside = omega arith

        by : (b : Bool) → p x ≡ b → (g : ℕ) → (p x ≡ true → suffix_len q (front p g xs) ≡ 0) → (p x ≡ false → suffix_len q (front p (suc g) xs) ≡ 0) →
            suc g ≤ length (filter p (x ∷ xs)) → suffix_len q (front p (suc g) (x ∷ xs)) ≡ 0
        by true passes zero here next inside =
            ap (suffix_len q) (front-yes 0 x xs passes) ∙ ap (λ b. cond b (1 + 0) 0) (stops x passes)
        by true passes (suc g) here next inside =
            ap (suffix_len q) (front-yes (suc g) x xs passes) ∙
            suffix_len-cons x (front p (suc g) xs) (here passes) (some_front g xs
            (let fewer : suc (suc g) ≤ suc (length (filter p xs)) = subst (λ ys. suc (suc g) ≤ length ys) (filter-yes p x xs passes) inside in
            omega (arith, fewer)))
        by false fails g here next inside =
            ap (suffix_len q) (front-no g x xs fails) ∙
            suffix_len-cons x (front p (suc g) xs) (next fails) (some_front g xs (subst (λ ys. suc g ≤ length ys) (filter-no p x xs fails) inside))

    -- so what passes it at the end of the items left of a gap is what does at the end of the block
    suffix_len-block : (gap : ℕ) (xs : List X) → gap ≤ length (filter p xs) →
        suffix_len q (front p gap xs ++ block p gap xs) ≡ suffix_len q (block p gap xs)
    suffix_len-block gap xs within = suffix_len-append (front p gap xs) (block p gap xs) (suffix_len-front gap xs within)

  -- what stands left of a gap stands left of the blocks of the later ones
  front_past : (gap later : ℕ) (xs : List X) → gap < later → later ≤ length (filter p xs) → nth_index p gap xs < length (front p later xs)
  front_past gap zero xs before within = absurd (omega arith)
  front_past gap (suc later) xs before within =
      elim (cases_order gap later) [
        | inl same ↦ omega (arith, front-next later xs (omega arith), ap (λ g. nth_index p g xs) same)
        | inr (inl below) ↦ omega (arith, front-next later xs (omega arith), nth_index-lt p gap later xs below (omega arith))
        | inr (inr above) ↦ absurd (omega arith)
      ]

-- ---- weaving block by block

module _ {X Y : Type 0} (p : X → Bool) (between : ℕ → List Y) (at : ℕ → X → List Y) (keeps : ℕ → X → List Y) where
  -- what becomes of each block, and of each item that passes, counted from an index and a number on
  record IsByBlocks (blocks : ℕ → List Y) (index number : ℕ) (xs : List X) : Type 0 where
    gaps : (g : ℕ) → g ≤ length (filter p xs) → woven between at (index + length (front p g xs)) (block p g xs) ≡ blocks (number + g)
    items : (g : ℕ) (x : X) → g < length (filter p xs) → p x ≡ true → at (index + nth_index p g xs) x ≡ keeps (number + g) x

  -- the blocks of what is left, after an item that fails
  abbrev rest_blocks : (ℕ → List Y) → ℕ → ℕ → List X → ℕ → List Y
  rest_blocks blocks index number xs i = if i == number then woven between at (index + 1) (block p 0 xs) else blocks i

  IsByBlocks-yes : (blocks : ℕ → List Y) (index number : ℕ) (x : X) (xs : List X) → p x ≡ true →
      IsByBlocks blocks index number (x ∷ xs) → IsByBlocks blocks (index + 1) (number + 1) xs
  IsByBlocks-yes blocks index number x xs passes by = record {
    gaps = λ g within.
        let at_front : index + 1 + length (front p g xs) ≡ index + length (front p (suc g) (x ∷ xs)) =
        omega (arith, ap length (front-yes p g x xs passes)) in
        let next : number + suc g ≡ number + 1 + g = omega arith in
        ap₂ (λ i ys. woven between at i ys) at_front (sym (block-yes p x xs g passes)) ∙
        by.gaps (suc g) (subst (λ ys. suc g ≤ length ys) (sym (filter-yes p x xs passes)) (omega arith)) ∙ ap blocks next;
    items = λ g y within shown.
        let at_item : index + 1 + nth_index p g xs ≡ index + nth_index p (suc g) (x ∷ xs) = omega (arith, nth_index-yes p g x xs passes) in
        let next : number + suc g ≡ number + 1 + g = omega arith in
        ap (λ i. at i y) at_item ∙
        by.items (suc g) y (subst (λ ys. suc g < length ys) (sym (filter-yes p x xs passes)) (omega arith)) shown ∙ ap (λ n. keeps n y) next;
  }

  IsByBlocks-no : (blocks : ℕ → List Y) (index number : ℕ) (x : X) (xs : List X) → p x ≡ false →
      IsByBlocks blocks index number (x ∷ xs) → IsByBlocks (rest_blocks blocks index number xs) (index + 1) number xs
  IsByBlocks-no blocks index number x xs fails by = record {
    gaps = λ g within. gap_of g within;
    items = λ g y within shown.
        let at_item : index + 1 + nth_index p g xs ≡ index + nth_index p g (x ∷ xs) = omega (arith, nth_index-no p g x xs fails) in
        ap (λ i. at i y) at_item ∙ by.items g y (subst (λ ys. g < length ys) (sym (filter-no p x xs fails)) within) shown;
  }
    where
      gap_of : (g : ℕ) → g ≤ length (filter p xs) →
          woven between at (index + 1 + length (front p g xs)) (block p g xs) ≡
          (if number + g == number then woven between at (index + 1) (block p 0 xs) else blocks (number + g))
      gap_of zero within =
          (let none : index + 1 + 0 ≡ index + 1 = omega arith in ap (λ i. woven between at i (block p 0 xs)) none) ∙
          ap (λ b. if b then woven between at (index + 1) (block p 0 xs) else blocks (number + 0)) (sym (eq-eqb (number + 0) number (omega arith)))
      gap_of (suc g) within =
          let at_front : index + 1 + length (front p (suc g) xs) ≡ index + length (front p (suc g) (x ∷ xs)) =
          omega (arith, ap length (front-no p g x xs fails)) in
          ap₂ (λ i ys. woven between at i ys) at_front (sym (block-no p x xs g fails)) ∙
          by.gaps (suc g) (subst (λ ys. suc g ≤ length ys) (sym (filter-no p x xs fails)) within) ∙
          ap (λ b. if b then woven between at (index + 1) (block p 0 xs) else blocks (number + suc g))
          (sym (ne_eqb (number + suc g) number (λ same. omega (arith, same))))

  woven-by_blocks : (blocks : ℕ → List Y) (index number : ℕ) (xs : List X) → IsByBlocks blocks index number xs →
      woven between at index xs ≡ woven blocks keeps number (filter p xs)
  woven-by_blocks blocks index number [] by =
      (let none : index ≡ index + 0 = omega arith in ap between none) ∙ by.gaps 0 (omega arith) ∙
      (let none : number + 0 ≡ number = omega arith in ap blocks none)
  woven-by_blocks blocks index number (x ∷ xs) by =
      cases (p x) refl
      (λ passes. woven-by_blocks blocks (index + 1) (number + 1) xs (IsByBlocks-yes blocks index number x xs passes by))
      (λ fails. woven-by_blocks (rest_blocks blocks index number xs) (index + 1) number xs (IsByBlocks-no blocks index number x xs fails by))
    where
      same : index ≡ index + 0
      same = omega arith

      count : number + 0 ≡ number
      count = omega arith

      first : woven between at index (block p 0 (x ∷ xs)) ≡ blocks number
      first = ap (λ i. woven between at i (block p 0 (x ∷ xs))) same ∙ by.gaps 0 (omega arith) ∙ ap blocks count

      cases : (b : Bool) → p x ≡ b →
          (p x ≡ true → woven between at (index + 1) xs ≡ woven blocks keeps (number + 1) (filter p xs)) →
          (p x ≡ false → woven between at (index + 1) xs ≡ woven (rest_blocks blocks index number xs) keeps number (filter p xs)) →
          between index ++ (at index x ++ woven between at (index + 1) xs) ≡ woven blocks keeps number (cond b (x ∷ filter p xs) (filter p xs))
      cases true passes when_yes when_no =
          ap₂ (λ ys zs. ys ++ zs) (sym (ap (woven between at index) (block-here p x xs passes)) ∙ first)
          (ap₂ (λ ys zs. ys ++ zs)
          ((let here : index ≡ index + nth_index p 0 (x ∷ xs) = omega (arith, nth_index-here p x xs passes) in ap (λ i. at i x) here) ∙
          by.items 0 x (subst (λ ys. 0 < length ys) (sym (filter-yes p x xs passes)) (omega arith)) passes ∙ ap (λ n. keeps n x) count)
          (when_yes passes))
      cases false fails when_yes when_no =
          sym (append_assoc (between index) (at index x) (woven between at (index + 1) xs)) ∙
          ap (λ ys. (between index ++ at index x) ++ ys) (when_no fails) ∙
          sym (woven_front (between index ++ at index x) blocks (rest_blocks blocks index number xs) keeps number (filter p xs)
          (sym first ∙ ap (woven between at index) (block-first p x xs fails) ∙
          sym (append_assoc (between index) (at index x) (woven between at (index + 1) (block p 0 xs))) ∙
          ap (λ b. (between index ++ at index x) ++ (if b then woven between at (index + 1) (block p 0 xs) else blocks number)) (sym (eq-eqb number number refl)))
          (λ i above. ap (λ b. if b then woven between at (index + 1) (block p 0 xs) else blocks i) (sym (ne_eqb i number (λ is. omega (arith, is, above))))))

-- ---- one block

same_next : (a b : ℕ) → (suc a == suc b) ≡ (a == b)
same_next a b =
    elim (cases_eq a b) [
      | inl same ↦ eq-eqb (suc a) (suc b) (ap suc same) ∙ sym (eq-eqb a b same)
      | inr other ↦ ne_eqb (suc a) (suc b) (λ same. other (omega (arith, same))) ∙ sym (ne_eqb a b other)
    ]

module _ {X : Type 0} (Q : X → Type 0) (between : ℕ → List X) (at : ℕ → X → List X) (stays : (i : ℕ) (x : X) → Q x → at i x ≡ x ∷ []) where
  woven-none : (from : ℕ) (xs : List X) → ((d : ℕ) → d ≤ length xs → between (from + d) ≡ []) → AllByRecursion Q xs → woven between at from xs ≡ xs
  woven-none from [] none all = (let first : from ≡ from + 0 = omega arith in ap between first) ∙ none 0 (omega arith)
  woven-none from (x ∷ xs) none all =
      ap₂ (λ ys zs. ys ++ zs) ((let first : from ≡ from + 0 = omega arith in ap between first) ∙ none 0 (omega arith))
      (ap₂ (λ ys zs. ys ++ zs) (stays from x all.0)
      (woven-none (from + 1) xs (λ d within.
      (let next : from + 1 + d ≡ from + suc d = omega arith in ap between next) ∙ none (suc d) (omega arith)) all.1))

  woven-put : (from left : ℕ) (new : List X) (xs : List X) → left ≤ length xs →
      ((d : ℕ) → d ≤ length xs → between (from + d) ≡ (if d == left then new else [])) → AllByRecursion Q xs →
      woven between at from xs ≡ put_behind left new xs
  woven-put from zero new [] within gaps all =
      (let first : from ≡ from + 0 = omega arith in ap between first) ∙ gaps 0 (omega arith) ∙ sym (append-nil new)
  woven-put from (suc left) new [] within gaps all = absurd (omega arith)
  woven-put from zero new (x ∷ xs) within gaps all =
      ap₂ (λ ys zs. ys ++ zs) ((let first : from ≡ from + 0 = omega arith in ap between first) ∙ gaps 0 (omega arith))
      (ap₂ (λ ys zs. ys ++ zs) (stays from x all.0)
      (woven-none (from + 1) xs (λ d inside.
      (let next : from + 1 + d ≡ from + suc d = omega arith in ap between next) ∙ gaps (suc d) (omega arith) ∙
      ap (λ b. if b then new else []) (ne_eqb (suc d) 0 (λ same. omega (arith, same)))) all.1))
  woven-put from (suc left) new (x ∷ xs) within gaps all =
      ap₂ (λ ys zs. ys ++ zs) ((let first : from ≡ from + 0 = omega arith in ap between first) ∙ gaps 0 (omega arith) ∙
      ap (λ b. if b then new else []) (ne_eqb 0 (suc left) (λ same. omega (arith, same))))
      (ap₂ (λ ys zs. ys ++ zs) (stays from x all.0)
      (woven-put (from + 1) left new xs (omega arith) (λ d inside.
      (let next : from + 1 + d ≡ from + suc d = omega arith in ap between next) ∙ gaps (suc d) (omega arith) ∙
      ap (λ b. if b then new else []) (same_next d left)) all.1))

-- a weave of one item for each
pub woven-map : {X Y Z : Type 0} (between : ℕ → List Z) (at : ℕ → Y → List Z) (f : X → Y) (index : ℕ) (xs : List X) →
    woven between at index (map f xs) ≡ woven between (λ i x. at i (f x)) index xs
woven-map between at f index [] = refl
woven-map between at f index (x ∷ xs) = ap (λ ys. between index ++ (at index (f x) ++ ys)) (woven-map between at f (index + 1) xs)

-- ---- the edit step

module _ (history : History) (e : PlainEdit) where
  abbrev shown : Tagged → Bool
  shown = is_visible history.revisions e.base

  abbrev came_after : Tagged → Bool
  came_after tagged = nat_lt e.base tagged.inserted

  abbrev place : ℕ → ℕ
  place gap = insertion_place history e.base (insertion_rank e) gap

  abbrev blk : ℕ → List Tagged
  blk gap = block_at history e.base gap

  abbrev left : ℕ → ℕ
  left gap = left_in_block history.revisions e.base (insertion_rank e) (blk gap)

  came_after-stops : (tagged : Tagged) → shown tagged ≡ true → came_after tagged ≡ false
  came_after-stops tagged seen = le-ltb e.base tagged.inserted (is_visible-inserted history.revisions e.base tagged seen)

  -- the run of a gap is the end of its block
  later_run-block : (gap : ℕ) → gap ≤ length (visible_at history e.base) →
      later_run history e.base gap ≡ drop (older_len e.base (blk gap)) (blk gap)
  later_run-block gap within =
      ap (λ ys. drop (length ys - suffix_len came_after ys) ys) (take-nth_index shown gap history.characters) ∙
      ap (λ n. drop n (front shown gap history.characters ++ blk gap)) count ∙
      drop-append-add (front shown gap history.characters) (blk gap) (older_len e.base (blk gap))
    where
      count : length (front shown gap history.characters ++ blk gap) - suffix_len came_after (front shown gap history.characters ++ blk gap) ≡
          length (front shown gap history.characters) + (length (blk gap) - suffix_len came_after (blk gap))
      count =
          omega (
            arith,
            length-append (front shown gap history.characters) (blk gap),
            suffix_len-block shown came_after came_after-stops gap history.characters within,
            suffix_len-le-length came_after (blk gap),
          )

  -- THE INSERTION PLACE stands in the block of the gap
  pub insertion_place-block : (gap : ℕ) → gap ≤ length (visible_at history e.base) →
      place gap ≡ length (front shown gap history.characters) + left gap
  insertion_place-block gap within =
      ap (λ run. index_right_of history e.base gap - length run + left_in_run history.revisions (insertion_rank e) (length run) run) (later_run-block gap within) ∙
      omega (
        arith,
        nth_index-front shown gap history.characters,
        suffix_len-le-length came_after (blk gap),
        length-drop (older_len e.base (blk gap)) (blk gap),
      )

  left-le : (gap : ℕ) → left gap ≤ length (blk gap)
  left-le gap =
      let run = drop (older_len e.base (blk gap)) (blk gap) in
      omega (
        arith,
        left_in_run-le history.revisions (insertion_rank e) (length run) run,
        length-drop (older_len e.base (blk gap)) (blk gap),
        suffix_len-le-length came_after (blk gap),
      )

  -- what the edit inserts in a block stands at one place
  inserted_at-block : (gap d : ℕ) → gap ≤ length (visible_at history e.base) → d ≤ length (blk gap) →
      inserted_at history e (length (front shown gap history.characters) + d) ≡ (if d == left gap then map (inserted_by (head history + 1)) (e.added gap) else [])
  inserted_at-block gap d within inside =
      elim (cases_eq d (left gap)) [
        | inl here ↦
            flat_map_one place texts (length (front shown gap history.characters) + d) 0 (gap_count history e.base) gap (omega arith) (omega arith)
            (omega (arith, insertion_place-block gap within, here))
            (λ n low high hit. only n (omega (arith, high)) (omega (arith, hit, insertion_place-block gap within, here))) ∙
            ap (λ b. if b then texts gap else []) (sym (eq-eqb d (left gap) here))
        | inr other ↦
            flat_map_none place texts (length (front shown gap history.characters) + d) 0 (gap_count history e.base) (λ n low high hit.
            never n (omega (arith, high)) other hit) ∙
            ap (λ b. if b then texts gap else []) (sym (ne_eqb d (left gap) other))
      ]
    where
      texts : ℕ → List Tagged
      texts g = map (inserted_by (head history + 1)) (e.added g)

      only : (n : ℕ) → n ≤ length (visible_at history e.base) → place n ≡ place gap → n ≡ gap
      only n high same =
          elim (cases_order n gap) [
            | inl is ↦ is
            | inr (inl below) ↦ absurd (omega (arith, same, insertion_place-lt history e.base (insertion_rank e) n gap below within))
            | inr (inr above) ↦ absurd (omega (arith, same, insertion_place-lt history e.base (insertion_rank e) gap n above high))
          ]

      never : (n : ℕ) → n ≤ length (visible_at history e.base) → (d ≡ left gap → ⊥) →
          place n ≡ length (front shown gap history.characters) + d → ⊥
      never n high other hit =
          elim (cases_order n gap) [
            | inl is ↦ other (omega (arith, hit, ap place is, insertion_place-block gap within))
            | inr (inl below) ↦
                omega (arith, hit, insertion_place-le history e.base (insertion_rank e) n, front_past shown n gap history.characters below within)
            | inr (inr above) ↦
                omega (
                  arith,
                  hit,
                  inside,
                  insertion_place-block n high,
                  front_past shown gap n history.characters above high,
                  nth_index-front shown gap history.characters,
                )
          ]

  -- what the edit makes of a character that the base shows
  becomes-shown : (gap : ℕ) (tagged : Tagged) → gap < length (visible_at history e.base) → shown tagged ≡ true →
      becomes history e (nth_index shown gap history.characters) tagged ≡
      (if e.kept gap then tagged else with_deletion (head history + 1) tagged) ∷ []
  becomes-shown gap tagged within seen =
      ap₂ (λ b n. (if b && not (e.kept n) then with_deletion (head history + 1) tagged else tagged) ∷ []) seen
      (count_by-take-nth_index shown gap history.characters (omega arith)) ∙ turned (e.kept gap)
    where
      turned : (b : Bool) → (if not b then with_deletion (head history + 1) tagged else tagged) ∷ [] ≡
          (if b then tagged else with_deletion (head history + 1) tagged) ∷ []
      turned true = refl
      turned false = refl

  becomes-hidden : (index : ℕ) (tagged : Tagged) → shown tagged ≡ false → becomes history e index tagged ≡ tagged ∷ []
  becomes-hidden index tagged unseen =
      ap (λ b. (if b && not (e.kept (count_by shown (take index history.characters))) then with_deletion (head history + 1) tagged else tagged) ∷ []) unseen

  -- THE EDIT STEP goes by blocks
  pub characters-edited : (edited history e).characters ≡ edited_by_blocks history e
  characters-edited =
      woven-by_blocks shown (inserted_at history e) (becomes history e)
      (λ index tagged. (if e.kept index then tagged else with_deletion (head history + 1) tagged) ∷ []) (block_after history e) 0 0 history.characters
      (record {
        gaps = λ g within.
            (let none : 0 + length (front shown g history.characters) ≡ length (front shown g history.characters) = omega arith in
            ap (λ i. woven (inserted_at history e) (becomes history e) i (blk g)) none) ∙
            woven-put (λ tagged. shown tagged ≡ false) (inserted_at history e) (becomes history e) becomes-hidden (length (front shown g history.characters))
            (left g) (map (inserted_by (head history + 1)) (e.added g)) (blk g) (left-le g) (λ d inside. inserted_at-block g d within inside)
            (block_fails shown g history.characters) ∙
            (let none : g ≡ 0 + g = omega arith in ap (block_after history e) none);
        items = λ g tagged within seen.
            (let none : 0 + nth_index shown g history.characters ≡ nth_index shown g history.characters = omega arith in
            ap (λ i. becomes history e i tagged) none) ∙ becomes-shown g tagged within seen ∙
            (let none : g ≡ 0 + g = omega arith in
            ap (λ n. (if e.kept n then tagged else with_deletion (head history + 1) tagged) ∷ []) none);
      })

  -- the same of what becomes of each character: of those that the edit inserts, that stay, and that it deletes
  pub image-by_blocks : {Y : Type 0} (new stays goes : Tagged → Y) →
      woven (λ i. map new (inserted_at history e i)) (λ i tagged. (if is_deleted_by history e i tagged then goes tagged else stays tagged) ∷ []) 0
      history.characters ≡
      woven (λ gap. map stays (take (left gap) (blk gap)) ++
      (map new (map (inserted_by (head history + 1)) (e.added gap)) ++ map stays (drop (left gap) (blk gap))))
      (λ gap tagged. (if e.kept gap then stays tagged else goes tagged) ∷ []) 0 (visible_at history e.base)
  image-by_blocks {Y} new stays goes =
      woven-by_blocks shown between at keeps blocks 0 0 history.characters
      (record {
        gaps = λ g within.
            let none : 0 + length (front shown g history.characters) ≡ length (front shown g history.characters) = omega arith in
            let here : g ≡ 0 + g = omega arith in
            ap (λ i. woven between at i (blk g)) none ∙ block_of g within ∙ ap blocks here;
        items = λ g tagged within seen.
            let none : 0 + nth_index shown g history.characters ≡ nth_index shown g history.characters = omega arith in
            let here : g ≡ 0 + g = omega arith in
            ap (λ i. at i tagged) none ∙
            ap₂ (λ b n. (if b && not (e.kept n) then goes tagged else stays tagged) ∷ []) seen
            (count_by-take-nth_index shown g history.characters (omega (arith, within))) ∙
            turned (e.kept g) tagged ∙ ap (λ n. keeps n tagged) here;
      })
    where
      between : ℕ → List Y
      between i = map new (inserted_at history e i)

      at : ℕ → Tagged → List Y
      at i tagged = (if is_deleted_by history e i tagged then goes tagged else stays tagged) ∷ []

      keeps : ℕ → Tagged → List Y
      keeps gap tagged = (if e.kept gap then stays tagged else goes tagged) ∷ []

      text : ℕ → List Y
      text gap = map new (map (inserted_by (head history + 1)) (e.added gap))

      blocks : ℕ → List Y
      blocks gap = map stays (take (left gap) (blk gap)) ++ (text gap ++ map stays (drop (left gap) (blk gap)))

      turned : (b : Bool) (tagged : Tagged) → (if not b then goes tagged else stays tagged) ∷ [] ≡ (if b then stays tagged else goes tagged) ∷ []
      turned true tagged = refl
      turned false tagged = refl

      chosen : (b : Bool) (texts : List Tagged) → map new (if b then texts else []) ≡ (if b then map new texts else [])
      chosen true texts = refl
      chosen false texts = refl

      hidden : (i : ℕ) (tagged : Tagged) → shown tagged ≡ false → at i tagged ≡ stays tagged ∷ []
      hidden i tagged unseen =
          ap (λ b. (if b && not (e.kept (count_by shown (take i history.characters))) then goes tagged else stays tagged) ∷ []) unseen

      block_of : (g : ℕ) → g ≤ length (visible_at history e.base) →
          woven between at (length (front shown g history.characters)) (blk g) ≡ blocks g
      block_of g within =
          let from = length (front shown g history.characters) in
          woven_same (λ tagged. shown tagged ≡ false) between between at (λ _ tagged. stays tagged ∷ []) (λ i. refl) hidden from (blk g)
          (block_fails shown g history.characters) ∙
          sym (woven-map between (λ _ y. y ∷ []) stays from (blk g)) ∙
          woven-put (λ y. Unit {0}) between (λ _ y. y ∷ []) (λ i y _. refl) from (left g) (text g) (map stays (blk g))
          (omega (arith, left-le g, length-map (blk g) stays))
          (λ d inside.
          ap (map new) (inserted_at-block g d within (omega (arith, inside, length-map (blk g) stays))) ∙
          chosen (d == left g) (map (inserted_by (head history + 1)) (e.added g)))
          (AllByRecursion-map (λ y. Unit {0}) stays (λ tagged. tt) (blk g)) ∙
          ap₂ (λ ys zs. ys ++ (text g ++ zs)) (take-map stays (left g) (blk g)) (drop-map stays (left g) (blk g))

-- ---- lists by blocks

-- what goes through `++`, and so what becomes of each item, by blocks
pub at-by_blocks : {X Y : Type 0} (p : X → Bool) (f : List X → List Y) → f [] ≡ [] → ((x : X) (xs : List X) → f (x ∷ xs) ≡ f (x ∷ []) ++ f xs) → (xs : List X) →
    woven (λ g. f (block p g xs)) (λ _ x. f (x ∷ [])) 0 (filter p xs) ≡ f xs
at-by_blocks p f none joins xs =
    sym (woven-by_blocks p (λ _. []) (λ _ x. f (x ∷ [])) (λ _ x. f (x ∷ [])) (λ g. f (block p g xs)) 0 0 xs
    (record {
      gaps = λ g within.
          let here : g ≡ 0 + g = omega arith in
          woven_nothing f none joins (0 + length (front p g xs)) (block p g xs) ∙ ap (λ n. f (block p n xs)) here;
      items = λ g x within passes. refl;
    })) ∙
    woven_nothing f none joins 0 xs

pub map-by_blocks : {X Y : Type 0} (p : X → Bool) (f : X → Y) (xs : List X) →
    woven (λ g. map f (block p g xs)) (λ _ x. f x ∷ []) 0 (filter p xs) ≡ map f xs
map-by_blocks p f xs = at-by_blocks p (map f) refl (λ x ys. refl) xs

-- the blocks of some of the items
module _ {X : Type 0} (p q : X → Bool) (kept : (x : X) → p x ≡ true → q x ≡ true) where
  pub block-filter : (gap : ℕ) (xs : List X) → block p gap (filter q xs) ≡ filter q (block p gap xs)
  block-filter gap [] = refl
  block-filter gap (x ∷ xs) = by (λ g. block-filter g xs) gap (p x) refl (q x) refl
    where
      by : ((g : ℕ) → block p g (filter q xs) ≡ filter q (block p g xs)) → (gap : ℕ) (b : Bool) → p x ≡ b → (d : Bool) → q x ≡ d → block p gap (filter q (x ∷ xs)) ≡ filter q (block p gap (x ∷ xs))
      by rest zero true passes d is =
          ap (block p 0) (filter-yes q x xs (kept x passes)) ∙ block-here p x (filter q xs) passes ∙ sym (ap (filter q) (block-here p x xs passes))
      by rest (suc gap) true passes d is =
          ap (block p (suc gap)) (filter-yes q x xs (kept x passes)) ∙ block-yes p x (filter q xs) gap passes ∙ rest gap ∙
          sym (ap (filter q) (block-yes p x xs gap passes))
      by rest zero false fails true is =
          ap (block p 0) (filter-yes q x xs is) ∙ block-first p x (filter q xs) fails ∙ ap (λ ys. x ∷ ys) (rest 0) ∙
          sym (ap (filter q) (block-first p x xs fails) ∙ filter-yes q x (block p 0 xs) is)
      by rest zero false fails false is =
          ap (block p 0) (filter-no q x xs is) ∙ rest 0 ∙
          sym (ap (filter q) (block-first p x xs fails) ∙ filter-no q x (block p 0 xs) is)
      by rest (suc gap) false fails true is =
          ap (block p (suc gap)) (filter-yes q x xs is) ∙ block-no p x (filter q xs) gap fails ∙ rest (suc gap) ∙
          sym (ap (filter q) (block-no p x xs gap fails))
      by rest (suc gap) false fails false is =
          ap (block p (suc gap)) (filter-no q x xs is) ∙ rest (suc gap) ∙ sym (ap (filter q) (block-no p x xs gap fails))

  front-filter : (gap : ℕ) (xs : List X) → front p gap (filter q xs) ≡ filter q (front p gap xs)
  front-filter zero xs = refl
  front-filter (suc gap) [] = refl
  front-filter (suc gap) (x ∷ xs) = by (front-filter gap xs) (front-filter (suc gap) xs) (p x) refl (q x) refl
    where
      by : front p gap (filter q xs) ≡ filter q (front p gap xs) → front p (suc gap) (filter q xs) ≡ filter q (front p (suc gap) xs) →
          (b : Bool) → p x ≡ b → (d : Bool) → q x ≡ d → front p (suc gap) (filter q (x ∷ xs)) ≡ filter q (front p (suc gap) (x ∷ xs))
      by here next true passes d is =
          ap (front p (suc gap)) (filter-yes q x xs (kept x passes)) ∙ front-yes p gap x (filter q xs) passes ∙ ap (λ ys. x ∷ ys) here ∙
          sym (ap (filter q) (front-yes p gap x xs passes) ∙ filter-yes q x (front p gap xs) (kept x passes))
      by here next false fails true is =
          ap (front p (suc gap)) (filter-yes q x xs is) ∙ front-no p gap x (filter q xs) fails ∙ ap (λ ys. x ∷ ys) next ∙
          sym (ap (filter q) (front-no p gap x xs fails) ∙ filter-yes q x (front p (suc gap) xs) is)
      by here next false fails false is =
          ap (front p (suc gap)) (filter-no q x xs is) ∙ next ∙
          sym (ap (filter q) (front-no p gap x xs fails) ∙ filter-no q x (front p (suc gap) xs) is)

  -- what stands left of a gap
  pub take-nth_index-filter : (gap : ℕ) (xs : List X) →
      take (nth_index p gap (filter q xs)) (filter q xs) ≡ filter q (take (nth_index p gap xs) xs)
  take-nth_index-filter gap xs =
      take-nth_index p gap (filter q xs) ∙ ap₂ (λ ys zs. ys ++ zs) (front-filter gap xs) (block-filter gap xs) ∙
      sym (ap (filter q) (take-nth_index p gap xs) ∙ filter-append q (front p gap xs) (block p gap xs))

  pub filter-weaker : (xs : List X) → filter p (filter q xs) ≡ filter p xs
  filter-weaker [] = refl
  filter-weaker (x ∷ xs) = by (filter-weaker xs) (p x) refl (q x) refl
    where
      by : filter p (filter q xs) ≡ filter p xs → (b : Bool) → p x ≡ b → (d : Bool) → q x ≡ d → filter p (filter q (x ∷ xs)) ≡ filter p (x ∷ xs)
      by rest true passes d is =
          ap (filter p) (filter-yes q x xs (kept x passes)) ∙ filter-yes p x (filter q xs) passes ∙ ap (λ ys. x ∷ ys) rest ∙
          sym (filter-yes p x xs passes)
      by rest false fails true is =
          ap (filter p) (filter-yes q x xs is) ∙ filter-no p x (filter q xs) fails ∙ rest ∙ sym (filter-no p x xs fails)
      by rest false fails false is = ap (filter p) (filter-no q x xs is) ∙ rest ∙ sym (filter-no p x xs fails)

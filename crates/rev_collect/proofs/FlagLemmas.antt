-- Lists without some of their items, where more items are put in and deleted.
use Rattle.std.proofs.Common.{◌≡◌, ℕ, ◌+◌, Bool, true, false, cond, not, List, [], ◌∷◌, length, map, filter, refl, ap, ap₂, ◌∙◌, arith}
use Rattle.std.specs.List.{AllByRecursion}
use Rattle.subset_runs.specs.Subset.{at_each, count, expand, shrink}
use Rattle.subset_runs.proofs.ForCallers.{count_le_length}
use Rattle.plain_edits.specs.History.{Tagged}
use Rattle.plain_edits.specs.Edits.{with_deletion}
use Rattle.rev_list.specs.Edit.{with_new, with_deleted}

-- ---- new items, none of which goes

module _ {X : Type 0} (goes : X → Bool) (s : X → X) (new : X) (stays : goes new ≡ false) (same : s new ≡ new) where
  abbrev left : List X → List X
  left xs = map s (filter (λ x. not (goes x)) xs)

  abbrev gone : List X → List Bool → List Bool
  gone xs by = expand (map goes xs) by

  left-new : (xs : List X) → left (new ∷ xs) ≡ new ∷ left xs
  left-new xs =
      ap (λ b. map s (cond (not b) (new ∷ filter (λ x. not (goes x)) xs) (filter (λ x. not (goes x)) xs))) stays ∙ ap (λ y. y ∷ left xs) same

  pub left-with_new : (xs : List X) (by : List Bool) → length by ≡ length xs + count by →
      left (with_new new xs by) ≡ with_new new (left xs) (shrink by (gone xs by))
  left-with_new [] [] h = refl
  left-with_new (x ∷ xs) [] h = absurd (omega (arith, h))
  left-with_new xs (true ∷ by) h = left-new (with_new new xs by) ∙ ap (λ ys. new ∷ ys) (left-with_new xs by (omega (arith, h)))
  left-with_new [] (false ∷ by) h = absurd (omega (arith, h, count_le_length by))
  left-with_new (x ∷ xs) (false ∷ by) h = by_item (goes x) (left-with_new xs by (omega (arith, h)))
    where
      by_item : (b : Bool) → left (with_new new xs by) ≡ with_new new (left xs) (shrink by (gone xs by)) →
          map s (cond (not b) (x ∷ filter (λ x. not (goes x)) (with_new new xs by)) (filter (λ x. not (goes x)) (with_new new xs by))) ≡
          with_new new (map s (cond (not b) (x ∷ filter (λ x. not (goes x)) xs) (filter (λ x. not (goes x)) xs))) (shrink (false ∷ by) (b ∷ gone xs by))
      by_item true rest = rest
      by_item false rest = ap (λ ys. s x ∷ ys) rest

  -- the list that is left grows by what is left of the insertions
  pub length-left_new : (xs : List X) (by : List Bool) → length by ≡ length xs + count by →
      length (shrink by (gone xs by)) ≡ length (left xs) + count (shrink by (gone xs by))
  length-left_new [] [] h = refl
  length-left_new (x ∷ xs) [] h = absurd (omega (arith, h))
  length-left_new xs (true ∷ by) h = omega (arith, length-left_new xs by (omega (arith, h)))
  length-left_new [] (false ∷ by) h = absurd (omega (arith, h, count_le_length by))
  length-left_new (x ∷ xs) (false ∷ by) h = by_item (goes x) (length-left_new xs by (omega (arith, h)))
    where
      by_item : (b : Bool) → length (shrink by (gone xs by)) ≡ length (left xs) + count (shrink by (gone xs by)) →
          length (shrink (false ∷ by) (b ∷ gone xs by)) ≡
          length (map s (cond (not b) (x ∷ filter (λ x. not (goes x)) xs) (filter (λ x. not (goes x)) xs))) + count (shrink (false ∷ by) (b ∷ gone xs by))
      by_item true rest = rest
      by_item false rest = omega (arith, rest)

-- ---- one more deletion of some items

-- neither whether the item goes nor what it is left as depends on the deletion
pub record IsDeletedAlike (goes : Tagged → Bool) (s : Tagged → Tagged) (rev : ℕ) (t : Tagged) : Type 0 where
  pub goes_alike : goes (with_deletion rev t) ≡ goes t
  pub left_alike : s (with_deletion rev t) ≡ with_deletion rev (s t)

module _ (goes : Tagged → Bool) (s : Tagged → Tagged) (rev : ℕ) where
  abbrev sifted : List Tagged → List Tagged
  sifted xs = map s (filter (λ t. not (goes t)) xs)

  pub left-with_deleted : (xs : List Tagged) (at : List Bool) → length at ≡ length xs → AllByRecursion (IsDeletedAlike goes s rev) xs →
      sifted (with_deleted rev xs at) ≡ with_deleted rev (sifted xs) (shrink at (map goes xs))
  left-with_deleted [] at h all = refl
  left-with_deleted (x ∷ xs) [] h all = absurd (omega (arith, h))
  left-with_deleted (x ∷ xs) (true ∷ at) h all =
      ap (λ b. map s (cond (not b) (with_deletion rev x ∷ filter (λ t. not (goes t)) (with_deleted rev xs at)) (filter (λ t. not (goes t)) (with_deleted rev xs at))))
      all.0.goes_alike ∙ by_item (goes x) (left-with_deleted xs at (omega (arith, h)) all.1)
    where
      by_item : (b : Bool) → sifted (with_deleted rev xs at) ≡ with_deleted rev (sifted xs) (shrink at (map goes xs)) →
          map s (cond (not b) (with_deletion rev x ∷ filter (λ t. not (goes t)) (with_deleted rev xs at)) (filter (λ t. not (goes t)) (with_deleted rev xs at))) ≡
          with_deleted rev (map s (cond (not b) (x ∷ filter (λ t. not (goes t)) xs) (filter (λ t. not (goes t)) xs))) (shrink (true ∷ at) (b ∷ map goes xs))
      by_item true rest = rest
      by_item false rest = ap₂ (λ y ys. y ∷ ys) all.0.left_alike rest
  left-with_deleted (x ∷ xs) (false ∷ at) h all = by_item (goes x) (left-with_deleted xs at (omega (arith, h)) all.1)
    where
      by_item : (b : Bool) → sifted (with_deleted rev xs at) ≡ with_deleted rev (sifted xs) (shrink at (map goes xs)) →
          map s (cond (not b) (x ∷ filter (λ t. not (goes t)) (with_deleted rev xs at)) (filter (λ t. not (goes t)) (with_deleted rev xs at))) ≡
          with_deleted rev (map s (cond (not b) (x ∷ filter (λ t. not (goes t)) xs) (filter (λ t. not (goes t)) xs))) (shrink (false ∷ at) (b ∷ map goes xs))
      by_item true rest = rest
      by_item false rest = ap (λ ys. s x ∷ ys) rest

  pub goes-with_deleted : (xs : List Tagged) (at : List Bool) → AllByRecursion (IsDeletedAlike goes s rev) xs →
      map goes (with_deleted rev xs at) ≡ map goes xs
  goes-with_deleted [] at all = refl
  goes-with_deleted (x ∷ xs) [] all = refl
  goes-with_deleted (x ∷ xs) (true ∷ at) all = ap₂ (λ b bs. b ∷ bs) all.0.goes_alike (goes-with_deleted xs at all.1)
  goes-with_deleted (x ∷ xs) (false ∷ at) all = ap (λ bs. goes x ∷ bs) (goes-with_deleted xs at all.1)

-- ---- flags without some positions

pub length-shrink_same : (xs ys by : List Bool) → length xs ≡ length ys → length (shrink xs by) ≡ length (shrink ys by)
length-shrink_same xs ys [] same = refl
length-shrink_same [] [] (b ∷ by) same = refl
length-shrink_same [] (y ∷ ys) (b ∷ by) same = absurd (omega (arith, same))
length-shrink_same (x ∷ xs) [] (b ∷ by) same = absurd (omega (arith, same))
length-shrink_same (x ∷ xs) (y ∷ ys) (true ∷ by) same = length-shrink_same xs ys by (omega (arith, same))
length-shrink_same (x ∷ xs) (y ∷ ys) (false ∷ by) same = omega (arith, length-shrink_same xs ys by (omega (arith, same)))

pub shrink-at_each : (f : Bool → Bool → Bool) (xs ys by : List Bool) → length xs ≡ length by → length ys ≡ length by →
    shrink (at_each f xs ys) by ≡ at_each f (shrink xs by) (shrink ys by)
shrink-at_each f xs ys [] one other = refl
shrink-at_each f [] ys (b ∷ by) one other = absurd (omega (arith, one))
shrink-at_each f (x ∷ xs) [] (b ∷ by) one other = absurd (omega (arith, other))
shrink-at_each f (x ∷ xs) (y ∷ ys) (true ∷ by) one other = shrink-at_each f xs ys by (omega (arith, one)) (omega (arith, other))
shrink-at_each f (x ∷ xs) (y ∷ ys) (false ∷ by) one other =
    ap (λ rest. f x y ∷ rest) (shrink-at_each f xs ys by (omega (arith, one)) (omega (arith, other)))

pub expand-shrink : (dead gone by : List Bool) → length dead ≡ length gone → length by ≡ length dead + count by →
    expand (shrink dead gone) (shrink by (expand gone by)) ≡ shrink (expand dead by) (expand gone by)
expand-shrink [] [] [] same h = refl
expand-shrink [] (g ∷ gone) by same h = absurd (omega (arith, same))
expand-shrink (d ∷ dead) [] by same h = absurd (omega (arith, same))
expand-shrink (d ∷ dead) (g ∷ gone) [] same h = absurd (omega (arith, h))
expand-shrink [] [] (false ∷ by) same h = absurd (omega (arith, h, count_le_length by))
expand-shrink [] [] (true ∷ by) same h = ap (λ rest. false ∷ rest) (expand-shrink [] [] by same (omega (arith, h)))
expand-shrink (d ∷ dead) (g ∷ gone) (true ∷ by) same h = ap (λ rest. false ∷ rest) (expand-shrink (d ∷ dead) (g ∷ gone) by same (omega (arith, h)))
expand-shrink (d ∷ dead) (true ∷ gone) (false ∷ by) same h = expand-shrink dead gone by (omega (arith, same)) (omega (arith, h))
expand-shrink (d ∷ dead) (false ∷ gone) (false ∷ by) same h =
    ap (λ rest. d ∷ rest) (expand-shrink dead gone by (omega (arith, same)) (omega (arith, h)))

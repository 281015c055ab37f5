-- What one more edit does to the characters, item by item.
use Rattle.std.proofs.Common.{◌≡◌, ℕ, ◌+◌, ◌<◌, ◌≤◌, Bool, true, false, cond, ◌||◌, List, [], ◌∷◌, ◌++◌, length, map, refl, ap, ap₂, sym, ◌∙◌, arith}
use Rattle.std.specs.Prelude.{suc, zero, replicate, ◌==◌}
use Rattle.std.specs.List.{filter, AllByRecursion}
use Rattle.subset_runs.specs.Subset.{count, union, expand_as}
use Rattle.subset_runs.proofs.ForCallers.{count_le_length}
use Rattle.plain_text.specs.Numbers.{has}
use Rattle.plain_edits.specs.History.{Tagged, IsTaggedBy}
use Rattle.plain_edits.specs.Edits.{with_deletion}
use Rattle.rev_list.specs.Edit.{new_by, with_new, with_deleted}
use Rattle.plain_edits.specs.History.{is_there}
use Rattle.rev_list.proofs.TagLemmas.{there_new_before, there_by, not_inserted_later, has_deleted_now, has_no_later}

pub length-with_new : {X : Type 0} (new : X) (xs : List X) (by : List Bool) → length by ≡ length xs + count by → length (with_new new xs by) ≡ length by
length-with_new new [] [] h = refl
length-with_new new (x ∷ xs) [] h = absurd (omega arith)
length-with_new new xs (true ∷ by) h = omega (arith, length-with_new new xs by (omega arith))
length-with_new new [] (false ∷ by) h = absurd (omega (arith, count_le_length by))
length-with_new new (x ∷ xs) (false ∷ by) h = omega (arith, length-with_new new xs by (omega arith))

-- a flag of each item of the longer list
pub map-with_new : {X : Type 0} (f : X → Bool) (new : X) (xs : List X) (by : List Bool) → length by ≡ length xs + count by → map f (with_new new xs by) ≡ expand_as (f new) (map f xs) by
map-with_new f new [] [] h = refl
map-with_new f new (x ∷ xs) [] h = absurd (omega arith)
map-with_new f new xs (true ∷ by) h = ap (λ rest. f new ∷ rest) (map-with_new f new xs by (omega arith))
map-with_new f new [] (false ∷ by) h = absurd (omega (arith, count_le_length by))
map-with_new f new (x ∷ xs) (false ∷ by) h = ap (λ rest. f x ∷ rest) (map-with_new f new xs by (omega arith))

-- a flag that the deletion does not change
pub map-with_deleted_same : (f : Tagged → Bool) (rev : ℕ) → ((t : Tagged) → f (with_deletion rev t) ≡ f t) → (xs : List Tagged) (at : List Bool) → map f (with_deleted rev xs at) ≡ map f xs
map-with_deleted_same f rev same [] at = refl
map-with_deleted_same f rev same (x ∷ xs) [] = refl
map-with_deleted_same f rev same (x ∷ xs) (true ∷ at) =
    let first = same x in
    let rest = map-with_deleted_same f rev same xs at in
    cc
map-with_deleted_same f rev same (x ∷ xs) (false ∷ at) = ap (λ rest. f x ∷ rest) (map-with_deleted_same f rev same xs at)

-- the same for the characters that were there at an earlier revision
filter_cons : (f : Tagged → Bool) (b : Bool) (x y : Tagged) (xs ys : List Tagged) → f x ≡ f y → map f xs ≡ map f ys → map f (cond b (x ∷ xs) xs) ≡ map f (cond b (y ∷ ys) ys)
filter_cons f true x y xs ys e h = cc
filter_cons f false x y xs ys e h = h

pub filter-with_deleted_same : (f : Tagged → Bool) (rev n : ℕ) → ((t : Tagged) → f (with_deletion rev t) ≡ f t) → (xs : List Tagged) (at : List Bool) → map f (filter (is_there n) (with_deleted rev xs at)) ≡ map f (filter (is_there n) xs)
filter-with_deleted_same f rev n same [] at = refl
filter-with_deleted_same f rev n same (x ∷ xs) [] = refl
filter-with_deleted_same f rev n same (x ∷ xs) (true ∷ at) =
    filter_cons f (is_there n x) _ _ _ _ (same x) (filter-with_deleted_same f rev n same xs at)
filter-with_deleted_same f rev n same (x ∷ xs) (false ∷ at) =
    filter_cons f (is_there n x) _ _ _ _ refl (filter-with_deleted_same f rev n same xs at)

pub filter-with_new : (rev n : ℕ) (xs : List Tagged) (by : List Bool) → n < rev → length by ≡ length xs + count by → filter (is_there n) (with_new (new_by rev) xs by) ≡ filter (is_there n) xs
filter-with_new rev n [] [] lt h = refl
filter-with_new rev n (x ∷ xs) [] lt h = absurd (omega arith)
filter-with_new rev n xs (true ∷ by) lt h =
    ap (λ b. cond b (new_by rev ∷ filter (is_there n) (with_new (new_by rev) xs by)) (filter (is_there n) (with_new (new_by rev) xs by))) (there_new_before rev n lt)
    ∙ filter-with_new rev n xs by lt (omega arith)
filter-with_new rev n [] (false ∷ by) lt h = absurd (omega (arith, count_le_length by))
filter-with_new rev n (x ∷ xs) (false ∷ by) lt h =
    ap (λ rest. cond (is_there n x) (x ∷ rest) rest) (filter-with_new rev n xs by lt (omega arith))

-- all are there at the revision by which they are tagged
pub filter-there : (rev : ℕ) (xs : List Tagged) → AllByRecursion (IsTaggedBy rev) xs → filter (is_there rev) xs ≡ xs
filter-there rev [] by = refl
filter-there rev (x ∷ xs) by =
    ap (λ b. cond b (x ∷ filter (is_there rev) xs) (filter (is_there rev) xs)) (there_by rev x.inserted by.0.inserted)
    ∙ ap (λ rest. x ∷ rest) (filter-there rev xs by.1)

-- ---- tags of the longer list

later_tags : (rev next : ℕ) (deleted : List ℕ) → rev ≤ next → AllByRecursion (λ k. k ≤ rev) deleted → AllByRecursion (λ k. k ≤ next) deleted
later_tags rev next [] h by = tt
later_tags rev next (k ∷ deleted) h by = (omega (arith, by.0), later_tags rev next deleted h by.1)

more_tags : (rev : ℕ) (deleted : List ℕ) → AllByRecursion (λ k. k ≤ rev) deleted → AllByRecursion (λ k. k ≤ rev) (deleted ++ rev ∷ [])
more_tags rev [] by = (omega arith, tt)
more_tags rev (k ∷ deleted) by = (by.0, more_tags rev deleted by.1)

pub tagged_later : (rev next : ℕ) (xs : List Tagged) → rev ≤ next → AllByRecursion (IsTaggedBy rev) xs → AllByRecursion (IsTaggedBy next) xs
tagged_later rev next [] h by = tt
tagged_later rev next (x ∷ xs) h by =
    (record { inserted = omega (arith, by.0.inserted); deleted = later_tags rev next x.deleted h by.0.deleted }, tagged_later rev next xs h by.1)

pub tagged-with_new : (rev : ℕ) (xs : List Tagged) (by : List Bool) → AllByRecursion (IsTaggedBy rev) xs → AllByRecursion (IsTaggedBy rev) (with_new (new_by rev) xs by)
tagged-with_new rev xs [] all = tt
tagged-with_new rev xs (true ∷ by) all = (record { inserted = omega arith; deleted = tt }, tagged-with_new rev xs by all)
tagged-with_new rev [] (false ∷ by) all = tt
tagged-with_new rev (x ∷ xs) (false ∷ by) all = (all.0, tagged-with_new rev xs by all.1)

pub tagged-with_deleted : (rev : ℕ) (xs : List Tagged) (at : List Bool) → AllByRecursion (IsTaggedBy rev) xs → AllByRecursion (IsTaggedBy rev) (with_deleted rev xs at)
tagged-with_deleted rev [] at all = tt
tagged-with_deleted rev (x ∷ xs) [] all = all
tagged-with_deleted rev (x ∷ xs) (true ∷ at) all =
    (record { inserted = all.0.inserted; deleted = more_tags rev x.deleted all.0.deleted }, tagged-with_deleted rev xs at all.1)
tagged-with_deleted rev (x ∷ xs) (false ∷ at) all = (all.0, tagged-with_deleted rev xs at all.1)

-- ---- what is hidden

or_true : (b : Bool) → (b || true) ≡ true
or_true true = refl
or_true false = refl

or_false : (b : Bool) → (b || false) ≡ b
or_false true = refl
or_false false = refl

-- a flag that each deletion sets
pub map-with_deleted_set : (f : Tagged → Bool) (rev : ℕ) → ((t : Tagged) → f (with_deletion rev t) ≡ true) → (xs : List Tagged) (at : List Bool) → length at ≡ length xs → map f (with_deleted rev xs at) ≡ union (map f xs) at
map-with_deleted_set f rev set [] [] h = refl
map-with_deleted_set f rev set [] (flag ∷ at) h = refl
map-with_deleted_set f rev set (x ∷ xs) [] h = absurd (omega arith)
map-with_deleted_set f rev set (x ∷ xs) (true ∷ at) h =
    ap₂ (λ b rest. b ∷ rest) (set x ∙ sym (or_true (f x))) (map-with_deleted_set f rev set xs at (omega arith))
map-with_deleted_set f rev set (x ∷ xs) (false ∷ at) h =
    ap₂ (λ b rest. b ∷ rest) (sym (or_false (f x))) (map-with_deleted_set f rev set xs at (omega arith))

-- ---- which are the insertions and deletions

pub none_inserted_later : (rev next : ℕ) (xs : List Tagged) → rev < next → AllByRecursion (IsTaggedBy rev) xs → map (λ t. t.inserted == next) xs ≡ replicate (length xs) false
none_inserted_later rev next [] h by = refl
none_inserted_later rev next (x ∷ xs) h by =
    let first = not_inserted_later rev next x h by.0 in
    let rest = none_inserted_later rev next xs h by.1 in
    cc

-- and of the characters that are there a later revision deletes none
pub none_deleted_later : (rev next : ℕ) (xs : List Tagged) → rev < next → AllByRecursion (IsTaggedBy rev) xs → map (λ t. has t.deleted next) xs ≡ replicate (length xs) false
none_deleted_later rev next [] h by = refl
none_deleted_later rev next (x ∷ xs) h by =
    ap₂ (λ b rest. b ∷ rest) (has_no_later rev next x.deleted h by.0.deleted) (none_deleted_later rev next xs h by.1)

pub expand_in_none : (n : ℕ) (by : List Bool) → length by ≡ n + count by → expand_as true (replicate n false) by ≡ by
expand_in_none zero [] h = refl
expand_in_none (suc n) [] h = absurd (omega arith)
expand_in_none n (true ∷ by) h = ap (λ rest. true ∷ rest) (expand_in_none n by (omega arith))
expand_in_none zero (false ∷ by) h = absurd (omega (arith, count_le_length by))
expand_in_none (suc n) (false ∷ by) h = ap (λ rest. false ∷ rest) (expand_in_none n by (omega arith))

-- no character of the list is deleted by the revision
pub none_deleted_by : (rev next : ℕ) (xs : List Tagged) (by : List Bool) → rev < next → AllByRecursion (IsTaggedBy rev) xs → AllByRecursion (λ t. has t.deleted next ≡ false) (with_new (new_by next) xs by)
none_deleted_by rev next xs [] h all = tt
none_deleted_by rev next xs (true ∷ by) h all = (refl, none_deleted_by rev next xs by h all)
none_deleted_by rev next [] (false ∷ by) h all = tt
none_deleted_by rev next (x ∷ xs) (false ∷ by) h all =
    (has_no_later rev next x.deleted h all.0.deleted, none_deleted_by rev next xs by h all.1)

pub deletions-with_deleted : (rev : ℕ) (xs : List Tagged) (at : List Bool) → length at ≡ length xs → AllByRecursion (λ t. has t.deleted rev ≡ false) xs → map (λ t. has t.deleted rev) (with_deleted rev xs at) ≡ at
deletions-with_deleted rev [] [] h none = refl
deletions-with_deleted rev [] (flag ∷ at) h none = absurd (omega arith)
deletions-with_deleted rev (x ∷ xs) [] h none = absurd (omega arith)
deletions-with_deleted rev (x ∷ xs) (true ∷ at) h none =
    let first = has_deleted_now rev x in
    let rest = deletions-with_deleted rev xs at (omega arith) none.1 in
    cc
deletions-with_deleted rev (x ∷ xs) (false ∷ at) h none =
    let first = none.0 in
    let rest = deletions-with_deleted rev xs at (omega arith) none.1 in
    cc

-- What is collected is collected once: right after a collection there is nothing to collect.
use Rattle.std.proofs.Common.{◌≡◌, ◌⊎◌, ℕ, Bool, true, false, not, ◌&&◌, ◌||◌, ◌==◌, cond, List, [], ◌∷◌, Option, Some, None, refl, ap, sym, ◌∙◌, inl, inr}
use Rattle.std.specs.List.{fold, filter, AllByRecursion}
use Rattle.std.specs.Ordering.{nat_cmp}
use Rattle.std.specs.BTreeMap.{is_at}
use Rattle.std.proofs.lemmas.Bool.{eq-eqb}
use Rattle.plain_text.specs.Numbers.{has, with_number, without_number}
use Rattle.plain_text.proofs.callers.ListLemmas.{AllByRecursion-weaker, filter_none}
use Rattle.plain_text.proofs.callers.NumberLemmas.{has-with_numbers}
use Rattle.plain_edits.specs.Collection.{Collection, clean_floor, collected_at, collection_at, is_at_rest, resting_groups}
use Rattle.plain_edits.specs.History.{History, head}
use Rattle.undo_groups.specs.Groups.{Groups, forgotten}
use Rattle.doc_text.specs.Collecting.{HasNoneLeft, collected_text, collection_after, least_acknowledged, with_collection}
use Rattle.doc_text.specs.Writing.{Writing}

-- a collection is of these groups
collection_is : (floor : ℕ) (groups : List ℕ) (collection : Collection) → collection_at floor groups ≡ Some collection → collection.groups ≡ groups
collection_is floor [] collection is = absurd cc
collection_is floor (group ∷ groups) collection is =
    let same : record { floor = floor; groups = group ∷ groups } ≡ collection = cc in ap (λ (c : Collection). c.groups) (sym same)

-- and where there is none, there are no groups
none_at : (floor : ℕ) (groups : List ℕ) → collection_at floor groups ≡ None → groups ≡ []
none_at floor [] none = refl
none_at floor (group ∷ groups) none = absurd cc

-- ---- what a list and a stack of groups leave

All-without : (P : ℕ → Type 0) (n : ℕ) (xs : List ℕ) → AllByRecursion P xs → AllByRecursion P (without_number xs n)
All-without P n [] all = tt
All-without P n (x ∷ xs) all = by (is_at (nat_cmp n) x) (All-without P n xs all.1)
  where
    by : (b : Bool) → AllByRecursion P (without_number xs n) → AllByRecursion P (cond b xs (x ∷ without_number xs n))
    by true rest = all.1
    by false rest = (all.0, rest)

All-forgotten : (P : ℕ → Type 0) (groups : List ℕ) (s : Groups) → AllByRecursion P s.retired → AllByRecursion P (fold forgotten s groups).retired
All-forgotten P [] s all = all
All-forgotten P (group ∷ groups) s all = All-forgotten P groups (forgotten s group) (All-without P group s.retired all)

-- each number of a list fails a test, or is one of those that pass it
parted_by : (test : ℕ → Bool) (xs : List ℕ) → AllByRecursion (λ x. (test x ≡ false) ⊎ (has (filter test xs) x ≡ true)) xs
parted_by test [] = tt
parted_by test (x ∷ xs) = by (test x) refl (parted_by test xs)
  where
    Parted : List ℕ → ℕ → Type 0
    Parted passed y = (test y ≡ false) ⊎ (has passed y ≡ true)

    more : (y : ℕ) → Parted (filter test xs) y → Parted (x ∷ filter test xs) y
    more y (inl fails) = inl fails
    more y (inr there) = inr (ap (λ b. (x == y) || b) there ∙ or_true (x == y))
      where
        or_true : (b : Bool) → (b || true) ≡ true
        or_true true = refl
        or_true false = refl

    by : (b : Bool) → test x ≡ b → AllByRecursion (Parted (filter test xs)) xs →
        Parted (cond b (x ∷ filter test xs) (filter test xs)) x × AllByRecursion (Parted (cond b (x ∷ filter test xs) (filter test xs))) xs
    by true passes rest =
        (inr (ap (λ b. b || has (filter test xs) x) (eq-eqb x x refl)), AllByRecursion-weaker (Parted (filter test xs)) (Parted (x ∷ filter test xs)) more xs rest)
    by false fails rest = (inl fails, rest)

-- ---- a second collection

spent_test : (a b r : Bool) → ((not a && r) ≡ false) ⊎ (b ≡ true) → (not (a || b) && r) ≡ false
spent_test true b r is = refl
spent_test false true r is = refl
spent_test false false r (inl is) = is
spent_test false false r (inr is) = absurd cc

-- where nothing waits, nothing is collected
pub nothing_after : (d : Writing) → HasNoneLeft d → collection_after d ≡ None
nothing_after d none =
    ap (collection_at (clean_floor d.history.revisions (least_acknowledged (head d.history) d.sessions))) none

pub HasNoneLeft-collected : (d : Writing) → HasNoneLeft (collected_text d)
HasNoneLeft-collected d = by (collection_after d) refl
  where
    h : History
    h = d.history

    floor : ℕ
    floor = clean_floor h.revisions (least_acknowledged (head h) d.sessions)

    test : ℕ → Bool
    test group = not (has h.collected group) && is_at_rest h floor group

    none_left : (groups : List ℕ) → groups ≡ resting_groups h d.groups.retired floor →
        resting_groups (collected_at h floor groups) (fold forgotten d.groups groups).retired floor ≡ []
    none_left groups are =
        let fails : (group : ℕ) → (test group ≡ false) ⊎ (has (filter test d.groups.retired) group ≡ true) →
        (not (has (fold with_number h.collected groups) group) && is_at_rest h floor group) ≡ false =
        λ group either. ap (λ b. not b && is_at_rest h floor group) (has-with_numbers h.collected groups group) ∙
        spent_test (has h.collected group) (has groups group) (is_at_rest h floor group)
        (elim either [ inl fails ↦ inl fails | inr there ↦ inr (ap (λ gs. has gs group) are ∙ there) ]) in
        filter_none (λ group. not (has (fold with_number h.collected groups) group) && is_at_rest h floor group) (fold forgotten d.groups groups).retired
        (All-forgotten (λ group. (not (has (fold with_number h.collected groups) group) && is_at_rest h floor group) ≡ false) groups d.groups
        (AllByRecursion-weaker (λ group. (test group ≡ false) ⊎ (has (filter test d.groups.retired) group ≡ true))
        (λ group. (not (has (fold with_number h.collected groups) group) && is_at_rest h floor group) ≡ false) fails d.groups.retired
        (parted_by test d.groups.retired)))

    by : (found : Option Collection) → collection_after d ≡ found → HasNoneLeft (with_collection d found)
    by None is = none_at floor (resting_groups h d.groups.retired floor) is
    by (Some collection) is =
        none_left collection.groups (collection_is floor (resting_groups h d.groups.retired floor) collection is)

pub collected_once : (d : Writing) → collection_after (collected_text d) ≡ None
collected_once d = nothing_after (collected_text d) (HasNoneLeft-collected d)

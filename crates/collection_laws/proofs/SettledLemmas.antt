-- The revisions of what is left: their groups, what is undone at them, and what they show.
use Rattle.std.proofs.Common.{◌≡◌, ℕ, zero, suc, ◌+◌, ◌-◌, ◌<◌, ◌≤◌, Bool, true, false, cond, not, ◌&&◌, ◌||◌, if◌then◌else◌, nat_lt, ◌==◌, List, [], ◌∷◌, ◌++◌, length, map, take, drop, filter, Option, Some, slice_get, refl, ap, ap₂, subst, sym, ◌∙◌, inl, inr, arith, length-append, length-drop}
use Rattle.std.specs.Prelude.{◌⊎◌}
use Rattle.std.specs.List.{AllByRecursion, list_all, list_any, range_with_len}
use Rattle.std.proofs.lemmas.Bool.{both_ways, and_parts, and_from, and_left, and_right, or_cases, cases_lt, cases_eq, eq-eqb, eqb-true, ne_eqb, lt-ltb, le-ltb}
use Rattle.std.proofs.lemmas.List.{take-append-drop}
use Rattle.std.proofs.lemmas.List.FromFn.{length-map-range_with_len, get_or-map-range_with_len}
use Rattle.std.proofs.lemmas.Option.{slice_get-get_or}
use Rattle.std.proofs.Math.Seq.{drop-append-add, take-append-add}
use Rattle.plain_text.specs.Numbers.{has, IsRising}
use Rattle.plain_text.proofs.callers.NumberLemmas.{has-with_numbers, IsRising-with_numbers}
use Rattle.plain_edits.specs.History.{Revision, edit, undo, History, head, revision_at, edit_group, group_of, undone_after, undone}
use Rattle.plain_edits.specs.Collection.{is_collected}
use Rattle.plain_edits.specs.HistorySteps.{is_edit, IsWellFormed}
use Rattle.plain_edits.proofs.callers.HistoryLemmas.{slice_get-append, undone_after-append}
use Rattle.collection_laws.specs.Left.{edits_group, last_edit, settled_rev, settled_deletions, settled_revision, left_of}
use Rattle.collection_laws.proofs.ListLemmas.{all_from_has, list_all_members}
use Rattle.collection_laws.proofs.GuardLemmas.{drop-drop}
use Rattle.collection_laws.proofs.DroppedLemmas.{edit_by_floor, slice_get-drop}

-- ---- the last edit of a group

module _ (revisions : List Revision) (group : ℕ) where
  pub last_edit-le : (most : ℕ) → last_edit revisions group most ≤ most
  last_edit-le zero = omega arith
  last_edit-le (suc most) = by (edits_group revisions group (suc most)) (last_edit-le most)
    where
      by : (b : Bool) → last_edit revisions group most ≤ most → (if b then suc most else last_edit revisions group most) ≤ suc most
      by true below = omega arith
      by false below = omega (arith, below)

  pub edits-last_edit : (most : ℕ) → 0 < last_edit revisions group most → edits_group revisions group (last_edit revisions group most) ≡ true
  edits-last_edit zero some = absurd (omega (arith, some))
  edits-last_edit (suc most) some = by (edits_group revisions group (suc most)) refl some (edits-last_edit most)
    where
      by : (b : Bool) → edits_group revisions group (suc most) ≡ b → 0 < (if b then suc most else last_edit revisions group most) →
          (0 < last_edit revisions group most → edits_group revisions group (last_edit revisions group most) ≡ true) →
          edits_group revisions group (if b then suc most else last_edit revisions group most) ≡ true
      by true is above rest = is
      by false other above rest = rest above

  pub le-last_edit : (rev most : ℕ) → edits_group revisions group rev ≡ true → rev ≤ most → rev ≤ last_edit revisions group most
  le-last_edit rev zero is within = within
  le-last_edit rev (suc most) is within =
      by (edits_group revisions group (suc most)) refl (λ below. le-last_edit rev most is below)
    where
      by : (b : Bool) → edits_group revisions group (suc most) ≡ b → (rev ≤ most → rev ≤ last_edit revisions group most) →
          rev ≤ (if b then suc most else last_edit revisions group most)
      by true here rest = within
      by false other rest =
          elim (cases_eq rev (suc most)) [
            | inl same ↦ absurd (both_ways _ other (subst (λ r. edits_group revisions group r ≡ true) same is))
            | inr differs ↦ rest (omega (arith, within, differs))
          ]

-- ---- a revision as it is settled

module _ (history : History) (rev : ℕ) where
  abbrev stands : Bool
  stands = is_edit (revision_at history.revisions rev) && not (is_collected history rev)

  pub settled_rev-after : history.floor < rev → settled_rev history rev ≡ rev
  settled_rev-after past =
      ap (λ b. if b then rev else (if stands then last_edit history.revisions (group_of history.revisions rev) history.floor else 0))
      (lt-ltb history.floor rev past)

  pub settled_rev-by : rev ≤ history.floor →
      settled_rev history rev ≡ (if stands then last_edit history.revisions (group_of history.revisions rev) history.floor else 0)
  settled_rev-by within =
      ap (λ b. if b then rev else (if stands then last_edit history.revisions (group_of history.revisions rev) history.floor else 0))
      (le-ltb history.floor rev within)

  pub settled_rev-none : rev ≤ history.floor → stands ≡ false → settled_rev history rev ≡ 0
  settled_rev-none within is =
      settled_rev-by within ∙ ap (λ b. if b then last_edit history.revisions (group_of history.revisions rev) history.floor else 0) is

  pub settled_rev-last : rev ≤ history.floor → stands ≡ true →
      settled_rev history rev ≡ last_edit history.revisions (group_of history.revisions rev) history.floor
  settled_rev-last within is =
      settled_rev-by within ∙ ap (λ b. if b then last_edit history.revisions (group_of history.revisions rev) history.floor else 0) is

-- ---- the deletions as they are settled

has-filter : (p : ℕ → Bool) (xs : List ℕ) (n : ℕ) → has (filter p xs) n ≡ (p n && has xs n)
has-filter p [] n = sym (and_right (p n) false refl)
has-filter p (x ∷ xs) n = by (p x) refl (has-filter p xs n)
  where
    by : (b : Bool) → p x ≡ b → has (filter p xs) n ≡ (p n && has xs n) →
        has (cond b (x ∷ filter p xs) (filter p xs)) n ≡ (p n && (x == n || has xs n))
    by true passes rest =
        elim (cases_eq x n) [
          | inl same ↦
              ap (λ c. c || has (filter p xs) n) (eq-eqb x n same) ∙
              sym (ap₂ (λ a c. a && (c || has xs n)) (ap p (sym same) ∙ passes) (eq-eqb x n same))
          | inr other ↦
              ap (λ c. c || has (filter p xs) n) (ne_eqb x n other) ∙ rest ∙ sym (ap (λ c. p n && (c || has xs n)) (ne_eqb x n other))
        ]
    by false fails rest =
        elim (cases_eq x n) [
          | inl same ↦
              let none : p n ≡ false = ap p (sym same) ∙ fails in
              rest ∙ ap (λ a. a && has xs n) none ∙ sym (ap (λ a. a && (x == n || has xs n)) none)
          | inr other ↦ rest ∙ sym (ap (λ c. p n && (c || has xs n)) (ne_eqb x n other))
        ]

has-map : (f : ℕ → ℕ) (xs : List ℕ) (n : ℕ) → has (map f xs) n ≡ list_any (λ x. f x == n) xs
has-map f [] n = refl
has-map f (x ∷ xs) n = ap (λ b. f x == n || b) (has-map f xs n)

module _ (history : History) where
  -- a number is a settled deletion where some deletion is settled as it
  pub has-settled_deletions : (deleted : List ℕ) (n : ℕ) →
      has (settled_deletions history deleted) n ≡ (nat_lt 0 n && list_any (λ rev. settled_rev history rev == n) deleted)
  has-settled_deletions deleted n =
      has-with_numbers [] (filter (nat_lt 0) (map (settled_rev history) deleted)) n ∙
      has-filter (nat_lt 0) (map (settled_rev history) deleted) n ∙ ap (λ b. nat_lt 0 n && b) (has-map (settled_rev history) deleted n)

  pub IsRising-settled_deletions : (deleted : List ℕ) → IsRising (settled_deletions history deleted)
  IsRising-settled_deletions deleted = IsRising-with_numbers [] (filter (nat_lt 0) (map (settled_rev history) deleted)) tt

  -- a deletion is settled as one that passes as it did, or it passes and is left out
  abbrev pub Passes : (ℕ → Bool) → (ℕ → Bool) → ℕ → Type 0
  Passes q q' rev = ((0 < settled_rev history rev) × (q' (settled_rev history rev) ≡ q rev)) ⊎ ((settled_rev history rev ≡ 0) × (q rev ≡ true))

  pub list_all-settled_deletions : (q q' : ℕ → Bool) (deleted : List ℕ) → AllByRecursion (Passes q q') deleted →
      list_all q' (settled_deletions history deleted) ≡ list_all q deleted
  list_all-settled_deletions q q' deleted each =
      list_all_members q' (settled_deletions history deleted) (filter (nat_lt 0) (map (settled_rev history) deleted))
      (λ n. has-with_numbers [] (filter (nat_lt 0) (map (settled_rev history) deleted)) n) ∙ same deleted each
    where
      same : (revs : List ℕ) → AllByRecursion (Passes q q') revs → list_all q' (filter (nat_lt 0) (map (settled_rev history) revs)) ≡ list_all q revs
      same [] all = refl
      same (rev ∷ revs) all = by all.0 (same revs all.1)
        where
          by : Passes q q' rev → list_all q' (filter (nat_lt 0) (map (settled_rev history) revs)) ≡ list_all q revs →
              list_all q' (filter (nat_lt 0) (map (settled_rev history) (rev ∷ revs))) ≡ list_all q (rev ∷ revs)
          by (inl stays) rest =
              ap (λ b. list_all q' (cond b (settled_rev history rev ∷ filter (nat_lt 0) (map (settled_rev history) revs))
              (filter (nat_lt 0) (map (settled_rev history) revs)))) (lt-ltb 0 (settled_rev history rev) stays.0) ∙
              ap₂ (λ a b. a && b) stays.1 rest
          by (inr goes) rest =
              ap (λ b. list_all q' (cond b (settled_rev history rev ∷ filter (nat_lt 0) (map (settled_rev history) revs))
              (filter (nat_lt 0) (map (settled_rev history) revs)))) (le-ltb 0 (settled_rev history rev) (omega (arith, goes.0))) ∙
              rest ∙ sym (ap (λ b. b && list_all q revs) goes.1)

-- a revision is settled as one by the head
pub settled_rev-le : (history : History) (rev : ℕ) → history.floor ≤ head history → rev ≤ head history → settled_rev history rev ≤ head history
settled_rev-le history rev within below =
    elim (cases_lt history.floor rev) [
      | inl past ↦ omega (arith, settled_rev-after history rev past, below)
      | inr before ↦ by before (is_edit (revision_at history.revisions rev) && not (is_collected history rev)) refl
    ]
  where
    by : rev ≤ history.floor → (b : Bool) → (is_edit (revision_at history.revisions rev) && not (is_collected history rev)) ≡ b →
        settled_rev history rev ≤ head history
    by before true is =
        omega (
          arith,
          settled_rev-last history rev before is,
          last_edit-le history.revisions (group_of history.revisions rev) history.floor,
          within,
        )
    by before false is = omega (arith, settled_rev-none history rev before is)

pub settled_deletions-le : (history : History) (deleted : List ℕ) → history.floor ≤ head history → AllByRecursion (λ rev. rev ≤ head history) deleted →
    AllByRecursion (λ rev. rev ≤ head history) (settled_deletions history deleted)
settled_deletions-le history deleted within each =
    all_from_has (λ rev. rev ≤ head history) (settled_deletions history deleted) (λ n is.
    some deleted each n (and_parts (nat_lt 0 n) _ (sym (has-settled_deletions history deleted n) ∙ is)).1)
  where
    some : (revs : List ℕ) → AllByRecursion (λ rev. rev ≤ head history) revs → (n : ℕ) → list_any (λ rev. settled_rev history rev == n) revs ≡ true →
        n ≤ head history
    some [] below n is = absurd (both_ways false refl is)
    some (rev ∷ revs) below n is =
        elim (or_cases (settled_rev history rev == n) (list_any (λ r. settled_rev history r == n) revs) is) [
          | inl here ↦ omega (arith, eqb-true (settled_rev history rev) n here, settled_rev-le history rev within below.0)
          | inr later ↦ some revs below.1 n later
        ]

-- ---- the revisions of what is left

slice_get-past : {X : Type 0} (k m : ℕ) (xs ys : List X) → k ≡ length xs + m → slice_get (xs ++ ys) k ≡ slice_get ys m
slice_get-past k m [] ys sum = (let same : k ≡ m = omega (arith, sum) in ap (slice_get ys) same)
slice_get-past zero m (x ∷ xs) ys sum = absurd (omega (arith, sum))
slice_get-past (suc k) m (x ∷ xs) ys sum = slice_get-past k m xs ys (omega (arith, sum))

slice_get-range : {X : Type 0} (f : ℕ → X) (from n k : ℕ) → k < n → slice_get (map f (range_with_len from n)) k ≡ Some (f (from + k))
slice_get-range f from n k within =
    slice_get-get_or (map f (range_with_len from n)) k (f 0) (omega (arith, within, length-map-range_with_len f from n)) ∙
    ap Some (get_or-map-range_with_len f from n k (from + k) (f 0) within refl)

module _ (history : History) (within : history.floor ≤ head history) where
  abbrev before : List Revision
  before = map (settled_revision history) (range_with_len 1 history.floor)

  abbrev after : List Revision
  after = drop history.floor history.revisions

  length-before : length before ≡ history.floor
  length-before = length-map-range_with_len (settled_revision history) 1 history.floor

  pub head-left : head (left_of history) ≡ head history
  head-left = omega (arith, length-append before after, length-before, length-drop history.floor history.revisions, within)

  pub drop-left : (floor : ℕ) → history.floor ≤ floor → drop floor (left_of history).revisions ≡ drop floor history.revisions
  drop-left floor low =
      (let count : floor ≡ length before + (floor - history.floor) = omega (arith, low, length-before) in
      ap (λ n. drop n (before ++ after)) count) ∙
      drop-append-add before after (floor - history.floor) ∙
      sym (drop-drop floor history.floor (floor - history.floor) history.revisions (omega (arith, low)))

  pub revision_at-after : (rev : ℕ) → history.floor < rev → revision_at (left_of history).revisions rev ≡ revision_at history.revisions rev
  revision_at-after zero past = absurd (omega (arith, past))
  revision_at-after (suc n) past =
      slice_get-past n (n - history.floor) before after (omega (arith, past, length-before)) ∙
      slice_get-drop n history.floor (n - history.floor) history.revisions (omega (arith, past))

  pub revision_at-before : (rev : ℕ) → 0 < rev → rev ≤ history.floor → revision_at (left_of history).revisions rev ≡ Some (settled_revision history rev)
  revision_at-before zero some below = absurd (omega (arith, some))
  revision_at-before (suc n) some below =
      slice_get-append n before after (omega (arith, below, length-before)) ∙
      slice_get-range (settled_revision history) 1 history.floor n (omega (arith, below)) ∙
      (let next : 1 + n ≡ suc n = omega arith in ap (λ rev. Some (settled_revision history rev)) next)

  -- one that is settled as itself is an edit of its group
  pub revision_at-settled : (rev : ℕ) → 0 < rev → rev ≤ history.floor → settled_rev history rev ≡ rev →
      revision_at (left_of history).revisions rev ≡ Some (edit 0 (group_of history.revisions rev) 0 0)
  revision_at-settled rev some below as_itself =
      revision_at-before rev some below ∙
      ap (λ b. Some (if b then edit 0 (group_of history.revisions rev) 0 0 else undo (undone history.revisions history.floor)))
      (eq-eqb (settled_rev history rev) rev as_itself)

  pub revision_at-unsettled : (rev : ℕ) → 0 < rev → rev ≤ history.floor → (settled_rev history rev ≡ rev → ⊥) →
      revision_at (left_of history).revisions rev ≡ Some (undo (undone history.revisions history.floor))
  revision_at-unsettled rev some below other =
      revision_at-before rev some below ∙
      ap (λ b. Some (if b then edit 0 (group_of history.revisions rev) 0 0 else undo (undone history.revisions history.floor)))
      (ne_eqb (settled_rev history rev) rev other)

  -- ---- what is undone

  abbrev at_floor : List ℕ
  at_floor = undone history.revisions history.floor

  -- a revision is an edit, or says what is undone at the floor, and the latter where the one in its place is none
  record Says (was : Option Revision) (now : Revision) : Type 0 where
    either : (is_edit (Some now) ≡ true) ⊎ (now ≡ undo at_floor)
    in_place : is_edit was ≡ false → now ≡ undo at_floor

  says-settled : (rev : ℕ) → 0 < rev → rev ≤ history.floor → Says (revision_at history.revisions rev) (settled_revision history rev)
  says-settled rev some below = by (settled_rev history rev == rev) refl
    where
      by : (b : Bool) → (settled_rev history rev == rev) ≡ b → Says (revision_at history.revisions rev)
          (if b then edit 0 (group_of history.revisions rev) 0 0 else undo at_floor)
      by true same = record {
        either = inl refl;
        in_place = λ none.
            absurd (omega (
              arith,
              some,
              eqb-true (settled_rev history rev) rev same,
              settled_rev-none history rev below (and_left (is_edit (revision_at history.revisions rev)) (not (is_collected history rev)) none),
            ));
      }
      by false other = record { either = inr refl; in_place = λ _. refl }

  undone_after-edit : (groups : List ℕ) (r : Revision) (more : List Revision) → is_edit (Some r) ≡ true →
      undone_after groups (r ∷ more) ≡ undone_after groups more
  undone_after-edit groups (edit base group priority author) more is = refl
  undone_after-edit groups (undo set) more is = absurd (both_ways false refl is)

  -- so what is undone at the floor stays so
  undone-stays : (f : ℕ → Revision) (was : ℕ → Option Revision) (from n : ℕ) → ((k : ℕ) → k < n → Says (was (from + k)) (f (from + k))) →
      undone_after at_floor (map f (range_with_len from n)) ≡ at_floor
  undone-stays f was from zero each = refl
  undone-stays f was from (suc n) each =
      by first.either
      (undone-stays f was (from + 1) n (λ k below.
      let next : from + suc k ≡ from + 1 + k = omega arith in subst (λ i. Says (was i) (f i)) next (each (suc k) (omega (arith, below)))))
    where
      first : Says (was from) (f from)
      first = let same : from + 0 ≡ from = omega arith in subst (λ i. Says (was i) (f i)) same (each 0 (omega arith))

      by : ((is_edit (Some (f from)) ≡ true) ⊎ (f from ≡ undo at_floor)) →
          undone_after at_floor (map f (range_with_len (from + 1) n)) ≡ at_floor →
          undone_after at_floor (f from ∷ map f (range_with_len (from + 1) n)) ≡ at_floor
      by (inl is) rest = undone_after-edit at_floor (f from) (map f (range_with_len (from + 1) n)) is ∙ rest
      by (inr is) rest = ap (λ r. undone_after at_floor (r ∷ map f (range_with_len (from + 1) n))) is ∙ rest

  undone-comes : (f : ℕ → Revision) (was : ℕ → Option Revision) (groups : List ℕ) (from : ℕ) (revisions : List Revision) →
      ((k : ℕ) → k < length revisions → was (from + k) ≡ slice_get revisions k) →
      ((k : ℕ) → k < length revisions → Says (was (from + k)) (f (from + k))) → undone_after groups revisions ≡ at_floor →
      undone_after groups (map f (range_with_len from (length revisions))) ≡ at_floor
  undone-comes f was groups from [] same each is = is
  undone-comes f was groups from (r ∷ revisions) same each is =
      by r
      (let none : from + 0 ≡ from = omega arith in subst (λ i. was i ≡ Some r) none (same 0 (omega arith)))
      (let none : from + 0 ≡ from = omega arith in subst (λ i. Says (was i) (f i)) none (each 0 (omega arith))) is
      (λ set. undone-comes f was set (from + 1) revisions
      (λ k below. let next : from + suc k ≡ from + 1 + k = omega arith in
      subst (λ i. was i ≡ slice_get revisions k) next (same (suc k) (omega (arith, below))))
      (λ k below. let next : from + suc k ≡ from + 1 + k = omega arith in
      subst (λ i. Says (was i) (f i)) next (each (suc k) (omega (arith, below)))))
      (undone-stays f was (from + 1) (length revisions) (λ k below. let next : from + suc k ≡ from + 1 + k = omega arith in
      subst (λ i. Says (was i) (f i)) next (each (suc k) (omega (arith, below)))))
    where
      more : List Revision
      more = map f (range_with_len (from + 1) (length revisions))

      by : (first : Revision) → was from ≡ Some first → Says (was from) (f from) → undone_after groups (first ∷ revisions) ≡ at_floor →
          ((set : List ℕ) → undone_after set revisions ≡ at_floor → undone_after set more ≡ at_floor) → undone_after at_floor more ≡ at_floor →
          undone_after groups (f from ∷ more) ≡ at_floor
      by (edit base group priority author) there says undoes rest stays = at says.either
        where
          at : ((is_edit (Some (f from)) ≡ true) ⊎ (f from ≡ undo at_floor)) → undone_after groups (f from ∷ more) ≡ at_floor
          at (inl is_one) = undone_after-edit groups (f from) more is_one ∙ rest groups undoes
          at (inr undoing) = ap (λ x. undone_after groups (x ∷ more)) undoing ∙ stays
      by (undo set) there says undoes rest stays = ap (λ x. undone_after groups (x ∷ more)) (says.in_place (ap is_edit there)) ∙ stays

  length-take-floor : length (take history.floor history.revisions) ≡ history.floor
  length-take-floor =
      omega (
        arith,
        within,
        sym (length-append (take history.floor history.revisions) after) ∙ ap length (take-append-drop history.floor history.revisions),
        length-drop history.floor history.revisions,
      )

  undone-before : undone_after [] before ≡ at_floor
  undone-before =
      ap (λ n. undone_after [] (map (settled_revision history) (range_with_len 1 n))) (sym length-take-floor) ∙
      undone-comes (settled_revision history) (revision_at history.revisions) [] 1 (take history.floor history.revisions)
      (λ k below.
      (let next : 1 + k ≡ suc k = omega arith in ap (revision_at history.revisions) next) ∙
      ap (λ rs. slice_get rs k) (sym (take-append-drop history.floor history.revisions)) ∙
      slice_get-append k (take history.floor history.revisions) after below)
      (λ k below. says-settled (1 + k) (omega arith) (omega (arith, below, length-take-floor))) refl

  -- what is undone at a revision from the floor on
  pub undone-left : (at : ℕ) → history.floor ≤ at → undone (left_of history).revisions at ≡ undone history.revisions at
  undone-left at low =
      (let same : at ≡ length before + (at - history.floor) = omega (arith, low, length-before) in
      ap (λ n. undone_after [] (take n (before ++ after))) same) ∙
      ap (undone_after []) (take-append-add before after (at - history.floor)) ∙
      undone_after-append [] before (take (at - history.floor) after) ∙
      ap (λ set. undone_after set (take (at - history.floor) after)) undone-before ∙
      sym (undone_after-append [] (take history.floor history.revisions) (take (at - history.floor) after)) ∙
      sym (ap (undone_after []) (take-append-add (take history.floor history.revisions) after (at - history.floor))) ∙
      (let same : length (take history.floor history.revisions) + (at - history.floor) ≡ at = omega (arith, low, length-take-floor) in
      ap₂ (λ n rs. undone_after [] (take n rs)) same (take-append-drop history.floor history.revisions))

-- ---- each revision, settled

-- a revision is settled as an edit of its group, which is itself, or by the floor as it is
pub record StaysAs (history : History) (rev : ℕ) : Type 0 where
  pub is_open : is_collected history rev ≡ false
  pub some : 0 < settled_rev history rev
  pub is : is_edit (revision_at (left_of history).revisions (settled_rev history rev)) ≡ true
  pub group : group_of (left_of history).revisions (settled_rev history rev) ≡ group_of history.revisions rev
  pub beside : (settled_rev history rev ≡ rev) ⊎ ((settled_rev history rev ≤ history.floor) × (rev ≤ history.floor))

-- or it is collected, and settled as the loaded text
pub record IsForgotten (history : History) (rev : ℕ) : Type 0 where
  pub is : is_collected history rev ≡ true
  pub none : settled_rev history rev ≡ 0
  pub old : rev ≤ history.floor

pub settles_by : (history : History) (rev : ℕ) → history.floor ≤ head history →
    (is_edit (revision_at history.revisions rev) ≡ true → is_collected history rev ≡ true → rev ≤ history.floor) →
    is_edit (revision_at history.revisions rev) ≡ true → (StaysAs history rev) ⊎ (IsForgotten history rev)
settles_by history rev low over is =
    elim (cases_lt history.floor rev) [
      | inl past ↦
          let same = settled_rev-after history rev past in
          inl (record {
            is_open = later_is_open past (is_collected history rev) refl;
            some = omega (arith, same, past);
            is =
                ap (λ n. is_edit (revision_at (left_of history).revisions n)) same ∙
                ap is_edit (revision_at-after history low rev past) ∙ is;
            group =
                ap (group_of (left_of history).revisions) same ∙ ap edit_group (revision_at-after history low rev past);
            beside = inl same;
          })
      | inr below ↦ by below (is_collected history rev) refl
    ]
  where
    later_is_open : history.floor < rev → (b : Bool) → is_collected history rev ≡ b → is_collected history rev ≡ false
    later_is_open past true collected = absurd (omega (arith, past, over is collected))
    later_is_open past false other = other

    by : rev ≤ history.floor → (b : Bool) → is_collected history rev ≡ b → (StaysAs history rev) ⊎ (IsForgotten history rev)
    by below true collected = inr (record {
      is = collected;
      none = settled_rev-none history rev below (and_right (is_edit (revision_at history.revisions rev)) (not (is_collected history rev)) (ap not collected));
      old = below;
    })
    by below false is_open =
        let group = group_of history.revisions rev in
        let last = last_edit history.revisions group history.floor in
        let settled_as : settled_rev history rev ≡ last =
        settled_rev-last history rev below (and_from (is_edit (revision_at history.revisions rev)) (not (is_collected history rev)) is (ap not is_open)) in
        let later : rev ≤ last =
        le-last_edit history.revisions group rev history.floor
        (and_from (is_edit (revision_at history.revisions rev)) (group_of history.revisions rev == group) is (eq-eqb group group refl)) below in
        let some : 0 < last = omega (arith, later, positive rev is) in
        let within : last ≤ history.floor = last_edit-le history.revisions group history.floor in
        let edits = and_parts (is_edit (revision_at history.revisions last)) (group_of history.revisions last == group)
        (edits-last_edit history.revisions group history.floor some) in
        let same_group : group_of history.revisions last ≡ group = eqb-true (group_of history.revisions last) group edits.1 in
        let itself : settled_rev history last ≡ last =
        settled_rev-last history last within
        (and_from (is_edit (revision_at history.revisions last)) (not (is_collected history last)) edits.0
        (ap (λ g. not (has history.collected g)) same_group ∙ ap not is_open)) ∙
        ap (λ g. last_edit history.revisions g history.floor) same_group in
        inl (record {
          is_open = is_open;
          some = omega (arith, some, settled_as);
          is =
              ap (λ n. is_edit (revision_at (left_of history).revisions n)) settled_as ∙
              ap is_edit (revision_at-settled history low last some within itself);
          group =
              ap (group_of (left_of history).revisions) settled_as ∙
              ap edit_group (revision_at-settled history low last some within itself) ∙ same_group;
          beside = inr (omega (arith, settled_as, within), below);
        })
      where
        positive : (n : ℕ) → is_edit (revision_at history.revisions n) ≡ true → 0 < n
        positive zero is_one = absurd (both_ways false refl is_one)
        positive (suc n) is_one = omega arith

pub settles : (history : History) (rev : ℕ) → IsWellFormed history → is_edit (revision_at history.revisions rev) ≡ true →
    (StaysAs history rev) ⊎ (IsForgotten history rev)
settles history rev formed is = settles_by history rev formed.floor (edit_by_floor history rev formed) is

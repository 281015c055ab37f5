-- Each step that may come keeps a history well formed; and what is dropped is hidden at every kept revision.
use Rattle.std.proofs.Common.{◌↔◌, filter, ◌≡◌, ℕ, zero, suc, ◌+◌, ◌<◌, ◌≤◌, Bool, true, false, cond, not, ◌&&◌, ◌||◌, if◌then◌else◌, nat_lt, ◌==◌, List, [], ◌∷◌, ◌++◌, length, drop, fold, Some, None, slice_get, refl, ap, ap₂, subst, sym, ◌∙◌, inl, inr, arith}
use Rattle.std.specs.Prelude.{IfSome}
use Rattle.std.specs.List.{AllByRecursion, list_all, list_any}
use Rattle.std.proofs.lemmas.Bool.{cases_eq, and_from, both_ways, and_parts, or_cases, or_left, or_right, cases_lt, not-true, le-leb, le-ltb, ne_eqb, eq-eqb, and_left, and_right}
use Rattle.std.proofs.Math.Bool.{and-true}
use Rattle.std.proofs.lemmas.List.{length-append, length_push}
use Rattle.std.proofs.lemmas.List.Folds.{list_any-append, list_all-append}
use Rattle.plain_text.specs.Numbers.{has, IsRising, with_number}
use Rattle.plain_text.proofs.callers.NumberLemmas.{has-with_numbers, IsRising-with_numbers}
use Rattle.plain_text.proofs.callers.ListLemmas.{AllByRecursion-append, AllByRecursion-weaker, AllByRecursion-map, AllByRecursion-woven}
use Rattle.plain_edits.specs.History.{Tagged, Revision, edit, undo, History, loaded, head, revision_at, edit_group, group_of, undone, is_visible, IsTaggedBy}
use Rattle.plain_edits.specs.Edits.{PlainEdit, edited, undid, inserted_at, is_deleted_by, with_deletion, is_edit_of}
use Rattle.plain_edits.specs.Collection.{is_based_from, is_clean, clean_floor, IsAtRest, is_at_rest, collected_at, MayCollect, Qualifies, resting_groups, collection_at, collection_of, is_collected, is_dropped}
use Rattle.plain_edits.specs.HistorySteps.{Step, edits, undoes, collects, after_step, MayCome, MayEdit, MayUndoSet, is_edit, IsByEdits, AreBased, HasRisingSet, IsWellFormed}
use Rattle.plain_edits.proofs.callers.HistoryLemmas.{AllByRecursion-inserted_at, becomes, IsSound-loaded, IsSound-edited, IsSound-undid, revision_at-append, revision_at-push, undone-append, undone-edit, undone-undo}
use Rattle.plain_edits.proofs.callers.CollectionLemmas.{all_has, is_at_rest_iff, greatest_clean_floor}

-- ---- lists

all_both : {X : Type 0} (P Q : X → Type 0) (xs : List X) → AllByRecursion P xs → AllByRecursion Q xs → AllByRecursion (λ x. P x × Q x) xs
all_both P Q [] ps qs = tt
all_both P Q (x ∷ xs) ps qs = ((ps.0, qs.0), all_both P Q xs ps.1 qs.1)

-- what holds of each number that is in a set holds of all in it
all_from_has : (P : ℕ → Type 0) (numbers : List ℕ) → ((n : ℕ) → has numbers n ≡ true → P n) → AllByRecursion P numbers
all_from_has P [] each = tt
all_from_has P (m ∷ numbers) each = (
  each m (or_left (m == m) (has numbers m) (eq-eqb m m refl)),
  all_from_has P numbers (λ n is. each n (or_right (m == n) (has numbers n) is)),
)

drop-append : {X : Type 0} (n : ℕ) (xs ys : List X) → n ≤ length xs → drop n (xs ++ ys) ≡ drop n xs ++ ys
drop-append zero xs ys within = refl
drop-append (suc n) [] ys within = absurd (omega arith)
drop-append (suc n) (x ∷ xs) ys within = drop-append n xs ys (omega arith)

list_any-drop : {X : Type 0} (p : X → Bool) (fewer more : ℕ) (xs : List X) → fewer ≤ more → list_any p (drop fewer xs) ≡ false →
    list_any p (drop more xs) ≡ false
list_any-drop p zero zero xs within none = none
list_any-drop p zero (suc more) [] within none = none
list_any-drop p zero (suc more) (x ∷ xs) within none =
    list_any-drop p zero more xs (omega arith) (second (p x) (list_any p xs) none)
  where
    second : (a b : Bool) → (a || b) ≡ false → b ≡ false
    second true b is = cc
    second false b is = is
list_any-drop p (suc fewer) zero xs within none = absurd (omega arith)
list_any-drop p (suc fewer) (suc more) [] within none = none
list_any-drop p (suc fewer) (suc more) (x ∷ xs) within none = list_any-drop p fewer more xs (omega arith) none

IsRising-push : (top n : ℕ) (numbers : List ℕ) → AllByRecursion (λ m. m ≤ top) numbers → top < n → IsRising numbers → IsRising (numbers ++ n ∷ [])
IsRising-push top n [] below above up = (tt, tt)
IsRising-push top n (m ∷ numbers) below above up =
    (AllByRecursion-append (λ k. m < k) numbers (n ∷ []) up.0 (omega (arith, below.0), tt), IsRising-push top n numbers below.1 above up.1)

AreBased-push : (before : ℕ) (revisions : List Revision) (last : Revision) → AreBased before revisions → AreBased (before + length revisions) (last ∷ []) →
    AreBased before (revisions ++ last ∷ [])
AreBased-push before [] last based here = (let none : before + 0 ≡ before = omega arith in subst (λ n. AreBased n (last ∷ [])) none here)
AreBased-push before (edit base group priority author ∷ revisions) last based here = (
  based.0,
  AreBased-push (before + 1) revisions last based.1
      (let same : before + suc (length revisions) ≡ before + 1 + length revisions = omega arith in subst (λ n. AreBased n (last ∷ [])) same here),
)
AreBased-push before (undo groups ∷ revisions) last based here =
    AreBased-push (before + 1) revisions last based
    (let same : before + suc (length revisions) ≡ before + 1 + length revisions = omega arith in subst (λ n. AreBased n (last ∷ [])) same here)

-- ---- a group at rest, after a step

module _ (history : History) (last : Revision) (group : ℕ) (within : history.floor ≤ head history) (rest : IsAtRest history history.floor group) where
  abbrev later : List Revision
  later = history.revisions ++ last ∷ []

  -- where the new revision is no edit of the group and leaves it undone or not
  rests_after : is_edit_of group last ≡ false →
      has (undone later (head history + 1)) group ≡ has (undone history.revisions (head history)) group →
      (collected : List ℕ) (characters : List Tagged) →
      IsAtRest (record { characters = characters; revisions = later; floor = history.floor; collected = collected }) history.floor group
  rests_after other same collected characters = record {
    is_over =
        ap (list_any (is_edit_of group)) (drop-append history.floor history.revisions (last ∷ []) within) ∙
        list_any-append (is_edit_of group) (drop history.floor history.revisions) (last ∷ []) ∙
        ap₂ (λ a b. a || (b || false)) rest.is_over other;
    is_settled = λ rev low high. elim (cases_lt (head history) rev) [
      | inl past ↦
          let at_end : rev ≡ length later = omega (arith, past, high, length_push history.revisions last) in
          ap (λ n. has (undone later n) group) at_end
      | inr before ↦
          ap (λ groups. has groups group) (undone-append history.revisions (last ∷ []) rev before) ∙ rest.is_settled rev low before ∙ sym same ∙
          ap (λ n. has (undone later n) group) (sym (length_push history.revisions last))
    ];
  }

-- ---- characters, after an edit

IsByEdits-more : (revisions : List Revision) (last : Revision) (tagged : Tagged) → IsTaggedBy (length revisions) tagged → IsByEdits revisions tagged →
    IsByEdits (revisions ++ last ∷ []) tagged
IsByEdits-more revisions last tagged is by = record {
  inserted = ap (λ r. tagged.inserted == 0 || is_edit r) (revision_at-append revisions (last ∷ []) tagged.inserted is.inserted) ∙ by.inserted;
  deleted =
      AllByRecursion-weaker (λ rev. (rev ≤ length revisions) × (is_edit (revision_at revisions rev) ≡ true))
      (λ rev. is_edit (revision_at (revisions ++ last ∷ []) rev) ≡ true)
      (λ rev both. ap is_edit (revision_at-append revisions (last ∷ []) rev both.0) ∙ both.1) tagged.deleted
      (all_both (λ rev. rev ≤ length revisions) (λ rev. is_edit (revision_at revisions rev) ≡ true) tagged.deleted is.deleted by.deleted);
  rising = by.rising;
}

module _ (history : History) (e : PlainEdit) where
  abbrev made : Revision
  made = edit e.base e.group e.priority e.author

  by_the_edit : is_edit (revision_at (history.revisions ++ made ∷ []) (head history + 1)) ≡ true
  by_the_edit = ap is_edit (revision_at-push history.revisions made)

  IsByEdits-inserted : (c : ℕ) → IsByEdits (history.revisions ++ made ∷ []) (record { character = c; inserted = head history + 1; deleted = [] })
  IsByEdits-inserted c = record { inserted = or_right (head history + 1 == 0) _ by_the_edit; deleted = tt; rising = tt }

  IsByEdits-deleted : (tagged : Tagged) → IsTaggedBy (head history) tagged → IsByEdits (history.revisions ++ made ∷ []) tagged →
      IsByEdits (history.revisions ++ made ∷ []) (with_deletion (head history + 1) tagged)
  IsByEdits-deleted tagged is by = record {
    inserted = by.inserted;
    deleted =
        AllByRecursion-append (λ rev. is_edit (revision_at (history.revisions ++ made ∷ []) rev) ≡ true) tagged.deleted ((head history + 1) ∷ [])
        by.deleted (by_the_edit, tt);
    rising = IsRising-push (head history) (head history + 1) tagged.deleted is.deleted (omega arith) by.rising;
  }

  IsByEdits-becomes : (dropped : Bool) (tagged : Tagged) → IsTaggedBy (head history) tagged → IsByEdits history.revisions tagged →
      IsByEdits (history.revisions ++ made ∷ []) (if dropped then with_deletion (head history + 1) tagged else tagged)
  IsByEdits-becomes true tagged is by = IsByEdits-deleted tagged is (IsByEdits-more history.revisions made tagged is by)
  IsByEdits-becomes false tagged is by = IsByEdits-more history.revisions made tagged is by

-- ---- each step

pub IsWellFormed-loaded : (text : List ℕ) → IsWellFormed (loaded text)
IsWellFormed-loaded text = record {
  sound = IsSound-loaded text;
  by_edits = AllByRecursion-map (IsByEdits []) (λ c. record { character = c; inserted = 0; deleted = [] })
      (λ c. record { inserted = refl; deleted = tt; rising = tt }) text;
  based = tt;
  sets = tt;
  floor = omega arith;
  clean = refl;
  rising = tt;
  at_rest = tt;
}

pub IsWellFormed-edited : (history : History) (e : PlainEdit) → IsWellFormed history → MayEdit history e → IsWellFormed (edited history e)
IsWellFormed-edited history e formed may = record {
  sound = IsSound-edited history e formed.sound;
  by_edits =
      AllByRecursion-woven (IsByEdits (history.revisions ++ last ∷ []))
      (λ tagged. IsTaggedBy (head history) tagged × IsByEdits history.revisions tagged) (inserted_at history e) (becomes history e)
      (AllByRecursion-inserted_at (IsByEdits (history.revisions ++ last ∷ [])) history e (IsByEdits-inserted history e))
      (λ index tagged is. (IsByEdits-becomes history e (is_deleted_by history e index tagged) tagged is.0 is.1, tt)) 0 history.characters
      (all_both (IsTaggedBy (head history)) (IsByEdits history.revisions) history.characters formed.sound formed.by_edits);
  based = AreBased-push 0 history.revisions last formed.based (omega (arith, may.known), tt);
  sets = AllByRecursion-append HasRisingSet history.revisions (last ∷ []) formed.sets (tt, tt);
  floor = omega (arith, formed.floor, length_push history.revisions last);
  clean =
      ap (list_all (is_based_from history.floor)) (drop-append history.floor history.revisions (last ∷ []) formed.floor) ∙
      list_all-append (is_based_from history.floor) (drop history.floor history.revisions) (last ∷ []) ∙
      ap₂ (λ a b. a && (b && true)) formed.clean (le-leb history.floor e.base may.reached);
  rising = formed.rising;
  at_rest = all_from_has (IsAtRest (edited history e) history.floor) history.collected (λ group is.
      rests_after history last group formed.floor (all_has (IsAtRest history history.floor) history.collected group formed.at_rest is)
      (ne_eqb e.group group (λ same. both_ways (has history.collected e.group) may.is_open (ap (has history.collected) same ∙ is)))
      (ap (λ groups. has groups group) (undone-edit history.revisions e.base e.group e.priority e.author))
      history.collected (edited history e).characters);
}
  where
    last : Revision
    last = edit e.base e.group e.priority e.author

pub IsWellFormed-undid : (history : History) (groups : List ℕ) → IsWellFormed history → MayUndoSet history groups → IsWellFormed (undid history groups)
IsWellFormed-undid history groups formed may = record {
  sound = IsSound-undid history groups formed.sound;
  by_edits =
      AllByRecursion-weaker (λ tagged. IsTaggedBy (head history) tagged × IsByEdits history.revisions tagged)
      (IsByEdits (history.revisions ++ undo groups ∷ [])) (λ tagged is. IsByEdits-more history.revisions (undo groups) tagged is.0 is.1) history.characters
      (all_both (IsTaggedBy (head history)) (IsByEdits history.revisions) history.characters formed.sound formed.by_edits);
  based = AreBased-push 0 history.revisions (undo groups) formed.based tt;
  sets = AllByRecursion-append HasRisingSet history.revisions (undo groups ∷ []) formed.sets ((may.rising, no_zero groups may.allowed.known), tt);
  floor = omega (arith, formed.floor, length_push history.revisions (undo groups));
  clean =
      ap (list_all (is_based_from history.floor)) (drop-append history.floor history.revisions (undo groups ∷ []) formed.floor) ∙
      list_all-append (is_based_from history.floor) (drop history.floor history.revisions) (undo groups ∷ []) ∙
      ap (λ a. a && true) formed.clean;
  rising = formed.rising;
  at_rest = all_from_has (IsAtRest (undid history groups) history.floor) history.collected (λ group is.
      rests_after history (undo groups) group formed.floor (all_has (IsAtRest history history.floor) history.collected group formed.at_rest is)
      refl
      (ap (λ set. has set group) (undone-undo history.revisions groups) ∙
      all_has (λ g. has groups g ≡ has (undone history.revisions (head history)) g) history.collected group may.allowed.frozen is)
      history.collected history.characters);
}
  where
    no_zero : (set : List ℕ) → AllByRecursion (λ group. (0 < group) × (list_any (is_edit_of group) history.revisions ≡ true)) set → has set 0 ≡ false
    no_zero [] each = refl
    no_zero (g ∷ set) each = ap₂ (λ a b. a || b) (ne_eqb g 0 (λ same. omega (arith, same, each.0.0))) (no_zero set each.1)

pub IsWellFormed-collected : (history : History) (floor : ℕ) (groups : List ℕ) → IsWellFormed history → MayCollect history floor groups →
    IsWellFormed (collected_at history floor groups)
IsWellFormed-collected history floor groups formed may = record {
  sound = formed.sound;
  by_edits = formed.by_edits;
  based = formed.based;
  sets = formed.sets;
  floor = may.known;
  clean = may.clean;
  rising = IsRising-with_numbers history.collected groups formed.rising;
  at_rest = all_from_has (IsAtRest (collected_at history floor groups) floor) (fold with_number history.collected groups) (λ group is.
      elim (or_cases (has history.collected group) (has groups group) (sym (has-with_numbers history.collected groups group) ∙ is)) [
        | inl old ↦
            let rest = all_has (IsAtRest history history.floor) history.collected group formed.at_rest old in
            record {
              is_over = list_any-drop (is_edit_of group) history.floor floor history.revisions may.rises rest.is_over;
              is_settled = λ rev low high. rest.is_settled rev (omega (arith, low, may.rises)) high;
            }
        | inr new ↦
            let rest = all_has (IsAtRest history floor) groups group may.at_rest new in
            record { is_over = rest.is_over; is_settled = rest.is_settled }
      ]);
}

pub IsWellFormed-after_step : (history : History) (step : Step) → IsWellFormed history → MayCome history step → IsWellFormed (after_step history step)
IsWellFormed-after_step history (edits e) formed may = IsWellFormed-edited history e formed may
IsWellFormed-after_step history (undoes groups) formed may = IsWellFormed-undid history groups formed may
IsWellFormed-after_step history (collects floor groups) formed may = IsWellFormed-collected history floor groups formed may

-- ---- what is dropped is hidden at every kept revision

-- an edit after the floor is one of its group there
edit_after_floor : (floor n : ℕ) (revisions : List Revision) → floor ≤ n → is_edit (slice_get revisions n) ≡ true →
    list_any (is_edit_of (edit_group (slice_get revisions n))) (drop floor revisions) ≡ true
edit_after_floor zero n [] within is = absurd (both_ways false refl is)
edit_after_floor zero zero (edit base group priority author ∷ revisions) within is = or_left _ _ (eq-eqb group group refl)
edit_after_floor zero zero (undo groups ∷ revisions) within is = absurd (both_ways false refl is)
edit_after_floor zero (suc n) (r ∷ revisions) within is = or_right _ _ (edit_after_floor zero n revisions (omega arith) is)
edit_after_floor (suc floor) zero revisions within is = absurd (omega arith)
edit_after_floor (suc floor) (suc n) [] within is = absurd (both_ways false refl is)
edit_after_floor (suc floor) (suc n) (r ∷ revisions) within is = edit_after_floor floor n revisions (omega arith) is

-- an edit of a collected group is not after the floor
edit_by_floor : (history : History) (rev : ℕ) → IsWellFormed history → is_edit (revision_at history.revisions rev) ≡ true →
    is_collected history rev ≡ true → rev ≤ history.floor
edit_by_floor history zero formed is collected = omega arith
edit_by_floor history (suc n) formed is collected =
    elim (cases_lt history.floor (suc n)) [
      | inl past ↦
          let rest = all_has (IsAtRest history history.floor) history.collected (group_of history.revisions (suc n)) formed.at_rest collected in
          absurd (both_ways _ rest.is_over (edit_after_floor history.floor n history.revisions (omega (arith, past)) is))
      | inr before ↦ before
    ]

pub dropped_is_hidden : (history : History) (rev : ℕ) → IsWellFormed history → history.floor ≤ rev → rev ≤ head history →
    AllByRecursion (λ tagged. is_dropped history tagged ≡ true → is_visible history.revisions rev tagged ≡ false) history.characters
dropped_is_hidden history rev formed low high =
    AllByRecursion-weaker (IsByEdits history.revisions) (λ tagged. is_dropped history tagged ≡ true → is_visible history.revisions rev tagged ≡ false)
    hidden history.characters formed.by_edits
  where
    settled : (r : ℕ) → is_collected history r ≡ true →
        has (undone history.revisions rev) (group_of history.revisions r) ≡ has (undone history.revisions (head history)) (group_of history.revisions r)
    settled r is =
        (all_has (IsAtRest history history.floor) history.collected (group_of history.revisions r) formed.at_rest is).is_settled rev low high

    fails : (deleted : List ℕ) → AllByRecursion (λ r. is_edit (revision_at history.revisions r) ≡ true) deleted →
        list_any (λ r. is_collected history r && not (has (undone history.revisions (head history)) (group_of history.revisions r))) deleted ≡ true →
        list_all (λ r. nat_lt rev r || has (undone history.revisions rev) (group_of history.revisions r)) deleted ≡ false
    fails [] each some = absurd (both_ways false refl some)
    fails (r ∷ deleted) each some =
        elim (or_cases (is_collected history r && not (has (undone history.revisions (head history)) (group_of history.revisions r))) _ some) [
          | inl here ↦
              let parts = and_parts (is_collected history r) (not (has (undone history.revisions (head history)) (group_of history.revisions r))) here in
              let by_then : r ≤ rev = omega (arith, low, edit_by_floor history r formed each.0 parts.0) in
              ap₂ (λ a b. (a || b) && list_all (λ n. nat_lt rev n || has (undone history.revisions rev) (group_of history.revisions n)) deleted)
              (le-ltb rev r by_then) (settled r parts.0 ∙ not-true _ parts.1)
          | inr later ↦ and_right _ _ (fails deleted each.1 later)
        ]

    hidden : (tagged : Tagged) → IsByEdits history.revisions tagged → is_dropped history tagged ≡ true → is_visible history.revisions rev tagged ≡ false
    hidden tagged by dropped =
        elim (or_cases (is_collected history tagged.inserted && has (undone history.revisions (head history)) (group_of history.revisions tagged.inserted)) _ dropped) [
          | inl inserted ↦
              let parts = and_parts _ _ inserted in
              and_left _ _ (and_right _ _ (ap not (settled tagged.inserted parts.0 ∙ parts.1)))
          | inr deleted ↦ and_right _ _ (fails tagged.deleted by.deleted deleted)
        ]

-- ---- what is collected after an entry may be collected

resting : (history : History) (retired : List ℕ) (floor : ℕ) → AllByRecursion (IsAtRest history floor) (resting_groups history retired floor)
resting history [] floor = tt
resting history (group ∷ retired) floor =
    by (not (has history.collected group) && is_at_rest history floor group) refl (resting history retired floor)
  where
    by : (b : Bool) → (not (has history.collected group) && is_at_rest history floor group) ≡ b →
        AllByRecursion (IsAtRest history floor) (resting_groups history retired floor) →
        AllByRecursion (IsAtRest history floor) (cond b (group ∷ resting_groups history retired floor) (resting_groups history retired floor))
    by true is rest = ((is_at_rest_iff history floor group).0 (and_parts _ _ is).1, rest)
    by false is rest = rest

-- what rests is what qualifies and is not collected
has-filter : (p : ℕ → Bool) (numbers : List ℕ) (n : ℕ) → has (filter p numbers) n ≡ (has numbers n && p n)
has-filter p [] n = refl
has-filter p (m ∷ numbers) n =
    has-cond (p m) ∙ ap (λ b. m == n && p m || b) (has-filter p numbers n) ∙
    elim (cases_eq m n) [
      | inl same ↦ ap₂ (λ a b. a && b || has numbers n && p n) (eq-eqb m n same) (ap p same) ∙ joined (p n) (has numbers n) ∙
          ap (λ a. (a || has numbers n) && p n) (sym (eq-eqb m n same))
      | inr other ↦ ap (λ a. a && p m || has numbers n && p n) (ne_eqb m n other) ∙
          ap (λ a. (a || has numbers n) && p n) (sym (ne_eqb m n other))
    ]
  where
    has-cond : (b : Bool) → has (cond b (m ∷ filter p numbers) (filter p numbers)) n ≡ (m == n && b || has (filter p numbers) n)
    has-cond true = ap (λ a. a || has (filter p numbers) n) (sym (and-true (m == n)))
    has-cond false = ap (λ a. a || has (filter p numbers) n) (sym (and_right (m == n) false refl))

    joined : (a b : Bool) → (a || b && a) ≡ a
    joined true b = refl
    joined false true = refl
    joined false false = refl

pub resting_groups_iff : (history : History) (retired : List ℕ) (floor group : ℕ) →
    (has (resting_groups history retired floor) group ≡ true) ↔
    (Qualifies history retired floor group × (has history.collected group ≡ false))
resting_groups_iff history retired floor group = (from_rest, to_rest)
  where
    found : has (resting_groups history retired floor) group ≡
        (has retired group && (not (has history.collected group) && is_at_rest history floor group))
    found = has-filter (λ g. not (has history.collected g) && is_at_rest history floor g) retired group

    from_rest : has (resting_groups history retired floor) group ≡ true →
        Qualifies history retired floor group × (has history.collected group ≡ false)
    from_rest is =
        let parts = and_parts (has retired group) (not (has history.collected group) && is_at_rest history floor group) (sym found ∙ is) in
        let more = and_parts (not (has history.collected group)) (is_at_rest history floor group) parts.1 in
        (record { is_retired = parts.0; at_rest = (is_at_rest_iff history floor group).0 more.1 }, not-true (has history.collected group) more.0)

    to_rest : Qualifies history retired floor group × (has history.collected group ≡ false) →
        has (resting_groups history retired floor) group ≡ true
    to_rest both =
        found ∙ and_from (has retired group) (not (has history.collected group) && is_at_rest history floor group) both.0.is_retired
        (and_from (not (has history.collected group)) (is_at_rest history floor group) (ap not both.1)
        ((is_at_rest_iff history floor group).1 both.0.at_rest))

may_collect_at : (history : History) (floor : ℕ) (groups : List ℕ) → MayCollect history floor groups →
    IfSome (collection_at floor groups) (λ collection. MayCollect history collection.floor collection.groups)
may_collect_at history floor [] may = tt
may_collect_at history floor (group ∷ groups) may = may

pub may_collect-collection_of : (history : History) (retired : List ℕ) (most : ℕ) → IsWellFormed history → history.floor ≤ most → most ≤ head history →
    IfSome (collection_of history retired most) (λ collection. MayCollect history collection.floor collection.groups)
may_collect-collection_of history retired most formed low high =
    let greatest = greatest_clean_floor history.revisions most in
    let floor = clean_floor history.revisions most in
    may_collect_at history floor (resting_groups history retired floor) (record {
      rises = greatest.greatest history.floor low formed.clean;
      known = omega (arith, greatest.is_within, high);
      clean = greatest.clean;
      at_rest = resting history retired floor;
    })

-- ---- later revisions give nothing new to collect

module _ (history next : History) (more : List Revision) (revisions_are : next.revisions ≡ history.revisions ++ more)
    (collected_are : next.collected ≡ history.collected) where
  further : head next ≡ head history + length more
  further = ap length revisions_are ∙ length-append history.revisions more

  undone_then : (rev : ℕ) → rev ≤ head history → undone next.revisions rev ≡ undone history.revisions rev
  undone_then rev within = ap (λ revisions. undone revisions rev) revisions_are ∙ undone-append history.revisions more rev within

  dropped_then : (floor : ℕ) → floor ≤ head history → drop floor next.revisions ≡ drop floor history.revisions ++ more
  dropped_then floor within = ap (drop floor) revisions_are ∙ drop-append floor history.revisions more within

  -- a floor that is clean later is clean now, and a group that is at rest there later is at rest now, there and at each later floor
  is_clean-before : (floor : ℕ) → floor ≤ head history → is_clean next.revisions floor ≡ true → is_clean history.revisions floor ≡ true
  is_clean-before floor within clean =
      (and_parts (list_all (is_based_from floor) (drop floor history.revisions)) (list_all (is_based_from floor) more)
      (sym (ap (list_all (is_based_from floor)) (dropped_then floor within) ∙ list_all-append (is_based_from floor) (drop floor history.revisions) more) ∙ clean)).0

  IsAtRest-before : (low floor group : ℕ) → low ≤ floor → floor ≤ head history → IsAtRest next low group → IsAtRest history floor group
  IsAtRest-before low floor group up within rest = record {
    is_over = list_any-drop (is_edit_of group) low floor history.revisions up
        (neither (list_any (is_edit_of group) (drop low history.revisions)) (list_any (is_edit_of group) more)
        (sym (ap (list_any (is_edit_of group)) (dropped_then low (omega (arith, up, within))) ∙ list_any-append (is_edit_of group) (drop low history.revisions) more) ∙
        rest.is_over));
    is_settled = λ rev from to.
        let has_then : (at : ℕ) → low ≤ at → at ≤ head history → has (undone history.revisions at) group ≡ has (undone next.revisions (head next)) group =
        λ at above below. ap (λ groups. has groups group) (sym (undone_then at below)) ∙ rest.is_settled at above (omega (arith, below, further)) in
        has_then rev (omega (arith, up, from)) to ∙ sym (has_then (head history) (omega (arith, up, within)) (omega arith));
  }
    where
      neither : (a b : Bool) → (a || b) ≡ false → a ≡ false
      neither true b none = none
      neither false b none = refl

  -- the test of a retired group
  abbrev rests : History → ℕ → ℕ → Bool
  rests h floor group = not (has h.collected group) && is_at_rest h floor group

  rests-before : (low floor group : ℕ) → low ≤ floor → floor ≤ head history → rests next low group ≡ true → rests history floor group ≡ true
  rests-before low floor group up within is =
      let parts = and_parts (not (has next.collected group)) (is_at_rest next low group) is in
      and_from (not (has history.collected group)) (is_at_rest history floor group)
      (ap (λ groups. not (has groups group)) (sym collected_are) ∙ parts.0)
      ((is_at_rest_iff history floor group).1 (IsAtRest-before low floor group up within ((is_at_rest_iff next low group).0 parts.1)))

  -- where none is at rest, none is later
  pub resting_groups-later : (retired : List ℕ) (low floor : ℕ) → low ≤ floor → floor ≤ head history →
      resting_groups history retired floor ≡ [] → resting_groups next retired low ≡ []
  resting_groups-later [] low floor up within none = refl
  resting_groups-later (group ∷ retired) low floor up within none = by (rests history floor group) (rests next low group) refl refl (resting_groups-later retired low floor up within) none
    where
      by : (now after : Bool) → rests history floor group ≡ now → rests next low group ≡ after →
          (resting_groups history retired floor ≡ [] → resting_groups next retired low ≡ []) →
          cond now (group ∷ resting_groups history retired floor) (resting_groups history retired floor) ≡ [] →
          cond after (group ∷ resting_groups next retired low) (resting_groups next retired low) ≡ []
      by true after now_is later_is fewer some = absurd cc
      by false true now_is later_is fewer rest = absurd (both_ways (rests history floor group) now_is (rests-before low floor group up within later_is))
      by false false now_is later_is fewer rest = fewer rest

  pub clean_floor-later : (most : ℕ) → most ≤ head history → clean_floor next.revisions most ≤ clean_floor history.revisions most
  clean_floor-later most within =
      let later = greatest_clean_floor next.revisions most in
      let now = greatest_clean_floor history.revisions most in
      now.greatest (clean_floor next.revisions most) later.is_within
      (is_clean-before (clean_floor next.revisions most) (omega (arith, later.is_within, within)) later.clean)

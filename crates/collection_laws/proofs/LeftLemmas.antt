-- What is left is well formed, and the same collections may come.
use Rattle.std.proofs.Common.{◌≡◌, ℕ, zero, suc, ◌+◌, ◌-◌, ◌<◌, ◌≤◌, Bool, true, false, not, ◌&&◌, ◌||◌, if◌then◌else◌, nat_lt, ◌==◌, List, [], ◌∷◌, ◌++◌, map, drop, filter, cond, Some, None, refl, ap, ap₂, subst, sym, ◌∙◌, inl, inr, arith}
use Rattle.std.specs.Prelude.{◌⊎◌}
use Rattle.std.specs.List.{AllByRecursion, list_all, list_any, range_with_len}
use Rattle.std.proofs.lemmas.Bool.{and_left, and_right, both_ways, and_parts, or_cases, cases_lt, eqb-true, eq-eqb, ltb-true, or_left, or_right}
use Rattle.plain_text.specs.Numbers.{has}
use Rattle.plain_text.proofs.callers.ListLemmas.{AllByRecursion-append, AllByRecursion-map, AllByRecursion-weaker, list_all_same}
use Rattle.plain_edits.specs.History.{Tagged, Revision, edit, undo, History, head, revision_at, group_of, undone, is_undone, IsTaggedBy}
use Rattle.plain_edits.specs.Edits.{is_edit_of}
use Rattle.plain_edits.specs.Collection.{is_collected, is_dropped, is_based_from, is_clean, clean_floor, IsAtRest, agrees, is_at_rest, resting_groups, collection_at, collection_of}
use Rattle.plain_edits.specs.HistorySteps.{is_edit, IsByEdits, AreBased, HasRisingSet, IsWellFormed}
use Rattle.plain_edits.proofs.callers.CollectionLemmas.{greatest_clean_floor}
use Rattle.collection_laws.specs.MayForget.{MayForget}
use Rattle.collection_laws.specs.Laws.{IsUncollected}
use Rattle.collection_laws.specs.Left.{is_kept, settled_rev, settled_deletions, settled, settled_revision, left_of}
use Rattle.collection_laws.proofs.ListLemmas.{all_from_has, AllByRecursion-drop, AllByRecursion-filter}
use Rattle.collection_laws.proofs.DroppedLemmas.{IsOurs, all_ours, by_edit}
use Rattle.collection_laws.proofs.ShownLemmas.{HasRisingSet-undone, no_zero}
use Rattle.collection_laws.proofs.SettledLemmas.{settled_rev-none, has-settled_deletions, IsRising-settled_deletions, settled_rev-le, settled_deletions-le, head-left, drop-left, undone-left, StaysAs, IsForgotten, settles}

all_map : {X Y : Type 0} (P : Y → Type 0) (Q : X → Type 0) (f : X → Y) → ((x : X) → Q x → P (f x)) → (xs : List X) → AllByRecursion Q xs →
    AllByRecursion P (map f xs)
all_map P Q f each [] all = tt
all_map P Q f each (x ∷ xs) all = (each x all.0, all_map P Q f each xs all.1)

-- ---- bases

AreBased-drop : (before n : ℕ) (revisions : List Revision) → AreBased before revisions → AreBased (before + n) (drop n revisions)
AreBased-drop before zero revisions based = (let none : before ≡ before + 0 = omega arith in subst (λ b. AreBased b revisions) none based)
AreBased-drop before (suc n) [] based = tt
AreBased-drop before (suc n) (edit base group priority author ∷ revisions) based =
    (let next : before + 1 + n ≡ before + suc n = omega arith in subst (λ b. AreBased b (drop n revisions)) next (AreBased-drop (before + 1) n revisions based.1))
AreBased-drop before (suc n) (undo groups ∷ revisions) based =
    (let next : before + 1 + n ≡ before + suc n = omega arith in subst (λ b. AreBased b (drop n revisions)) next (AreBased-drop (before + 1) n revisions based))

module _ (history : History) (forgets : MayForget history) where
  abbrev left : History
  left = left_of history

  within : history.floor ≤ head history
  within = forgets.formed.floor

  same_head : head left ≡ head history
  same_head = head-left history within

  -- ---- the characters

  IsTaggedBy-left : (tagged : Tagged) → IsOurs history tagged → IsTaggedBy (head left) (settled history tagged)
  IsTaggedBy-left tagged ours =
      subst (λ n. IsTaggedBy n (settled history tagged)) (sym same_head) (record {
        inserted = settled_rev-le history tagged.inserted within ours.tags.inserted;
        deleted = settled_deletions-le history tagged.deleted within ours.tags.deleted;
      })

  settled_by_edit : (rev : ℕ) → is_edit (revision_at history.revisions rev) ≡ true → 0 < settled_rev history rev →
      is_edit (revision_at left.revisions (settled_rev history rev)) ≡ true
  settled_by_edit rev is some = by (settles history rev forgets.formed is)
    where
      by : (StaysAs history rev) ⊎ (IsForgotten history rev) → is_edit (revision_at left.revisions (settled_rev history rev)) ≡ true
      by (inl stays) = stays.is
      by (inr goes) = absurd (omega (arith, goes.none, some))

  settled_rev-loaded : (rev : ℕ) → rev ≤ 0 → settled_rev history rev ≡ 0
  settled_rev-loaded rev loaded =
      (let none : rev ≡ 0 = omega (arith, loaded) in ap (settled_rev history) none) ∙ settled_rev-none history 0 (omega arith) refl

  -- what holds of each edit as it is settled holds of each settled deletion
  settled_each : (P : ℕ → Type 0) →
      ((rev : ℕ) → is_edit (revision_at history.revisions rev) ≡ true → 0 < settled_rev history rev → P (settled_rev history rev)) →
      (tagged : Tagged) → IsOurs history tagged → AllByRecursion P (settled_deletions history tagged.deleted)
  settled_each P each tagged ours =
      all_from_has P (settled_deletions history tagged.deleted) (λ n is.
      let parts = and_parts (nat_lt 0 n) (list_any (λ rev. settled_rev history rev == n) tagged.deleted)
      (sym (has-settled_deletions history tagged.deleted n) ∙ is) in
      some n (ltb-true 0 n parts.0) tagged.deleted ours.by.deleted parts.1)
    where
      some : (n : ℕ) → 0 < n → (revs : List ℕ) → AllByRecursion (λ rev. is_edit (revision_at history.revisions rev) ≡ true) revs →
          list_any (λ rev. settled_rev history rev == n) revs ≡ true → P n
      some n above [] by_edits is = absurd (both_ways false refl is)
      some n above (rev ∷ revs) by_edits is =
          elim (or_cases (settled_rev history rev == n) (list_any (λ r. settled_rev history r == n) revs) is) [
            | inl here ↦
                let same : settled_rev history rev ≡ n = eqb-true (settled_rev history rev) n here in
                subst P same (each rev by_edits.0 (omega (arith, same, above)))
            | inr later ↦ some n above revs by_edits.1 later
          ]

  IsByEdits-left : (tagged : Tagged) → IsOurs history tagged → IsByEdits left.revisions (settled history tagged)
  IsByEdits-left tagged ours = record {
    inserted = inserted (cases_lt 0 (settled_rev history tagged.inserted)) (cases_lt 0 tagged.inserted);
    deleted = settled_each (λ rev. is_edit (revision_at left.revisions rev) ≡ true) settled_by_edit tagged ours;
    rising = IsRising-settled_deletions history tagged.deleted;
  }
    where
      inserted : ((0 < settled_rev history tagged.inserted) ⊎ (settled_rev history tagged.inserted ≤ 0)) → ((0 < tagged.inserted) ⊎ (tagged.inserted ≤ 0)) →
          (settled_rev history tagged.inserted == 0 || is_edit (revision_at left.revisions (settled_rev history tagged.inserted))) ≡ true
      inserted (inl some) (inl later) =
          or_right (settled_rev history tagged.inserted == 0) _ (settled_by_edit tagged.inserted (by_edit history tagged ours.by later) some)
      inserted (inl some) (inr loaded) = absurd (omega (arith, some, settled_rev-loaded tagged.inserted loaded))
      inserted (inr none) loaded = or_left _ _ (eq-eqb (settled_rev history tagged.inserted) 0 (omega (arith, none)))

  -- ---- nothing that is collected is left

  settled-open : (rev : ℕ) → is_edit (revision_at history.revisions rev) ≡ true → 0 < settled_rev history rev →
      is_collected left (settled_rev history rev) ≡ false
  settled-open rev is some = by (settles history rev forgets.formed is)
    where
      by : (StaysAs history rev) ⊎ (IsForgotten history rev) → is_collected left (settled_rev history rev) ≡ false
      by (inl stays) = ap (has history.collected) stays.group ∙ stays.is_open
      by (inr goes) = absurd (omega (arith, goes.none, some))

  IsUncollected-left : (tagged : Tagged) → IsOurs history tagged → IsUncollected left (settled history tagged)
  IsUncollected-left tagged ours = record {
    inserted = λ some. inserted some (cases_lt 0 tagged.inserted);
    deleted = settled_each (λ rev. is_collected left rev ≡ false) settled-open tagged ours;
  }
    where
      inserted : 0 < settled_rev history tagged.inserted → ((0 < tagged.inserted) ⊎ (tagged.inserted ≤ 0)) →
          is_collected left (settled_rev history tagged.inserted) ≡ false
      inserted some (inl later) = settled-open tagged.inserted (by_edit history tagged ours.by later) some
      inserted some (inr loaded) = absurd (omega (arith, some, settled_rev-loaded tagged.inserted loaded))

  IsUncollected-kept : (tagged : Tagged) → IsUncollected left tagged → is_dropped left tagged ≡ false
  IsUncollected-kept tagged is =
      ap₂ (λ a b. a || b) (inserted (cases_lt 0 tagged.inserted)) (deleted tagged.deleted is.deleted)
    where
      inserted : ((0 < tagged.inserted) ⊎ (tagged.inserted ≤ 0)) →
          (is_collected left tagged.inserted && is_undone left.revisions (head left) tagged.inserted) ≡ false
      inserted (inl later) = and_left _ _ (is.inserted later)
      inserted (inr loaded) =
          let none : tagged.inserted ≡ 0 = omega (arith, loaded) in
          and_right (is_collected left tagged.inserted) _
          (ap₂ (λ n rev. has (undone left.revisions n) (group_of left.revisions rev)) same_head none ∙
          ap (λ set. has set 0) (undone-left history within (head history) within) ∙ no_zero history (head history) forgets.formed)

      deleted : (revs : List ℕ) → AllByRecursion (λ rev. is_collected left rev ≡ false) revs →
          list_any (λ rev. is_collected left rev && not (is_undone left.revisions (head left) rev)) revs ≡ false
      deleted [] each = refl
      deleted (rev ∷ revs) each = ap₂ (λ a b. a && not (is_undone left.revisions (head left) rev) || b) each.0 (deleted revs each.1)

  -- ---- the revisions

  AreBased-left : AreBased 0 left.revisions
  AreBased-left = front 0 1 history.floor (omega arith)
    where
      front : (before from n : ℕ) → before + n ≡ history.floor →
          AreBased before (map (settled_revision history) (range_with_len from n) ++ drop history.floor history.revisions)
      front before from zero sum =
          (let same : 0 + history.floor ≡ before = omega (arith, sum) in
          subst (λ b. AreBased b (drop history.floor history.revisions)) same (AreBased-drop 0 history.floor history.revisions forgets.formed.based))
      front before from (suc n) sum = by (settled_rev history from == from) (front (before + 1) (from + 1) n (omega (arith, sum)))
        where
          by : (b : Bool) → AreBased (before + 1) (map (settled_revision history) (range_with_len (from + 1) n) ++ drop history.floor history.revisions) →
              AreBased before ((if b then edit 0 (group_of history.revisions from) 0 0 else undo (undone history.revisions history.floor)) ∷
              (map (settled_revision history) (range_with_len (from + 1) n) ++ drop history.floor history.revisions))
          by true rest = (omega arith, rest)
          by false rest = rest

  sets-left : AllByRecursion HasRisingSet left.revisions
  sets-left =
      AllByRecursion-append HasRisingSet (map (settled_revision history) (range_with_len 1 history.floor)) (drop history.floor history.revisions)
      (AllByRecursion-map HasRisingSet (settled_revision history) (λ rev. by rev (settled_rev history rev == rev)) (range_with_len 1 history.floor))
      (AllByRecursion-drop HasRisingSet history.floor history.revisions forgets.formed.sets)
    where
      by : (rev : ℕ) (b : Bool) → HasRisingSet (if b then edit 0 (group_of history.revisions rev) 0 0 else undo (undone history.revisions history.floor))
      by rev true = tt
      by rev false = HasRisingSet-undone history history.floor forgets.formed

  pub IsAtRest-left : (floor group : ℕ) → history.floor ≤ floor → IsAtRest history floor group → IsAtRest left floor group
  IsAtRest-left floor group low rest = record {
    is_over = ap (list_any (is_edit_of group)) (drop-left history within floor low) ∙ rest.is_over;
    is_settled = λ rev from to.
        ap (λ set. has set group) (undone-left history within rev (omega (arith, low, from))) ∙ rest.is_settled rev from (omega (arith, to, same_head)) ∙
        sym (ap (λ n. has (undone left.revisions n) group) same_head ∙ ap (λ set. has set group) (undone-left history within (head history) within));
  }

  -- each character that is left is one of ours, settled
  each_left : (P : Tagged → Type 0) → ((tagged : Tagged) → IsOurs history tagged → P (settled history tagged)) → AllByRecursion P left.characters
  each_left P each =
      all_map P (λ x. IsOurs history x × (is_kept history x ≡ true)) (settled history) (λ x both. each x both.0)
      (filter (is_kept history) history.characters) (AllByRecursion-filter (IsOurs history) (is_kept history) history.characters (all_ours history forgets))

  pub all_uncollected : AllByRecursion (IsUncollected left) left.characters
  all_uncollected = each_left (IsUncollected left) IsUncollected-left

  pub none_dropped : AllByRecursion (λ tagged. is_dropped left tagged ≡ false) left.characters
  none_dropped =
      each_left (λ tagged. is_dropped left tagged ≡ false) (λ tagged ours. IsUncollected-kept (settled history tagged) (IsUncollected-left tagged ours))

  -- WHAT IS LEFT is well formed
  pub IsWellFormed-left : IsWellFormed left
  IsWellFormed-left = record {
    sound = each_left (IsTaggedBy (head left)) IsTaggedBy-left;
    by_edits = each_left (IsByEdits left.revisions) IsByEdits-left;
    based = AreBased-left;
    sets = sets-left;
    floor = omega (arith, within, same_head);
    clean = ap (list_all (is_based_from history.floor)) (drop-left history within history.floor (omega arith)) ∙ forgets.formed.clean;
    rising = forgets.formed.rising;
    at_rest =
        AllByRecursion-weaker (IsAtRest history history.floor) (IsAtRest left history.floor)
        (λ group rest. IsAtRest-left history.floor group (omega arith) rest) history.collected forgets.formed.at_rest;
  }

  -- ---- the collections that may come

  pub is_clean-left : (floor : ℕ) → history.floor ≤ floor → is_clean left.revisions floor ≡ is_clean history.revisions floor
  is_clean-left floor low = ap (list_all (is_based_from floor)) (drop-left history within floor low)

  pub clean_floor-left : (most : ℕ) → history.floor ≤ most → clean_floor left.revisions most ≡ clean_floor history.revisions most
  clean_floor-left zero low = refl
  clean_floor-left (suc most) low =
      elim (cases_lt history.floor (suc most)) [
        | inl past ↦ ap₂ (λ b n. if b then suc most else n) (is_clean-left (suc most) low) (clean_floor-left most (omega (arith, past)))
        | inr at ↦
            let here : history.floor ≡ suc most = omega (arith, at, low) in
            let clean : is_clean history.revisions (suc most) ≡ true = ap (is_clean history.revisions) (sym here) ∙ forgets.formed.clean in
            ap (λ b. if b then suc most else clean_floor left.revisions most) (is_clean-left (suc most) low ∙ clean) ∙
            sym (ap (λ b. if b then suc most else clean_floor history.revisions most) clean)
      ]

  from_range : (floor from n : ℕ) → floor ≤ from → AllByRecursion (λ rev. floor ≤ rev) (range_with_len from n)
  from_range floor from zero low = tt
  from_range floor from (suc n) low = (low, from_range floor (from + 1) n (omega (arith, low)))

  pub is_at_rest-left : (floor group : ℕ) → history.floor ≤ floor → is_at_rest left floor group ≡ is_at_rest history floor group
  is_at_rest-left floor group low =
      ap₂ (λ revisions n. not (list_any (is_edit_of group) revisions) &&
      list_all (λ rev. agrees (has (undone left.revisions rev) group) (has (undone left.revisions n) group)) (range_with_len floor (n + 1 - floor)))
      (drop-left history within floor low) same_head ∙
      ap (λ b. not (list_any (is_edit_of group) (drop floor history.revisions)) && b)
      (list_all_same (λ rev. history.floor ≤ rev) (λ rev. agrees (has (undone left.revisions rev) group) (has (undone left.revisions (head history)) group))
      (λ rev. agrees (has (undone history.revisions rev) group) (has (undone history.revisions (head history)) group))
      (λ rev from. ap₂ (λ xs ys. agrees (has xs group) (has ys group)) (undone-left history within rev from) (undone-left history within (head history) within))
      (range_with_len floor (head history + 1 - floor)) (from_range history.floor floor (head history + 1 - floor) low))

  resting_groups-left : (retired : List ℕ) (floor : ℕ) → history.floor ≤ floor → resting_groups left retired floor ≡ resting_groups history retired floor
  resting_groups-left [] floor low = refl
  resting_groups-left (group ∷ retired) floor low =
      ap₂ (λ b groups. cond b (group ∷ groups) groups) (ap (λ b. not (has history.collected group) && b) (is_at_rest-left floor group low))
      (resting_groups-left retired floor low)

  -- THE COLLECTION after an entry is the same
  pub collection_of-left : (retired : List ℕ) (most : ℕ) → history.floor ≤ most →
      collection_of left retired most ≡ collection_of history retired most
  collection_of-left retired most low =
      ap (λ floor. collection_at floor (resting_groups left retired floor)) (clean_floor-left most low) ∙
      ap (collection_at floor) (resting_groups-left retired floor
      ((greatest_clean_floor history.revisions most).greatest history.floor low forgets.formed.clean))
    where
      floor : ℕ
      floor = clean_floor history.revisions most

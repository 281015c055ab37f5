-- What is left of a history at its head is said by its groups.
use Rattle.std.proofs.Common.{◌≡◌, ℕ, zero, suc, ◌+◌, ◌<◌, ◌≤◌, Bool, true, false, not, ◌&&◌, ◌||◌, if◌then◌else◌, nat_lt, ◌==◌, List, [], ◌∷◌, ◌++◌, length, map, drop, filter, cond, Some, None, refl, ap, ap₂, sym, ◌∙◌, arith}
use Rattle.std.specs.List.{AllByRecursion, list_any, range_with_len}
use Rattle.std.proofs.lemmas.Bool.{and_from, and_parts, both_ways, eq-eqb, eqb-true, lt-ltb, ltb-true, or_left, or_right}
use Rattle.std.proofs.lemmas.List.{append-nil, drop_all}
use Rattle.plain_text.specs.Numbers.{has, with_number, IsRising}
use Rattle.plain_text.proofs.callers.NumberLemmas.{has-with_number, IsRising-with}
use Rattle.plain_edits.specs.History.{Tagged, Revision, edit, undo, History, head, revision_at, group_of, undone, IsTaggedBy, IsSound}
use Rattle.plain_edits.specs.Collection.{is_collected}
use Rattle.plain_edits.specs.HistorySteps.{is_edit}
use Rattle.collection_laws.specs.Left.{is_kept, edits_group, last_edit, settled_rev, settled_deletions, settled, settled_revision, left_of}
use Rattle.collection_laws.proofs.ForCallers.{rising_same, IsRising-settled_deletions, edits-last_edit, has-settled_deletions, settled_rev-last, settled_rev-none}
use Rattle.rev_list.specs.declared.settled.SettledGroup.{SettledGroup}
use Rattle.rev_list.specs.Settled.{first_flag, without_first, first_inserted, first_deleted, settled_characters, ending_at, settled_said, settled_history}
use Rattle.rev_collect.specs.Groups.{IsGroup, AreGroups, settled_of}

-- ---- some of a list

pub any_gives : {X : Type 0} (Q : X → Type 0) (R : Type 0) (p : X → Bool) (xs : List X) → AllByRecursion Q xs → ((x : X) → Q x → p x ≡ true → R) → list_any p xs ≡ true → R
any_gives Q R p [] all gives some = absurd cc
any_gives Q R p (x ∷ xs) all gives some = by (p x) refl some (any_gives Q R p xs all.1 gives)
  where
    by : (b : Bool) → p x ≡ b → (b || list_any p xs) ≡ true → (list_any p xs ≡ true → R) → R
    by true is some rest = gives x all.0 is
    by false is some rest = rest some

pub any_where : {X : Type 0} (Q : X → Type 0) (p q : X → Bool) (xs : List X) → AllByRecursion Q xs → ((x : X) → Q x → p x ≡ true → q x ≡ true) →
    list_any p xs ≡ true → list_any q xs ≡ true
any_where Q p q [] all more some = some
any_where Q p q (x ∷ xs) all more some = by (p x) refl some (any_where Q p q xs all.1 more)
  where
    by : (b : Bool) → p x ≡ b → (b || list_any p xs) ≡ true → (list_any p xs ≡ true → list_any q xs ≡ true) → (q x || list_any q xs) ≡ true
    by true is some rest = or_left (q x) (list_any q xs) (more x all.0 is)
    by false is some rest = or_right (q x) (list_any q xs) (rest some)

pub both_true : (a b : Bool) → (a ≡ true → b ≡ true) → (b ≡ true → a ≡ true) → a ≡ b
both_true true b there back = sym (there refl)
both_true false true there back = back refl
both_true false false there back = refl

never_true : (b : Bool) → (b ≡ true → ⊥) → b ≡ false
never_true true never = absurd (never refl)
never_true false never = refl

-- what is known of a group beside its characters
record IsOpen (h : History) (g : SettledGroup) : Type 0 where
  kept : has h.collected g.group ≡ false
  counts : 0 < g.last
  last : g.last ≡ last_edit h.revisions g.group h.floor

-- each group that has an edit and is not collected is there
abbrev AllOf : History → List SettledGroup → Type 0
AllOf h groups =
    (rev : ℕ) → is_edit (revision_at h.revisions rev) ≡ true → is_collected h rev ≡ false →
    list_any (λ g. g.group == group_of h.revisions rev) groups ≡ true

module _ (h : History) where
  abbrev stands : ℕ → Bool
  stands rev = is_edit (revision_at h.revisions rev) && not (is_collected h rev)

  not_false : (b : Bool) → not b ≡ true → b ≡ false
  not_false true is = absurd cc
  not_false false is = refl

  -- an edit of a group that is not collected
  edit_stands : (g : SettledGroup) (rev : ℕ) → IsOpen h g → edits_group h.revisions g.group rev ≡ true → stands rev ≡ true
  edit_stands g rev is_open is =
      let parts = and_parts (is_edit (revision_at h.revisions rev)) (group_of h.revisions rev == g.group) is in
      and_from (is_edit (revision_at h.revisions rev)) (not (is_collected h rev)) parts.0
      (ap (λ group. not (has h.collected group)) (eqb-true (group_of h.revisions rev) g.group parts.1) ∙ ap not is_open.kept)

  edit_group : (g : SettledGroup) (rev : ℕ) → edits_group h.revisions g.group rev ≡ true → group_of h.revisions rev ≡ g.group
  edit_group g rev is =
      let parts = and_parts (is_edit (revision_at h.revisions rev)) (group_of h.revisions rev == g.group) is in
      eqb-true (group_of h.revisions rev) g.group parts.1

  -- an edit of the group of a revision that stands
  own_edit : (g : SettledGroup) (rev : ℕ) → stands rev ≡ true → (g.group == group_of h.revisions rev) ≡ true → edits_group h.revisions g.group rev ≡ true
  own_edit g rev is own =
      let parts = and_parts (is_edit (revision_at h.revisions rev)) (not (is_collected h rev)) is in
      and_from (is_edit (revision_at h.revisions rev)) (group_of h.revisions rev == g.group) parts.0
      (eq-eqb (group_of h.revisions rev) g.group (sym (eqb-true g.group (group_of h.revisions rev) own)))

  some_own : (groups : List SettledGroup) (rev : ℕ) → AllOf h groups → stands rev ≡ true → list_any (λ g. g.group == group_of h.revisions rev) groups ≡ true
  some_own groups rev all is =
      let parts = and_parts (is_edit (revision_at h.revisions rev)) (not (is_collected h rev)) is in
      all rev parts.0 (not_false (is_collected h rev) parts.1)

  -- the last edit of its group is what the revision is settled as
  settled_last : (g : SettledGroup) (rev : ℕ) → IsOpen h g → rev ≤ h.floor → stands rev ≡ true → group_of h.revisions rev ≡ g.group → settled_rev h rev ≡ g.last
  settled_last g rev is_open within is own =
      settled_rev-last h rev within is ∙ ap (λ group. last_edit h.revisions group h.floor) own ∙ sym is_open.last

  settled_some : (rev n : ℕ) → rev ≤ h.floor → settled_rev h rev ≡ n → 0 < n → stands rev ≡ true
  settled_some rev n within is counts = by (stands rev) refl
    where
      by : (b : Bool) → stands rev ≡ b → b ≡ true
      by true stand = refl
      by false none = absurd (omega (arith, settled_rev-none h rev within none, is, counts))

  -- ---- the revision that inserted the first character

  -- whether the group inserted and deleted it
  record IsFirst (t : Tagged) (g : SettledGroup) : Type 0 where
    is_open : IsOpen h g
    inserted : first_flag g.inserted ≡ edits_group h.revisions g.group t.inserted
    deleted : first_flag g.deleted ≡ list_any (edits_group h.revisions g.group) t.deleted

  inserted_is : (t : Tagged) (groups : List SettledGroup) → t.inserted ≤ h.floor → AllByRecursion (IsFirst t) groups → stands t.inserted ≡ true →
      list_any (λ g. g.group == group_of h.revisions t.inserted) groups ≡ true → first_inserted groups ≡ settled_rev h t.inserted
  inserted_is t [] within firsts is some = absurd cc
  inserted_is t (g ∷ groups) within firsts is some =
      by (first_flag g.inserted) refl (inserted_is t groups within firsts.1 is)
    where
      rest_some : (own rest : Bool) → own ≡ false → (own || rest) ≡ true → rest ≡ true
      rest_some true rest none some = absurd cc
      rest_some false rest none some = some

      by : (new : Bool) → first_flag g.inserted ≡ new →
          (list_any (λ g. g.group == group_of h.revisions t.inserted) groups ≡ true → first_inserted groups ≡ settled_rev h t.inserted) →
          (if new then g.last else first_inserted groups) ≡ settled_rev h t.inserted
      by true new rest =
          let edits : edits_group h.revisions g.group t.inserted ≡ true = sym firsts.0.inserted ∙ new in
          sym (settled_last g t.inserted firsts.0.is_open within is (edit_group g t.inserted edits))
      by false new rest =
          rest (rest_some (g.group == group_of h.revisions t.inserted) (list_any (λ g. g.group == group_of h.revisions t.inserted) groups)
          (never_true (g.group == group_of h.revisions t.inserted)
          (λ own. both_ways (first_flag g.inserted) new (firsts.0.inserted ∙ own_edit g t.inserted is own))) some)

  inserted_none : (t : Tagged) (groups : List SettledGroup) → AllByRecursion (IsFirst t) groups → stands t.inserted ≡ false → first_inserted groups ≡ 0
  inserted_none t [] firsts none = refl
  inserted_none t (g ∷ groups) firsts none =
      let away : first_flag g.inserted ≡ false =
      never_true (first_flag g.inserted) (λ new. both_ways (stands t.inserted) none (edit_stands g t.inserted firsts.0.is_open (sym firsts.0.inserted ∙ new))) in
      ap (λ b. if b then g.last else first_inserted groups) away ∙ inserted_none t groups firsts.1 none

  first_inserted_is : (t : Tagged) (groups : List SettledGroup) → t.inserted ≤ h.floor → AllOf h groups → AllByRecursion (IsFirst t) groups →
      first_inserted groups ≡ settled_rev h t.inserted
  first_inserted_is t groups within all firsts = by (stands t.inserted) refl
    where
      by : (b : Bool) → stands t.inserted ≡ b → first_inserted groups ≡ settled_rev h t.inserted
      by true is = inserted_is t groups within firsts is (some_own groups t.inserted all is)
      by false none = inserted_none t groups firsts none ∙ sym (settled_rev-none h t.inserted within none)

  -- ---- those that deleted it

  rising_first : (groups : List SettledGroup) → IsRising (first_deleted groups)
  rising_first [] = tt
  rising_first (g ∷ groups) = by (first_flag g.deleted) (rising_first groups)
    where
      by : (gone : Bool) → IsRising (first_deleted groups) → IsRising (if gone then with_number (first_deleted groups) g.last else first_deleted groups)
      by true up = IsRising-with (first_deleted groups) g.last up
      by false up = up

  has-first_deleted : (groups : List SettledGroup) (n : ℕ) → has (first_deleted groups) n ≡ list_any (λ g. first_flag g.deleted && g.last == n) groups
  has-first_deleted [] n = refl
  has-first_deleted (g ∷ groups) n = by (first_flag g.deleted) (has-first_deleted groups n)
    where
      by : (gone : Bool) → has (first_deleted groups) n ≡ list_any (λ g. first_flag g.deleted && g.last == n) groups →
          has (if gone then with_number (first_deleted groups) g.last else first_deleted groups) n ≡
          (gone && g.last == n || list_any (λ g. first_flag g.deleted && g.last == n) groups)
      by true rest = has-with_number (first_deleted groups) g.last n ∙ ap (λ b. g.last == n || b) rest
      by false rest = rest

  -- one of the deletions of the character
  record IsIn (t : Tagged) (rev : ℕ) : Type 0 where
    within : rev ≤ h.floor
    there : (p : ℕ → Bool) → p rev ≡ true → list_any p t.deleted ≡ true

  -- a group that deleted the character, and its last edit
  deleted_from : (t : Tagged) (groups : List SettledGroup) (n : ℕ) → AllByRecursion (λ rev. rev ≤ h.floor) t.deleted → AllOf h groups →
      AllByRecursion (IsFirst t) groups → 0 < n → list_any (λ rev. settled_rev h rev == n) t.deleted ≡ true →
      list_any (λ g. first_flag g.deleted && g.last == n) groups ≡ true
  deleted_from t groups n within all firsts counts some =
      any_gives (IsIn t) (list_any (λ g. first_flag g.deleted && g.last == n) groups ≡ true) (λ rev. settled_rev h rev == n) t.deleted (each t.deleted within (λ rev there. there))
      (λ rev is settles.
      let n_is : settled_rev h rev ≡ n = eqb-true (settled_rev h rev) n settles in
      let stand : stands rev ≡ true = settled_some rev n is.within n_is counts in
      any_where (IsFirst t) (λ g. g.group == group_of h.revisions rev) (λ g. first_flag g.deleted && g.last == n) groups firsts
      (λ g first own.
      let edits : edits_group h.revisions g.group rev ≡ true = own_edit g rev stand own in
      and_from (first_flag g.deleted) (g.last == n) (first.deleted ∙ is.there (edits_group h.revisions g.group) edits)
      (eq-eqb g.last n (sym (settled_last g rev first.is_open is.within stand (edit_group g rev edits)) ∙ n_is)))
      (some_own groups rev all stand)) some
    where
      each : (deleted : List ℕ) → AllByRecursion (λ rev. rev ≤ h.floor) deleted → ((p : ℕ → Bool) → list_any p deleted ≡ true → list_any p t.deleted ≡ true) →
          AllByRecursion (IsIn t) deleted
      each [] all inside = tt
      each (rev ∷ deleted) all inside = (
        record { within = all.0; there = λ p is. inside p (or_left (p rev) (list_any p deleted) is) },
        each deleted all.1 (λ p some. inside p (or_right (p rev) (list_any p deleted) some)),
      )

  deleted_back : (t : Tagged) (groups : List SettledGroup) (n : ℕ) → AllByRecursion (λ rev. rev ≤ h.floor) t.deleted → AllByRecursion (IsFirst t) groups →
      list_any (λ g. first_flag g.deleted && g.last == n) groups ≡ true → (nat_lt 0 n && list_any (λ rev. settled_rev h rev == n) t.deleted) ≡ true
  deleted_back t groups n within firsts some =
      any_gives (IsFirst t) ((nat_lt 0 n && list_any (λ rev. settled_rev h rev == n) t.deleted) ≡ true) (λ g. first_flag g.deleted && g.last == n) groups firsts
      (λ g first both.
      let parts = and_parts (first_flag g.deleted) (g.last == n) both in
      let n_is : g.last ≡ n = eqb-true g.last n parts.1 in
      and_from (nat_lt 0 n) (list_any (λ rev. settled_rev h rev == n) t.deleted) (lt-ltb 0 n (omega (arith, n_is, first.is_open.counts)))
      (any_where (λ rev. rev ≤ h.floor) (edits_group h.revisions g.group) (λ rev. settled_rev h rev == n) t.deleted within
      (λ rev inside edits.
      eq-eqb (settled_rev h rev) n
      (settled_last g rev first.is_open inside (edit_stands g rev first.is_open edits) (edit_group g rev edits) ∙ n_is))
      (sym first.deleted ∙ parts.0))) some

  first_deleted_is : (t : Tagged) (groups : List SettledGroup) → AllByRecursion (λ rev. rev ≤ h.floor) t.deleted → AllOf h groups →
      AllByRecursion (IsFirst t) groups → first_deleted groups ≡ settled_deletions h t.deleted
  first_deleted_is t groups within all firsts =
      rising_same (first_deleted groups) (settled_deletions h t.deleted) (rising_first groups) (IsRising-settled_deletions h t.deleted)
      (λ n. has-first_deleted groups n ∙
      both_true (list_any (λ g. first_flag g.deleted && g.last == n) groups) (nat_lt 0 n && list_any (λ rev. settled_rev h rev == n) t.deleted)
      (deleted_back t groups n within firsts)
      (λ both.
      let parts = and_parts (nat_lt 0 n) (list_any (λ rev. settled_rev h rev == n) t.deleted) both in
      deleted_from t groups n within all firsts (ltb-true 0 n parts.0) parts.1) ∙
      sym (has-settled_deletions h t.deleted n))

  -- ---- all characters

  -- what is known of a group over some characters
  record IsOver (cs : List Tagged) (g : SettledGroup) : Type 0 where
    is_open : IsOpen h g
    inserted : g.inserted ≡ map (λ tagged. edits_group h.revisions g.group tagged.inserted) cs
    deleted : g.deleted ≡ map (λ tagged. list_any (edits_group h.revisions g.group) tagged.deleted) cs

  firsts_of : (t : Tagged) (cs : List Tagged) (groups : List SettledGroup) → AllByRecursion (IsOver (t ∷ cs)) groups → AllByRecursion (IsFirst t) groups
  firsts_of t cs [] over = tt
  firsts_of t cs (g ∷ groups) over = (
    record { is_open = over.0.is_open; inserted = ap first_flag over.0.inserted; deleted = ap first_flag over.0.deleted },
    firsts_of t cs groups over.1,
  )

  rests_of : (t : Tagged) (cs : List Tagged) (groups : List SettledGroup) → AllByRecursion (IsOver (t ∷ cs)) groups →
      AllByRecursion (IsOver cs) (map without_first groups)
  rests_of t cs [] over = tt
  rests_of t cs (g ∷ groups) over = (
    record {
      is_open = record { kept = over.0.is_open.kept; counts = over.0.is_open.counts; last = over.0.is_open.last };
      inserted = ap (drop 1) over.0.inserted;
      deleted = ap (drop 1) over.0.deleted;
    },
    rests_of t cs groups over.1,
  )

  same_groups : (groups : List SettledGroup) (n : ℕ) → list_any (λ g. g.group == n) (map without_first groups) ≡ list_any (λ g. g.group == n) groups
  same_groups [] n = refl
  same_groups (g ∷ groups) n = ap (λ b. g.group == n || b) (same_groups groups n)

  all_characters : (cs : List Tagged) (groups : List SettledGroup) → AllByRecursion (IsTaggedBy h.floor) cs → AllByRecursion (λ t. t.character ≡ 0) cs →
      AllOf h groups → AllByRecursion (IsOver cs) groups → settled_characters (length cs) groups ≡ map (settled h) cs
  all_characters [] groups tagged nothing all over = refl
  all_characters (t ∷ cs) groups tagged nothing all over =
      let firsts = firsts_of t cs groups over in
      ap₂ (λ first rest. first ∷ rest)
      (tag 0 t.character (first_inserted groups) (settled_rev h t.inserted) (first_deleted groups) (settled_deletions h t.deleted) (sym nothing.0) (first_inserted_is t groups tagged.0.inserted all firsts) (first_deleted_is t groups tagged.0.deleted all firsts))
      (all_characters cs (map without_first groups) tagged.1 nothing.1 (λ rev is is_open. same_groups groups (group_of h.revisions rev) ∙ all rev is is_open) (rests_of t cs groups over))
    where
      tagged_of : ℕ → ℕ → List ℕ → Tagged
      tagged_of c i d = record { character = c; inserted = i; deleted = d }

      tag : (c c' i i' : ℕ) (d d' : List ℕ) → c ≡ c' → i ≡ i' → d ≡ d' → tagged_of c i d ≡ tagged_of c' i' d'
      tag c c' i i' d d' e f g = ap₂ (λ a b. tagged_of a b d) e f ∙ ap (tagged_of c' i') g

  -- ---- the revisions

  ending_is : (groups : List SettledGroup) (rev : ℕ) → 0 < rev → rev ≤ h.floor → AllByRecursion (IsOpen h) groups → stands rev ≡ true → settled_rev h rev ≡ rev →
      list_any (λ g. g.group == group_of h.revisions rev) groups ≡ true → ending_at groups rev ≡ Some (group_of h.revisions rev)
  ending_is [] rev counts within opens is same some = absurd cc
  ending_is (g ∷ groups) rev counts within opens is same some =
      by (g.last == rev) refl (ending_is groups rev counts within opens.1 is same)
    where
      rest_some : (own rest : Bool) → own ≡ false → (own || rest) ≡ true → rest ≡ true
      rest_some true rest none some = absurd cc
      rest_some false rest none some = some

      by : (here : Bool) → (g.last == rev) ≡ here →
          (list_any (λ g. g.group == group_of h.revisions rev) groups ≡ true → ending_at groups rev ≡ Some (group_of h.revisions rev)) →
          (if here then Some g.group else ending_at groups rev) ≡ Some (group_of h.revisions rev)
      by true here rest =
          let last : g.last ≡ rev = eqb-true g.last rev here in
          let ends : last_edit h.revisions g.group h.floor ≡ rev = sym opens.0.last ∙ last in
          let edits = edits-last_edit h.revisions g.group h.floor (omega (arith, ends, counts)) in
          ap Some (sym (edit_group g rev (rw ends at edits)))
      by false here rest =
          rest (rest_some (g.group == group_of h.revisions rev) (list_any (λ g. g.group == group_of h.revisions rev) groups)
          (never_true (g.group == group_of h.revisions rev)
          (λ own. both_ways (g.last == rev) here
          (eq-eqb g.last rev (sym (settled_last g rev opens.0 within is (sym (eqb-true g.group (group_of h.revisions rev) own))) ∙ same)))) some)

  ending_none : (groups : List SettledGroup) (rev : ℕ) → 0 < rev → rev ≤ h.floor → AllByRecursion (IsOpen h) groups → (settled_rev h rev ≡ rev → ⊥) →
      ending_at groups rev ≡ None
  ending_none [] rev counts within opens other = refl
  ending_none (g ∷ groups) rev counts within opens other =
      let away : (g.last == rev) ≡ false = never_true (g.last == rev) (λ here. other (same here)) in
      ap (λ b. if b then Some g.group else ending_at groups rev) away ∙ ending_none groups rev counts within opens.1 other
    where
      same : (g.last == rev) ≡ true → settled_rev h rev ≡ rev
      same here =
          let last : g.last ≡ rev = eqb-true g.last rev here in
          let ends : last_edit h.revisions g.group h.floor ≡ rev = sym opens.0.last ∙ last in
          let edits : edits_group h.revisions g.group rev ≡ true = rw ends at (edits-last_edit h.revisions g.group h.floor (omega (arith, ends, counts))) in
          settled_last g rev opens.0 within (edit_stands g rev opens.0 edits) (edit_group g rev edits) ∙ last

  said_is : (groups : List SettledGroup) (rev : ℕ) → 0 < rev → rev ≤ h.floor → AllOf h groups → AllByRecursion (IsOpen h) groups →
      settled_said (undone h.revisions h.floor) (ending_at groups rev) ≡ settled_revision h rev
  said_is groups rev counts within all opens = by (settled_rev h rev == rev) refl
    where
      by : (same : Bool) → (settled_rev h rev == rev) ≡ same →
          settled_said (undone h.revisions h.floor) (ending_at groups rev) ≡
          (if same then edit 0 (group_of h.revisions rev) 0 0 else undo (undone h.revisions h.floor))
      by true is =
          let same : settled_rev h rev ≡ rev = eqb-true (settled_rev h rev) rev is in
          let stand : stands rev ≡ true = settled_some rev rev within same counts in
          ap (settled_said (undone h.revisions h.floor)) (ending_is groups rev counts within opens stand same (some_own groups rev all stand))
      by false is =
          ap (settled_said (undone h.revisions h.floor))
          (ending_none groups rev counts within opens (λ same. both_ways (settled_rev h rev == rev) is (eq-eqb (settled_rev h rev) rev same)))

map_range : (f g : ℕ → Revision) (from n : ℕ) → ((rev : ℕ) → from ≤ rev → rev < from + n → f rev ≡ g rev) → map f (range_with_len from n) ≡ map g (range_with_len from n)
map_range f g from zero same = refl
map_range f g from (suc n) same =
    ap₂ (λ r rest. r ∷ rest) (same from (omega arith) (omega arith)) (map_range f g (from + 1) n (λ rev low high. same rev (omega (arith, low)) (omega (arith, high))))

filtered : (P : Tagged → Type 0) (p : Tagged → Bool) (xs : List Tagged) → AllByRecursion P xs → AllByRecursion P (filter p xs)
filtered P p [] all = tt
filtered P p (x ∷ xs) all = by (p x) (filtered P p xs all.1)
  where
    by : (b : Bool) → AllByRecursion P (filter p xs) → AllByRecursion P (cond b (x ∷ filter p xs) (filter p xs))
    by true rest = (all.0, rest)
    by false rest = rest

module _ (h : History) (groups : List SettledGroup) (at_head : h.floor ≡ head h) (sound : IsSound h) (nothing : AllByRecursion (λ t. t.character ≡ 0) h.characters) (are : AreGroups h (filter (is_kept h) h.characters) groups) where
  opens : (gs : List SettledGroup) → AllByRecursion (IsGroup h (filter (is_kept h) h.characters)) gs → AllByRecursion (IsOpen h) gs
  opens [] each = tt
  opens (g ∷ gs) each = (
    record { kept = each.0.kept; counts = each.0.counts; last = each.0.last ∙ ap (last_edit h.revisions g.group) (sym at_head) },
    opens gs each.1,
  )

  overs : (gs : List SettledGroup) → AllByRecursion (IsGroup h (filter (is_kept h) h.characters)) gs → AllByRecursion (IsOver h (filter (is_kept h) h.characters)) gs
  overs [] each = tt
  overs (g ∷ gs) each = (
    record {
      is_open = record { kept = each.0.kept; counts = each.0.counts; last = each.0.last ∙ ap (last_edit h.revisions g.group) (sym at_head) };
      inserted = each.0.inserted;
      deleted = each.0.deleted;
    },
    overs gs each.1,
  )

  characters_are : (settled_history (settled_of h groups)).characters ≡ (left_of h).characters
  characters_are =
      all_characters h (filter (is_kept h) h.characters) groups
      (filtered (IsTaggedBy h.floor) (is_kept h) h.characters (rw at_head sound)) (filtered (λ t. t.character ≡ 0) (is_kept h) h.characters nothing)
      are.all (overs groups are.each)

  revisions_are : (settled_history (settled_of h groups)).revisions ≡ (left_of h).revisions
  revisions_are =
      map_range (λ rev. settled_said (undone h.revisions h.floor) (ending_at groups rev)) (settled_revision h) 1 h.floor
      (λ rev low high. said_is h groups rev (omega (arith, low)) (omega (arith, high)) are.all (opens groups are.each)) ∙
      sym (append-nil (map (settled_revision h) (range_with_len 1 h.floor))) ∙
      sym (ap (λ rest. map (settled_revision h) (range_with_len 1 h.floor) ++ rest) (drop_all h.floor h.revisions (omega (arith, at_head))))

  pub left_said : settled_history (settled_of h groups) ≡ left_of h
  left_said = ap₂ (λ characters revisions. record h { characters = characters; revisions = revisions }) characters_are revisions_are

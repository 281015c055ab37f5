-- What is dropped at the head is said by the groups that are collected there.
use Rattle.std.proofs.Common.{◌≡◌, ℕ, zero, suc, Bool, true, false, not, ◌&&◌, ◌||◌, if◌then◌else◌, ◌==◌, List, [], ◌∷◌, length, map, filter, cond, inl, inr, refl, ap, ap₂, sym, ◌∙◌, arith}
use Rattle.std.specs.Prelude.{replicate}
use Rattle.std.specs.List.{AllByRecursion, fold, list_any}
use Rattle.std.proofs.lemmas.Bool.{and_from, and_parts, both_ways, eq-eqb, eqb-true, ne_eqb, or_cases, or_left, or_right}
use Rattle.subset_runs.specs.Subset.{union}
use Rattle.plain_text.specs.Numbers.{has}
use Rattle.plain_text.proofs.callers.NumberLemmas.{has-with_numbers}
use Rattle.plain_edits.specs.History.{Tagged, History, head, revision_at, group_of}
use Rattle.plain_edits.specs.Collection.{collected_at, is_collected, is_dropped}
use Rattle.plain_edits.specs.HistorySteps.{is_edit, IsByEdits}
use Rattle.plain_edits.specs.Undo.{undone_now}
use Rattle.collection_laws.specs.Laws.{IsUncollected}
use Rattle.collection_laws.specs.Left.{edits_group}
use Rattle.rev_list.specs.declared.settled.SettledGroup.{SettledGroup}
use Rattle.rev_list.specs.Settled.{hidden_of}
use Rattle.rev_collect.specs.Groups.{IsGroup, AreGroups, dropped_by}
use Rattle.rev_collect.proofs.LeftLemmas.{any_gives, any_where, both_true}

-- ---- sets of positions of some characters, joined

pub union-map : (a b : Tagged → Bool) (cs : List Tagged) → union (map a cs) (map b cs) ≡ map (λ t. a t || b t) cs
union-map a b [] = refl
union-map a b (t ∷ cs) = ap (λ rest. (a t || b t) ∷ rest) (union-map a b cs)

pub map_same : (a b : Tagged → Bool) (cs : List Tagged) → ((t : Tagged) → a t ≡ b t) → map a cs ≡ map b cs
map_same a b [] same = refl
map_same a b (t ∷ cs) same = ap₂ (λ x rest. x ∷ rest) (same t) (map_same a b cs same)

or_or : (a b c : Bool) → ((a || b) || c) ≡ (a || (b || c))
or_or true b c = refl
or_or false b c = refl

or_nothing : (a : Bool) → a ≡ (a || false)
or_nothing true = refl
or_nothing false = refl

pub joined : (f : SettledGroup → List Bool) (flag : SettledGroup → Tagged → Bool) (cs : List Tagged) (groups : List SettledGroup) (a : Tagged → Bool) →
    AllByRecursion (λ g. f g ≡ map (flag g) cs) groups → fold (λ all g. union all (f g)) (map a cs) groups ≡ map (λ t. a t || list_any (λ g. flag g t) groups) cs
joined f flag cs [] a is = map_same a (λ t. a t || false) cs (λ t. or_nothing (a t))
joined f flag cs (g ∷ groups) a is =
    ap (λ more. fold (λ all g. union all (f g)) more groups) (ap (union (map a cs)) is.0 ∙ union-map a (flag g) cs) ∙
    joined f flag cs groups (λ t. a t || flag g t) is.1 ∙
    map_same (λ t. (a t || flag g t) || list_any (λ g. flag g t) groups) (λ t. a t || (flag g t || list_any (λ g. flag g t) groups)) cs
    (λ t. or_or (a t) (flag g t) (list_any (λ g. flag g t) groups))

pub none-map : (cs : List Tagged) → replicate (length cs) false ≡ map (λ t. false) cs
none-map [] = refl
none-map (t ∷ cs) = ap (λ rest. false ∷ rest) (none-map cs)

pub any-filter : (p q : SettledGroup → Bool) (groups : List SettledGroup) → list_any q (filter p groups) ≡ list_any (λ g. p g && q g) groups
any-filter p q [] = refl
any-filter p q (g ∷ groups) = by (p g) (any-filter p q groups)
  where
    by : (b : Bool) → list_any q (filter p groups) ≡ list_any (λ g. p g && q g) groups →
        list_any q (cond b (g ∷ filter p groups) (filter p groups)) ≡ (b && q g || list_any (λ g. p g && q g) groups)
    by true rest = ap (λ b. q g || b) rest
    by false rest = rest

all_filter : (P : SettledGroup → Type 0) (p : SettledGroup → Bool) (groups : List SettledGroup) → AllByRecursion P groups → AllByRecursion P (filter p groups)
all_filter P p [] all = tt
all_filter P p (g ∷ groups) all = by (p g) (all_filter P p groups all.1)
  where
    by : (b : Bool) → AllByRecursion P (filter p groups) → AllByRecursion P (cond b (g ∷ filter p groups) (filter p groups))
    by true rest = (all.0, rest)
    by false rest = rest

-- ---- one character

module _ (h : History) (now : List ℕ) (groups : List SettledGroup) (loaded : has (undone_now h) 0 ≡ false) (are : AreGroups h h.characters groups) where
  abbrev gone : List ℕ
  gone = undone_now h

  abbrev after : History
  after = collected_at h (head h) now

  -- whether the group hides the character
  abbrev hides : SettledGroup → Tagged → Bool
  hides g t = if has gone g.group then edits_group h.revisions g.group t.inserted else list_any (edits_group h.revisions g.group) t.deleted

  collected_now : (rev : ℕ) → is_collected h rev ≡ false → is_collected after rev ≡ has now (group_of h.revisions rev)
  collected_now rev none = has-with_numbers h.collected now (group_of h.revisions rev) ∙ ap (λ b. b || has now (group_of h.revisions rev)) none

  own_edit : (g : SettledGroup) (rev : ℕ) → is_edit (revision_at h.revisions rev) ≡ true → (g.group == group_of h.revisions rev) ≡ true →
      edits_group h.revisions g.group rev ≡ true
  own_edit g rev is own =
      and_from (is_edit (revision_at h.revisions rev)) (group_of h.revisions rev == g.group) is
      (eq-eqb (group_of h.revisions rev) g.group (sym (eqb-true g.group (group_of h.revisions rev) own)))

  edit_group : (g : SettledGroup) (rev : ℕ) → edits_group h.revisions g.group rev ≡ true → group_of h.revisions rev ≡ g.group
  edit_group g rev is =
      let parts = and_parts (is_edit (revision_at h.revisions rev)) (group_of h.revisions rev == g.group) is in
      eqb-true (group_of h.revisions rev) g.group parts.1

  -- a deletion of the character
  record IsDeletion (rev : ℕ) : Type 0 where
    edits : is_edit (revision_at h.revisions rev) ≡ true
    kept : is_collected h rev ≡ false

  deletions : (deleted : List ℕ) → AllByRecursion (λ rev. is_edit (revision_at h.revisions rev) ≡ true) deleted → AllByRecursion (λ rev. is_collected h rev ≡ false) deleted →
      AllByRecursion IsDeletion deleted
  deletions [] edits kept = tt
  deletions (rev ∷ deleted) edits kept = (record { edits = edits.0; kept = kept.0 }, deletions deleted edits.1 kept.1)

  abbrev by_now : Tagged → Bool
  by_now t = list_any (λ g. has now g.group && hides g t) groups

  -- a group of which a revision is, that is collected now and hides the character
  said : (t : Tagged) (rev : ℕ) → is_edit (revision_at h.revisions rev) ≡ true → is_collected h rev ≡ false → has now (group_of h.revisions rev) ≡ true →
      ((g : SettledGroup) → g.group ≡ group_of h.revisions rev → edits_group h.revisions g.group rev ≡ true → hides g t ≡ true) → by_now t ≡ true
  said t rev edits kept is hidden =
      any_where (IsGroup h h.characters) (λ g. g.group == group_of h.revisions rev) (λ g. has now g.group && hides g t) groups are.each
      (λ g group own.
      let same : g.group ≡ group_of h.revisions rev = eqb-true g.group (group_of h.revisions rev) own in
      and_from (has now g.group) (hides g t) (ap (has now) same ∙ is) (hidden g same (own_edit g rev edits own))) (are.all rev edits kept)

  no_group : (b : Bool) (n : ℕ) → n ≡ 0 → (b && has gone (group_of h.revisions n)) ≡ false
  no_group b n is = ap (λ n. b && has gone (group_of h.revisions n)) is ∙ ap (λ c. b && c) loaded ∙ nothing b
    where
      nothing : (b : Bool) → (b && false) ≡ false
      nothing true = refl
      nothing false = refl

  inserted_said : (t : Tagged) → IsUncollected h t → IsByEdits h.revisions t → (is_collected after t.inserted && has gone (group_of h.revisions t.inserted)) ≡ true →
      by_now t ≡ true
  inserted_said t free edits both = by t.inserted refl
    where
      or_second : (a b : Bool) → a ≡ false → (a || b) ≡ true → b ≡ true
      or_second true b none some = absurd cc
      or_second false b none some = some

      by : (n : ℕ) → t.inserted ≡ n → by_now t ≡ true
      by zero is = absurd (both_ways (is_collected after t.inserted && has gone (group_of h.revisions t.inserted)) (no_group (is_collected after t.inserted) t.inserted is) both)
      by (suc n) is =
          let parts = and_parts (is_collected after t.inserted) (has gone (group_of h.revisions t.inserted)) both in
          let edit : is_edit (revision_at h.revisions t.inserted) ≡ true =
          or_second (t.inserted == 0) (is_edit (revision_at h.revisions t.inserted)) (ne_eqb t.inserted 0 (λ none. omega (arith, none, is))) edits.inserted in
          let kept : is_collected h t.inserted ≡ false = free.inserted (omega (arith, is)) in
          said t t.inserted edit kept (sym (collected_now t.inserted kept) ∙ parts.0)
          (λ g same own.
          ap (λ b. if b then edits_group h.revisions g.group t.inserted else list_any (edits_group h.revisions g.group) t.deleted) (ap (has gone) same ∙ parts.1) ∙ own)

  not_false : (b : Bool) → not b ≡ true → b ≡ false
  not_false true is = absurd cc
  not_false false is = refl

  -- one of the deletions, and what is said of each of them
  record IsIn (t : Tagged) (rev : ℕ) : Type 0 where
    is : IsDeletion rev
    there : (p : ℕ → Bool) → p rev ≡ true → list_any p t.deleted ≡ true

  each_in : (t : Tagged) (deleted : List ℕ) → AllByRecursion IsDeletion deleted → ((p : ℕ → Bool) → list_any p deleted ≡ true → list_any p t.deleted ≡ true) →
      AllByRecursion (IsIn t) deleted
  each_in t [] all inside = tt
  each_in t (rev ∷ deleted) all inside = (
    record { is = all.0; there = λ p is. inside p (or_left (p rev) (list_any p deleted) is) },
    each_in t deleted all.1 (λ p some. inside p (or_right (p rev) (list_any p deleted) some)),
  )

  deleted_said : (t : Tagged) → AllByRecursion IsDeletion t.deleted →
      list_any (λ rev. is_collected after rev && not (has gone (group_of h.revisions rev))) t.deleted ≡ true → by_now t ≡ true
  deleted_said t all some =
      any_gives (IsIn t) (by_now t ≡ true) (λ rev. is_collected after rev && not (has gone (group_of h.revisions rev))) t.deleted
      (each_in t t.deleted all (λ p there. there))
      (λ rev one both.
      let parts = and_parts (is_collected after rev) (not (has gone (group_of h.revisions rev))) both in
      said t rev one.is.edits one.is.kept (sym (collected_now rev one.is.kept) ∙ parts.0)
      (λ g same own.
      ap (λ b. if b then edits_group h.revisions g.group t.inserted else list_any (edits_group h.revisions g.group) t.deleted)
      (ap (has gone) same ∙ not_false (has gone (group_of h.revisions rev)) parts.1) ∙ one.there (edits_group h.revisions g.group) own)) some

  collected_of : (g : SettledGroup) (rev : ℕ) → has now g.group ≡ true → group_of h.revisions rev ≡ g.group → is_collected after rev ≡ true
  collected_of g rev is same =
      has-with_numbers h.collected now (group_of h.revisions rev) ∙
      or_right (has h.collected (group_of h.revisions rev)) (has now (group_of h.revisions rev)) (ap (has now) same ∙ is)

  dropped_back : (t : Tagged) → AllByRecursion IsDeletion t.deleted → by_now t ≡ true → is_dropped after t ≡ true
  dropped_back t all some =
      any_gives (IsGroup h h.characters) (is_dropped after t ≡ true) (λ g. has now g.group && hides g t) groups are.each
      (λ g group both.
      let parts = and_parts (has now g.group) (hides g t) both in
      by g (has gone g.group) refl parts.0 parts.1) some
    where
      by : (g : SettledGroup) (undone : Bool) → has gone g.group ≡ undone → has now g.group ≡ true →
          (if undone then edits_group h.revisions g.group t.inserted else list_any (edits_group h.revisions g.group) t.deleted) ≡ true → is_dropped after t ≡ true
      by g true is here hidden =
          let same : group_of h.revisions t.inserted ≡ g.group = edit_group g t.inserted hidden in
          or_left (is_collected after t.inserted && has gone (group_of h.revisions t.inserted))
          (list_any (λ rev. is_collected after rev && not (has gone (group_of h.revisions rev))) t.deleted)
          (and_from (is_collected after t.inserted) (has gone (group_of h.revisions t.inserted)) (collected_of g t.inserted here same) (ap (has gone) same ∙ is))
      by g false is here hidden =
          or_right (is_collected after t.inserted && has gone (group_of h.revisions t.inserted))
          (list_any (λ rev. is_collected after rev && not (has gone (group_of h.revisions rev))) t.deleted)
          (any_where IsDeletion (edits_group h.revisions g.group) (λ rev. is_collected after rev && not (has gone (group_of h.revisions rev))) t.deleted all
          (λ rev one edits.
          let same : group_of h.revisions rev ≡ g.group = edit_group g rev edits in
          and_from (is_collected after rev) (not (has gone (group_of h.revisions rev))) (collected_of g rev here same) (ap not (ap (has gone) same ∙ is))) hidden)

  pub dropped_is : (t : Tagged) → IsUncollected h t → IsByEdits h.revisions t → is_dropped after t ≡ by_now t
  dropped_is t free edits =
      let all : AllByRecursion IsDeletion t.deleted = deletions t.deleted edits.deleted free.deleted in
      both_true (is_dropped after t) (by_now t)
      (λ dropped. elim (or_cases (is_collected after t.inserted && has gone (group_of h.revisions t.inserted))
      (list_any (λ rev. is_collected after rev && not (has gone (group_of h.revisions rev))) t.deleted) dropped) [
        | inl inserted ↦ inserted_said t free edits inserted
        | inr deleted ↦ deleted_said t all deleted
      ])
      (dropped_back t all)

  all_dropped : (cs : List Tagged) → AllByRecursion (IsUncollected h) cs → AllByRecursion (IsByEdits h.revisions) cs → map (is_dropped after) cs ≡ map by_now cs
  all_dropped [] free edits = refl
  all_dropped (t ∷ cs) free edits = ap₂ (λ b rest. b ∷ rest) (dropped_is t free.0 edits.0) (all_dropped cs free.1 edits.1)

  hidden_flags : (gs : List SettledGroup) → AllByRecursion (IsGroup h h.characters) gs → AllByRecursion (λ g. hidden_of gone g ≡ map (hides g) h.characters) gs
  hidden_flags [] each = tt
  hidden_flags (g ∷ gs) each = (by (has gone g.group), hidden_flags gs each.1)
    where
      by : (undone : Bool) → (if undone then g.inserted else g.deleted) ≡
          map (λ t. if undone then edits_group h.revisions g.group t.inserted else list_any (edits_group h.revisions g.group) t.deleted) h.characters
      by true = each.0.inserted
      by false = each.0.deleted

  pub dropped_said : AllByRecursion (IsUncollected h) h.characters → AllByRecursion (IsByEdits h.revisions) h.characters →
      map (is_dropped after) h.characters ≡ dropped_by now gone (length h.characters) groups
  dropped_said free edits =
      all_dropped h.characters free edits ∙
      sym (ap (λ none. fold (λ dropped g. union dropped (hidden_of gone g)) none (filter (λ g. has now g.group) groups)) (none-map h.characters) ∙
      joined (hidden_of gone) hides h.characters (filter (λ g. has now g.group) groups) (λ t. false)
      (all_filter (λ g. hidden_of gone g ≡ map (hides g) h.characters) (λ g. has now g.group) groups (hidden_flags groups are.each)) ∙
      map_same (λ t. list_any (λ g. hides g t) (filter (λ g. has now g.group) groups)) by_now h.characters
      (λ t. any-filter (λ g. has now g.group) (λ g. hides g t) groups))

-- Sets of positions of an earlier union in those of the present one.
use Rattle.std.proofs.Common.{◌≡◌, ℕ, zero, suc, ◌+◌, ◌<◌, ◌≤◌, Bool, true, false, cond, not, ◌&&◌, ◌||◌, if◌then◌else◌, ◌==◌, nat_le, inl, inr, List, [], ◌∷◌, ◌++◌, length, map, filter, refl, ap, ap₂, sym, ◌∙◌, arith}
use Rattle.std.specs.Prelude.{replicate}
use Rattle.std.specs.List.{AllByRecursion, list_any}
use Rattle.std.proofs.lemmas.Bool.{both_ways, cases_eq, cases_lt, eq-eqb, eqb-true, le-leb, leb-true, ne_eqb, or_left, or_right}
use Rattle.std.proofs.lemmas.Bool.Decides.{nat_tests}
use Rattle.std.proofs.lemmas.List.{length-map}
use Rattle.std.proofs.lemmas.List.Folds.{list_any-append}
use Rattle.std.proofs.lemmas.Option.{slice_get_past}
use Rattle.subset_runs.specs.Subset.{count, expand, union}
use Rattle.plain_text.specs.Numbers.{has}
use Rattle.plain_text.proofs.callers.ListLemmas.{AllByRecursion-append}
use Rattle.plain_edits.specs.History.{Tagged, History, head, revision_at, edit_group, is_there, IsTaggedBy, IsSound}
use Rattle.plain_edits.specs.HistorySteps.{is_edit}
use Rattle.rev_list.specs.declared.settled.SettledGroup.{SettledGroup}
use Rattle.rev_list.specs.declared.step.RevStep.{RevStep}
use Rattle.rev_list.specs.declared.step.RevStep.TheVariants.{Edit, Undo}
use Rattle.rev_list.specs.Hidden.{union_at, insertions_of, deletions_of, IsRevisionAt, IsDeletedLater, AreDeletedLater}
use Rattle.rev_list.specs.Settled.{AreSettledGroups, HasLengths, IsSettledGroup}
use Rattle.rev_collect.specs.Present.{IsPresent, ArePresent, AreAllEdits, FitsLater, in_present, later_with, present_of}

-- flags of some characters, put among all
spread : (p f : Tagged → Bool) (xs : List Tagged) → expand (map f (filter p xs)) (map (λ t. not (p t)) xs) ≡ map (λ t. p t && f t) xs
spread p f [] = refl
spread p f (x ∷ xs) = by (p x) (spread p f xs)
  where
    by : (b : Bool) → expand (map f (filter p xs)) (map (λ t. not (p t)) xs) ≡ map (λ t. p t && f t) xs →
        expand (map f (cond b (x ∷ filter p xs) (filter p xs))) (not b ∷ map (λ t. not (p t)) xs) ≡ (b && f x) ∷ map (λ t. p t && f t) xs
    by true rest = ap (λ flags. f x ∷ flags) rest
    by false rest = ap (λ flags. false ∷ flags) rest

-- those that are there, and the others
beside : (p : Tagged → Bool) (xs : List Tagged) → length (filter p xs) + count (map (λ t. not (p t)) xs) ≡ length xs
beside p [] = refl
beside p (x ∷ xs) = by (p x) (beside p xs)
  where
    by : (b : Bool) → length (filter p xs) + count (map (λ t. not (p t)) xs) ≡ length xs →
        length (cond b (x ∷ filter p xs) (filter p xs)) + count (not b ∷ map (λ t. not (p t)) xs) ≡ suc (length xs)
    by true rest = omega (arith, rest)
    by false rest = omega (arith, rest)

map_where : (Q : Tagged → Type 0) (a b : Tagged → Bool) (xs : List Tagged) → AllByRecursion Q xs → ((t : Tagged) → Q t → a t ≡ b t) → map a xs ≡ map b xs
map_where Q a b [] all same = refl
map_where Q a b (t ∷ xs) all same = ap₂ (λ x rest. x ∷ rest) (same t all.0) (map_where Q a b xs all.1 same)

union-map : (a b : Tagged → Bool) (xs : List Tagged) → union (map a xs) (map b xs) ≡ map (λ t. a t || b t) xs
union-map a b [] = refl
union-map a b (t ∷ xs) = ap (λ rest. (a t || b t) ∷ rest) (union-map a b xs)

-- ---- of one character

inserted_there : (rev : ℕ) (t : Tagged) → (nat_le t.inserted rev && t.inserted == rev) ≡ (t.inserted == rev)
inserted_there rev t = grind (arith, nat_tests)

came_before : (m : ℕ) (t : Tagged) → (not (nat_le t.inserted (suc m)) || t.inserted == suc m) ≡ not (nat_le t.inserted m)
came_before m t = grind (arith, nat_tests)

-- a revision after the floor deletes none that came after it
deleted_there : (floor rev : ℕ) (t : Tagged) → floor < rev → IsDeletedLater floor t → (nat_le t.inserted rev && has t.deleted rev) ≡ has t.deleted rev
deleted_there floor rev t after later = by (has t.deleted rev) refl
  where
    at_least : (deleted : List ℕ) → AllByRecursion (λ k. t.inserted ≤ k) deleted → has deleted rev ≡ true → t.inserted ≤ rev
    at_least [] all there = absurd cc
    at_least (k ∷ deleted) all there = one (k == rev) refl there (at_least deleted all.1)
      where
        same : (k == rev) ≡ true → k ≡ rev
        same is = grind (arith, nat_tests)

        one : (here : Bool) → (k == rev) ≡ here → (here || has deleted rev) ≡ true → (has deleted rev ≡ true → t.inserted ≤ rev) → t.inserted ≤ rev
        one true is there rest = omega (arith, same is, all.0)
        one false is there rest = rest there

    low : (b : Bool) → has t.deleted rev ≡ true → nat_le floor t.inserted ≡ b → t.inserted ≤ rev
    low true there is =
        elim (cases_eq floor t.inserted) [
          | inl same ↦ omega (arith, same, after)
          | inr other ↦ at_least t.deleted (later (omega (arith, leb-true floor t.inserted is, other))) there
        ]
    low false there is = under (omega (arith, below))
      where
        below : t.inserted < floor
        below = grind (arith, nat_tests)

        under : t.inserted ≤ floor → t.inserted ≤ rev
        under le = omega (arith, le, after)

    by : (there : Bool) → has t.deleted rev ≡ there → (nat_le t.inserted rev && there) ≡ there
    by true there = ap (λ b. b && true) (le-leb t.inserted rev (low (nat_le floor t.inserted) there refl))
    by false there = none (nat_le t.inserted rev)
      where
        none : (b : Bool) → (b && false) ≡ false
        none true = refl
        none false = refl

-- ---- of a history

module _ (h : History) (m : ℕ) (after : h.floor < suc m) (known : suc m ≤ head h) (deleted_later : AreDeletedLater h) where
  abbrev later_now : List Bool
  later_now = map (λ t. not (is_there (suc m) t)) h.characters

  insertions_present : expand (insertions_of h (suc m)) later_now ≡ map (λ t. t.inserted == suc m) h.characters
  insertions_present =
      spread (is_there (suc m)) (λ t. t.inserted == suc m) h.characters ∙
      map_where (IsDeletedLater h.floor) (λ t. is_there (suc m) t && t.inserted == suc m) (λ t. t.inserted == suc m) h.characters deleted_later
      (λ t is. inserted_there (suc m) t)

  deletions_present : expand (deletions_of h (suc m)) later_now ≡ map (λ t. has t.deleted (suc m)) h.characters
  deletions_present =
      spread (is_there (suc m)) (λ t. has t.deleted (suc m)) h.characters ∙
      map_where (IsDeletedLater h.floor) (λ t. is_there (suc m) t && has t.deleted (suc m)) (λ t. has t.deleted (suc m)) h.characters deleted_later
      (λ t is. deleted_there h.floor (suc m) t after is)

  fits : (flags : List Bool) (f : Tagged → Bool) → flags ≡ map f (union_at h (suc m)) → length flags + count later_now ≡ length later_now
  fits flags f is =
      omega (
        arith,
        ap length is,
        length-map (union_at h (suc m)) f,
        beside (is_there (suc m)) h.characters,
        length-map h.characters (λ t. not (is_there (suc m) t)),
      )

  pub fits_later : (later : List Bool) (r : RevStep) → later ≡ later_now → IsRevisionAt h (suc m) r → FitsLater later r
  fits_later later (Edit e) are is =
      rw are (fits e.inserted (λ t. t.inserted == suc m) is.inserted, fits e.deleted (λ t. has t.deleted (suc m)) is.deleted)
  fits_later later (Undo groups) are is = tt

  -- nothing of an undo is inserted
  none_new : (xs : List Tagged) → count (map (λ t. t.inserted == suc m) (filter (is_there (suc m)) xs)) ≡ 0 →
      map (λ t. not (is_there (suc m) t)) xs ≡ map (λ t. not (is_there m t)) xs
  none_new [] none = refl
  none_new (t ∷ xs) none = by (is_there (suc m) t) refl none (none_new xs)
    where
      by : (there : Bool) → is_there (suc m) t ≡ there → count (map (λ t. t.inserted == suc m) (cond there (t ∷ filter (is_there (suc m)) xs) (filter (is_there (suc m)) xs))) ≡ 0 →
          (count (map (λ t. t.inserted == suc m) (filter (is_there (suc m)) xs)) ≡ 0 → map (λ t. not (is_there (suc m) t)) xs ≡ map (λ t. not (is_there m t)) xs) →
          not there ∷ map (λ t. not (is_there (suc m) t)) xs ≡ not (is_there m t) ∷ map (λ t. not (is_there m t)) xs
      by true is none rest = one (t.inserted == suc m) refl none
        where
          before : (t.inserted == suc m) ≡ false → nat_le t.inserted (suc m) ≡ true → nat_le t.inserted m ≡ true
          before other there = grind (arith, nat_tests)

          one : (new : Bool) → (t.inserted == suc m) ≡ new → (if new then 1 else 0) + count (map (λ t. t.inserted == suc m) (filter (is_there (suc m)) xs)) ≡ 0 →
              false ∷ map (λ t. not (is_there (suc m) t)) xs ≡ not (is_there m t) ∷ map (λ t. not (is_there m t)) xs
          one true new none = absurd (omega (arith, none))
          one false other none =
              ap₂ (λ b flags. b ∷ flags) (sym (ap not (before other is))) (rest (omega (arith, none)))
      by false is none rest = ap₂ (λ b flags. b ∷ flags) (sym (ap not (away is))) (rest none)
        where
          away : nat_le t.inserted (suc m) ≡ false → nat_le t.inserted m ≡ false
          away gone = grind (arith, nat_tests)

  later_is : (later : List Bool) (r : RevStep) → later ≡ later_now → IsRevisionAt h (suc m) r → later_with later r ≡ map (λ t. not (is_there m t)) h.characters
  later_is later (Edit e) are is =
      ap₂ union are (ap₂ expand is.inserted are ∙ insertions_present) ∙
      union-map (λ t. not (is_there (suc m) t)) (λ t. t.inserted == suc m) h.characters ∙
      map_where (IsDeletedLater h.floor) (λ t. not (is_there (suc m) t) || t.inserted == suc m) (λ t. not (is_there m t)) h.characters deleted_later
      (λ t is. came_before m t)
  later_is later (Undo groups) are is = are ∙ none_new h.characters is.inserts_none

  each_more : (more edits : List SettledGroup) → AllByRecursion (IsPresent h) edits → AllByRecursion (IsPresent h) more → AllByRecursion (IsPresent h) (edits ++ more)
  each_more more [] each new = new
  each_more more (e ∷ edits) each new = (each.0, each_more more edits each.1 new)

  present_is : (later : List Bool) (r : RevStep) → later ≡ later_now → IsRevisionAt h (suc m) r → AllByRecursion (IsPresent h) (present_of (suc m) later r)
  present_is later (Edit e) are is = (
    record {
      edits = ap is_edit is.said;
      group = ap edit_group is.said;
      known = known;
      inserted = ap₂ expand is.inserted are ∙ insertions_present;
      deleted = ap₂ expand is.deleted are ∙ deletions_present;
    },
    tt,
  )
  present_is later (Undo groups) are is = tt

  -- an edit is there
  own_there : (later : List Bool) (r : RevStep) → IsRevisionAt h (suc m) r → is_edit (revision_at h.revisions (suc m)) ≡ true →
      list_any (λ e. e.last == suc m) (present_of (suc m) later r) ≡ true
  own_there later (Edit e) is edits = or_left (suc m == suc m) false (eq-eqb (suc m) (suc m) refl)
  own_there later (Undo groups) is edits = absurd (both_ways (is_edit (revision_at h.revisions (suc m))) (ap is_edit is.said) edits)

  pub present_before : (edits : List SettledGroup) (later : List Bool) (r : RevStep) → IsRevisionAt h (suc m) r → ArePresent h (suc m) edits later →
      ArePresent h m (edits ++ present_of (suc m) later r) (later_with later r)
  present_before edits later r is are = record {
    later = later_is later r are.later is;
    each = each_more (present_of (suc m) later r) edits are.each (present_is later r are.later is);
    all = λ rev over within edit.
        list_any-append (λ e. e.last == rev) edits (present_of (suc m) later r) ∙
        elim (cases_eq rev (suc m)) [
          | inl here ↦
              or_right (list_any (λ e. e.last == rev) edits) (list_any (λ e. e.last == rev) (present_of (suc m) later r))
              (ap (λ n. list_any (λ e. e.last == n) (present_of (suc m) later r)) here ∙ own_there later r is (ap (λ n. is_edit (revision_at h.revisions n)) (sym here) ∙ edit))
          | inr other ↦
              or_left (list_any (λ e. e.last == rev) edits) (list_any (λ e. e.last == rev) (present_of (suc m) later r))
              (are.all rev (omega (arith, over, other)) within edit)
        ];
  }

-- nothing came after the head
none_after : (h : History) (n : ℕ) (xs : List Tagged) → AllByRecursion (IsTaggedBy n) xs → replicate (length xs) false ≡ map (λ t. not (is_there n t)) xs
none_after h n [] sound = refl
none_after h n (t ∷ xs) sound =
    ap₂ (λ b flags. b ∷ flags) (sym (ap not (le-leb t.inserted n sound.0.inserted))) (none_after h n xs sound.1)

pub present_at_head : (h : History) → IsSound h → ArePresent h (head h) [] (replicate (length h.characters) false)
present_at_head h sound = record {
  later = none_after h (head h) h.characters sound;
  each = tt;
  all = λ rev over within edit. absurd (omega (arith, over, within));
}

-- ---- what is up to the floor

-- by the floor there is nothing of a character that came after it
there_inserted : (floor n : ℕ) (t : Tagged) → n ≤ floor → (nat_le t.inserted floor && t.inserted == n) ≡ (t.inserted == n)
there_inserted floor n t within = by (t.inserted == n) refl
  where
    nothing : (b : Bool) → (b && false) ≡ false
    nothing true = refl
    nothing false = refl

    by : (own : Bool) → (t.inserted == n) ≡ own → (nat_le t.inserted floor && own) ≡ own
    by true own = ap (λ b. b && true) (le-leb t.inserted floor (omega (arith, eqb-true t.inserted n own, within)))
    by false other = nothing (nat_le t.inserted floor)

there_deleted : (floor n : ℕ) (t : Tagged) → n ≤ floor → IsDeletedLater floor t → (nat_le t.inserted floor && has t.deleted n) ≡ has t.deleted n
there_deleted floor n t within later = by (nat_le t.inserted floor) refl
  where
    over : nat_le t.inserted floor ≡ false → floor < t.inserted
    over none = grind (arith, nat_tests)

    none : (deleted : List ℕ) → floor < t.inserted → AllByRecursion (λ k. t.inserted ≤ k) deleted → has deleted n ≡ false
    none [] past all = refl
    none (k ∷ deleted) past all =
        ap₂ (λ a b. a || b) (ne_eqb k n (λ is. omega (arith, is, past, within, all.0))) (none deleted past all.1)

    by : (there : Bool) → nat_le t.inserted floor ≡ there → (there && has t.deleted n) ≡ has t.deleted n
    by true is = refl
    by false is = sym (none t.deleted (over is) (later (over is)))

-- a revision that is there is by the head
within_head : (h : History) (rev : ℕ) → is_edit (revision_at h.revisions rev) ≡ true → rev ≤ head h
within_head h zero edits = omega arith
within_head h (suc n) edits =
    elim (cases_lt n (head h)) [
      | inl lt ↦ omega (arith, lt)
      | inr ge ↦ absurd (both_ways (is_edit (revision_at h.revisions (suc n))) (ap is_edit (slice_get_past h.revisions n (omega (arith, ge)))) edits)
    ]

module _ (h : History) (deleted_later : AreDeletedLater h) (known : h.floor ≤ head h) (later : List Bool)
    (came : later ≡ map (λ t. not (is_there h.floor t)) h.characters) where
  settled_present : (g : SettledGroup) → IsSettledGroup h g → IsPresent h (in_present later g)
  settled_present g is = record {
    edits = is.edits;
    group = is.group;
    known = omega (arith, is.within, known);
    inserted =
        ap₂ expand is.inserted came ∙ spread (is_there h.floor) (λ t. t.inserted == g.last) h.characters ∙
        map_where (IsDeletedLater h.floor) (λ t. is_there h.floor t && t.inserted == g.last) (λ t. t.inserted == g.last) h.characters deleted_later
        (λ t _. there_inserted h.floor g.last t is.within);
    deleted =
        ap₂ expand is.deleted came ∙ spread (is_there h.floor) (λ t. has t.deleted g.last) h.characters ∙
        map_where (IsDeletedLater h.floor) (λ t. is_there h.floor t && has t.deleted g.last) (λ t. has t.deleted g.last) h.characters deleted_later
        (λ t one. there_deleted h.floor g.last t is.within one);
  }

  all_present : (groups : List SettledGroup) → AllByRecursion (IsSettledGroup h) groups → AllByRecursion (IsPresent h) (map (in_present later) groups)
  all_present [] each = tt
  all_present (g ∷ groups) each = (settled_present g each.0, all_present groups each.1)

  any_present : (rev : ℕ) (groups : List SettledGroup) → list_any (λ e. e.last == rev) (map (in_present later) groups) ≡ list_any (λ g. g.last == rev) groups
  any_present rev [] = refl
  any_present rev (g ∷ groups) = ap (λ b. g.last == rev || b) (any_present rev groups)

  pub fits_settled : (flags : List Bool) → length flags ≡ length (union_at h h.floor) → length flags + count later ≡ length later
  fits_settled flags long =
      rw came
      (omega (
        arith,
        long,
        beside (is_there h.floor) h.characters,
        length-map h.characters (λ t. not (is_there h.floor t)),
      ))

  pub all_edits_are : (edits groups : List SettledGroup) → ArePresent h h.floor edits later → AreSettledGroups h groups →
      AreAllEdits h (edits ++ map (in_present later) groups)
  all_edits_are edits groups present settled = record {
    each = AllByRecursion-append (IsPresent h) edits (map (in_present later) groups) present.each (all_present groups settled.each);
    all = λ rev edit.
        list_any-append (λ e. e.last == rev) edits (map (in_present later) groups) ∙
        elim (cases_lt h.floor rev) [
          | inl over ↦
              or_left (list_any (λ e. e.last == rev) edits) (list_any (λ e. e.last == rev) (map (in_present later) groups))
              (present.all rev over (within_head h rev edit) edit)
          | inr le ↦
              or_right (list_any (λ e. e.last == rev) edits) (list_any (λ e. e.last == rev) (map (in_present later) groups))
              (any_present rev groups ∙ settled.all rev le edit)
        ];
  }

-- all are positions of the present union
pub present_lengths : (h : History) (edits : List SettledGroup) → AllByRecursion (IsPresent h) edits → AllByRecursion (HasLengths (length h.characters)) edits
present_lengths h [] each = tt
present_lengths h (e ∷ edits) each = (
  record {
    inserted = ap length each.0.inserted ∙ length-map h.characters (λ t. t.inserted == e.last);
    deleted = ap length each.0.deleted ∙ length-map h.characters (λ t. has t.deleted e.last);
  },
  present_lengths h edits each.1,
)

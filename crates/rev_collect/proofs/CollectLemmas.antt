-- The list that is left after a collection at the head.
use Rattle.std.proofs.Common.{◌≡◌, ℕ, ◌<◌, ◌≤◌, Bool, true, false, not, ◌&&◌, ◌||◌, if◌then◌else◌, ◌==◌, nat_lt, List, [], ◌∷◌, length, map, drop, filter, cond, Some, refl, ap, ap₂, sym, ◌∙◌, subst, arith}
use Rattle.std.specs.Prelude.{replicate}
use Rattle.std.specs.List.{fold, list_all, list_any, AllByRecursion}
use Rattle.std.proofs.lemmas.Bool.{and_parts, eq-eqb, eqb-true, le-leb, ne_eqb, or_left, or_right}
use Rattle.std.proofs.lemmas.Bool.Decides.{nat_tests}
use Rattle.std.proofs.lemmas.List.{length-map}
use Rattle.subset_runs.specs.Subset.{shrink, union}
use Rattle.plain_text.specs.Numbers.{has, IsRising}
use Rattle.plain_text.proofs.callers.ListLemmas.{AllByRecursion-weaker}
use Rattle.plain_text.proofs.callers.NumberLemmas.{has-with_numbers}
use Rattle.plain_edits.specs.History.{Tagged, History, head, revision_at, edit_group, group_of, undone, IsTaggedBy, IsSound}
use Rattle.plain_edits.specs.Collection.{collected_at, is_collected, is_dropped}
use Rattle.plain_edits.specs.HistorySteps.{is_edit, HasRisingSet, IsByEdits}
use Rattle.plain_edits.specs.Undo.{undone_now}
use Rattle.collection_laws.specs.Laws.{IsUncollected}
use Rattle.collection_laws.specs.Left.{edits_group, is_kept, last_edit, left_of}
use Rattle.collection_laws.proofs.ForCallers.{edits-last_edit, head-left, last_edit-le, undone-left}
use Rattle.rev_list.specs.declared.settled.SettledGroup.{SettledGroup}
use Rattle.rev_list.specs.Hidden.{hidden_at, is_hidden}
use Rattle.rev_list.specs.Kept.{IsOpen}
use Rattle.rev_list.specs.Settled.{AreInsertedApart, HasLengths, IsEnd, IsFirstApart, MaySettle, Settled, ending_at, first_flag, hidden_by_groups, hidden_of, loaded_of, settled_at_head, settled_history, settled_said, without_first}
use Rattle.rev_list.proofs.ForCallers.{revision_at-settled, undone_rises}
use Rattle.rev_collect.specs.Groups.{IsGroup, AreGroups, dropped_by, shrunk}
use Rattle.rev_collect.proofs.DroppedLemmas.{dropped_is, dropped_said, joined, map_same, none-map}
use Rattle.rev_collect.proofs.JoinLemmas.{any_number, open_at}
use Rattle.rev_collect.proofs.LeftLemmas.{left_said}

-- ---- flags of what is left

pub shrink-map : (f p : Tagged → Bool) (xs : List Tagged) → shrink (map f xs) (map p xs) ≡ map f (filter (λ t. not (p t)) xs)
shrink-map f p [] = refl
shrink-map f p (x ∷ xs) = by (p x) (shrink-map f p xs)
  where
    by : (b : Bool) → shrink (map f xs) (map p xs) ≡ map f (filter (λ t. not (p t)) xs) →
        shrink (f x ∷ map f xs) (b ∷ map p xs) ≡ map f (cond (not b) (x ∷ filter (λ t. not (p t)) xs) (filter (λ t. not (p t)) xs))
    by true rest = rest
    by false rest = ap (λ flags. f x ∷ flags) rest

-- ---- some of the groups

above_left : (n : ℕ) (p : SettledGroup → Bool) (f : SettledGroup → SettledGroup) → ((g : SettledGroup) → (f g).group ≡ g.group) → (groups : List SettledGroup) →
    AllByRecursion (λ m. n < m) (map (λ g. g.group) groups) → AllByRecursion (λ m. n < m) (map (λ g. g.group) (map f (filter p groups)))
above_left n p f same [] above = tt
above_left n p f same (g ∷ groups) above = by (p g) (above_left n p f same groups above.1)
  where
    by : (b : Bool) → AllByRecursion (λ m. n < m) (map (λ g. g.group) (map f (filter p groups))) →
        AllByRecursion (λ m. n < m) (map (λ g. g.group) (map f (cond b (g ∷ filter p groups) (filter p groups))))
    by true rest = (omega (arith, above.0, same g), rest)
    by false rest = rest

rising_left : (p : SettledGroup → Bool) (f : SettledGroup → SettledGroup) → ((g : SettledGroup) → (f g).group ≡ g.group) → (groups : List SettledGroup) →
    IsRising (map (λ g. g.group) groups) → IsRising (map (λ g. g.group) (map f (filter p groups)))
rising_left p f same [] up = tt
rising_left p f same (g ∷ groups) up = by (p g) (rising_left p f same groups up.1)
  where
    by : (b : Bool) → IsRising (map (λ g. g.group) (map f (filter p groups))) →
        IsRising (map (λ g. g.group) (map f (cond b (g ∷ filter p groups) (filter p groups))))
    by true rest = (subst (λ n. AllByRecursion (λ m. n < m) (map (λ g. g.group) (map f (filter p groups)))) (sym (same g)) (above_left g.group p f same groups up.0), rest)
    by false rest = rest

any_left : (q p : SettledGroup → Bool) (f : SettledGroup → SettledGroup) → ((g : SettledGroup) → q (f g) ≡ q g) → (groups : List SettledGroup) →
    list_any q (map f (filter p groups)) ≡ list_any (λ g. p g && q g) groups
any_left q p f same [] = refl
any_left q p f same (g ∷ groups) = by (p g) (any_left q p f same groups)
  where
    by : (b : Bool) → list_any q (map f (filter p groups)) ≡ list_any (λ g. p g && q g) groups →
        list_any q (map f (cond b (g ∷ filter p groups) (filter p groups))) ≡ (b && q g || list_any (λ g. p g && q g) groups)
    by true rest = ap₂ (λ a b. a || b) (same g) rest
    by false rest = rest

-- some are among those of a kind, or among the others
any_apart : (p q : SettledGroup → Bool) (groups : List SettledGroup) → list_any q groups ≡ (list_any (λ g. p g && q g) groups || list_any (λ g. not (p g) && q g) groups)
any_apart p q [] = refl
any_apart p q (g ∷ groups) = ap (λ b. q g || b) (any_apart p q groups) ∙ by (p g) (q g) (list_any (λ g. p g && q g) groups) (list_any (λ g. not (p g) && q g) groups)
  where
    by : (a b x y : Bool) → (b || (x || y)) ≡ ((a && b || x) || (not a && b || y))
    by true true x y = refl
    by true false x y = refl
    by false true true y = refl
    by false true false y = refl
    by false false x y = refl

-- ---- a history at its head

module _ (h : History) (now : List ℕ) (groups : List SettledGroup) (are : AreGroups h h.characters groups) (rise : IsRising (map (λ g. g.group) groups))
    (sound : IsSound h) (within : h.floor ≤ head h) (edits : AllByRecursion (IsByEdits h.revisions) h.characters) (nothing : AllByRecursion (λ t. t.character ≡ 0) h.characters)
    (free : AllByRecursion (IsOpen h.collected) h.revisions) (sets : AllByRecursion HasRisingSet h.revisions) where
  abbrev set : List ℕ
  set = undone_now h

  abbrev after : History
  after = collected_at h (head h) now

  loaded : has set 0 ≡ false
  loaded = (undone_rises h sets).1

  -- ---- no character is of a group that was collected before

  uncollected : (t : Tagged) → IsByEdits h.revisions t → IsUncollected h t
  uncollected t is = record {
    inserted = λ counts. open_at h.collected h.revisions t.inserted free (or_second (t.inserted == 0) (is_edit (revision_at h.revisions t.inserted))
        (ne_eqb t.inserted 0 (λ none. omega (arith, none, counts))) is.inserted);
    deleted =
        AllByRecursion-weaker (λ rev. is_edit (revision_at h.revisions rev) ≡ true) (λ rev. is_collected h rev ≡ false)
        (λ rev edit. open_at h.collected h.revisions rev free edit) t.deleted is.deleted;
  }
    where
      or_second : (a b : Bool) → a ≡ false → (a || b) ≡ true → b ≡ true
      or_second true b none some = absurd cc
      or_second false b none some = some

  all_uncollected : (cs : List Tagged) → AllByRecursion (IsByEdits h.revisions) cs → AllByRecursion (IsUncollected h) cs
  all_uncollected [] all = tt
  all_uncollected (t ∷ cs) all = (uncollected t all.0, all_uncollected cs all.1)

  pub dropped_are : map (is_dropped after) h.characters ≡ dropped_by now set (length h.characters) groups
  dropped_are = dropped_said h now groups loaded are (all_uncollected h.characters edits) edits

  -- ---- what is hidden, by groups

  abbrev hides : SettledGroup → Tagged → Bool
  hides g t = if has set g.group then edits_group h.revisions g.group t.inserted else list_any (edits_group h.revisions g.group) t.deleted

  abbrev all_of_them : List ℕ
  all_of_them = map (λ g. g.group) groups

  abbrev at_end : History
  at_end = collected_at h (head h) all_of_them

  edit_collected : (rev : ℕ) → is_edit (revision_at h.revisions rev) ≡ true → is_collected at_end rev ≡ true
  edit_collected rev edit =
      has-with_numbers h.collected all_of_them (group_of h.revisions rev) ∙
      or_right (has h.collected (group_of h.revisions rev)) (has all_of_them (group_of h.revisions rev))
      (any_number (group_of h.revisions rev) groups ∙ are.all rev edit (open_at h.collected h.revisions rev free edit))

  -- what is hidden would be dropped, if all groups were collected
  hidden_is : (t : Tagged) → IsTaggedBy (head h) t → IsByEdits h.revisions t → is_hidden h (head h) t ≡ is_dropped at_end t
  hidden_is t tagged by_edits =
      ap (λ a. not (a && not (has set (group_of h.revisions t.inserted)) && list_all (λ rev. nat_lt (head h) rev || has set (group_of h.revisions rev)) t.deleted))
      (le-leb t.inserted (head h) tagged.inserted) ∙
      neither (has set (group_of h.revisions t.inserted)) (list_all (λ rev. nat_lt (head h) rev || has set (group_of h.revisions rev)) t.deleted) ∙
      ap₂ (λ a b. a || b) (sym (inserted_is (t.inserted == 0) refl by_edits.inserted)) (deleted_are t.deleted tagged.deleted by_edits.deleted)
    where
      neither : (a b : Bool) → not (true && not a && b) ≡ (a || not b)
      neither true b = refl
      neither false b = refl

      and_false : (a : Bool) → (a && false) ≡ false
      and_false true = refl
      and_false false = refl

      inserted_is : (start : Bool) → (t.inserted == 0) ≡ start → (start || is_edit (revision_at h.revisions t.inserted)) ≡ true →
          (is_collected at_end t.inserted && has set (group_of h.revisions t.inserted)) ≡ has set (group_of h.revisions t.inserted)
      inserted_is true is some =
          let none : has set (group_of h.revisions t.inserted) ≡ false = ap (λ n. has set (group_of h.revisions n)) (eqb-true t.inserted 0 is) ∙ loaded in
          ap (λ b. is_collected at_end t.inserted && b) none ∙ and_false (is_collected at_end t.inserted) ∙ sym none
      inserted_is false is some = ap (λ b. b && has set (group_of h.revisions t.inserted)) (edit_collected t.inserted some)

      deleted_are : (deleted : List ℕ) → AllByRecursion (λ rev. rev ≤ head h) deleted → AllByRecursion (λ rev. is_edit (revision_at h.revisions rev) ≡ true) deleted →
          not (list_all (λ rev. nat_lt (head h) rev || has set (group_of h.revisions rev)) deleted) ≡
          list_any (λ rev. is_collected at_end rev && not (has set (group_of h.revisions rev))) deleted
      deleted_are [] tagged all = refl
      deleted_are (rev ∷ deleted) tagged all =
          ap (λ a. not ((a || has set (group_of h.revisions rev)) && list_all (λ rev. nat_lt (head h) rev || has set (group_of h.revisions rev)) deleted)) (not_over rev tagged.0) ∙
          either (has set (group_of h.revisions rev)) (list_all (λ rev. nat_lt (head h) rev || has set (group_of h.revisions rev)) deleted) ∙
          ap₂ (λ a b. a && not (has set (group_of h.revisions rev)) || b) (sym (edit_collected rev all.0)) (deleted_are deleted tagged.1 all.1)
        where
          not_over : (rev : ℕ) → rev ≤ head h → nat_lt (head h) rev ≡ false
          not_over rev le = under (head h) rev le
            where
              under : (a b : ℕ) → b ≤ a → nat_lt a b ≡ false
              under a b le = grind (arith, nat_tests)

          either : (a b : Bool) → not ((false || a) && b) ≡ (true && not a || not b)
          either true b = refl
          either false b = refl

  any_all : (t : Tagged) (gs : List SettledGroup) → ((n : ℕ) → has (map (λ g. g.group) gs) n ≡ true → has all_of_them n ≡ true) →
      list_any (λ g. has all_of_them g.group && hides g t) gs ≡ list_any (λ g. hides g t) gs
  any_all t [] there = refl
  any_all t (g ∷ gs) there =
      ap₂ (λ a b. a && hides g t || b)
      (there g.group (or_left (g.group == g.group) (has (map (λ g. g.group) gs) g.group) (eq-eqb g.group g.group refl)))
      (any_all t gs (λ n is. there n (or_right (g.group == n) (has (map (λ g. g.group) gs) n) is)))

  hidden_said : (t : Tagged) → IsTaggedBy (head h) t → IsByEdits h.revisions t → is_hidden h (head h) t ≡ list_any (λ g. hides g t) groups
  hidden_said t tagged by_edits =
      hidden_is t tagged by_edits ∙ dropped_is h all_of_them groups loaded are t (uncollected t by_edits) by_edits ∙
      any_all t groups (λ n is. is)

  -- of a character that is left the groups that are collected hide nothing
  left_hidden : (t : Tagged) → IsTaggedBy (head h) t → IsByEdits h.revisions t → is_kept after t ≡ true →
      is_hidden h (head h) t ≡ list_any (λ g. not (has now g.group) && hides g t) groups
  left_hidden t tagged by_edits kept =
      hidden_said t tagged by_edits ∙ any_apart (λ g. has now g.group) (λ g. hides g t) groups ∙
      ap (λ b. b || list_any (λ g. not (has now g.group) && hides g t) groups)
      (sym (dropped_is h now groups loaded are t (uncollected t by_edits) by_edits) ∙ not_true (is_dropped after t) kept)
    where
      not_true : (b : Bool) → not b ≡ true → b ≡ false
      not_true true is = absurd cc
      not_true false is = refl

  -- ---- the groups that are left

  abbrev kept_characters : List Tagged
  kept_characters = filter (is_kept after) h.characters

  module _ (dropped : List Bool) (dropped_is_said : dropped ≡ map (is_dropped after) h.characters) where
    abbrev left : List SettledGroup
    left = map (shrunk dropped) (filter (λ g. not (has now g.group)) groups)

    not_false : (b : Bool) → not b ≡ true → b ≡ false
    not_false true is = absurd cc
    not_false false is = refl

    shrunk_is : (g : SettledGroup) → IsGroup h h.characters g → not (has now g.group) ≡ true → IsGroup after kept_characters (shrunk dropped g)
    shrunk_is g is stays = record {
      kept =
          has-with_numbers h.collected now g.group ∙ ap₂ (λ a b. a || b) is.kept (not_false (has now g.group) stays);
      counts = is.counts;
      last = is.last;
      inserted = ap₂ shrink is.inserted dropped_is_said ∙ shrink-map (λ t. edits_group h.revisions g.group t.inserted) (is_dropped after) h.characters;
      deleted = ap₂ shrink is.deleted dropped_is_said ∙ shrink-map (λ t. list_any (edits_group h.revisions g.group) t.deleted) (is_dropped after) h.characters;
    }

    all_shrunk : (gs : List SettledGroup) → AllByRecursion (IsGroup h h.characters) gs →
        AllByRecursion (IsGroup after kept_characters) (map (shrunk dropped) (filter (λ g. not (has now g.group)) gs))
    all_shrunk [] each = tt
    all_shrunk (g ∷ gs) each = by (not (has now g.group)) refl (all_shrunk gs each.1)
      where
        by : (b : Bool) → not (has now g.group) ≡ b → AllByRecursion (IsGroup after kept_characters) (map (shrunk dropped) (filter (λ g. not (has now g.group)) gs)) →
            AllByRecursion (IsGroup after kept_characters) (map (shrunk dropped) (cond b (g ∷ filter (λ g. not (has now g.group)) gs) (filter (λ g. not (has now g.group)) gs)))
        by true stays rest = (shrunk_is g each.0 stays, rest)
        by false goes rest = rest

    or_parts : (a b : Bool) → (a || b) ≡ false → (a ≡ false) × (b ≡ false)
    or_parts true b none = absurd cc
    or_parts false b none = (refl, none)

    left_are : AreGroups after kept_characters left
    left_are = record {
      each = all_shrunk groups are.each;
      all = λ rev edit kept.
          let parts = or_parts (has h.collected (group_of h.revisions rev)) (has now (group_of h.revisions rev))
          (sym (has-with_numbers h.collected now (group_of h.revisions rev)) ∙ kept) in
          any_left (λ g. g.group == group_of h.revisions rev) (λ g. not (has now g.group)) (shrunk dropped) (λ g. refl) groups ∙
          any_same groups (group_of h.revisions rev) parts.1 ∙ are.all rev edit parts.0;
    }
      where
        any_same : (gs : List SettledGroup) (group : ℕ) → has now group ≡ false →
            list_any (λ g. not (has now g.group) && g.group == group) gs ≡ list_any (λ g. g.group == group) gs
        any_same [] group stays = refl
        any_same (g ∷ gs) group stays = ap₂ (λ a b. a || b) (by (g.group == group) refl) (any_same gs group stays)
          where
            and_false : (a : Bool) → (a && false) ≡ false
            and_false true = refl
            and_false false = refl

            by : (own : Bool) → (g.group == group) ≡ own → (not (has now g.group) && own) ≡ own
            by true own = ap (λ b. not b && true) (ap (has now) (eqb-true g.group group own) ∙ stays)
            by false own = and_false (not (has now g.group))

    dead_left : shrink (hidden_at h (head h)) dropped ≡ map (is_hidden h (head h)) kept_characters
    dead_left = ap (shrink (hidden_at h (head h))) dropped_is_said ∙ shrink-map (is_hidden h (head h)) (is_dropped after) h.characters

    module _ (dead : List Bool) (dead_is : dead ≡ shrink (hidden_at h (head h)) dropped) where
      length_is : length dead ≡ length kept_characters
      length_is = ap length (dead_is ∙ dead_left) ∙ length-map kept_characters (is_hidden h (head h))

      abbrev new : Settled
      new = settled_at_head h left now (length dead)

      pub left_is : settled_history new ≡ left_of after
      left_is =
          ap (λ n. settled_history (settled_at_head h left now n)) length_is ∙
          left_said after left refl sound nothing left_are

      -- ---- what is hidden

      hidden_flags : (gs : List SettledGroup) → AllByRecursion (IsGroup after kept_characters) gs → AllByRecursion (λ g. hidden_of set g ≡ map (hides g) kept_characters) gs
      hidden_flags [] each = tt
      hidden_flags (g ∷ gs) each = (by (has set g.group), hidden_flags gs each.1)
        where
          by : (undone : Bool) → (if undone then g.inserted else g.deleted) ≡
              map (λ t. if undone then edits_group h.revisions g.group t.inserted else list_any (edits_group h.revisions g.group) t.deleted) kept_characters
          by true = each.0.inserted
          by false = each.0.deleted

      map_left : (cs : List Tagged) → AllByRecursion (IsTaggedBy (head h)) cs → AllByRecursion (IsByEdits h.revisions) cs →
          map (is_hidden h (head h)) (filter (is_kept after) cs) ≡ map (λ t. list_any (λ g. not (has now g.group) && hides g t) groups) (filter (is_kept after) cs)
      map_left [] tagged all = refl
      map_left (t ∷ cs) tagged all = by (is_kept after t) refl (map_left cs tagged.1 all.1)
        where
          by : (b : Bool) → is_kept after t ≡ b →
              map (is_hidden h (head h)) (filter (is_kept after) cs) ≡ map (λ t. list_any (λ g. not (has now g.group) && hides g t) groups) (filter (is_kept after) cs) →
              map (is_hidden h (head h)) (cond b (t ∷ filter (is_kept after) cs) (filter (is_kept after) cs)) ≡
              map (λ t. list_any (λ g. not (has now g.group) && hides g t) groups) (cond b (t ∷ filter (is_kept after) cs) (filter (is_kept after) cs))
          by true kept rest = ap₂ (λ b flags. b ∷ flags) (left_hidden t tagged.0 all.0 kept) rest
          by false gone rest = rest

      hidden_left : dead ≡ hidden_by_groups set (length dead) left
      hidden_left =
          dead_is ∙ dead_left ∙ map_left h.characters sound edits ∙
          sym (ap (λ b. fold (λ dead g. union dead (hidden_of set g)) (if b then loaded_of (length dead) left else replicate (length dead) false) left) loaded ∙
          ap (λ n. fold (λ dead g. union dead (hidden_of set g)) (replicate n false) left) length_is ∙
          ap (λ none. fold (λ dead g. union dead (hidden_of set g)) none left) (none-map kept_characters) ∙
          joined (hidden_of set) hides kept_characters left (λ t. false) (hidden_flags left left_are.each) ∙
          map_same (λ t. list_any (λ g. hides g t) left) (λ t. list_any (λ g. not (has now g.group) && hides g t) groups) kept_characters
          (λ t. any_left (λ g. hides g t) (λ g. not (has now g.group)) (shrunk dropped) (λ g. refl) groups))

      -- ---- the groups stand apart

      lengths_left : (gs : List SettledGroup) → AllByRecursion (IsGroup after kept_characters) gs → AllByRecursion (HasLengths (length dead)) gs
      lengths_left [] each = tt
      lengths_left (g ∷ gs) each = (
        record {
          inserted = ap length each.0.inserted ∙ length-map kept_characters (λ t. edits_group h.revisions g.group t.inserted) ∙ sym length_is;
          deleted = ap length each.0.deleted ∙ length-map kept_characters (λ t. list_any (edits_group h.revisions g.group) t.deleted) ∙ sym length_is;
        },
        lengths_left gs each.1,
      )

      -- what the groups inserted of some characters
      abbrev SaidIn : List Tagged → SettledGroup → Type 0
      SaidIn cs g = g.inserted ≡ map (λ t. edits_group h.revisions g.group t.inserted) cs

      first_said : (t : Tagged) (cs : List Tagged) (g : SettledGroup) → SaidIn (t ∷ cs) g → first_flag g.inserted ≡ edits_group h.revisions g.group t.inserted
      first_said t cs g said = ap first_flag said

      none_other : (t : Tagged) (cs : List Tagged) (group : ℕ) (gs : List SettledGroup) → AllByRecursion (SaidIn (t ∷ cs)) gs → AllByRecursion (λ m. group < m) (map (λ g. g.group) gs) →
          edits_group h.revisions group t.inserted ≡ true → list_any (λ other. first_flag other.inserted) gs ≡ false
      none_other t cs group [] said above own = refl
      none_other t cs group (g ∷ gs) said above own =
          ap₂ (λ a b. a || b) (first_said t cs g said.0 ∙ never (edits_group h.revisions g.group t.inserted) (λ also.
          let one = eqb-true (group_of h.revisions t.inserted) group (and_parts (is_edit (revision_at h.revisions t.inserted)) (group_of h.revisions t.inserted == group) own).1 in
          let other = eqb-true (group_of h.revisions t.inserted) g.group (and_parts (is_edit (revision_at h.revisions t.inserted)) (group_of h.revisions t.inserted == g.group) also).1 in
          omega (arith, one, other, above.0)))
          (none_other t cs group gs said.1 above.1 own)
        where
          never : (b : Bool) → (b ≡ true → ⊥) → b ≡ false
          never true wrong = absurd (wrong refl)
          never false wrong = refl

      first_apart : (t : Tagged) (cs : List Tagged) (gs : List SettledGroup) → AllByRecursion (SaidIn (t ∷ cs)) gs → IsRising (map (λ g. g.group) gs) → IsFirstApart gs
      first_apart t cs [] said up = tt
      first_apart t cs (g ∷ gs) said up = (
        λ own. none_other t cs g.group gs said.1 up.0 (sym (first_said t cs g said.0) ∙ own),
        first_apart t cs gs said.1 up.1,
      )

      rest_said : (t : Tagged) (cs : List Tagged) (gs : List SettledGroup) → AllByRecursion (SaidIn (t ∷ cs)) gs → AllByRecursion (SaidIn cs) (map without_first gs)
      rest_said t cs [] said = tt
      rest_said t cs (g ∷ gs) said = (ap (drop 1) said.0, rest_said t cs gs said.1)

      rest_rise : (gs : List SettledGroup) → map (λ g. g.group) (map without_first gs) ≡ map (λ g. g.group) gs
      rest_rise [] = refl
      rest_rise (g ∷ gs) = ap (λ more. g.group ∷ more) (rest_rise gs)

      apart_left : (cs : List Tagged) (gs : List SettledGroup) → AllByRecursion (SaidIn cs) gs → IsRising (map (λ g. g.group) gs) → AreInsertedApart (length cs) gs
      apart_left [] gs said up = tt
      apart_left (t ∷ cs) gs said up =
          (first_apart t cs gs said up, apart_left cs (map without_first gs) (rest_said t cs gs said) (rw (rest_rise gs) up))

      -- ---- the last edits

      last_said : (g : SettledGroup) → IsGroup after kept_characters g → group_of h.revisions g.last ≡ g.group
      last_said g is =
          let some : 0 < last_edit h.revisions g.group (head h) = omega (arith, is.counts, is.last) in
          let own = edits-last_edit h.revisions g.group (head h) some in
          ap (group_of h.revisions) is.last ∙
          eqb-true (group_of h.revisions (last_edit h.revisions g.group (head h))) g.group
          (and_parts (is_edit (revision_at h.revisions (last_edit h.revisions g.group (head h)))) (group_of h.revisions (last_edit h.revisions g.group (head h)) == g.group) own).1

      ending_is : (gs : List SettledGroup) → AllByRecursion (IsGroup after kept_characters) gs → (rev : ℕ) → list_any (λ g. g.last == rev) gs ≡ true →
          ending_at gs rev ≡ Some (group_of h.revisions rev)
      ending_is [] each rev some = absurd cc
      ending_is (g ∷ gs) each rev some = by (g.last == rev) refl some (ending_is gs each.1 rev)
        where
          by : (here : Bool) → (g.last == rev) ≡ here → (here || list_any (λ g. g.last == rev) gs) ≡ true →
              (list_any (λ g. g.last == rev) gs ≡ true → ending_at gs rev ≡ Some (group_of h.revisions rev)) →
              (if here then Some g.group else ending_at gs rev) ≡ Some (group_of h.revisions rev)
          by true here some rest = ap Some (sym (last_said g each.0) ∙ ap (group_of h.revisions) (eqb-true g.last rev here))
          by false here some rest = rest some

      group_settled : (rev : ℕ) → 0 < rev → rev ≤ head h → list_any (λ g. g.last == rev) left ≡ true → group_of (settled_history new).revisions rev ≡ group_of h.revisions rev
      group_settled rev counts le there =
          ap edit_group (revision_at-settled new rev counts le) ∙ ap (λ found. edit_group (Some (settled_said set found))) (ending_is left left_are.each rev there)

      ends_left : (gs : List SettledGroup) → AllByRecursion (IsGroup after kept_characters) gs →
          ((rev : ℕ) → list_any (λ g. g.last == rev) gs ≡ true → list_any (λ g. g.last == rev) left ≡ true) →
          AllByRecursion (IsEnd (settled_history new).revisions (head h)) gs
      ends_left [] each among = tt
      ends_left (g ∷ gs) each among = (
        record {
          counts = each.0.counts;
          within = omega (arith, each.0.last, last_edit-le h.revisions g.group (head h));
          said =
              group_settled g.last each.0.counts (omega (arith, each.0.last, last_edit-le h.revisions g.group (head h)))
              (among g.last (or_left (g.last == g.last) (list_any (λ o. o.last == g.last) gs) (eq-eqb g.last g.last refl))) ∙ last_said g each.0;
        },
        ends_left gs each.1 (λ rev is. among rev (or_right (g.last == rev) (list_any (λ g. g.last == rev) gs) is)),
      )

      left_rise : IsRising (map (λ g. g.group) left)
      left_rise = rising_left (λ g. not (has now g.group)) (shrunk dropped) (λ g. refl) groups rise

      pub may_settle : MaySettle h left now dead
      may_settle = record {
        parts = record {
          rising = left_rise;
          uncollected = AllByRecursion-weaker (IsGroup after kept_characters) (λ g. has after.collected g.group ≡ false) (λ g is. is.kept) left left_are.each;
          lengths = lengths_left left left_are.each;
          ends = ends_left left left_are.each (λ rev is. is);
          apart =
              rw length_is
              (apart_left kept_characters left
              (AllByRecursion-weaker (IsGroup after kept_characters) (SaidIn kept_characters) (λ g is. is.inserted) left left_are.each) left_rise);
        };
        undone =
            ap (λ g. undone_now g) left_is ∙ ap (undone (left_of after).revisions) (head-left after (omega arith)) ∙ undone-left after (omega arith) (head h) (omega arith);
        hidden = hidden_left;
      }

-- ---- all are positions of the present union

pub group_lengths : (h : History) (characters : List Tagged) (groups : List SettledGroup) → AllByRecursion (IsGroup h characters) groups →
    AllByRecursion (HasLengths (length characters)) groups
group_lengths h characters [] each = tt
group_lengths h characters (g ∷ groups) each = (
  record {
    inserted = ap length each.0.inserted ∙ length-map characters (λ t. edits_group h.revisions g.group t.inserted);
    deleted = ap length each.0.deleted ∙ length-map characters (λ t. list_any (edits_group h.revisions g.group) t.deleted);
  },
  group_lengths h characters groups each.1,
)

pub length-hidden : (h : History) → length (hidden_at h (head h)) ≡ length h.characters
length-hidden h = length-map h.characters (is_hidden h (head h))

pub length-dropped : (h after : History) → length (map (is_dropped after) h.characters) ≡ length h.characters
length-dropped h after = length-map h.characters (is_dropped after)

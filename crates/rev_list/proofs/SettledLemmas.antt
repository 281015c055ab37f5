-- What a set hides at the floor of a list, where each group is one step.
use Rattle.std.proofs.Common.{◌≡◌, ℕ, zero, suc, ◌≤◌, Bool, true, false, not, ◌&&◌, ◌||◌, if◌then◌else◌, nat_lt, nat_cmp, Less, Equal, Greater, Ordering, List, [], ◌∷◌, length, map, drop, refl, ap, ap₂, sym, ◌∙◌, arith}
use Rattle.std.specs.Prelude.{replicate}
use Rattle.std.specs.List.{fold, list_all, list_any, AllByRecursion}
use Rattle.std.specs.Ordering.{match_ordering}
use Rattle.std.proofs.lemmas.Bool.{le-leb}
use Rattle.std.proofs.lemmas.Bool.Decides.{nat_tests}
use Rattle.std.proofs.lemmas.List.{length-drop, length-map}
use Rattle.subset_runs.specs.Subset.{complement, union}
use Rattle.subset_runs.proofs.ForCallers.{length-at_each}
use Rattle.plain_text.specs.Numbers.{has, with_number}
use Rattle.plain_edits.specs.History.{Revision, group_of, is_visible_under}
use Rattle.rev_list.specs.declared.settled.SettledGroup.{SettledGroup}
use Rattle.rev_list.specs.Settled.{first_flag, without_first, first_inserted, first_deleted, settled_characters, loaded_of, hidden_of, hidden_by_groups, HasLengths, IsEnd, IsFirstApart, AreInsertedApart}

-- ---- position by position

pub first_rest : (flags : List Bool) (len : ℕ) → length flags ≡ suc len → flags ≡ first_flag flags ∷ drop 1 flags
first_rest [] len long = absurd (omega arith)
first_rest (flag ∷ flags) len long = refl

module _ (f : SettledGroup → List Bool) (f_rest : (g : SettledGroup) → f (without_first g) ≡ drop 1 (f g)) where
  abbrev adds : List Bool → SettledGroup → List Bool
  adds all g = union all (f g)

  abbrev firsts : List SettledGroup → Bool
  firsts groups = list_any (λ g. first_flag (f g)) groups

  or_or : (a b c : Bool) → ((a || b) || c) ≡ (a || (b || c))
  or_or true b c = refl
  or_or false b c = refl

  or_none : (b : Bool) → b ≡ (b || false)
  or_none true = refl
  or_none false = refl

  fold_first : (groups : List SettledGroup) (flag : Bool) (flags : List Bool) → AllByRecursion (λ g. length (f g) ≡ suc (length flags)) groups →
      fold adds (flag ∷ flags) groups ≡ (flag || firsts groups) ∷ fold adds flags (map without_first groups)
  fold_first [] flag flags long = ap (λ b. b ∷ flags) (or_none flag)
  fold_first (g ∷ groups) flag flags long =
      let same : length (union flags (drop 1 (f g))) ≡ length flags =
      length-at_each (λ x y. x || y) flags (drop 1 (f g)) (omega (arith, length-drop 1 (f g), long.0)) in
      ap (λ by. fold adds (union (flag ∷ flags) by) groups) (first_rest (f g) (length flags) long.0) ∙
      fold_first groups (flag || first_flag (f g)) (union flags (drop 1 (f g))) (rw same long.1) ∙
      ap₂ (λ b rest. b ∷ fold adds (union flags rest) (map without_first groups)) (or_or flag (first_flag (f g)) (firsts groups)) (sym (f_rest g))

  fold_nothing : (groups : List SettledGroup) → fold adds [] groups ≡ []
  fold_nothing [] = refl
  fold_nothing (g ∷ groups) = fold_nothing groups

-- ---- the first position

pub all-with_number : (p : ℕ → Bool) (xs : List ℕ) (n : ℕ) → list_all p (with_number xs n) ≡ (p n && list_all p xs)
all-with_number p [] n = refl
all-with_number p (x ∷ xs) n = by (nat_cmp n x) refl (all-with_number p xs n)
  where
    equal : (a b : ℕ) → nat_cmp a b ≡ Equal → a ≡ b
    equal a b is = grind (arith, nat_tests)

    and_twice : (a r : Bool) → (a && r) ≡ (a && (a && r))
    and_twice true r = refl
    and_twice false r = refl

    and_swap : (a b r : Bool) → (a && (b && r)) ≡ (b && (a && r))
    and_swap true b r = refl
    and_swap false true r = refl
    and_swap false false r = refl

    by : (o : Ordering) → nat_cmp n x ≡ o → list_all p (with_number xs n) ≡ (p n && list_all p xs) →
        list_all p (match_ordering o (n ∷ x ∷ xs) (x ∷ xs) (x ∷ with_number xs n)) ≡ (p n && (p x && list_all p xs))
    by Less is rest = refl
    by Equal is rest =
        let same : n ≡ x = equal n x is in
        and_twice (p x) (list_all p xs) ∙ ap (λ m. p m && (p x && list_all p xs)) (sym same)
    by Greater is rest = ap (λ b. p x && b) rest ∙ and_swap (p x) (p n) (list_all p xs)

module _ (revisions : List Revision) (set : List ℕ) (floor : ℕ) where
  abbrev in_set : SettledGroup → Bool
  in_set g = has set g.group

  abbrev new_first : SettledGroup → Bool
  new_first g = first_flag g.inserted

  abbrev gone_first : SettledGroup → Bool
  gone_first g = first_flag g.deleted

  -- whether a revision by the floor spares a character that it deleted
  abbrev spares : ℕ → Bool
  spares rev = nat_lt floor rev || has set (group_of revisions rev)

  first_within : (groups : List SettledGroup) → AllByRecursion (IsEnd revisions floor) groups → first_inserted groups ≤ floor
  first_within [] ends = omega arith
  first_within (g ∷ groups) ends = by (new_first g) (first_within groups ends.1)
    where
      by : (new : Bool) → first_inserted groups ≤ floor → (if new then g.last else first_inserted groups) ≤ floor
      by true rest = ends.0.within
      by false rest = rest

  none_in : (groups : List SettledGroup) → list_any new_first groups ≡ false → list_any (λ g. in_set g && new_first g) groups ≡ false
  none_in [] none = refl
  none_in (g ∷ groups) none = by (in_set g) (new_first g) none (none_in groups)
    where
      by : (a b : Bool) → (b || list_any new_first groups) ≡ false → (list_any new_first groups ≡ false → list_any (λ g. in_set g && new_first g) groups ≡ false) →
          (a && b || list_any (λ g. in_set g && new_first g) groups) ≡ false
      by a true none rest = absurd cc
      by true false none rest = rest none
      by false false none rest = rest none

  -- the group that inserted it is in the set
  inserted_in : (groups : List SettledGroup) → AllByRecursion (IsEnd revisions floor) groups → IsFirstApart groups →
      has set (group_of revisions (first_inserted groups)) ≡
      ((has set 0 && not (list_any new_first groups)) || list_any (λ g. in_set g && new_first g) groups)
  inserted_in [] ends apart = loaded (has set 0)
    where
      loaded : (b : Bool) → b ≡ ((b && true) || false)
      loaded true = refl
      loaded false = refl
  inserted_in (g ∷ groups) ends apart = by (new_first g) refl (inserted_in groups ends.1 apart.1)
    where
      own : (a b rest : Bool) → rest ≡ false → a ≡ ((b && false) || (a && true || rest))
      own true true rest none = refl
      own true false rest none = refl
      own false true rest none = sym none
      own false false rest none = sym none

      other : (a b n rest : Bool) → ((b && not n) || rest) ≡ ((b && not n) || (a && false || rest))
      other true b n rest = refl
      other false b n rest = refl

      by : (new : Bool) → new_first g ≡ new →
          has set (group_of revisions (first_inserted groups)) ≡
          ((has set 0 && not (list_any new_first groups)) || list_any (λ g. in_set g && new_first g) groups) →
          has set (group_of revisions (if new then g.last else first_inserted groups)) ≡
          ((has set 0 && not (new || list_any new_first groups)) || (in_set g && new || list_any (λ g. in_set g && new_first g) groups))
      by true is rest =
          ap (has set) ends.0.said ∙
          own (in_set g) (has set 0) (list_any (λ g. in_set g && new_first g) groups) (none_in groups (apart.0 is))
      by false is rest =
          rest ∙ other (in_set g) (has set 0) (list_any new_first groups) (list_any (λ g. in_set g && new_first g) groups)

  -- each group that deleted it is in the set
  deleted_in : (groups : List SettledGroup) → AllByRecursion (IsEnd revisions floor) groups →
      list_all spares (first_deleted groups) ≡ not (list_any (λ g. not (in_set g) && gone_first g) groups)
  deleted_in [] ends = refl
  deleted_in (g ∷ groups) ends = by (gone_first g) (deleted_in groups ends.1)
    where
      spared : spares g.last ≡ in_set g
      spared = ap₂ (λ a group. a || has set group) (lt_not floor g.last ends.0.within) ends.0.said
        where
          lt_not : (a b : ℕ) → b ≤ a → nat_lt a b ≡ false
          lt_not a b le = grind (arith, nat_tests)

      here : (a rest : Bool) → (a && not rest) ≡ not (not a && true || rest)
      here true rest = refl
      here false rest = refl

      away : (a rest : Bool) → not rest ≡ not (not a && false || rest)
      away true rest = refl
      away false rest = refl

      by : (gone : Bool) → list_all spares (first_deleted groups) ≡ not (list_any (λ g. not (in_set g) && gone_first g) groups) →
          list_all spares (if gone then with_number (first_deleted groups) g.last else first_deleted groups) ≡
          not (not (in_set g) && gone || list_any (λ g. not (in_set g) && gone_first g) groups)
      by true rest =
          all-with_number spares (first_deleted groups) g.last ∙ ap₂ (λ a b. a && b) spared rest ∙
          here (in_set g) (list_any (λ g. not (in_set g) && gone_first g) groups)
      by false rest = rest ∙ away (in_set g) (list_any (λ g. not (in_set g) && gone_first g) groups)

  -- what the groups hide is what those in the set inserted and what the others deleted
  either : (groups : List SettledGroup) →
      list_any (λ g. first_flag (hidden_of set g)) groups ≡
      (list_any (λ g. in_set g && new_first g) groups || list_any (λ g. not (in_set g) && gone_first g) groups)
  either [] = refl
  either (g ∷ groups) = by (in_set g) (new_first g) (gone_first g) _ _ _ (either groups)
    where
      by : (a new gone all inserted deleted : Bool) → all ≡ (inserted || deleted) →
          (first_flag (if a then g.inserted else g.deleted) || all) ≡ ((a && new_first g || inserted) || (not a && gone_first g || deleted))
      by true new gone all inserted deleted is = ap (λ b. new_first g || b) is ∙ left (new_first g) inserted deleted
        where
          left : (a b c : Bool) → (a || (b || c)) ≡ ((a || b) || c)
          left true b c = refl
          left false b c = refl
      by false new gone all inserted deleted is = ap (λ b. gone_first g || b) is ∙ right (gone_first g) inserted deleted
        where
          right : (a b c : Bool) → (a || (b || c)) ≡ (b || (a || c))
          right true true c = refl
          right true false c = refl
          right false b c = refl

  hides_first : (groups : List SettledGroup) → AllByRecursion (IsEnd revisions floor) groups → IsFirstApart groups →
      not (is_visible_under revisions set floor (record { character = 0; inserted = first_inserted groups; deleted = first_deleted groups })) ≡
      ((has set 0 && not (list_any new_first groups)) || list_any (λ g. first_flag (hidden_of set g)) groups)
  hides_first groups ends apart =
      ap₂ (λ a b. not (a && b))
      (ap₂ (λ a b. a && not b) (le-leb (first_inserted groups) floor (first_within groups ends)) (inserted_in groups ends apart)) (deleted_in groups ends) ∙
      swap (has set 0 && not (list_any new_first groups)) (list_any (λ g. in_set g && new_first g) groups) (list_any (λ g. not (in_set g) && gone_first g) groups) ∙
      ap (λ b. (has set 0 && not (list_any new_first groups)) || b) (sym (either groups))
    where
      swap : (a b c : Bool) → not ((true && not (a || b)) && not c) ≡ (a || (b || c))
      swap true b c = refl
      swap false true c = refl
      swap false false true = refl
      swap false false false = refl

-- ---- all positions

pub all_rest : (P Q : SettledGroup → Type 0) → ((g : SettledGroup) → P g → Q (without_first g)) → (groups : List SettledGroup) → AllByRecursion P groups →
    AllByRecursion Q (map without_first groups)
all_rest P Q step [] all = tt
all_rest P Q step (g ∷ groups) all = (step g all.0, all_rest P Q step groups all.1)

pub all_of : (P Q : SettledGroup → Type 0) → ((g : SettledGroup) → P g → Q g) → (groups : List SettledGroup) → AllByRecursion P groups → AllByRecursion Q groups
all_of P Q step [] all = tt
all_of P Q step (g ∷ groups) all = (step g all.0, all_of P Q step groups all.1)

pub rest_lengths : (len : ℕ) (g : SettledGroup) → HasLengths (suc len) g → HasLengths len (without_first g)
rest_lengths len g is = record {
  inserted = omega (arith, length-drop 1 g.inserted, is.inserted);
  deleted = omega (arith, length-drop 1 g.deleted, is.deleted);
}

hidden_rest : (set : List ℕ) (g : SettledGroup) → hidden_of set (without_first g) ≡ drop 1 (hidden_of set g)
hidden_rest set g = by (has set g.group)
  where
    by : (in_it : Bool) → (if in_it then drop 1 g.inserted else drop 1 g.deleted) ≡ drop 1 (if in_it then g.inserted else g.deleted)
    by true = refl
    by false = refl

hidden_length : (set : List ℕ) (len : ℕ) (g : SettledGroup) → HasLengths len g → length (hidden_of set g) ≡ len
hidden_length set len g is = by (has set g.group)
  where
    by : (in_it : Bool) → length (if in_it then g.inserted else g.deleted) ≡ len
    by true = is.inserted
    by false = is.deleted

length-none : (len : ℕ) → length (replicate len false) ≡ len
length-none zero = refl
length-none (suc len) = ap suc (length-none len)

length-fold : (f : SettledGroup → List Bool) (flags : List Bool) (groups : List SettledGroup) → AllByRecursion (λ g. length (f g) ≡ length flags) groups →
    length (fold (λ all g. union all (f g)) flags groups) ≡ length flags
length-fold f flags [] long = refl
length-fold f flags (g ∷ groups) long =
    let same : length (union flags (f g)) ≡ length flags = length-at_each (λ x y. x || y) flags (f g) (omega (arith, long.0)) in
    length-fold f (union flags (f g)) groups (rw same long.1) ∙ same

-- the loaded text, where the set has group 0
module _ (set : List ℕ) where
  abbrev loaded_in : ℕ → List SettledGroup → List Bool
  loaded_in len groups = if has set 0 then loaded_of len groups else replicate len false

  loaded_first : (len : ℕ) (groups : List SettledGroup) → AllByRecursion (HasLengths (suc len)) groups →
      loaded_in (suc len) groups ≡ (has set 0 && not (list_any (λ g. first_flag g.inserted) groups)) ∷ loaded_in len (map without_first groups)
  loaded_first len groups lengths = by (has set 0)
    where
      by : (in_it : Bool) → (if in_it then loaded_of (suc len) groups else false ∷ replicate len false) ≡
          (in_it && not (list_any (λ g. first_flag g.inserted) groups)) ∷ (if in_it then loaded_of len (map without_first groups) else replicate len false)
      by true =
          ap complement (fold_first (λ g. g.inserted) (λ g. refl) groups false (replicate len false)
          (all_of (HasLengths (suc len)) (λ g. length g.inserted ≡ suc (length (replicate len false))) (λ g is. omega (arith, is.inserted, length-none len)) groups lengths))
      by false = refl

  length-loaded_in : (len : ℕ) (groups : List SettledGroup) → AllByRecursion (HasLengths len) groups → length (loaded_in len groups) ≡ len
  length-loaded_in len groups lengths = by (has set 0)
    where
      by : (in_it : Bool) → length (if in_it then loaded_of len groups else replicate len false) ≡ len
      by true =
          length-map (fold (λ all g. union all g.inserted) (replicate len false) groups) not ∙
          length-fold (λ g. g.inserted) (replicate len false) groups
          (all_of (HasLengths len) (λ g. length g.inserted ≡ length (replicate len false)) (λ g is. omega (arith, is.inserted, length-none len)) groups lengths) ∙
          length-none len
      by false = length-none len

pub hides_by_groups : (revisions : List Revision) (set : List ℕ) (floor len : ℕ) (groups : List SettledGroup) → AllByRecursion (HasLengths len) groups →
    AllByRecursion (IsEnd revisions floor) groups → AreInsertedApart len groups →
    map (λ t. not (is_visible_under revisions set floor t)) (settled_characters len groups) ≡ hidden_by_groups set len groups
hides_by_groups revisions set floor zero groups lengths ends apart =
    nothing (has set 0) ∙ ap (λ flags. fold (λ dead g. union dead (hidden_of set g)) flags groups) (none (has set 0))
  where
    nothing : (in_it : Bool) → [] ≡ fold (λ dead g. union dead (hidden_of set g)) [] groups
    nothing in_it = sym (fold_nothing (hidden_of set) (hidden_rest set) groups)

    none : (in_it : Bool) → [] ≡ (if in_it then loaded_of 0 groups else [])
    none true = ap complement (sym (fold_nothing (λ g. g.inserted) (λ g. refl) groups))
    none false = refl
hides_by_groups revisions set floor (suc len) groups lengths ends apart =
    let rest = all_rest (HasLengths (suc len)) (HasLengths len) (rest_lengths len) groups lengths in
    let long : length (loaded_in set len (map without_first groups)) ≡ len = length-loaded_in set len (map without_first groups) rest in
    ap₂ (λ b flags. b ∷ flags) (hides_first revisions set floor groups ends apart.0)
    (hides_by_groups revisions set floor len (map without_first groups) rest
    (all_rest (IsEnd revisions floor) (IsEnd revisions floor) (λ g is. record { counts = is.counts; within = is.within; said = is.said }) groups ends) apart.1) ∙
    sym (ap (λ flags. fold (λ dead g. union dead (hidden_of set g)) flags groups) (loaded_first set len groups lengths) ∙
    fold_first (hidden_of set) (hidden_rest set) groups (has set 0 && not (list_any (λ g. first_flag g.inserted) groups)) (loaded_in set len (map without_first groups))
    (all_of (HasLengths (suc len)) (λ g. length (hidden_of set g) ≡ suc (length (loaded_in set len (map without_first groups))))
    (λ g is. hidden_length set (suc len) g is ∙ ap suc (sym long)) groups lengths))

-- The first edit of each group, from one revision to the next.
use Rattle.std.proofs.Common.{◌≡◌, ℕ, zero, suc, ◌+◌, ◌<◌, ◌≤◌, Bool, true, false, ◌||◌, if◌then◌else◌, ◌==◌, nat_le, inl, inr, List, [], ◌∷◌, ◌++◌, length, take, drop, get_or, Option, Some, None, Ok, Err, nat_cmp, refl, ap, ap₂, sym, ◌∙◌, arith, take_all, length-append}
use Rattle.std.specs.List.{list_any, AllByRecursion}
use Rattle.std.proofs.lemmas.Bool.{cases_lt, both_ways, le-leb, lt-leb, eqb-true, eq-eqb, ne_eqb}
use Rattle.std.specs.List.Sorted.{IsBinarySearchResult}
use Rattle.std.proofs.lemmas.List.{drop_more, take-append-le, take_more, take-append-drop}
use Rattle.std.proofs.lemmas.List.Sorted.{searched}
use Rattle.std.proofs.lemmas.List.Folds.{list_any-append}
use Rattle.shared_tree.specs.Replaced.{replaced}
use Rattle.plain_text.specs.Numbers.{has, IsRising}
use Rattle.plain_text.proofs.callers.NumberLemmas.{has-searched}
use Rattle.number_set.proofs.ForCallers.{rises, gap_inside}
use Rattle.plain_edits.specs.History.{Revision, edit, undo, History, head}
use Rattle.plain_edits.specs.Edits.{is_edit_of, undid}
use Rattle.rev_list.specs.declared.edit.RevEdit.{RevEdit}
use Rattle.rev_list.specs.Edit.{edit_revision, after_edit}
use Rattle.rev_list.specs.declared.settled.SettledGroup.{SettledGroup}
use Rattle.rev_list.specs.Groups.{has_edit_by, IsFirstEdit, rev_of, or_else, first_after, first_with}

or_or : (a b c : Bool) → (a || (b || c)) ≡ ((a || b) || c)
or_or true b c = refl
or_or false b c = refl

or_right_none : (a b : Bool) → (a || b) ≡ false → b ≡ false
or_right_none true b none = absurd cc
or_right_none false b none = none

or_else_none : (found : Option ℕ) → or_else found None ≡ found
or_else_none (Some rev) = refl
or_else_none None = refl

above_at : (n : ℕ) (xs : List ℕ) (j : ℕ) → AllByRecursion (λ m. n < m) xs → j < length xs → n < get_or xs j 0
above_at n [] j all lt = absurd (omega arith)
above_at n (x ∷ xs) zero all lt = all.0
above_at n (x ∷ xs) (suc j) all lt = above_at n xs j all.1 (omega arith)

or_none : (b : Bool) → (b || false) ≡ b
or_none true = refl
or_none false = refl

-- ---- one more revision

module _ (revisions : List Revision) (last : Revision) (group : ℕ) where
  abbrev more : List Revision
  more = revisions ++ last ∷ []

  -- by a revision that was there, the same groups have an edit
  has_edit_by-within : (rev : ℕ) → rev ≤ length revisions → has_edit_by more rev group ≡ has_edit_by revisions rev group
  has_edit_by-within rev le = ap (λ rs. group == 0 || list_any (is_edit_of group) rs) (take-append-le rev revisions (last ∷ []) le)

  -- by a later one, those that had one before, and the group of the edit
  has_edit_by-beyond : (rev : ℕ) → length revisions < rev → has_edit_by more rev group ≡ (has_edit_by revisions rev group || is_edit_of group last)
  has_edit_by-beyond rev over =
      ap (λ rs. group == 0 || list_any (is_edit_of group) rs) (take_all rev more (omega (arith, over, length-append revisions (last ∷ [])))) ∙
      ap (λ b. group == 0 || b) (list_any-append (is_edit_of group) revisions (last ∷ []) ∙
      ap (λ b. list_any (is_edit_of group) revisions || b) (or_none (is_edit_of group last)) ∙
      ap (λ rs. list_any (is_edit_of group) rs || is_edit_of group last) (sym (take_all rev revisions (omega (arith, over))))) ∙
      or_or (group == 0) (list_any (is_edit_of group) (take rev revisions)) (is_edit_of group last)

  -- a group that has an edit at all has one by each revision above the last
  has_edit_by-first : (first rev : ℕ) → IsFirstEdit revisions group (Some first) → length revisions < rev → has_edit_by revisions rev group ≡ true
  has_edit_by-first first rev is over =
      elim (cases_lt rev first) [
        | inl below ↦
            let all : take first revisions ≡ take rev revisions =
            take_all first revisions (omega (arith, over, below)) ∙ sym (take_all rev revisions (omega (arith, over))) in
            ap (λ rs. group == 0 || list_any (is_edit_of group) rs) (sym all) ∙ is first ∙ le-leb first first (omega arith)
        | inr le ↦ is rev ∙ le-leb first rev (omega (arith, le))
      ]

  pub IsFirstEdit-more : (first : ℕ) → IsFirstEdit revisions group (Some first) → IsFirstEdit more group (Some first)
  IsFirstEdit-more first is = λ rev.
      elim (cases_lt (length revisions) rev) [
        | inl over ↦
            let there : has_edit_by revisions rev group ≡ true = has_edit_by-first first rev is over in
            has_edit_by-beyond rev over ∙ ap (λ b. b || is_edit_of group last) there ∙ sym there ∙ is rev
        | inr le ↦ has_edit_by-within rev (omega (arith, le)) ∙ is rev
      ]

  -- a group that had none has none, where the revision is not its edit
  pub IsFirstEdit-none : IsFirstEdit revisions group None → is_edit_of group last ≡ false → IsFirstEdit more group None
  IsFirstEdit-none is other = λ rev.
      elim (cases_lt (length revisions) rev) [
        | inl over ↦ has_edit_by-beyond rev over ∙ ap₂ (λ a b. a || b) (is rev) other
        | inr le ↦ has_edit_by-within rev (omega (arith, le)) ∙ is rev
      ]

  -- and else the revision is the first one
  pub IsFirstEdit-new : IsFirstEdit revisions group None → is_edit_of group last ≡ true → IsFirstEdit more group (Some (length revisions + 1))
  IsFirstEdit-new is own = λ rev.
      elim (cases_lt (length revisions) rev) [
        | inl over ↦ has_edit_by-beyond rev over ∙ ap₂ (λ a b. a || b) (is rev) own ∙ sym (le-leb (length revisions + 1) rev (omega (arith, over)))
        | inr le ↦ has_edit_by-within rev (omega (arith, le)) ∙ is rev ∙ sym (lt-leb (length revisions + 1) rev (omega (arith, le)))
      ]

pub IsFirstEdit-edit : (h : History) (e : RevEdit) (group : ℕ) (found : Option ℕ) → IsFirstEdit h.revisions group found →
    IsFirstEdit (after_edit h e).revisions group (first_after found e.group (head h + 1) group)
IsFirstEdit-edit h e group (Some first) is = IsFirstEdit-more h.revisions (edit_revision e) group first is
IsFirstEdit-edit h e group None is = by (e.group == group) refl
  where
    by : (own : Bool) → (e.group == group) ≡ own → IsFirstEdit (after_edit h e).revisions group (if own then Some (head h + 1) else None)
    by true own = IsFirstEdit-new h.revisions (edit_revision e) group is own
    by false own = IsFirstEdit-none h.revisions (edit_revision e) group is own

pub IsFirstEdit-undid : (h : History) (set : List ℕ) (group : ℕ) (found : Option ℕ) → IsFirstEdit h.revisions group found →
    IsFirstEdit (undid h set).revisions group found
IsFirstEdit-undid h set group None is = IsFirstEdit-none h.revisions (undo set) group is refl
IsFirstEdit-undid h set group (Some first) is = IsFirstEdit-more h.revisions (undo set) group first is

abbrev no_revisions : List Revision
no_revisions = []

take_nothing : (rev : ℕ) → take rev no_revisions ≡ no_revisions
take_nothing zero = refl
take_nothing (suc rev) = refl

-- of a text that was just loaded group 0 alone has an edit, the text
pub IsFirstEdit-loaded : (group : ℕ) → IsFirstEdit [] group (rev_of (0 ∷ []) (0 ∷ []) group)
IsFirstEdit-loaded group = by (0 == group) refl
  where
    by : (own : Bool) → (0 == group) ≡ own → IsFirstEdit [] group (if own then Some 0 else None)
    by true own = λ rev.
        ap₂ (λ a rs. a || list_any (is_edit_of group) rs) (eq-eqb group 0 (sym (eqb-true 0 group own))) (take_nothing rev) ∙ sym (le-leb 0 rev (omega arith))
    by false own = λ rev.
        ap₂ (λ a rs. a || list_any (is_edit_of group) rs) (ne_eqb group 0 (λ is. both_ways (0 == group) own (eq-eqb 0 group (sym is)))) (take_nothing rev)

-- ---- the last edits of some groups

pub first_with-more : (groups : List SettledGroup) (i : ℕ) (d : SettledGroup) (found : Option ℕ) (other : ℕ) → i < length groups →
    first_with found (drop i groups) other ≡
    first_with (first_after found (get_or groups i d).group (get_or groups i d).last other) (drop (i + 1) groups) other
first_with-more groups i d found other lt = ap (λ gs. first_with found gs other) (drop_more groups i d lt)

-- ---- two groups with one first edit are one group

or_second : (a b : Bool) → a ≡ false → (a || b) ≡ true → b ≡ true
or_second true b none some = absurd cc
or_second false b none some = some

first_is : (revisions : List Revision) (group m : ℕ) (d : Revision) → IsFirstEdit revisions group (Some (suc m)) → is_edit_of group (get_or revisions m d) ≡ true
first_is revisions group m d is =
    let low : has_edit_by revisions m group ≡ false = is m ∙ lt-leb (suc m) m (omega arith) in
    let high : has_edit_by revisions (m + 1) group ≡ true = is (m + 1) ∙ le-leb (suc m) (m + 1) (omega arith) in
    elim (cases_lt m (length revisions)) [
      | inl lt ↦
          or_second (has_edit_by revisions m group) (is_edit_of group (get_or revisions m d)) low
          (ap (λ b. has_edit_by revisions m group || b) (sym (or_none (is_edit_of group (get_or revisions m d)))) ∙
          sym (or_or (group == 0) (list_any (is_edit_of group) (take m revisions)) (is_edit_of group (get_or revisions m d) || false)) ∙
          ap (λ b. group == 0 || b) (sym (list_any-append (is_edit_of group) (take m revisions) (get_or revisions m d ∷ []))) ∙
          ap (λ rs. group == 0 || list_any (is_edit_of group) rs) (sym (take_more revisions m d lt)) ∙ high)
      | inr ge ↦ absurd (both_ways (has_edit_by revisions m group) low
          (ap (λ rs. group == 0 || list_any (is_edit_of group) rs) (take_all m revisions (omega (arith, ge)) ∙ sym (take_all (m + 1) revisions (omega (arith, ge)))) ∙ high))
    ]

of_one_edit : (g other : ℕ) (r : Revision) → is_edit_of g r ≡ true → is_edit_of other r ≡ true → g ≡ other
of_one_edit g other (edit base group priority author) is others = sym (eqb-true group g is) ∙ eqb-true group other others
of_one_edit g other (undo groups) is others = absurd cc

or_nothing : (a : Bool) → (a || false) ≡ true → a ≡ true
or_nothing true some = refl
or_nothing false some = absurd cc

pub one_group : (revisions : List Revision) (g other first : ℕ) → IsFirstEdit revisions g (Some first) → IsFirstEdit revisions other (Some first) → g ≡ other
one_group revisions g other zero is others = loaded_group g (is 0) ∙ sym (loaded_group other (others 0))
  where
    loaded_group : (group : ℕ) → has_edit_by revisions 0 group ≡ nat_le 0 0 → group ≡ 0
    loaded_group group at = eqb-true group 0 (or_nothing (group == 0) (at ∙ le-leb 0 0 (omega arith)))
one_group revisions g other (suc m) is others =
    of_one_edit g other (get_or revisions m (undo [])) (first_is revisions g m (undo []) is) (first_is revisions other m (undo []) others)

-- ---- a group that has an edit has a first one

or_cases_list : (a b c : Bool) → (b ≡ true → c ≡ true) → (a || b) ≡ true → (a || c) ≡ true
or_cases_list true b c later some = refl
or_cases_list false b c later some = later some

any_later : (p : Revision → Bool) (revisions : List Revision) (m n : ℕ) → m ≤ n → list_any p (take m revisions) ≡ true → list_any p (take n revisions) ≡ true
any_later p revisions zero n le some = absurd cc
any_later p [] (suc m) n le some = absurd cc
any_later p (r ∷ revisions) (suc m) zero le some = absurd (omega arith)
any_later p (r ∷ revisions) (suc m) (suc n) le some =
    or_cases_list (p r) (list_any p (take m revisions)) (list_any p (take n revisions)) (any_later p revisions m n (omega arith)) some

has_edit_by-later : (revisions : List Revision) (group m n : ℕ) → m ≤ n → has_edit_by revisions m group ≡ true → has_edit_by revisions n group ≡ true
has_edit_by-later revisions group m n le some =
    or_cases_list (group == 0) (list_any (is_edit_of group) (take m revisions)) (list_any (is_edit_of group) (take n revisions))
    (any_later (is_edit_of group) revisions m n le) some

-- the first edit of a group, which is by the revision
pub record HasFirst (revisions : List Revision) (group at : ℕ) : Type 0 where
  pub first : ℕ
  pub by : first ≤ at
  pub is : IsFirstEdit revisions group (Some first)

not_by : (b : Bool) → (b ≡ true → ⊥) → b ≡ false
not_by true never = absurd (never refl)
not_by false never = refl

pub first_found : (revisions : List Revision) (group at : ℕ) → has_edit_by revisions at group ≡ true → HasFirst revisions group at
first_found revisions group zero there = record {
  first = 0;
  by = omega arith;
  is = λ rev. has_edit_by-later revisions group 0 rev (omega arith) there ∙ sym (le-leb 0 rev (omega arith));
}
first_found revisions group (suc m) there = by (has_edit_by revisions m group) refl (first_found revisions group m)
  where
    by : (before : Bool) → has_edit_by revisions m group ≡ before → (has_edit_by revisions m group ≡ true → HasFirst revisions group m) →
        HasFirst revisions group (suc m)
    by true before earlier =
        let found = earlier before in
        record { first = found.first; by = omega (arith, found.by); is = found.is }
    by false before earlier = record {
      first = suc m;
      by = omega arith;
      is = λ rev.
          elim (cases_lt rev (suc m)) [
            | inl below ↦
                not_by (has_edit_by revisions rev group)
                (λ some. both_ways (has_edit_by revisions m group) before (has_edit_by-later revisions group rev m (omega (arith, below)) some)) ∙
                sym (lt-leb (suc m) rev (omega (arith, below)))
            | inr le ↦ has_edit_by-later revisions group (suc m) rev (omega (arith, le)) there ∙ sym (le-leb (suc m) rev (omega (arith, le)))
          ];
    }

-- a group from 1 up has an edit exactly where it has a first one
pub any_edit : (revisions : List Revision) (group first : ℕ) → 0 < group → IsFirstEdit revisions group (Some first) → list_any (is_edit_of group) revisions ≡ true
any_edit revisions group first counts is =
    let by_then : list_any (is_edit_of group) (take first revisions) ≡ true =
    or_second (group == 0) (list_any (is_edit_of group) (take first revisions)) (ne_eqb group 0 (λ none. omega (arith, none, counts)))
    (is first ∙ le-leb first first (omega arith)) in
    ap (list_any (is_edit_of group)) (sym (take_all (first + length revisions) revisions (omega arith))) ∙
    any_later (is_edit_of group) revisions first (first + length revisions) (omega arith) by_then

pub no_edit : (revisions : List Revision) (group : ℕ) → IsFirstEdit revisions group None → list_any (is_edit_of group) revisions ≡ false
no_edit revisions group is =
    ap (list_any (is_edit_of group)) (sym (take_all (length revisions) revisions (omega arith))) ∙
    or_right_none (group == 0) (list_any (is_edit_of group) (take (length revisions) revisions)) (is (length revisions))

-- ---- what stands beside a group, after a search

-- a group of the list, and what stands beside it
rev_of-found : (groups revs : List ℕ) (group at d : ℕ) → IsRising groups → at < length groups → length revs ≡ length groups → get_or groups at 0 ≡ group →
    rev_of groups revs group ≡ Some (get_or revs at d)
rev_of-found [] revs group at d up lt same is = absurd (omega arith)
rev_of-found (g ∷ groups) [] group at d up lt same is = absurd (omega arith)
rev_of-found (g ∷ groups) (rev ∷ revs) group zero d up lt same is =
    ap (λ b. if b then Some rev else rev_of groups revs group) (eq-eqb g group is)
rev_of-found (g ∷ groups) (rev ∷ revs) group (suc at) d up lt same is =
    ap (λ b. if b then Some rev else rev_of groups revs group)
    (ne_eqb g group (λ own. omega (arith, own, is, above_at g groups at up.0 (omega arith)))) ∙
    rev_of-found groups revs group at d up.1 (omega arith) (omega (arith, same)) is

-- a group that is not in the list
rev_of-missed : (groups revs : List ℕ) (group : ℕ) → has groups group ≡ false → rev_of groups revs group ≡ None
rev_of-missed [] revs group none = refl
rev_of-missed (g ∷ groups) [] group none = refl
rev_of-missed (g ∷ groups) (rev ∷ revs) group none = by (g == group) (rev_of groups revs group) (rev_of-missed groups revs group) none
  where
    by : (own : Bool) (rest : Option ℕ) → (has groups group ≡ false → rest ≡ None) → (own || has groups group) ≡ false →
        (if own then Some rev else rest) ≡ None
    by true rest later gone = absurd cc
    by false rest later gone = later gone

-- one more group, at any place
rev_of-inserted : (groups revs : List ℕ) (group rev at other : ℕ) → at ≤ length groups → length revs ≡ length groups → has groups group ≡ false →
    rev_of (replaced groups at at (group ∷ [])) (replaced revs at at (rev ∷ [])) other ≡ first_after (rev_of groups revs other) group rev other
rev_of-inserted groups revs group rev zero other le same none = by (group == other) refl
  where
    by : (own : Bool) → (group == other) ≡ own →
        (if own then Some rev else rev_of groups revs other) ≡ or_else (rev_of groups revs other) (if own then Some rev else None)
    by true own = ap (λ found. or_else found (Some rev)) (sym (rev_of-missed groups revs other (ap (has groups) (sym (eqb-true group other own)) ∙ none)))
    by false own = sym (or_else_none (rev_of groups revs other))
rev_of-inserted [] revs group rev (suc at) other le same none = absurd (omega arith)
rev_of-inserted (g ∷ groups) [] group rev (suc at) other le same none = absurd (omega arith)
rev_of-inserted (g ∷ groups) (r ∷ revs) group rev (suc at) other le same none =
    by (g == other) (rev_of groups revs other) (rev_of (replaced groups at at (group ∷ [])) (replaced revs at at (rev ∷ [])) other)
    (rev_of-inserted groups revs group rev at other (omega arith) (omega (arith, same)) (or_right_none (g == group) (has groups group) none))
  where
    by : (own : Bool) (before after : Option ℕ) → after ≡ first_after before group rev other →
        (if own then Some r else after) ≡ or_else (if own then Some r else before) (if group == other then Some rev else None)
    by true before after rest = refl
    by false before after rest = rest

-- the same, after a binary search
pub rev_of_searched : (groups revs : List ℕ) (group at d : ℕ) → IsRising groups → length revs ≡ length groups →
    IsBinarySearchResult (λ y. nat_cmp y group) groups (Ok at) → rev_of groups revs group ≡ Some (get_or revs at d)
rev_of_searched groups revs group at d up same place =
    let found = searched groups group (Ok at) place (rises groups up) in
    rev_of-found groups revs group at d up found.0 same found.1

pub rev_of_unsearched : (groups revs : List ℕ) (group at : ℕ) → IsRising groups →
    IsBinarySearchResult (λ y. nat_cmp y group) groups (Err at) → rev_of groups revs group ≡ None
rev_of_unsearched groups revs group at up place = rev_of-missed groups revs group (sym (has-searched groups up group (Err at) place))

pub rev_of_put : (groups revs : List ℕ) (group rev at other : ℕ) → IsRising groups → length revs ≡ length groups →
    IsBinarySearchResult (λ y. nat_cmp y group) groups (Err at) →
    rev_of (replaced groups at at (group ∷ [])) (replaced revs at at (rev ∷ [])) other ≡ first_after (rev_of groups revs other) group rev other
rev_of_put groups revs group rev at other up same place =
    rev_of-inserted groups revs group rev at other (gap_inside groups up group at place) same (sym (has-searched groups up group (Err at) place))

-- a group that is there keeps its first edit
pub first_after_same : (groups revs : List ℕ) (group rev at : ℕ) → IsRising groups → length revs ≡ length groups →
    IsBinarySearchResult (λ y. nat_cmp y group) groups (Ok at) →
    (other : ℕ) → rev_of groups revs other ≡ first_after (rev_of groups revs other) group rev other
first_after_same groups revs group rev at up same place other = by (group == other) refl
  where
    kept : (found : Option ℕ) (d : ℕ) → found ≡ Some d → found ≡ or_else found (Some rev)
    kept (Some first) d is = refl
    kept None d is = absurd cc

    by : (own : Bool) → (group == other) ≡ own → rev_of groups revs other ≡ or_else (rev_of groups revs other) (if own then Some rev else None)
    by true own =
        kept (rev_of groups revs other) (get_or revs at 0)
        (ap (rev_of groups revs) (sym (eqb-true group other own)) ∙ rev_of_searched groups revs group at 0 up same place)
    by false own = sym (or_else_none (rev_of groups revs other))

-- both lists are longer by one
pub length_inserted : (xs : List ℕ) (at n : ℕ) → length (replaced xs at at (n ∷ [])) ≡ length xs + 1
length_inserted xs at n =
    omega (arith, length-append (take at xs) (n ∷ drop at xs), length-append (take at xs) (drop at xs), ap length (take-append-drop at xs))

-- Groups at rest, one revision after the other.
use Rattle.std.proofs.Common.{◌≡◌, ℕ, zero, suc, ◌+◌, ◌-◌, ◌<◌, ◌≤◌, Bool, true, false, not, ◌&&◌, ◌||◌, cond, if◌then◌else◌, ◌==◌, inl, inr, nat_cmp, Less, Greater, List, [], ◌∷◌, ◌++◌, take, drop, Some, slice_get, refl, ap, ap₂, sym, ◌∙◌, ◌↔◌, arith}
use Rattle.std.specs.List.{AllByRecursion, fold, list_all, list_any, range_with_len}
use Rattle.std.specs.Ordering.{match_ordering}
use Rattle.std.specs.List.Sorted.{IsStrictlySortedBy}
use Rattle.std.proofs.lemmas.Bool.{eqb-true, or_cases, or_right}
use Rattle.std.proofs.lemmas.Bool.Decides.{nat_tests}
use Rattle.std.proofs.lemmas.List.{append_assoc, drop_all}
use Rattle.plain_text.specs.Numbers.{has, flipped, with_number, IsRising}
use Rattle.plain_text.proofs.callers.ListLemmas.{AllByRecursion-weaker}
use Rattle.plain_text.proofs.callers.NumberLemmas.{has-flipped, has-with_number, has-with_numbers}
use Rattle.number_set.proofs.ForCallers.{above, has-append, has-own}
use Rattle.plain_edits.specs.History.{Revision, edit, undo, undone, undone_after, History, head}
use Rattle.plain_edits.specs.Edits.{is_edit_of}
use Rattle.plain_edits.specs.HistorySteps.{HasRisingSet}
use Rattle.plain_edits.specs.Collection.{agrees, is_at_rest, is_clean, resting_groups, IsAtRest, MayCollect}
use Rattle.plain_edits.proofs.callers.CollectionLemmas.{is_at_rest_iff}
use Rattle.rev_list.specs.declared.edit.RevEdit.{RevEdit}
use Rattle.rev_list.specs.declared.step.RevStep.{RevStep}
use Rattle.rev_list.specs.declared.step.RevStep.TheVariants.{Edit, Undo}
use Rattle.rev_list.specs.Hidden.{IsRevisionAt}
use Rattle.rev_list.specs.Edit.{edit_revision}
use Rattle.rev_collect.specs.Inner.{moves, HasRisingGroups, IsMoved, AreMoving}
use Rattle.rev_collect.proofs.FloorLemmas.{drop_get}

-- ---- what is undone before and after a revision

rising_after : (groups : List ℕ) (revisions : List Revision) (rev : ℕ) → IsRising groups → AllByRecursion HasRisingSet revisions →
    IsRising (undone_after groups (take rev revisions))
rising_after groups revisions zero up sets = up
rising_after groups [] (suc rev) up sets = up
rising_after groups (edit base group priority author ∷ revisions) (suc rev) up sets = rising_after groups revisions rev up sets.1
rising_after groups (undo set ∷ revisions) (suc rev) up sets = rising_after set revisions rev sets.0.0 sets.1

same_undone : (groups : List ℕ) (revisions : List Revision) (n base group priority author : ℕ) → slice_get revisions n ≡ Some (edit base group priority author) →
    undone_after groups (take (suc n) revisions) ≡ undone_after groups (take n revisions)
same_undone groups [] n base group priority author at = absurd cc
same_undone groups (edit b g p a ∷ revisions) zero base group priority author at = refl
same_undone groups (undo set ∷ revisions) zero base group priority author at = absurd cc
same_undone groups (edit b g p a ∷ revisions) (suc n) base group priority author at = same_undone groups revisions n base group priority author at
same_undone groups (undo set ∷ revisions) (suc n) base group priority author at = same_undone set revisions n base group priority author at

-- whether the revision turns the group
abbrev turns : ℕ → RevStep → Bool
turns group (Edit e) = false
turns group (Undo groups) = has groups group

undone_at : (h : History) (n group : ℕ) (r : RevStep) → IsRevisionAt h (suc n) r → HasRisingGroups r → AllByRecursion HasRisingSet h.revisions →
    has (undone h.revisions (suc n)) group ≡ (if turns group r then not (has (undone h.revisions n) group) else has (undone h.revisions n) group)
undone_at h n group (Edit e) is up sets = ap (λ set. has set group) (same_undone [] h.revisions n e.base e.group e.priority e.author is.said)
undone_at h n group (Undo groups) is up sets =
    let here : suc n - 1 ≡ n = omega arith in
    ap (λ set. has set group) is.differs ∙ ap (λ k. has (flipped (undone h.revisions k) groups) group) here ∙ has-flipped (undone h.revisions n) groups group (rising_after [] h.revisions n tt sets) up

-- what stands there, and whether it is an edit of the group
record IsEditSaid (revisions : List Revision) (n group : ℕ) (r : RevStep) : Type 0 where
  last : Revision
  at : slice_get revisions n ≡ Some last
  own : (is_edit_of group last || turns group r) ≡ moves group r
  either : (rest : Bool) → (not (is_edit_of group last || rest) && not (turns group r)) ≡ (not (moves group r) && not rest)

or_nothing : (b : Bool) → (b || false) ≡ b
or_nothing true = refl
or_nothing false = refl

parted : (a b : Bool) → (not (a || b) && true) ≡ (not a && not b)
parted true b = refl
parted false true = refl
parted false false = refl

swapped : (a b : Bool) → (not b && not a) ≡ (not a && not b)
swapped true true = refl
swapped true false = refl
swapped false true = refl
swapped false false = refl

edit_said : (h : History) (n group : ℕ) (r : RevStep) → IsRevisionAt h (suc n) r → IsEditSaid h.revisions n group r
edit_said h n group (Edit e) is = record {
  last = edit_revision e;
  at = is.said;
  own = or_nothing (e.group == group);
  either = λ rest. parted (e.group == group) rest;
}
edit_said h n group (Undo groups) is = record {
  last = undo (undone h.revisions (suc n));
  at = is.said;
  own = refl;
  either = λ rest. swapped (has groups group) rest;
}

-- ---- whether a group is at rest one revision before

agreed_before : (turned was now rest : Bool) →
    (agrees was now && (agrees (if turned then not was else was) now && rest)) ≡ (not turned && (agrees (if turned then not was else was) now && rest))
agreed_before true true true rest = refl
agreed_before true true false rest = refl
agreed_before true false true rest = refl
agreed_before true false false rest = refl
agreed_before false true true true = refl
agreed_before false true true false = refl
agreed_before false true false rest = refl
agreed_before false false true rest = refl
agreed_before false false false true = refl
agreed_before false false false false = refl

and_and : (a b c : Bool) → (a && (b && c)) ≡ ((a && b) && c)
and_and true b c = refl
and_and false b c = refl

module _ (h : History) (n group : ℕ) (r : RevStep) (known : suc n ≤ head h) (is : IsRevisionAt h (suc n) r) (up : HasRisingGroups r) (sets : AllByRecursion HasRisingSet h.revisions) where
  abbrev undone_in : ℕ → Bool
  undone_in rev = has (undone h.revisions rev) group

  abbrev as_at_head : ℕ → Bool
  as_at_head rev = agrees (undone_in rev) (undone_in (head h))

  abbrev settled : ℕ → Bool
  settled rev = list_all as_at_head (range_with_len rev (head h + 1 - rev))

  abbrev over : ℕ → Bool
  over rev = not (list_any (is_edit_of group) (drop rev h.revisions))

  settled_first : (rev : ℕ) → rev ≤ head h → settled rev ≡ (as_at_head rev && settled (suc rev))
  settled_first rev within =
      let more : head h + 1 - rev ≡ suc (head h - rev) = omega (arith, within) in
      let rest : head h - rev ≡ head h + 1 - suc rev = omega (arith, within) in
      let next : rev + 1 ≡ suc rev = omega arith in
      ap (λ k. list_all as_at_head (range_with_len rev k)) more ∙
      ap₂ (λ from k. as_at_head rev && list_all as_at_head (range_with_len from k)) next rest

  settled_before : settled n ≡ (not (turns group r) && settled (suc n))
  settled_before =
      settled_first n (omega (arith, known)) ∙
      ap (λ b. as_at_head n && b) (settled_first (suc n) known ∙
      ap (λ b. agrees b (undone_in (head h)) && settled (suc (suc n))) (undone_at h n group r is up sets)) ∙
      agreed_before (turns group r) (undone_in n) (undone_in (head h)) (settled (suc (suc n))) ∙
      ap (λ b. not (turns group r) && b)
      (ap (λ b. agrees b (undone_in (head h)) && settled (suc (suc n))) (sym (undone_at h n group r is up sets)) ∙ sym (settled_first (suc n) known))

  rest_before : is_at_rest h n group ≡ (not (moves group r) && is_at_rest h (suc n) group)
  rest_before =
      let one = edit_said h n group r is in
      ap₂ (λ revisions b. not (list_any (is_edit_of group) revisions) && b) (drop_get h.revisions n one.last one.at) settled_before ∙
      and_and (not (is_edit_of group one.last || list_any (is_edit_of group) (drop (suc n) h.revisions))) (not (turns group r)) (settled (suc n)) ∙
      ap (λ b. b && settled (suc n)) (one.either (list_any (is_edit_of group) (drop (suc n) h.revisions))) ∙
      sym (and_and (not (moves group r)) (over (suc n)) (settled (suc n)))

one_more : (moved before : Bool) → (not moved && not before) ≡ not (before || moved)
one_more true true = refl
one_more true false = refl
one_more false true = refl
one_more false false = refl

pub moving_before : (h : History) (at : ℕ) (r : RevStep) (moving made : List ℕ) → 0 < at → at ≤ head h → IsRevisionAt h at r → AllByRecursion HasRisingSet h.revisions →
    AreMoving h at moving → IsMoved r moving made → AreMoving h (at - 1) made
moving_before h zero r moving made some known is sets are one = absurd (omega (arith, some))
moving_before h (suc n) r moving made some known is sets are one = λ group.
    let here : suc n - 1 ≡ n = omega arith in
    ap (λ k. is_at_rest h k group) here ∙ rest_before h n group r known is one.rising sets ∙ ap (λ b. not (moves group r) && b) (are group) ∙
    one_more (moves group r) (has moving group) ∙ ap not (sym (one.each group))

agrees-itself : (b : Bool) → agrees b b ≡ true
agrees-itself true = refl
agrees-itself false = refl

-- at the head each group is at rest
pub none_moving : (h : History) → AreMoving h (head h) []
none_moving h = λ group.
    let one : head h + 1 - head h ≡ 1 = omega arith in
    ap₂ (λ revisions k. not (list_any (is_edit_of group) revisions) &&
    list_all (λ rev. agrees (has (undone h.revisions rev) group) (has (undone h.revisions (head h)) group)) (range_with_len (head h) k))
    (drop_all (head h) h.revisions (omega arith)) one ∙
    ap (λ b. b && true) (agrees-itself (has (undone h.revisions (head h)) group))

-- ---- the groups that a revision moves

or_swapped : (a b : Bool) → (a || b) ≡ (b || a)
or_swapped true true = refl
or_swapped true false = refl
or_swapped false true = refl
or_swapped false false = refl

pub moved_edit : (moving made : List ℕ) (e : RevEdit) → made ≡ with_number moving e.group → IsMoved (Edit e) moving made
moved_edit moving made e is = record {
  each = λ group. ap (λ set. has set group) is ∙ has-with_number moving e.group group ∙ or_swapped (e.group == group) (has moving group);
  rising = tt;
}

pub moved_undo : (moving made groups : List ℕ) → IsRising groups → made ≡ fold with_number moving groups → IsMoved (Undo groups) moving made
moved_undo moving made groups up is = record {
  each = λ group. ap (λ set. has set group) is ∙ has-with_numbers moving groups group;
  rising = up;
}

-- ---- a list that is put into a set, but for some numbers

below_next : (xs ys : List ℕ) (n m : ℕ) → IsRising (xs ++ n ∷ ys) → has xs m ≡ true → m < n
below_next [] ys n m up there = absurd cc
below_next (x ∷ xs) ys n m up there =
    elim (or_cases (x == m) (has xs m) there) [
      | inl is ↦
          let later : has (xs ++ n ∷ ys) n ≡ true = has-append xs (n ∷ ys) n ∙ or_right (has xs n) (has (n ∷ ys) n) (has-own n ys) in
          let over : x < n = above x n (xs ++ n ∷ ys) up.0 later in
          omega (arith, over, eqb-true x m is)
      | inr later ↦ below_next xs ys n m up.1 later
    ]

greater : (a b : ℕ) → b < a → nat_cmp a b ≡ Greater
greater a b over = grind (arith, nat_tests)

with-end : (xs : List ℕ) (n : ℕ) → ((m : ℕ) → has xs m ≡ true → m < n) → with_number xs n ≡ xs ++ n ∷ []
with-end [] n all = refl
with-end (x ∷ xs) n all =
    ap (λ o. match_ordering o (n ∷ x ∷ xs) (x ∷ xs) (x ∷ with_number xs n)) (greater n x (all x (has-own x xs))) ∙
    ap (λ ys. x ∷ ys) (with-end xs n (λ m there. all m (or_right (x == m) (has xs m) there)))

pub with-next : (xs ys : List ℕ) (n : ℕ) → IsRising (xs ++ n ∷ ys) → with_number xs n ≡ xs ++ n ∷ []
with-next xs ys n up = with-end xs n (λ m there. below_next xs ys n m up there)

without_next : (P : ℕ → Type 0) (xs ys : List ℕ) (n : ℕ) → AllByRecursion P (xs ++ n ∷ ys) → AllByRecursion P (xs ++ ys)
without_next P [] ys n all = all.1
without_next P (x ∷ xs) ys n all = (all.0, without_next P xs ys n all.1)

pub rising_skipped : (xs ys : List ℕ) (n : ℕ) → IsRising (xs ++ n ∷ ys) → IsRising (xs ++ ys)
rising_skipped [] ys n up = up.1
rising_skipped (x ∷ xs) ys n up = (without_next (λ m. x < m) xs ys n up.0, rising_skipped xs ys n up.1)

-- a group is passed over, or put at the end
module _ (h : History) (floor group : ℕ) (moving : List ℕ) (are : AreMoving h floor moving) where
  rests : (not (has h.collected group) && not (has moving group)) ≡ (not (has h.collected group) && is_at_rest h floor group)
  rests = ap (λ b. not (has h.collected group) && b) (sym (are group))

  pub resting_taken : (so_far rest : List ℕ) → (not (has h.collected group) && not (has moving group)) ≡ true →
      (so_far ++ group ∷ []) ++ resting_groups h rest floor ≡ so_far ++ resting_groups h (group ∷ rest) floor
  resting_taken so_far rest is =
      append_assoc so_far (group ∷ []) (resting_groups h rest floor) ∙
      ap (λ b. so_far ++ cond b (group ∷ resting_groups h rest floor) (resting_groups h rest floor)) (sym (sym rests ∙ is))

  pub resting_passed : (rest : List ℕ) → (not (has h.collected group) && not (has moving group)) ≡ false →
      resting_groups h rest floor ≡ resting_groups h (group ∷ rest) floor
  resting_passed rest is =
      ap (λ b. cond b (group ∷ resting_groups h rest floor) (resting_groups h rest floor)) (sym (sym rests ∙ is))

-- ---- the keys of a set

below : (n m : ℕ) → nat_cmp n m ≡ Less → n < m
below n m is = grind (arith, nat_tests)

pub keys_rise : (keys : List ℕ) → IsStrictlySortedBy nat_cmp keys → IsRising keys
unfolding IsStrictlySortedBy
keys_rise [] sorted = tt
keys_rise (n ∷ keys) sorted = (AllByRecursion-weaker (λ m. nat_cmp n m ≡ Less) (λ m. n < m) (below n) keys sorted.0, keys_rise keys sorted.1)

-- ---- whether a collection may come

module _ (h : History) (floor : ℕ) (moving groups : List ℕ) (are : AreMoving h floor moving) where
  none_moves : (group : ℕ) → has moving group ≡ false → IsAtRest h floor group
  none_moves group none = (is_at_rest_iff h floor group).0 (are group ∙ ap not none)

  at_rest_moves : (group : ℕ) → IsAtRest h floor group → has moving group ≡ false
  at_rest_moves group rest = not_true (has moving group) (sym (are group) ∙ (is_at_rest_iff h floor group).1 rest)
    where
      not_true : (b : Bool) → not b ≡ true → b ≡ false
      not_true true is = absurd cc
      not_true false is = refl

  pub may_iff : h.floor ≤ floor → floor ≤ head h → is_clean h.revisions floor ≡ true →
      AllByRecursion (λ group. has moving group ≡ false) groups ↔ MayCollect h floor groups
  may_iff rises known clean = (
    λ none. record {
      rises = rises;
      known = known;
      clean = clean;
      at_rest = AllByRecursion-weaker (λ group. has moving group ≡ false) (IsAtRest h floor) none_moves groups none;
    },
    λ may. AllByRecursion-weaker (IsAtRest h floor) (λ group. has moving group ≡ false) at_rest_moves groups may.at_rest,
  )

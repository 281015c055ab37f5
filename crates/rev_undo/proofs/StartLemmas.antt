-- From where on what a set hides is worked out: which first edits are firsts, and where none is.
use Rattle.std.proofs.Common.{◌≡◌, ℕ, zero, suc, ◌+◌, ◌-◌, ◌<◌, ◌≤◌, Bool, true, false, not, ◌||◌, if◌then◌else◌, ◌==◌, nat_le, inl, inr, List, [], ◌∷◌, length, take, drop, get_or, Some, None, slice_get, refl, ap, ap₂, sym, ◌∙◌, arith}
use Rattle.std.specs.List.{list_any, AllByRecursion}
use Rattle.std.proofs.lemmas.Bool.{both_ways, cases_eq, le-leb, leb-true, eq-eqb, ne_eqb}
use Rattle.std.proofs.lemmas.List.{drop_more}
use Rattle.plain_text.specs.Numbers.{has, turned, flipped, IsRising}
use Rattle.plain_text.proofs.callers.NumberLemmas.{has-flipped}
use Rattle.number_set.proofs.ForCallers.{IsRising-drop}
use Rattle.plain_edits.specs.History.{Revision, edit, undo, History, head, undone_after, undone}
use Rattle.plain_edits.specs.HistorySteps.{HasRisingSet}
use Rattle.plain_edits.specs.Edits.{is_edit_of}
use Rattle.plain_edits.specs.Undo.{undone_now}
use Rattle.rev_list.specs.Under.{AgreeBy}
use Rattle.rev_list.specs.declared.edit.RevEdit.{RevEdit}
use Rattle.rev_list.specs.Groups.{has_edit_by, IsFirstEdit}
use Rattle.rev_list.specs.Hidden.{IsEditAt, IsUndoAt}
use Rattle.rev_list.proofs.ForCallers.{one_group, HasFirst, first_found}
use Rattle.rev_undo.specs.Start.{turned_if, IsStart, AreOpen, TurnsFirst, NoneBy}

-- ---- one group turned

turned_if-same : (b there : Bool) → turned_if b there ≡ (if b then not there else there)
turned_if-same true there = refl
turned_if-same false there = refl

or_nothing : (b : Bool) → (b || false) ≡ b
or_nothing true = refl
or_nothing false = refl

-- a group with a first edit: the number is turned exactly for that group
pub turns_one : (h : History) (firsts : List ℕ) (group first : ℕ) → IsRising firsts → IsFirstEdit h.revisions group (Some first) →
    TurnsFirst h (group ∷ []) firsts (turned firsts first)
turns_one h firsts group first up is = λ g f found.
    has-flipped firsts (first ∷ []) f up (tt, tt) ∙
    sym (turned_if-same (has (first ∷ []) f) (has firsts f)) ∙
    ap (λ b. turned_if b (has firsts f)) (alike g f found)
  where
    alike : (g f : ℕ) → IsFirstEdit h.revisions g (Some f) → has (first ∷ []) f ≡ has (group ∷ []) g
    alike g f found =
        elim (cases_eq group g) [
          | inl same ↦
              let one : first ≡ f = one_first g f found same in
              ap (λ a. a || false) (eq-eqb first f one) ∙ sym (ap (λ a. a || false) (eq-eqb group g same))
          | inr other ↦
              ap (λ a. a || false) (ne_eqb first f (λ one. other (one_group h.revisions group g first is (rw (← one) at found)))) ∙
              sym (ap (λ a. a || false) (ne_eqb group g other))
        ]
      where
        below : (a b : ℕ) → nat_le a a ≡ nat_le b a → b ≤ a
        below a b same = leb-true b a (sym same ∙ le-leb a a (omega arith))

        one_first : (g f : ℕ) → IsFirstEdit h.revisions g (Some f) → group ≡ g → first ≡ f
        one_first g f found same =
            let there : IsFirstEdit h.revisions g (Some first) = rw same at is in
            omega (arith, below first f (sym (there first) ∙ found first), below f first (sym (found f) ∙ there f))

-- a group without an edit turns nothing
pub turns_none : (h : History) (firsts : List ℕ) (group : ℕ) → IsFirstEdit h.revisions group None → TurnsFirst h (group ∷ []) firsts firsts
turns_none h firsts group none = λ g f found.
    sym (ap (λ b. turned_if (b || false) (has firsts f)) (ne_eqb group g (λ same.
    let away : IsFirstEdit h.revisions g None = rw same at none in
    both_ways (has_edit_by h.revisions f g) (away f) (found f ∙ le-leb f f (omega arith)))))

-- ---- some groups turned, one after the other

-- the group is not in what follows it
above_none : (n m : ℕ) (xs : List ℕ) → AllByRecursion (λ k. n < k) xs → m ≤ n → has xs m ≡ false
above_none n m [] all le = refl
above_none n m (x ∷ xs) all le =
    ap₂ (λ a b. a || b) (ne_eqb x m (λ is. omega (arith, is, all.0, le))) (above_none n m xs all.1 le)

pub turns_all : (h : History) (group : ℕ) (groups : List ℕ) (before made after : List ℕ) → IsRising (group ∷ groups) →
    TurnsFirst h (group ∷ []) before made → TurnsFirst h groups made after → TurnsFirst h (group ∷ groups) before after
turns_all h group groups before made after up one rest = λ g f found.
    rest g f found ∙ ap (turned_if (has groups g)) (one g f found) ∙
    elim (cases_eq group g) [
      | inl same ↦
          ap₂ (λ a b. turned_if a (turned_if (b || false) (has before f))) (above_none group g groups up.0 (omega (arith, same))) (eq-eqb group g same) ∙
          sym (ap (λ b. turned_if (b || has groups g) (has before f)) (eq-eqb group g same))
      | inr other ↦
          ap (λ b. turned_if (has groups g) (turned_if (b || false) (has before f))) (ne_eqb group g other) ∙
          sym (ap (λ b. turned_if (b || has groups g) (has before f)) (ne_eqb group g other))
    ]

-- ---- at the head, and back over one revision

back_twice : (d u : Bool) → d ≡ turned_if (if d then not u else u) u
back_twice true true = refl
back_twice true false = refl
back_twice false true = refl
back_twice false false = refl

nothing_turned : (b : Bool) → turned_if b false ≡ b
nothing_turned true = refl
nothing_turned false = refl

pub firsts_at_head : (h : History) (differ firsts : List ℕ) → IsRising (undone_now h) → IsRising differ → TurnsFirst h differ [] firsts →
    AreOpen h (flipped (undone_now h) differ) (head h) firsts
firsts_at_head h differ firsts up others turns = λ g f found.
    turns g f found ∙ nothing_turned (has differ g) ∙ back_twice (has differ g) (has (undone_now h) g) ∙
    ap (λ b. turned_if b (has (undone_now h) g)) (sym (has-flipped (undone_now h) differ g up others))

turned_over : (d s u : Bool) → turned_if d (turned_if s (if d then not u else u)) ≡ turned_if s u
turned_over true true true = refl
turned_over true true false = refl
turned_over true false true = refl
turned_over true false false = refl
turned_over false s u = refl

pub rising_after : (groups : List ℕ) (revisions : List Revision) (rev : ℕ) → IsRising groups → AllByRecursion HasRisingSet revisions →
    IsRising (undone_after groups (take rev revisions))
rising_after groups revisions zero up sets = up
rising_after groups [] (suc rev) up sets = up
rising_after groups (edit base group priority author ∷ revisions) (suc rev) up sets = rising_after groups revisions rev up sets.1
rising_after groups (undo set ∷ revisions) (suc rev) up sets = rising_after set revisions rev sets.0.0 sets.1

pub firsts_over_undo : (h : History) (groups differ before made : List ℕ) (at : ℕ) → AllByRecursion HasRisingSet h.revisions → IsRising differ →
    IsUndoAt h at differ → TurnsFirst h differ before made → AreOpen h groups at before → AreOpen h groups (at - 1) made
firsts_over_undo h groups differ before made at sets up is turns firsts = λ g f found.
    turns g f found ∙ ap (turned_if (has differ g)) (firsts g f found) ∙
    ap (λ b. turned_if (has differ g) (turned_if (has groups g) b))
    (ap (λ set. has set g) is.differs ∙ has-flipped (undone h.revisions (at - 1)) differ g (rising_after [] h.revisions (at - 1) tt sets) up) ∙
    turned_over (has differ g) (has groups g) (has (undone h.revisions (at - 1)) g)

same_undone : (groups : List ℕ) (revisions : List Revision) (m base group priority author : ℕ) → slice_get revisions m ≡ Some (edit base group priority author) →
    undone_after groups (take (suc m) revisions) ≡ undone_after groups (take m revisions)
same_undone groups [] m base group priority author at = absurd cc
same_undone groups (edit b g p a ∷ revisions) zero base group priority author at = refl
same_undone groups (undo set ∷ revisions) zero base group priority author at = absurd cc
same_undone groups (edit b g p a ∷ revisions) (suc m) base group priority author at = same_undone groups revisions m base group priority author at
same_undone groups (undo set ∷ revisions) (suc m) base group priority author at = same_undone set revisions m base group priority author at

pub firsts_over_edit : (h : History) (groups firsts : List ℕ) (e : RevEdit) (at : ℕ) → 1 ≤ at → IsEditAt h at e → AreOpen h groups at firsts → AreOpen h groups (at - 1) firsts
firsts_over_edit h groups firsts e zero counts is all = absurd (omega arith)
firsts_over_edit h groups firsts e (suc m) counts is all = λ g f found.
    let here : suc m - 1 ≡ m = omega arith in
    all g f found ∙ ap (λ set. turned_if (has groups g) (has set g)) (same_undone [] h.revisions m e.base e.group e.priority e.author is.said) ∙
    ap (λ n. turned_if (has groups g) (has (undone h.revisions n) g)) (sym here)

-- ---- where none is firsts

agrees_where : (s u : Bool) → turned_if s u ≡ false → s ≡ u
agrees_where true true none = refl
agrees_where true false none = absurd cc
agrees_where false true none = absurd cc
agrees_where false false none = refl

or_second_true : (a b : Bool) → b ≡ true → (a || b) ≡ true
or_second_true true b is = refl
or_second_true false b is = is

pub agree_where_none : (h : History) (groups firsts : List ℕ) (at : ℕ) → AreOpen h groups at firsts → ((n : ℕ) → n ≤ at → has firsts n ≡ false) →
    AgreeBy h at groups (undone h.revisions at)
agree_where_none h groups firsts at all none = record {
  loaded = agree 0 (ap (λ b. b || list_any (is_edit_of 0) (take at h.revisions)) (eq-eqb 0 0 refl));
  edited = λ group there. agree group (or_second_true (group == 0) (list_any (is_edit_of group) (take at h.revisions)) there);
}
  where
    agree : (group : ℕ) → has_edit_by h.revisions at group ≡ true → has groups group ≡ has (undone h.revisions at) group
    agree group there =
        let found : HasFirst h.revisions group at = first_found h.revisions group at there in
        agrees_where (has groups group) (has (undone h.revisions at) group)
        (sym (all group found.first found.is) ∙ none found.first found.by)

pub is_start : (h : History) (groups firsts : List ℕ) (at : ℕ) → h.floor ≤ at → at ≤ head h → AreOpen h groups at firsts → NoneBy h.floor firsts at →
    IsStart h groups at
is_start h groups firsts at kept known all none = record {
  kept = kept;
  known = known;
  agrees = elim none [ inl first ↦ inl first | inr later ↦ inr (agree_where_none h groups firsts at all later) ];
}

-- the least number of a rising list is above the revision
pub none_by_least : (numbers : List ℕ) (least at : ℕ) → IsRising numbers → least ≡ get_or numbers 0 least → at < least → (n : ℕ) → n ≤ at → has numbers n ≡ false
none_by_least [] least at up is above = λ n le. refl
none_by_least (x ∷ numbers) least at up is above = λ n le.
    ap₂ (λ a b. a || b) (ne_eqb x n (λ same. omega (arith, same, is, above, le))) (above_none x n numbers up.0 (omega (arith, is, above, le)))

-- ---- over the groups of a list, one after the other

pub turns_nothing : (h : History) (firsts : List ℕ) → TurnsFirst h [] firsts firsts
turns_nothing h firsts = λ g f found. refl

-- with one more of them turned: `so_far` says what the rest still has to turn
pub turns_step : (h : History) (groups before made more : List ℕ) (i n d : ℕ) → IsRising groups → i < length groups → n ≡ get_or groups i d →
    TurnsFirst h (n ∷ []) made more → ((after : List ℕ) → TurnsFirst h (drop i groups) made after → TurnsFirst h groups before after) →
    (after : List ℕ) → TurnsFirst h (drop (i + 1) groups) more after → TurnsFirst h groups before after
turns_step h groups before made more i n d up lt is one so_far = λ after rest.
    let split : drop i groups ≡ n ∷ drop (i + 1) groups = drop_more groups i d lt ∙ ap (λ x. x ∷ drop (i + 1) groups) (sym is) in
    so_far after (rw split (turns_all h n (drop (i + 1) groups) made more after (rw split at (IsRising-drop i groups up)) one rest))

drop_past : (xs : List ℕ) (i : ℕ) → length xs ≤ i → drop i xs ≡ []
drop_past [] zero le = refl
drop_past [] (suc i) le = refl
drop_past (x ∷ xs) zero le = absurd (omega arith)
drop_past (x ∷ xs) (suc i) le = drop_past xs i (omega arith)

-- none of them is left to turn
pub turns_done : (h : History) (groups before made : List ℕ) (i : ℕ) → length groups ≤ i →
    ((after : List ℕ) → TurnsFirst h (drop i groups) made after → TurnsFirst h groups before after) → TurnsFirst h groups before made
turns_done h groups before made i all so_far = so_far made (rw (drop_past groups i all) (turns_nothing h made))

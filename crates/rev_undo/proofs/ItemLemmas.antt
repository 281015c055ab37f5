-- What a set hides of one character, from a revision to the next.
use Rattle.std.proofs.Common.{◌≡◌, ℕ, ◌+◌, ◌<◌, ◌≤◌, Bool, true, false, not, ◌&&◌, ◌||◌, nat_lt, inl, inr, List, [], ◌∷◌, refl, ap, ap₂, sym, ◌∙◌, arith}
use Rattle.std.specs.Prelude.{◌==◌}
use Rattle.std.specs.List.{list_all, AllByRecursion}
use Rattle.std.proofs.lemmas.Bool.{cases_eq, cases_lt, le-leb, le-ltb}
use Rattle.std.proofs.lemmas.Bool.Decides.{nat_tests}
use Rattle.plain_text.specs.Numbers.{has}
use Rattle.plain_edits.specs.History.{Tagged, History, group_of}
use Rattle.rev_list.specs.Under.{is_hidden_under}

lt_now : (m rev : ℕ) → rev ≡ m + 1 → nat_lt (m + 1) rev ≡ false
lt_now m rev is = grind (arith, nat_tests)

lt_then : (m rev : ℕ) → m < rev → nat_lt m rev ≡ true
lt_then m rev above = grind (arith, nat_tests)

eq_now : (m rev : ℕ) → rev ≡ m + 1 → (rev == m + 1) ≡ true
eq_now m rev is = grind (arith, nat_tests)

eq_other : (m rev : ℕ) → (rev ≡ m + 1 → ⊥) → (rev == m + 1) ≡ false
eq_other m rev other = grind (arith, nat_tests)

lt_other : (m rev : ℕ) → (rev ≡ m + 1 → ⊥) → nat_lt (m + 1) rev ≡ nat_lt m rev
lt_other m rev other =
    elim (cases_lt m rev) [
      | inl above ↦ lt_then (m + 1) rev (omega (arith, above, other)) ∙ sym (lt_then m rev above)
      | inr low ↦ le-ltb (m + 1) rev (omega (arith, low)) ∙ sym (le-ltb m rev low)
    ]

deleted_now : (in_set rest deleted : Bool) → (in_set && (rest && (not deleted || in_set))) ≡ ((true && rest) && (not (true || deleted) || in_set))
deleted_now true true true = refl
deleted_now true true false = refl
deleted_now true false deleted = refl
deleted_now false true deleted = refl
deleted_now false false deleted = refl

deleted_other : (first rest deleted in_set : Bool) → (first && (rest && (not deleted || in_set))) ≡ ((first && rest) && (not deleted || in_set))
deleted_other true rest deleted in_set = refl
deleted_other false rest deleted in_set = refl

hides_old : (shown rest deleted in_set : Bool) →
    not ((true && shown) && (rest && (not deleted || in_set))) ≡ (not ((true && shown) && rest) || deleted && not in_set)
hides_old true true true true = refl
hides_old true true true false = refl
hides_old true true false in_set = refl
hides_old true false true in_set = refl
hides_old true false false in_set = refl
hides_old false rest deleted in_set = refl

hides_new : (deleted in_set : Bool) → not ((true && not in_set) && (true && (not deleted || in_set))) ≡ (in_set || deleted)
hides_new true true = refl
hides_new true false = refl
hides_new false true = refl
hides_new false false = refl

module _ (history : History) (groups : List ℕ) (m : ℕ) where
  -- whether the group of a revision is in the set
  abbrev pub is_in : ℕ → Bool
  is_in rev = has groups (group_of history.revisions rev)

  abbrev passes : ℕ → ℕ → Bool
  passes at rev = nat_lt at rev || is_in rev

  -- one more revision deletes what it deletes, where its group is not in the set
  deletions_next : (deleted : List ℕ) →
      list_all (passes (m + 1)) deleted ≡ (list_all (passes m) deleted && (not (has deleted (m + 1)) || is_in (m + 1)))
  deletions_next [] = refl
  deletions_next (rev ∷ deleted) =
      elim (cases_eq rev (m + 1)) [
        | inl is ↦
            ap₂ (λ a b. a && b) (ap₂ (λ a b. a || b) (lt_now m rev is) (ap is_in is)) (deletions_next deleted) ∙
            deleted_now (is_in (m + 1)) (list_all (passes m) deleted) (has deleted (m + 1)) ∙
            sym (ap₂ (λ a b. (a && list_all (passes m) deleted) && (not (b || has deleted (m + 1)) || is_in (m + 1)))
            (ap (λ a. a || is_in rev) (lt_then m rev (omega (arith, is)))) (eq_now m rev is))
        | inr other ↦
            ap₂ (λ a b. a && b) (ap (λ a. a || is_in rev) (lt_other m rev other)) (deletions_next deleted) ∙
            deleted_other (passes m rev) (list_all (passes m) deleted) (has deleted (m + 1)) (is_in (m + 1)) ∙
            sym (ap (λ b. (passes m rev && list_all (passes m) deleted) && (not (b || has deleted (m + 1)) || is_in (m + 1))) (eq_other m rev other))
      ]

  -- none of these is by then
  deletions_later : (deleted : List ℕ) → AllByRecursion (λ rev. m + 1 ≤ rev) deleted → list_all (passes m) deleted ≡ true
  deletions_later [] later = refl
  deletions_later (rev ∷ deleted) later =
      ap₂ (λ a b. (a || is_in rev) && b) (lt_then m rev (omega (arith, later.0))) (deletions_later deleted later.1)

  pub is_hidden_under-old : (tagged : Tagged) → tagged.inserted ≤ m →
      is_hidden_under history groups (m + 1) tagged ≡ (is_hidden_under history groups m tagged || has tagged.deleted (m + 1) && not (is_in (m + 1)))
  is_hidden_under-old tagged there =
      ap₂ (λ a b. not ((a && not (is_in tagged.inserted)) && b)) (le-leb tagged.inserted (m + 1) (omega (arith, there))) (deletions_next tagged.deleted) ∙
      hides_old (not (is_in tagged.inserted)) (list_all (passes m) tagged.deleted) (has tagged.deleted (m + 1)) (is_in (m + 1)) ∙
      ap (λ a. not ((a && not (is_in tagged.inserted)) && list_all (passes m) tagged.deleted) || has tagged.deleted (m + 1) && not (is_in (m + 1)))
      (sym (le-leb tagged.inserted m there))

  pub is_hidden_under-new : (tagged : Tagged) → tagged.inserted ≡ m + 1 → AllByRecursion (λ rev. tagged.inserted ≤ rev) tagged.deleted →
      is_hidden_under history groups (m + 1) tagged ≡ (is_in (m + 1) || has tagged.deleted (m + 1))
  is_hidden_under-new tagged new later =
      ap₂ (λ a b. not ((a && not b) && list_all (passes (m + 1)) tagged.deleted)) (le-leb tagged.inserted (m + 1) (omega (arith, new))) (ap is_in new) ∙
      ap (λ b. not ((true && not (is_in (m + 1))) && b))
      (deletions_next tagged.deleted ∙ ap (λ b. b && (not (has tagged.deleted (m + 1)) || is_in (m + 1))) (deletions_later tagged.deleted (rw (← new) later))) ∙
      hides_new (has tagged.deleted (m + 1)) (is_in (m + 1))

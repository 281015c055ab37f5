-- Lemmas on collection: groups at rest, clean floors, and what the steps of a history keep.
use Rattle.std.proofs.Common.{◌≡◌, ℕ, zero, suc, ◌+◌, ◌-◌, ◌<◌, ◌≤◌, ◌↔◌, Bool, true, false, not, ◌&&◌, ◌||◌, ◌==◌, List, [], ◌∷◌, ◌++◌, refl, ap, subst, sym, ◌∙◌, inl, inr, arith}
use Rattle.std.specs.Prelude.{if◌then◌else◌}
use Rattle.std.specs.List.{AllByRecursion, list_all, list_any, range_with_len}
use Rattle.std.proofs.lemmas.Bool.{both_ways, and_parts, and_from, or_cases, or_left, or_right, cases_eq, eqb-true, not-true, le-leb}
use Rattle.std.proofs.lemmas.List.{length_push}
use Rattle.std.proofs.lemmas.List.Folds.{list_any-append}
use Rattle.plain_text.specs.Numbers.{has}
use Rattle.plain_text.proofs.callers.NumberLemmas.{has-with_numbers}
use Rattle.plain_edits.specs.History.{Tagged, Revision, edit, undo, History, head, group_of, undone, is_undone, IsTaggedBy}
use Rattle.plain_edits.specs.Edits.{edited, undid, with_deletion}
use Rattle.plain_edits.specs.Collection.{is_clean, clean_floor, IsAtRest, agrees, is_at_rest, is_collected, is_dropped}
use Rattle.plain_edits.specs.HistorySteps.{Step, edits, undoes, collects, after_step, MayCome}
use Rattle.plain_edits.proofs.callers.HistoryLemmas.{group_of-append, undone-edit, undone-undo}

-- the greatest clean floor up to a revision
pub record IsGreatestCleanFloor (revisions : List Revision) (most floor : ℕ) : Type 0 where
  pub is_within : floor ≤ most
  pub clean : is_clean revisions floor ≡ true
  pub greatest : (other : ℕ) → other ≤ most → is_clean revisions other ≡ true → other ≤ floor

-- ---- a group at rest, and the test

agrees-true : (a b : Bool) → agrees a b ≡ true → a ≡ b
agrees-true true true holds = refl
agrees-true true false holds = sym holds
agrees-true false true holds = holds
agrees-true false false holds = refl

agrees-same : (a b : Bool) → a ≡ b → agrees a b ≡ true
agrees-same true b same = sym same
agrees-same false b same = ap not (sym same)

-- a test that all numbers of a range pass
list_all-range : (p : ℕ → Bool) (from n k : ℕ) → list_all p (range_with_len from n) ≡ true → from ≤ k → k < from + n → p k ≡ true
list_all-range p from zero k all low high = absurd (omega arith)
list_all-range p from (suc n) k all low high =
    let parts = and_parts (p from) (list_all p (range_with_len (from + 1) n)) all in
    elim (cases_eq from k) [
      | inl here ↦ ap p (sym here) ∙ parts.0
      | inr other ↦ (let differs : from ≡ k → ⊥ = other in list_all-range p (from + 1) n k parts.1 (omega arith) (omega arith))
    ]

list_all-each : (p : ℕ → Bool) (from n : ℕ) → ((k : ℕ) → from ≤ k → k < from + n → p k ≡ true) → list_all p (range_with_len from n) ≡ true
list_all-each p from zero each = refl
list_all-each p from (suc n) each =
    and_from (p from) (list_all p (range_with_len (from + 1) n)) (each from (omega arith) (omega arith))
    (list_all-each p (from + 1) n (λ k low high. each k (omega (arith, low)) (omega (arith, high))))

-- THE TEST is the same as being at rest
pub is_at_rest_iff : (history : History) (floor group : ℕ) → (is_at_rest history floor group ≡ true) ↔ IsAtRest history floor group
is_at_rest_iff history floor group = (from_test, to_test)
  where
    from_test : is_at_rest history floor group ≡ true → IsAtRest history floor group
    from_test holds =
        let parts = and_parts _ _ holds in
        record {
          is_over = not-true _ parts.0;
          is_settled = λ rev low high. agrees-true _ _ (list_all-range _ floor (head history + 1 - floor) rev parts.1 low (omega (arith, low, high)));
        }

    to_test : IsAtRest history floor group → is_at_rest history floor group ≡ true
    to_test rest =
        and_from _ _ (ap not rest.is_over) (list_all-each _ floor (head history + 1 - floor)
        (λ rev low high. agrees-same _ _ (rest.is_settled rev low (omega (arith, low, high)))))

-- ---- clean floors

-- floor 0 is clean
clean_from_zero : (revisions : List Revision) → is_clean revisions 0 ≡ true
clean_from_zero [] = refl
clean_from_zero (edit base group priority author ∷ revisions) = and_from _ _ (le-leb 0 base (omega arith)) (clean_from_zero revisions)
clean_from_zero (undo groups ∷ revisions) = clean_from_zero revisions

pub greatest_clean_floor : (revisions : List Revision) (most : ℕ) → IsGreatestCleanFloor revisions most (clean_floor revisions most)
greatest_clean_floor revisions zero = record {
  is_within = omega arith;
  clean = clean_from_zero revisions;
  greatest = λ other within _. within;
}
greatest_clean_floor revisions (suc most) =
    elim (is_clean revisions (suc most)) as (λ b. is_clean revisions (suc most) ≡ b →
    IsGreatestCleanFloor revisions (suc most) (if b then suc most else clean_floor revisions most)) [
      | true ↦ λ clean. record { is_within = omega arith; clean = clean; greatest = λ other within _. within }
      | false ↦ λ unclean. (let below = greatest_clean_floor revisions most in record {
        is_within = omega (arith, below.is_within);
        clean = below.clean;
        greatest = λ other within clean. elim (cases_eq other (suc most)) [
          | inl here ↦ absurd (both_ways (is_clean revisions (suc most)) unclean (ap (is_clean revisions) (sym here) ∙ clean))
          | inr differs ↦ (let less : other ≤ most = omega (arith, within) in below.greatest other less clean)
        ];
      })
    ] refl

-- ---- what every step keeps

-- the floor rises, and no collected group is given back
pub floor-after_step : (history : History) (step : Step) → MayCome history step → history.floor ≤ (after_step history step).floor
floor-after_step history (edits e) may = omega arith
floor-after_step history (undoes groups) may = omega arith
floor-after_step history (collects floor groups) may = may.rises

pub collected-after_step : (history : History) (step : Step) (group : ℕ) → has history.collected group ≡ true →
    has (after_step history step).collected group ≡ true
collected-after_step history (edits e) group is = is
collected-after_step history (undoes groups) group is = is
collected-after_step history (collects floor groups) group is =
    has-with_numbers history.collected groups group ∙ ap (λ b. b || has groups group) is

-- what holds of each number of a set holds of one that is in it
pub all_has : (P : ℕ → Type 0) (numbers : List ℕ) (n : ℕ) → AllByRecursion P numbers → has numbers n ≡ true → P n
all_has P [] n each is = absurd (both_ways false refl is)
all_has P (m ∷ numbers) n each is =
    elim (or_cases (m == n) (has numbers n) is) [
      | inl here ↦ subst P (eqb-true m n here) each.0
      | inr later ↦ all_has P numbers n each.1 later
    ]

some_more : (Q : ℕ → Type 0) (p q : ℕ → Bool) (xs : List ℕ) → AllByRecursion Q xs → ((x : ℕ) → Q x → p x ≡ true → q x ≡ true) →
    list_any p xs ≡ true → list_any q xs ≡ true
some_more Q p q [] each more some = some
some_more Q p q (x ∷ xs) each more some =
    elim (or_cases (p x) (list_any p xs) some) [
      | inl here ↦ ap (λ b. b || list_any q xs) (more x each.0 here)
      | inr later ↦ or_right (q x) (list_any q xs) (some_more Q p q xs each.1 more later)
    ]

-- what a later history has of an earlier one, for what was dropped to stay so
pub record Keeps (history later : History) : Type 0 where
  pub groups : (rev : ℕ) → rev ≤ head history → group_of later.revisions rev ≡ group_of history.revisions rev
  pub grown : (group : ℕ) → has history.collected group ≡ true → has later.collected group ≡ true
  pub settled : (group : ℕ) → has history.collected group ≡ true →
      has (undone later.revisions (head later)) group ≡ has (undone history.revisions (head history)) group

pub is_dropped-later : (history later : History) → Keeps history later → (tagged : Tagged) → IsTaggedBy (head history) tagged →
    is_dropped history tagged ≡ true → is_dropped later tagged ≡ true
is_dropped-later history later keeps tagged is dropped =
    elim (or_cases _ _ dropped) [
      | inl inserted ↦
          let parts = and_parts _ _ inserted in
          or_left _ _ (and_from _ _ (collected tagged.inserted is.inserted parts.0) (same tagged.inserted is.inserted parts.0 ∙ parts.1))
      | inr deleted ↦
          or_right _ _ (some_more (λ rev. rev ≤ head history) _ _ tagged.deleted is.deleted (λ rev within both.
          let parts = and_parts _ _ both in
          and_from _ _ (collected rev within parts.0) (ap not (same rev within parts.0) ∙ parts.1)) deleted)
    ]
  where
    collected : (rev : ℕ) → rev ≤ head history → is_collected history rev ≡ true → is_collected later rev ≡ true
    collected rev within is_so = ap (has later.collected) (keeps.groups rev within) ∙ keeps.grown (group_of history.revisions rev) is_so

    same : (rev : ℕ) → rev ≤ head history → is_collected history rev ≡ true →
        is_undone later.revisions (head later) rev ≡ is_undone history.revisions (head history) rev
    same rev within is_so =
        ap (has (undone later.revisions (head later))) (keeps.groups rev within) ∙ keeps.settled (group_of history.revisions rev) is_so

-- one more deletion gives nothing back
module _ (history : History) (rev : ℕ) (tagged : Tagged) where
  abbrev gone : Bool
  gone = is_collected history tagged.inserted && is_undone history.revisions (head history) tagged.inserted

  abbrev lasts : ℕ → Bool
  lasts d = is_collected history d && not (is_undone history.revisions (head history) d)

  pub is_dropped-with_deletion : is_dropped history tagged ≡ true → is_dropped history (with_deletion rev tagged) ≡ true
  is_dropped-with_deletion dropped =
      elim (or_cases gone (list_any lasts tagged.deleted) dropped) [
        | inl inserted ↦ or_left gone (list_any lasts (tagged.deleted ++ rev ∷ [])) inserted
        | inr deleted ↦
            or_right gone (list_any lasts (tagged.deleted ++ rev ∷ []))
            (list_any-append lasts tagged.deleted (rev ∷ []) ∙ or_left (list_any lasts tagged.deleted) (list_any lasts (rev ∷ [])) deleted)
      ]

pub keeps-after_step : (history : History) (step : Step) → MayCome history step → Keeps history (after_step history step)
keeps-after_step history (edits e) may = record {
  groups = λ rev within. group_of-append history.revisions (edit e.base e.group e.priority e.author ∷ []) rev within;
  grown = λ group is. is;
  settled = λ group is.
      ap (λ at. has (undone (edited history e).revisions at) group) (length_push history.revisions (edit e.base e.group e.priority e.author)) ∙
      ap (λ groups. has groups group) (undone-edit history.revisions e.base e.group e.priority e.author);
}
keeps-after_step history (undoes set) may = record {
  groups = λ rev within. group_of-append history.revisions (undo set ∷ []) rev within;
  grown = λ group is. is;
  settled = λ group is.
      ap (λ at. has (undone (undid history set).revisions at) group) (length_push history.revisions (undo set)) ∙
      ap (λ groups. has groups group) (undone-undo history.revisions set) ∙
      all_has (λ g. has set g ≡ has (undone history.revisions (head history)) g) history.collected group may.allowed.frozen is;
}
keeps-after_step history (collects floor groups) may = record {
  groups = λ rev within. refl;
  grown = λ group is. collected-after_step history (collects floor groups) group is;
  settled = λ group is. refl;
}

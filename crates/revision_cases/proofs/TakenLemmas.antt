-- What is collected after an entry may be collected.
use Rattle.std.proofs.Common.{◌≡◌, ◌≤◌, ℕ, true, ◌==◌, List, [], ◌∷◌, Option, Some, None, refl, ap, sym, ◌∙◌, arith}
use Rattle.std.specs.Prelude.{IfSome}
use Rattle.std.specs.BTreeSet.{BTreeSet}
use Rattle.std.specs.List.{AllByRecursion, list_all}
use Rattle.std.proofs.lemmas.Bool.{eq-eqb, or_left, or_right}
use Rattle.std.proofs.Math.Seq.{drop-length}
use Rattle.plain_text.specs.Numbers.{has}
use Rattle.plain_edits.specs.History.{History, head}
use Rattle.plain_edits.specs.Collection.{Collection, IsAtRest, clean_floor, collection_at, collection_of, is_based_from, is_clean, resting_groups}
use Rattle.plain_edits.proofs.callers.CollectionLemmas.{greatest_clean_floor}
use Rattle.plain_edits.proofs.callers.WellFormedLemmas.{resting_groups_iff}
use Rattle.rev_collect.specs.Choice.{collection_said}
use Rattle.revision_cases.specs.Collections.{IsTakenAtHead}

all_of : (P : ℕ → Type 0) (xs : List ℕ) → ((n : ℕ) → has xs n ≡ true → P n) → AllByRecursion P xs
all_of P [] each = tt
all_of P (x ∷ xs) each = (each x (or_left (x == x) (has xs x) (eq-eqb x x refl)), all_of P xs (λ n there. each n (or_right (x == n) (has xs n) there)))

record IsChosen (at : ℕ) (resting : List ℕ) (floor : ℕ) (groups : List ℕ) : Type 0 where
  floor_is : at ≡ floor
  groups_are : resting ≡ groups

same_some : (x y : Collection) → Some x ≡ Some y → x ≡ y
same_some x y e = cc

chosen : (at : ℕ) (resting : List ℕ) (floor : ℕ) (groups : List ℕ) →
    collection_at at resting ≡ Some (record { floor = floor; groups = groups }) → IsChosen at resting floor groups
chosen at [] floor groups is = absurd (cc)
chosen at (group ∷ resting) floor groups is =
    let same = same_some (record { floor = at; groups = group ∷ resting }) (record { floor = floor; groups = groups }) is in
    record { floor_is = ap (λ (c : Collection). c.floor) same; groups_are = ap (λ (c : Collection). c.groups) same }

pub taken_at_head : (history : History) (retired : List ℕ) (floor : ℕ) (groups : List ℕ) → history.floor ≤ head history →
    Some (record { floor = floor; groups = groups }) ≡ collection_of history retired (head history) → IsTakenAtHead history floor groups
taken_at_head history retired floor groups low is =
    let at = clean_floor history.revisions (head history) in
    let choice = chosen at (resting_groups history retired at) floor groups (sym is) in
    let greatest = greatest_clean_floor history.revisions (head history) in
    let clean : is_clean history.revisions (head history) ≡ true = ap (list_all (is_based_from (head history))) (drop-length history.revisions) in
    let least : head history ≤ at = greatest.greatest (head history) (omega arith) clean in
    let floor_here : floor ≡ head history = omega (arith, least, greatest.is_within, choice.floor_is) in
    record {
      may = record {
        rises = omega (arith, low, floor_here);
        known = omega (arith, floor_here);
        clean = rw (← choice.floor_is) greatest.clean;
        at_rest = rw (← choice.floor_is) (rw (← choice.groups_are) (all_of (IsAtRest history at) (resting_groups history retired at)
            (λ group there. let both = (resting_groups_iff history retired at group).0 there in both.0.at_rest)));
      };
      at_head = floor_here;
    }

-- the same of an answer
pub taken_said : (history : History) (retired : List ℕ) (found : Option (ℕ × BTreeSet ℕ)) → history.floor ≤ head history →
    collection_said found ≡ collection_of history retired (head history) → IfSome found (λ some. IsTakenAtHead history some.0 some.1.keys)
taken_said history retired None low said = tt
taken_said history retired (Some some) low said = taken_at_head history retired some.0 some.1.keys low said

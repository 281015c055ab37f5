-- The first collected group of those in which a set differs from what is undone.
use Rattle.std.proofs.Common.{◌≡◌, ◌≢◌, ℕ, zero, suc, ◌+◌, ◌<◌, ◌≤◌, Bool, true, false, not, ◌||◌, ◌==◌, if◌then◌else◌, List, [], ◌∷◌, length, drop, get_or, refl, ap, sym, ◌∙◌, inl, inr, arith}
use Rattle.std.proofs.lemmas.Bool.{both_ways, cases_eq, eqb-true, eq-eqb}
use Rattle.std.proofs.lemmas.List.{drop_more}
use Rattle.plain_text.specs.Numbers.{has, IsRising}
use Rattle.plain_text.proofs.callers.NumberLemmas.{has-flipped}
use Rattle.number_set.proofs.ForCallers.{IsRising-drop}
use Rattle.plain_edits.specs.History.{History}
use Rattle.plain_edits.specs.Undo.{undone_now}
use Rattle.rev_list.specs.Edit.{undone_by}
use Rattle.rev_undo.specs.Under.{AgreesOnCollected}
use Rattle.rev_undo.proofs.ForCallers.{of_all, of_one}
use Rattle.rev_engine.specs.Asked.{DiffersAt, IsFrozenAt}

-- those of the groups that are collected are among these
abbrev pub AreAhead : History → List ℕ → List ℕ → Type 0
AreAhead h groups rest = (other : ℕ) → has groups other ≡ true → has h.collected other ≡ true → has rest other ≡ true

or_other : (own rest : Bool) → (own ≡ true → ⊥) → (own || rest) ≡ true → rest ≡ true
or_other true rest never some = absurd (never refl)
or_other false rest never some = some

-- a group that is not collected is passed over
pub AreAhead-next : (h : History) (groups : List ℕ) (i : ℕ) → i < length groups → has h.collected (get_or groups i 0) ≡ false →
    AreAhead h groups (drop i groups) → AreAhead h groups (drop (i + 1) groups)
AreAhead-next h groups i lt kept ahead = λ other in_it collected.
    or_other (get_or groups i 0 == other) (has (drop (i + 1) groups) other)
    (λ own. both_ways (has h.collected other) (rw (eqb-true (get_or groups i 0) other own) at kept) collected)
    (rw (drop_more groups i 0 lt) at (ahead other in_it collected))

-- whether a group is in the set that differs in these groups
pub has-undone_by : (h : History) (groups : List ℕ) (group : ℕ) → IsRising (undone_now h) → IsRising groups →
    has (undone_by h groups) group ≡ (if has groups group then not (has (undone_now h) group) else has (undone_now h) group)
has-undone_by h groups group up rising = has-flipped (undone_now h) groups group up rising

not_same : (b : Bool) → not b ≢ b
not_same true is = cc
not_same false is = cc

-- where the set and what is undone differ the group is one of these
differs_in : (h : History) (groups : List ℕ) (group : ℕ) → IsRising (undone_now h) → IsRising groups → DiffersAt h (undone_by h groups) group →
    has groups group ≡ true
differs_in h groups group up rising differs = by (has groups group) refl
  where
    by : (there : Bool) → has groups group ≡ there → there ≡ true
    by true there = refl
    by false there = absurd (differs.1 (has-undone_by h groups group up rising ∙
        ap (λ b. if b then not (has (undone_now h) group) else has (undone_now h) group) there))

least_of : (g other : ℕ) (rest : List ℕ) → IsRising (g ∷ rest) → has (g ∷ rest) other ≡ true → g ≤ other
least_of g other rest up there =
    elim (cases_eq g other) [
      | inl same ↦ omega (arith, same)
      | inr differ ↦
          let above : g < other = of_one (λ m. g < m) rest other up.0 (or_other (g == other) (has rest other) (λ own. differ (eqb-true g other own)) there) in
          omega (arith, above)
    ]

pub found_frozen : (h : History) (groups : List ℕ) (i : ℕ) → IsRising (undone_now h) → IsRising groups → i < length groups →
    has h.collected (get_or groups i 0) ≡ true → AreAhead h groups (drop i groups) → IsFrozenAt h (undone_by h groups) (get_or groups i 0)
found_frozen h groups i up rising lt collected ahead = record {
  differs = (
    collected,
    λ same. not_same (has (undone_now h) group)
        (sym (ap (λ b. if b then not (has (undone_now h) group) else has (undone_now h) group) (has_at groups i lt)) ∙
        sym (has-undone_by h groups group up rising) ∙ same),
  );
  least = λ other differs.
      let there : has (drop i groups) other ≡ true = ahead other (differs_in h groups other up rising differs) differs.0 in
      least_of group other (drop (i + 1) groups) (rw split at (IsRising-drop i groups rising)) (rw split at there);
}
  where
    group : ℕ
    group = get_or groups i 0

    split : drop i groups ≡ group ∷ drop (i + 1) groups
    split = drop_more groups i 0 lt

    has_at : (xs : List ℕ) (k : ℕ) → k < length xs → has xs (get_or xs k 0) ≡ true
    has_at [] k lt = absurd (omega arith)
    has_at (x ∷ xs) zero lt = ap (λ b. b || has xs x) (eq-eqb x x refl)
    has_at (x ∷ xs) (suc k) lt = or_second (x == get_or xs k 0) (has xs (get_or xs k 0)) (has_at xs k (omega arith))
      where
        or_second : (a b : Bool) → b ≡ true → (a || b) ≡ true
        or_second true b is = refl
        or_second false b is = is

drop_past : (xs : List ℕ) (i : ℕ) → length xs ≤ i → drop i xs ≡ []
drop_past [] zero le = refl
drop_past [] (suc i) le = refl
drop_past (x ∷ xs) zero le = absurd (omega arith)
drop_past (x ∷ xs) (suc i) le = drop_past xs i (omega arith)

pub none_frozen : (h : History) (groups : List ℕ) (i : ℕ) → IsRising (undone_now h) → IsRising groups → length groups ≤ i →
    AreAhead h groups (drop i groups) → AgreesOnCollected h (undone_by h groups)
none_frozen h groups i up rising all ahead =
    of_all (λ group. has (undone_by h groups) group ≡ has (undone_now h) group) h.collected (λ group collected.
    has-undone_by h groups group up rising ∙ by (has groups group) (has (undone_now h) group) (λ in_it. rw (drop_past groups i all) at (ahead group in_it collected)))
  where
    by : (there undone : Bool) → (there ≡ true → false ≡ true) → (if there then not undone else undone) ≡ undone
    by true undone never = absurd (both_ways false refl (never refl))
    by false undone never = refl

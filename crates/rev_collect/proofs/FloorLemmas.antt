-- Clean floors, one revision after the other.
use Rattle.std.proofs.Common.{◌≡◌, ℕ, zero, suc, ◌+◌, ◌-◌, ◌<◌, ◌≤◌, true, false, ◌&&◌, nat_le, min, List, [], ◌∷◌, drop, Some, slice_get, refl, ap, ap₂, subst, sym, ◌∙◌, inl, inr, arith}
use Rattle.std.specs.List.{list_all}
use Rattle.std.proofs.lemmas.Bool.{both_ways, cases_eq, cases_lt, le-leb, lt-leb}
use Rattle.std.proofs.lemmas.List.{drop_all}
use Rattle.plain_edits.specs.History.{Revision, undo, undone, History, head}
use Rattle.plain_edits.specs.Collection.{is_based_from, is_clean, clean_floor}
use Rattle.plain_edits.proofs.callers.CollectionLemmas.{greatest_clean_floor}
use Rattle.rev_list.specs.declared.step.RevStep.{RevStep}
use Rattle.rev_list.specs.declared.step.RevStep.TheVariants.{Edit, Undo}
use Rattle.rev_list.specs.Edit.{edit_revision}
use Rattle.rev_list.specs.Hidden.{IsRevisionAt, AreRevisionsAfter}
use Rattle.rev_collect.specs.Inner.{is_step_from, least_base}

pub drop_get : {X : Type 0} (xs : List X) (n : ℕ) (x : X) → slice_get xs n ≡ Some x → drop n xs ≡ x ∷ drop (suc n) xs
drop_get [] n x at = absurd cc
drop_get (y ∷ xs) zero x at = (let same : y ≡ x = cc in ap (λ z. z ∷ xs) same)
drop_get (y ∷ xs) (suc n) x at = drop_get xs n x at

-- what stands at a place of the history, and says the same of a floor as the revision of the list
record IsSaid (revisions : List Revision) (n floor : ℕ) (r : RevStep) : Type 0 where
  last : Revision
  at : slice_get revisions n ≡ Some last
  from : is_based_from floor last ≡ is_step_from floor r

said : (h : History) (n floor : ℕ) (r : RevStep) → IsRevisionAt h (suc n) r → IsSaid h.revisions n floor r
said h n floor (Edit e) is = record { last = edit_revision e; at = is.said; from = refl }
said h n floor (Undo groups) is = record { last = undo (undone h.revisions (suc n)); at = is.said; from = refl }

after_first : (h : History) (base : ℕ) (r : RevStep) (steps : List RevStep) → AreRevisionsAfter h base (r ∷ steps) → AreRevisionsAfter h (suc base) steps
after_first h base r steps are = record {
  len = omega (arith, are.len);
  each = λ k e at.
      let here : base + 1 + suc k ≡ suc base + 1 + k = omega arith in
      subst (λ n. IsRevisionAt h n e) here (are.each (suc k) e at);
}

-- a floor is clean where no revision of the list after it has a base below it
pub clean-steps : (h : History) (floor base : ℕ) (steps : List RevStep) → AreRevisionsAfter h base steps →
    list_all (is_based_from floor) (drop base h.revisions) ≡ list_all (is_step_from floor) steps
clean-steps h floor base [] are = ap (list_all (is_based_from floor)) (drop_all base h.revisions (omega (arith, are.len)))
clean-steps h floor base (r ∷ steps) are =
    let next : base + 1 + 0 ≡ suc base = omega arith in
    let one = said h base floor r (subst (λ n. IsRevisionAt h n r) next (are.each 0 r refl)) in
    ap (list_all (is_based_from floor)) (drop_get h.revisions base one.last one.at) ∙
    ap₂ (λ a b. a && b) one.from (clean-steps h floor (suc base) steps (after_first h base r steps are))

-- ---- back from the head

-- of the floors up to one, those that no edit after a revision has its base below are not above the least
abbrev pub AreFrom : History → ℕ → ℕ → ℕ → Type 0
AreFrom h most at least = (floor : ℕ) → floor ≤ most → list_all (is_based_from floor) (drop at h.revisions) ≡ nat_le floor least

pub from_head : (h : History) (most : ℕ) → AreFrom h most (head h) most
from_head h most = λ floor within.
    ap (list_all (is_based_from floor)) (drop_all (head h) h.revisions (omega arith)) ∙ sym (le-leb floor most within)

pub least_within : (least most : ℕ) (r : RevStep) → least ≤ most → least_base least r ≤ most
least_within least most (Edit e) within = grind (arith, within)
least_within least most (Undo groups) within = within

below_both : (floor base least : ℕ) → (nat_le floor base && nat_le floor least) ≡ nat_le floor (min least base)
below_both floor base least = grind (arith)

least_step : (floor least : ℕ) (r : RevStep) → (is_step_from floor r && nat_le floor least) ≡ nat_le floor (least_base least r)
least_step floor least (Edit e) = below_both floor e.base least
least_step floor least (Undo groups) = refl

pub from_before : (h : History) (most at least : ℕ) (r : RevStep) → 0 < at → IsRevisionAt h at r → AreFrom h most at least →
    AreFrom h most (at - 1) (least_base least r)
from_before h most zero least r some is are = absurd (omega (arith, some))
from_before h most (suc n) least r some is are = λ floor within.
    let one = said h n floor r is in
    let here : suc n - 1 ≡ n = omega arith in
    ap (λ k. list_all (is_based_from floor) (drop k h.revisions)) here ∙ ap (list_all (is_based_from floor)) (drop_get h.revisions n one.last one.at) ∙
    ap₂ (λ a b. a && b) one.from (are floor within) ∙ least_step floor least r

-- the floors above a revision are not clean
abbrev pub AreUnclean : History → ℕ → ℕ → Type 0
AreUnclean h at most = (floor : ℕ) → at < floor → floor ≤ most → is_clean h.revisions floor ≡ false

pub unclean_before : (h : History) (most at least : ℕ) → 0 < at → least < at → AreFrom h most at least → AreUnclean h at most → AreUnclean h (at - 1) most
unclean_before h most at least some low are above = λ floor over within.
    elim (cases_eq floor at) [
      | inl here ↦
          let small : at ≤ most = omega (arith, here, within) in
          ap (is_clean h.revisions) here ∙ are at small ∙ lt-leb at least low
      | inr other ↦ above floor (omega (arith, over, other)) within
    ]

pub greatest_is : (h : History) (at most : ℕ) → at ≤ most → is_clean h.revisions at ≡ true → AreUnclean h at most → at ≡ clean_floor h.revisions most
greatest_is h at most within clean above =
    let found = greatest_clean_floor h.revisions most in
    elim (cases_lt at (clean_floor h.revisions most)) [
      | inl over ↦ absurd (both_ways (is_clean h.revisions (clean_floor h.revisions most)) (above _ over found.is_within) found.clean)
      | inr not_over ↦ (let up : at ≤ clean_floor h.revisions most = found.greatest at within clean in omega (arith, not_over, up))
    ]

pub clean_least : (h : History) (most at least : ℕ) → at ≤ most → AreFrom h most at least → at ≤ least → is_clean h.revisions at ≡ true
clean_least h most at least known are low = are at known ∙ le-leb at least low

-- a floor at which the walk ends
pub ended : (h : History) (most at least : ℕ) → at ≤ least → least ≤ most → AreFrom h most at least → AreUnclean h at most → at ≡ clean_floor h.revisions most
ended h most at least low within are above =
    let small : at ≤ most = omega (arith, low, within) in
    greatest_is h at most small (clean_least h most at least small are low) above

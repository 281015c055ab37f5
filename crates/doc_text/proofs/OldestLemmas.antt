-- Where the oldest retired group has no edit by a revision, no retired group is at rest up to there.
use Rattle.std.proofs.Common.{◌≡◌, ℕ, zero, suc, ◌≤◌, Bool, true, false, cond, not, ◌&&◌, ◌||◌, ◌==◌, List, [], ◌∷◌, take, drop, filter, Option, Some, None, slice_get, refl, ap, sym, ◌∙◌, inl, inr, arith}
use Rattle.std.specs.List.{list_any}
use Rattle.std.proofs.lemmas.Bool.{and_parts, eqb-true, or_cases, or_left, or_right}
use Rattle.std.proofs.lemmas.List.{take-append-drop}
use Rattle.std.proofs.lemmas.List.Folds.{list_any-append}
use Rattle.plain_text.specs.Numbers.{has, IsRising}
use Rattle.number_set.proofs.ForCallers.{above, absent, has-own, no}
use Rattle.plain_edits.specs.Collection.{is_at_rest, resting_groups}
use Rattle.plain_edits.specs.Edits.{is_edit_of}
use Rattle.plain_edits.specs.History.{History, Revision}
use Rattle.undo_groups.specs.Groups.{Groups}
use Rattle.edit_groups.specs.declared.typing.Typing.{Typing}
use Rattle.doc_text.specs.Agree.{Agree, is_given}

-- what some revisions have, more of them have
any_later : (p : Revision → Bool) (revisions : List Revision) (m n : ℕ) → m ≤ n → list_any p (take m revisions) ≡ true → list_any p (take n revisions) ≡ true
any_later p revisions zero n le some = absurd (no false some refl)
any_later p [] (suc m) n le some = absurd (no false some refl)
any_later p (r ∷ revisions) (suc m) zero le some = absurd (omega arith)
any_later p (r ∷ revisions) (suc m) (suc n) le some =
    elim (or_cases (p r) (list_any p (take m revisions)) some) [
      | inl here ↦ or_left (p r) (list_any p (take n revisions)) here
      | inr later ↦ or_right (p r) (list_any p (take n revisions)) (any_later p revisions m n (omega arith) later)
    ]

any_parted : (p : Revision → Bool) (n : ℕ) (revisions : List Revision) →
    list_any p revisions ≡ (list_any p (take n revisions) || list_any p (drop n revisions))
any_parted p n revisions = ap (list_any p) (sym (take-append-drop n revisions)) ∙ list_any-append p (take n revisions) (drop n revisions)

-- the first of a rising list is the least
least_first : (xs : List ℕ) (first group : ℕ) → IsRising xs → slice_get xs 0 ≡ Some first → has xs group ≡ true → first ≤ group
least_first [] first group up at there = absurd (no false there refl)
least_first (x ∷ xs) first group up at there =
    let same : x ≡ first = cc in
    elim (or_cases (x == group) (has xs group) there) [
      | inl own ↦ omega (arith, same, eqb-true x group own)
      | inr later ↦ omega (arith, same, above x group xs up.0 later)
    ]

pub first_there : (xs : List ℕ) (first : ℕ) → slice_get xs 0 ≡ Some first → has xs first ≡ true
first_there [] first at = absurd cc
first_there (x ∷ xs) first at =
    let same : x ≡ first = cc in
    ap (λ y. has (y ∷ xs) first) same ∙ has-own first xs

moved : (a b : Bool) → a ≡ true → (not a && b) ≡ false
moved true b is = refl
moved false b is = absurd (no false is refl)

all_fail : (p : ℕ → Bool) (xs : List ℕ) → ((x : ℕ) → has xs x ≡ true → p x ≡ false) → filter p xs ≡ []
all_fail p [] each = refl
all_fail p (x ∷ xs) each =
    ap (λ b. cond b (x ∷ filter p xs) (filter p xs)) (each x (has-own x xs)) ∙
    all_fail p xs (λ y there. each y (or_right (x == y) (has xs y) there))

module _ (h : History) (groups : Groups) (typing : Option Typing) (agree : Agree h.revisions h.collected groups typing) where
  retired-parts : (group : ℕ) → has groups.retired group ≡ true → (is_given groups group ≡ true) × (not (has h.collected group) ≡ true)
  retired-parts group there =
      and_parts (is_given groups group) (not (has h.collected group))
      (sym (agree.known group) ∙ or_right (has groups.live group) (has groups.retired group) there)

  -- a retired group is not collected
  pub retired-kept : (group : ℕ) → has groups.retired group ≡ true → has h.collected group ≡ false
  retired-kept group there =
      absent (has h.collected group) (λ gone. no (not (has h.collected group)) (retired-parts group there).1 (ap not gone))

  pub none_begun : (oldest most : ℕ) → slice_get groups.retired 0 ≡ Some oldest → list_any (is_edit_of oldest) (take most h.revisions) ≡ false →
      (floor : ℕ) → floor ≤ most → resting_groups h groups.retired floor ≡ []
  none_begun oldest most first none floor within =
      all_fail (λ group. not (has h.collected group) && is_at_rest h floor group) groups.retired
      (λ group there. fails (not (has h.collected group)) _ (moving group there))
    where
      counts : 1 ≤ oldest
      counts = (agree.stack.retired_given oldest (first_there groups.retired oldest first)).0

      before : (group : ℕ) → has groups.retired group ≡ true → list_any (is_edit_of group) (take floor h.revisions) ≡ true →
          list_any (is_edit_of oldest) (take most h.revisions) ≡ true
      before group there some =
          agree.in_order most oldest group counts (least_first groups.retired oldest group agree.stack.retired_rise first there)
          (any_later (is_edit_of group) h.revisions floor most within some)

      -- so it has its edits after the floor
      after : (group : ℕ) → has groups.retired group ≡ true → list_any (is_edit_of group) (drop floor h.revisions) ≡ true
      after group there =
          elim (or_cases (list_any (is_edit_of group) (take floor h.revisions)) (list_any (is_edit_of group) (drop floor h.revisions))
          (sym (any_parted (is_edit_of group) floor h.revisions) ∙ agree.given group ∙ (retired-parts group there).0)) [
            | inl some ↦ absurd (no (list_any (is_edit_of oldest) (take most h.revisions)) (before group there some) none)
            | inr later ↦ later
          ]

      moving : (group : ℕ) → has groups.retired group ≡ true → is_at_rest h floor group ≡ false
      moving group there = moved (list_any (is_edit_of group) (drop floor h.revisions)) _ (after group there)

      fails : (a b : Bool) → b ≡ false → (a && b) ≡ false
      fails true b is = is
      fails false b is = refl

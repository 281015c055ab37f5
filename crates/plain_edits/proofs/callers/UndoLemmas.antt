-- Lemmas on undo: what a history shows under a set of groups, and what an undo of some groups more hides and shows.
use Rattle.std.proofs.Common.{◌≡◌, ℕ, ◌+◌, ◌≤◌, ◌↔◌, Bool, true, false, not, ◌&&◌, ◌||◌, nat_lt, nat_le, List, [], ◌∷◌, refl, ap, ap₂, sym, ◌∙◌, arith}
use Rattle.std.specs.List.{list_all, list_any}
use Rattle.std.proofs.lemmas.Bool.{both_ways, and_parts, and_from, le-leb, le-ltb}
use Rattle.std.proofs.lemmas.Bool.Decides.{nat_tests}
use Rattle.std.proofs.lemmas.List.{length_push}
use Rattle.plain_text.specs.Numbers.{has}
use Rattle.plain_text.proofs.callers.ListLemmas.{list_all_same}
use Rattle.plain_text.proofs.callers.NumberLemmas.{has-with_numbers}
use Rattle.plain_edits.specs.History.{Tagged, Revision, undo, History, head, group_of, is_visible_under, is_visible, text_at, IsTaggedBy, IsSound}
use Rattle.plain_edits.specs.Edits.{undid}
use Rattle.plain_edits.specs.Undo.{undone_now, undone_with, is_among, UndoesSelected}
use Rattle.plain_edits.proofs.callers.HistoryLemmas.{group_of-append, undone-undo, shown_same, IsTaggedBy-more}

-- a character is as visible under a set at a later revision, where its revisions have the same groups
pub is_visible_under_same : (revisions others : List Revision) (groups : List ℕ) (at after : ℕ) (tagged : Tagged) → IsTaggedBy at tagged →
    at ≤ after → ((rev : ℕ) → rev ≤ at → group_of others rev ≡ group_of revisions rev) →
    is_visible_under others groups after tagged ≡ is_visible_under revisions groups at tagged
is_visible_under_same revisions others groups at after tagged is later same =
    let undone_alike : (rev : ℕ) → rev ≤ at → has groups (group_of others rev) ≡ has groups (group_of revisions rev) =
    λ rev within. ap (has groups) (same rev within) in
    let come : nat_le tagged.inserted after ≡ nat_le tagged.inserted at = grind (arith, nat_tests, is.inserted) in
    let gone : (rev : ℕ) → rev ≤ at → nat_lt after rev ≡ nat_lt at rev = λ rev within. grind (arith, nat_tests) in
    ap₂ (λ a b. a && b) (ap₂ (λ a b. a && not b) come (undone_alike tagged.inserted is.inserted))
    (list_all_same (λ rev. rev ≤ at) (λ rev. nat_lt after rev || has groups (group_of others rev)) (λ rev. nat_lt at rev || has groups (group_of revisions rev))
    (λ rev within. ap₂ (λ a b. a || b) (gone rev within) (undone_alike rev within)) tagged.deleted is.deleted)

-- after an undo a character is visible where it is under its set
pub is_visible-undid : (history : History) (groups : List ℕ) (tagged : Tagged) → IsTaggedBy (head history) tagged →
    is_visible (undid history groups).revisions (head history + 1) tagged ≡ is_visible_under history.revisions groups (head history) tagged
is_visible-undid history groups tagged is =
    ap (λ set. is_visible_under (undid history groups).revisions set (head history + 1) tagged) (undone-undo history.revisions groups) ∙
    is_visible_under_same history.revisions (undid history groups).revisions groups (head history) (head history + 1) tagged is (omega arith)
    (λ rev within. group_of-append history.revisions (undo groups ∷ []) rev within)

-- of two undos the last one counts
pub is_visible-undid_twice : (history : History) (groups others : List ℕ) (tagged : Tagged) → IsTaggedBy (head history) tagged →
    is_visible (undid (undid history groups) others).revisions (head history + 2) tagged ≡
    is_visible_under history.revisions others (head history) tagged
is_visible-undid_twice history groups others tagged is =
    let count : head history + 2 ≡ head (undid history groups) + 1 = omega (arith, length_push history.revisions (undo groups)) in
    let one : head history + 1 ≡ head (undid history groups) = omega (arith, length_push history.revisions (undo groups)) in
    ap (λ at. is_visible (undid (undid history groups) others).revisions at tagged) count ∙
    is_visible-undid (undid history groups) others tagged
    (IsTaggedBy-more (head history) (head (undid history groups)) tagged (omega arith) is) ∙
    is_visible_under_same history.revisions (undid history groups).revisions others (head history) (head (undid history groups)) tagged is (omega arith)
    (λ rev within. group_of-append history.revisions (undo groups ∷ []) rev within)

pub text_at-undid_twice : (history : History) (groups others : List ℕ) → IsSound history →
    text_at (undid (undid history groups) others) (head history + 2) ≡ text_at (undid history others) (head history + 1)
text_at-undid_twice history groups others sound =
    shown_same (IsTaggedBy (head history)) (is_visible (undid (undid history groups) others).revisions (head history + 2))
    (is_visible (undid history others).revisions (head history + 1))
    (λ x is. is_visible-undid_twice history groups others x is ∙ sym (is_visible-undid history others x is)) history.characters sound

-- ---- selective undo

-- whether all pass one of two tests, where all pass the first one, or some do not
all_either : (p q : ℕ → Bool) (xs : List ℕ) → list_all p xs ≡ true → list_all (λ x. p x || q x) xs ≡ true
all_either p q [] all = refl
all_either p q (x ∷ xs) all =
    let parts = and_parts (p x) (list_all p xs) all in
    and_from (p x || q x) (list_all (λ y. p y || q y) xs) (ap (λ b. b || q x) parts.0) (all_either p q xs parts.1)

some_other : (p q : ℕ → Bool) (xs : List ℕ) → list_all p xs ≡ false → list_all (λ x. p x || q x) xs ≡ true → list_any q xs ≡ true
some_other p q [] not_all either = absurd (both_ways true not_all refl)
some_other p q (x ∷ xs) not_all either =
    let parts = and_parts (p x || q x) (list_all (λ y. p y || q y) xs) either in
    first (p x) (q x) (list_all p xs) (list_any q xs) not_all parts.0 (λ rest. some_other p q xs rest parts.1)
  where
    first : (a b all any : Bool) → (a && all) ≡ false → (a || b) ≡ true → (all ≡ false → any ≡ true) → (b || any) ≡ true
    first true true all any not_all either rest = refl
    first true false all any not_all either rest = rest not_all
    first false true all any not_all either rest = refl
    first false false all any not_all either rest = cc

-- what a set shows of a character, at the head
is_visible_under-head : (history : History) (groups : List ℕ) (tagged : Tagged) → IsTaggedBy (head history) tagged →
    is_visible_under history.revisions groups (head history) tagged ≡
    (not (is_among history groups tagged.inserted) && list_all (is_among history groups) tagged.deleted)
is_visible_under-head history groups tagged is =
    ap₂ (λ a b. a && not (is_among history groups tagged.inserted) && b) (le-leb tagged.inserted (head history) is.inserted)
    (list_all_same (λ rev. rev ≤ head history) (λ rev. nat_lt (head history) rev || is_among history groups rev) (is_among history groups)
    (λ rev within. ap (λ b. b || is_among history groups rev) (le-ltb (head history) rev within)) tagged.deleted is.deleted)

module _ (history : History) (more : List ℕ) (tagged : Tagged) (is : IsTaggedBy (head history) tagged) where
  abbrev was : Bool
  was = is_among history (undone_now history) tagged.inserted

  abbrev more_has : Bool
  more_has = is_among history more tagged.inserted

  abbrev all_was : Bool
  all_was = list_all (is_among history (undone_now history)) tagged.deleted

  abbrev all_either_set : Bool
  all_either_set = list_all (λ rev. is_among history (undone_now history) rev || is_among history more rev) tagged.deleted

  before : is_visible history.revisions (head history) tagged ≡ (not was && all_was)
  before = is_visible_under-head history (undone_now history) tagged is

  after : is_visible (undid history (undone_with history more)).revisions (head history + 1) tagged ≡ (not (was || more_has) && all_either_set)
  after =
      is_visible-undid history (undone_with history more) tagged is ∙
      is_visible_under-head history (undone_with history more) tagged is ∙
      ap₂ (λ a b. not a && b) (both tagged.inserted)
      (list_all_same (λ rev. rev ≤ head history) (is_among history (undone_with history more))
      (λ rev. is_among history (undone_now history) rev || is_among history more rev) (λ rev _. both rev) tagged.deleted is.deleted)
    where
      both : (rev : ℕ) → is_among history (undone_with history more) rev ≡ (is_among history (undone_now history) rev || is_among history more rev)
      both rev = has-with_numbers (undone_now history) more (group_of history.revisions rev)

hides_by : (was more all either seen now : Bool) → seen ≡ (not was && all) → now ≡ (not (was || more) && either) → (all ≡ true → either ≡ true) →
    seen ≡ true → (now ≡ false) ↔ (more ≡ true)
hides_by true more all either seen now is_seen is_now up holds = cc
hides_by false more false either seen now is_seen is_now up holds = cc
hides_by false true true either seen now is_seen is_now up holds = (λ _. refl, λ _. is_now)
hides_by false false true either seen now is_seen is_now up holds =
    let shown : now ≡ true = is_now ∙ up refl in (λ gone. cc, λ fails. cc)

shows_by : (was more all either some seen now : Bool) → seen ≡ (not was && all) → now ≡ (not (was || more) && either) →
    (all ≡ false → either ≡ true → some ≡ true) →
    seen ≡ false → (now ≡ true) ↔ ((was ≡ false) × (more ≡ false) × (either ≡ true) × (some ≡ true))
shows_by true more all either some seen now is_seen is_now other fails = (λ holds. cc, λ parts. let was_not = parts.0 in cc)
shows_by false true all either some seen now is_seen is_now other fails = (λ holds. cc, λ parts. let more_not = parts.1 in cc)
shows_by false false all either some seen now is_seen is_now other fails =
    (λ holds. let shown : either ≡ true = sym is_now ∙ holds in (refl, refl, shown, other (sym is_seen ∙ fails) shown), λ parts. is_now ∙ parts.2)

pub undoes_selected : (history : History) (more : List ℕ) (tagged : Tagged) → IsTaggedBy (head history) tagged → UndoesSelected history more tagged
undoes_selected history more tagged is = record {
  hides = hides_by _ _ _ _ _ _ (before history more tagged is) (after history more tagged is)
      (all_either (is_among history (undone_now history)) (is_among history more) tagged.deleted);
  shows = shows_by _ _ _ _ _ _ _ (before history more tagged is) (after history more tagged is)
      (some_other (is_among history (undone_now history)) (is_among history more) tagged.deleted);
  back = is_visible-undid_twice history (undone_with history more) (undone_now history) tagged is;
}

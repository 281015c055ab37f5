-- What one more revision hides under a set.
use Rattle.std.proofs.Common.{◌≡◌, ℕ, ◌+◌, Bool, true, false, not, ◌&&◌, ◌||◌, if◌then◌else◌, nat_lt, nat_le, List, [], ◌∷◌, ◌++◌, length, map, refl, ap, ap₂, ◌∙◌, arith}
use Rattle.std.specs.List.{list_all, AllByRecursion}
use Rattle.std.proofs.lemmas.Bool.{le-leb, le-ltb}
use Rattle.std.proofs.lemmas.List.{map-append}
use Rattle.std.proofs.lemmas.List.Folds.{list_all-append}
use Rattle.std.proofs.Math.Bool.{and-true}
use Rattle.plain_text.specs.Numbers.{has}
use Rattle.plain_text.proofs.callers.ListLemmas.{at-woven, woven_same}
use Rattle.plain_edits.specs.History.{Tagged, inserted_by, Revision, edit, undo, History, head, edit_group, group_of, is_visible_under, IsTaggedBy, IsSound}
use Rattle.plain_edits.specs.Edits.{PlainEdit, edited, undid, inserted_at, is_deleted_by, with_deletion}
use Rattle.plain_edits.proofs.callers.HistoryLemmas.{group_of-append, revision_at-push, AllByRecursion-inserted_at, becomes}
use Rattle.plain_edits.proofs.callers.UndoLemmas.{is_visible_under_same}
use Rattle.rev_list.specs.Under.{is_hidden_under, hidden_under, hidden_after_edit}

pub map_where : {X Y : Type 0} (Q : X → Type 0) (f g : X → Y) → ((x : X) → Q x → f x ≡ g x) → (xs : List X) → AllByRecursion Q xs → map f xs ≡ map g xs
map_where Q f g same [] all = refl
map_where Q f g same (x ∷ xs) all = ap₂ (λ y rest. y ∷ rest) (same x all.0) (map_where Q f g same xs all.1)

-- one more revision changes nothing of a character that is there
pub is_visible_under-more : (revisions : List Revision) (last : Revision) (groups : List ℕ) (tagged : Tagged) → IsTaggedBy (length revisions) tagged →
    is_visible_under (revisions ++ last ∷ []) groups (length revisions + 1) tagged ≡ is_visible_under revisions groups (length revisions) tagged
is_visible_under-more revisions last groups tagged is =
    is_visible_under_same revisions (revisions ++ last ∷ []) groups (length revisions) (length revisions + 1) tagged is (omega arith)
    (λ rev within. group_of-append revisions (last ∷ []) rev within)

module _ (revisions : List Revision) (base group priority author : ℕ) (groups : List ℕ) where
  abbrev more : List Revision
  more = revisions ++ edit base group priority author ∷ []

  group_of-last : group_of more (length revisions + 1) ≡ group
  group_of-last = ap edit_group (revision_at-push revisions (edit base group priority author))

  -- what the edit inserts is visible where its group is not in the set
  pub is_visible_under-new : (c : ℕ) →
      is_visible_under more groups (length revisions + 1) (inserted_by (length revisions + 1) c) ≡ not (has groups group)
  is_visible_under-new c =
      ap₂ (λ a b. (a && not b) && true) (le-leb (length revisions + 1) (length revisions + 1) (omega arith)) (ap (has groups) group_of-last) ∙
      and-true (not (has groups group))

  regrouped : (x y z : Bool) → (x && (y && (z && true))) ≡ ((x && y) && z)
  regrouped true true true = refl
  regrouped true true false = refl
  regrouped true false z = refl
  regrouped false y z = refl

  -- what it deletes is visible where it is without that and the group of the edit is in the set
  pub is_visible_under-deletion : (tagged : Tagged) →
      is_visible_under more groups (length revisions + 1) (with_deletion (length revisions + 1) tagged) ≡
      (is_visible_under more groups (length revisions + 1) tagged && has groups group)
  is_visible_under-deletion tagged =
      ap (λ b. there && b) (list_all-append test tagged.deleted ((length revisions + 1) ∷ [])) ∙
      regrouped there (list_all test tagged.deleted) (test (length revisions + 1)) ∙
      ap (λ b. is_visible_under more groups (length revisions + 1) tagged && b) last
    where
      there : Bool
      there = nat_le tagged.inserted (length revisions + 1) && not (has groups (group_of more tagged.inserted))

      test : ℕ → Bool
      test rev = nat_lt (length revisions + 1) rev || has groups (group_of more rev)

      last : test (length revisions + 1) ≡ has groups group
      last = ap₂ (λ a b. a || b) (le-ltb (length revisions + 1) (length revisions + 1) (omega arith)) (ap (has groups) group_of-last)

  pub is_visible_under-deleted : (tagged : Tagged) → IsTaggedBy (length revisions) tagged →
      is_visible_under more groups (length revisions + 1) (with_deletion (length revisions + 1) tagged) ≡
      (is_visible_under revisions groups (length revisions) tagged && has groups group)
  is_visible_under-deleted tagged is =
      is_visible_under-deletion tagged ∙
      ap (λ b. b && has groups group) (is_visible_under-more revisions (edit base group priority author) groups tagged is)

-- ---- the whole union

hides_deleted : (seen in_set : Bool) → not (seen && in_set) ≡ (not seen || true && not in_set)
hides_deleted true true = refl
hides_deleted true false = refl
hides_deleted false in_set = refl

hides_kept : (seen in_set : Bool) → not seen ≡ (not seen || false && not in_set)
hides_kept true in_set = refl
hides_kept false in_set = refl

hidden_item : (history : History) (e : PlainEdit) (groups : List ℕ) (tagged : Tagged) → IsTaggedBy (head history) tagged → (dropped : Bool) →
    is_hidden_under (edited history e) groups (head history + 1) (if dropped then with_deletion (head history + 1) tagged else tagged) ≡
    (is_hidden_under history groups (head history) tagged || dropped && not (has groups e.group))
hidden_item history e groups tagged is true =
    ap not (is_visible_under-deleted history.revisions e.base e.group e.priority e.author groups tagged is) ∙
    hides_deleted (is_visible_under history.revisions groups (head history) tagged) (has groups e.group)
hidden_item history e groups tagged is false =
    ap not (is_visible_under-more history.revisions (edit e.base e.group e.priority e.author) groups tagged is) ∙
    hides_kept (is_visible_under history.revisions groups (head history) tagged) (has groups e.group)

not_not : (b : Bool) → not (not b) ≡ b
not_not true = refl
not_not false = refl

pub hidden_under-edited : (history : History) (e : PlainEdit) (groups : List ℕ) → IsSound history →
    hidden_under (edited history e) groups (head history + 1) ≡ hidden_after_edit history e groups
hidden_under-edited history e groups sound =
    at-woven (map hides) (map-append hides) (inserted_at history e) (becomes history e) 0 history.characters ∙
    woven_same (IsTaggedBy (head history)) (λ i. map hides (inserted_at history e i)) (λ i. map (λ _. has groups e.group) (inserted_at history e i))
    (λ i tagged. map hides (becomes history e i tagged))
    (λ i tagged. (is_hidden_under history groups (head history) tagged || is_deleted_by history e i tagged && not (has groups e.group)) ∷ [])
    (λ i. map_where (λ tagged. hides tagged ≡ has groups e.group) hides (λ _. has groups e.group) (λ tagged same. same) (inserted_at history e i)
    (AllByRecursion-inserted_at (λ tagged. hides tagged ≡ has groups e.group) history e
    (λ c. ap not (is_visible_under-new history.revisions e.base e.group e.priority e.author groups c) ∙ not_not (has groups e.group)) i))
    (λ i tagged is. ap (λ b. b ∷ []) (hidden_item history e groups tagged is (is_deleted_by history e i tagged))) 0 history.characters sound
  where
    hides : Tagged → Bool
    hides = is_hidden_under (edited history e) groups (head history + 1)

pub hidden_under-undid : (history : History) (undone groups : List ℕ) → IsSound history →
    hidden_under (undid history undone) groups (head history + 1) ≡ hidden_under history groups (head history)
hidden_under-undid history undone groups sound =
    map_where (IsTaggedBy (head history)) (is_hidden_under (undid history undone) groups (head history + 1)) (is_hidden_under history groups (head history))
    (λ tagged is. ap not (is_visible_under-more history.revisions (undo undone) groups tagged is)) history.characters sound

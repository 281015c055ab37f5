-- What a set hides at a revision is decided by the groups that have an edit by then.
use Rattle.std.proofs.Common.{◌≡◌, ℕ, zero, suc, ◌<◌, ◌≤◌, Bool, true, false, not, ◌&&◌, ◌||◌, nat_lt, nat_le, List, [], ◌∷◌, Option, Some, None, map, take, slice_get, refl, ap, ap₂, ◌∙◌, arith}
use Rattle.std.specs.List.{list_all, list_any}
use Rattle.std.proofs.lemmas.Bool.{leb-true, ltb-false, eq-eqb}
use Rattle.plain_text.specs.Numbers.{has}
use Rattle.plain_edits.specs.History.{Tagged, Revision, edit, undo, History, edit_group, group_of, is_visible_under}
use Rattle.plain_edits.specs.Edits.{is_edit_of}
use Rattle.rev_list.specs.Under.{is_hidden_under, hidden_under, AgreeBy}

or_more : (a b : Bool) → b ≡ true → (a || b) ≡ true
or_more true b is = refl
or_more false b is = is

-- the group of an edit has an edit by then
has_edit : (revisions : List Revision) (m rev base group priority author : ℕ) → m < rev →
    slice_get revisions m ≡ Some (edit base group priority author) → list_any (is_edit_of group) (take rev revisions) ≡ true
has_edit [] m rev base group priority author within at = absurd cc
has_edit (r ∷ revisions) m zero base group priority author within at = absurd (omega arith)
has_edit (r ∷ revisions) zero (suc rev) base group priority author within at =
    let is : r ≡ edit base group priority author = cc in
    ap (λ x. is_edit_of group x || list_any (is_edit_of group) (take rev revisions)) is ∙
    ap (λ b. b || list_any (is_edit_of group) (take rev revisions)) (eq-eqb group group refl)
has_edit (r ∷ revisions) (suc m) (suc rev) base group priority author within at =
    or_more (is_edit_of group r) (list_any (is_edit_of group) (take rev revisions))
    (has_edit revisions m rev base group priority author (omega arith) at)

and_where : (a x y : Bool) → (a ≡ true → x ≡ y) → (a && x) ≡ (a && y)
and_where true x y same = same refl
and_where false x y same = refl

or_where : (a x y : Bool) → (a ≡ false → x ≡ y) → (a || x) ≡ (a || y)
or_where true x y same = refl
or_where false x y same = same refl

list_all_alike : (p q : ℕ → Bool) → ((n : ℕ) → p n ≡ q n) → (numbers : List ℕ) → list_all p numbers ≡ list_all q numbers
list_all_alike p q same [] = refl
list_all_alike p q same (n ∷ numbers) = ap₂ (λ a b. a && b) (same n) (list_all_alike p q same numbers)

map_alike : (f g : Tagged → Bool) → ((tagged : Tagged) → f tagged ≡ g tagged) → (xs : List Tagged) → map f xs ≡ map g xs
map_alike f g same [] = refl
map_alike f g same (x ∷ xs) = ap₂ (λ b rest. b ∷ rest) (same x) (map_alike f g same xs)

module _ (history : History) (at : ℕ) (groups others : List ℕ) (agree : AgreeBy history at groups others) where
  -- the two sets agree on the group of each revision by then
  agree_at : (rev : ℕ) → rev ≤ at → has groups (group_of history.revisions rev) ≡ has others (group_of history.revisions rev)
  agree_at zero within = agree.loaded
  agree_at (suc m) within = by (slice_get history.revisions m) refl
    where
      by : (found : Option Revision) → slice_get history.revisions m ≡ found → has groups (edit_group found) ≡ has others (edit_group found)
      by None is = agree.loaded
      by (Some (undo set)) is = agree.loaded
      by (Some (edit base group priority author)) is =
          agree.edited group (has_edit history.revisions m at base group priority author (omega arith) is)

  pub is_visible_under-agree : (tagged : Tagged) →
      is_visible_under history.revisions groups at tagged ≡ is_visible_under history.revisions others at tagged
  is_visible_under-agree tagged =
      ap₂ (λ a b. a && b)
      (and_where (nat_le tagged.inserted at) (not (has groups (group_of history.revisions tagged.inserted)))
      (not (has others (group_of history.revisions tagged.inserted)))
      (λ there. ap not (agree_at tagged.inserted (leb-true tagged.inserted at there))))
      (list_all_alike (λ rev. nat_lt at rev || has groups (group_of history.revisions rev))
      (λ rev. nat_lt at rev || has others (group_of history.revisions rev))
      (λ rev. or_where (nat_lt at rev) (has groups (group_of history.revisions rev)) (has others (group_of history.revisions rev))
      (λ by_then. agree_at rev (ltb-false at rev by_then))) tagged.deleted)

  pub hidden_under-agree : hidden_under history groups at ≡ hidden_under history others at
  hidden_under-agree =
      map_alike (is_hidden_under history groups at) (is_hidden_under history others at)
      (λ tagged. ap not (is_visible_under-agree tagged)) history.characters

-- What a set of groups hides at a revision, if exactly these groups were undone there.
use Rattle.std.specs.Prelude.{◌≡◌, ℕ, Bool, true, not, ◌&&◌, ◌||◌, List, [], ◌∷◌, map, take}
use Rattle.std.specs.List.{list_any}
use Rattle.plain_text.specs.Numbers.{has}
use Rattle.plain_text.specs.Woven.{woven}
use Rattle.plain_edits.specs.History.{Tagged, History, head, is_visible_under}
use Rattle.plain_edits.specs.Edits.{PlainEdit, inserted_at, is_deleted_by, is_edit_of}

-- whether the set hides the character at the revision
abbrev pub is_hidden_under : History → List ℕ → ℕ → Tagged → Bool
is_hidden_under history groups rev tagged = not (is_visible_under history.revisions groups rev tagged)

-- what of the present union the set hides at the revision
abbrev pub hidden_under : History → List ℕ → ℕ → List Bool
hidden_under history groups rev = map (is_hidden_under history groups rev) history.characters

-- two sets agree on each group that has an edit by the revision, and on group 0, which is that of the loaded text
pub record AgreeBy (history : History) (rev : ℕ) (groups others : List ℕ) : Type 0 where
  pub loaded : has groups 0 ≡ has others 0
  pub edited : (group : ℕ) → list_any (is_edit_of group) (take rev history.revisions) ≡ true → has groups group ≡ has others group

-- what the set hides after one more edit: what the edit inserts, where its group is in the set; what the set hid before; and what the
-- edit deletes, where its group is not in the set
abbrev pub hidden_after_edit : History → PlainEdit → List ℕ → List Bool
hidden_after_edit history e groups =
    woven (λ index. map (λ _. has groups e.group) (inserted_at history e index))
    (λ index tagged. (is_hidden_under history groups (head history) tagged ||
    is_deleted_by history e index tagged && not (has groups e.group)) ∷ []) 0 history.characters

-- What an undo of some groups more hides and shows.
use Rattle.std.specs.Prelude.{◌≡◌, ℕ, ◌+◌, ◌↔◌, Bool, true, false, ◌||◌, List, fold}
use Rattle.std.specs.List.{list_all, list_any}
use Rattle.plain_text.specs.Numbers.{has, with_number}
use Rattle.plain_edits.specs.History.{Tagged, History, head, group_of, undone, is_visible}
use Rattle.plain_edits.specs.Edits.{undid}

-- the groups that are undone at the head
abbrev pub undone_now : History → List ℕ
undone_now history = undone history.revisions (head history)

-- these and more
abbrev pub undone_with : History → List ℕ → List ℕ
undone_with history more = fold with_number (undone_now history) more

-- whether the group of a revision is in a set
abbrev pub is_among : History → List ℕ → ℕ → Bool
is_among history groups rev = has groups (group_of history.revisions rev)

-- SELECTIVE UNDO: what an undo of `more` groups, beside those that are undone, makes of a character
pub record UndoesSelected (history : History) (more : List ℕ) (tagged : Tagged) : Type 0 where
  -- a visible character is hidden exactly where the group that inserted it is among them
  pub hides : is_visible history.revisions (head history) tagged ≡ true →
      (is_visible (undid history (undone_with history more)).revisions (head history + 1) tagged ≡ false) ↔
      (is_among history more tagged.inserted ≡ true)
  -- a hidden one appears exactly where that group is in neither set, that of each deletion is in one, and that of some is among them
  pub shows : is_visible history.revisions (head history) tagged ≡ false →
      (is_visible (undid history (undone_with history more)).revisions (head history + 1) tagged ≡ true) ↔
      ((is_among history (undone_now history) tagged.inserted ≡ false) ×
      (is_among history more tagged.inserted ≡ false) ×
      (list_all (λ rev. is_among history (undone_now history) rev || is_among history more rev) tagged.deleted ≡ true) ×
      (list_any (is_among history more) tagged.deleted ≡ true))
  -- and to undo the former set again shows exactly what was visible
  pub back : is_visible (undid (undid history (undone_with history more)) (undone_now history)).revisions (head history + 2) tagged ≡
      is_visible history.revisions (head history) tagged

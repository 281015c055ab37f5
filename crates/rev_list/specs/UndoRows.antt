-- A small history, and what each set of its groups hides.
use Rattle.std.specs.Prelude.{◌≡◌, ℕ, true, false, not, if◌then◌else◌, ◌==◌, List, [], ◌∷◌, codes}
use Rattle.plain_edits.specs.History.{History, loaded}
use Rattle.plain_edits.specs.Edits.{PlainEdit, edited, undid}
use Rattle.rev_list.specs.Under.{hidden_under}

-- an edit of a text of two characters that deletes the first one and inserts a text at the end
abbrev pub first_for : List ℕ → ℕ → PlainEdit
first_for text group = record {
  base = 0;
  kept = λ index. not (index == 0);
  added = λ gap. if gap == 2 then text else [];
  group = group;
  priority = 0;
  author = 0;
}

-- of `ab` both groups delete `a`, and each inserts a character at the end; the union is `ab12`
abbrev pub two_groups : History
two_groups = edited (edited (loaded (codes "ab")) (first_for (codes "1") 1)) (first_for (codes "2") 2)

-- `a` is shown where both groups are undone, and the characters of a group are hidden where it is undone
pub record WhatEachSetHides : Type 0 where
  pub none : hidden_under two_groups [] 2 ≡ true ∷ false ∷ false ∷ false ∷ []
  pub first : hidden_under two_groups (1 ∷ []) 2 ≡ true ∷ false ∷ true ∷ false ∷ []
  pub second : hidden_under two_groups (2 ∷ []) 2 ≡ true ∷ false ∷ false ∷ true ∷ []
  pub both : hidden_under two_groups (1 ∷ 2 ∷ []) 2 ≡ false ∷ false ∷ true ∷ true ∷ []
  -- at revision 1 the second group has no edit, so that it decides nothing
  pub earlier : hidden_under two_groups (1 ∷ 2 ∷ []) 1 ≡ hidden_under two_groups (1 ∷ []) 1
  -- an undo of both changes nothing of what the first one hides
  pub undone : hidden_under (undid two_groups (1 ∷ 2 ∷ [])) (1 ∷ []) 3 ≡ hidden_under two_groups (1 ∷ []) 2

-- The history of positions behind a history of characters, and the edit of positions behind an edit of text.
use Rattle.std.specs.Prelude.{Bool, true, false, List, [], ◌∷◌, map}
use Rattle.plain_text.specs.Woven.{woven}
use Rattle.plain_edits.specs.History.{Tagged, History}
use Rattle.plain_edits.specs.Edits.{PlainEdit, inserted_at, is_deleted_by}
use Rattle.rev_list.specs.declared.edit.RevEdit.{RevEdit}

-- the character, without saying which
abbrev pub without_character : Tagged → Tagged
without_character tagged = record tagged { character = 0 }

-- the history with no text
abbrev pub without_text : History → History
without_text history = record history { characters = map without_character history.characters }

-- which positions of the longer union the edit inserts, and which it deletes
abbrev pub insertion_flags : History → PlainEdit → List Bool
insertion_flags history e = woven (λ index. map (λ _. true) (inserted_at history e index)) (λ _ _. false ∷ []) 0 history.characters

abbrev pub deletion_flags : History → PlainEdit → List Bool
deletion_flags history e =
    woven (λ index. map (λ _. false) (inserted_at history e index)) (λ index tagged. is_deleted_by history e index tagged ∷ []) 0 history.characters

-- the edit, in positions of the longer union
abbrev pub in_positions : History → PlainEdit → RevEdit
in_positions history e = record {
  base = e.base;
  priority = e.priority;
  group = e.group;
  author = e.author;
  inserted = insertion_flags history e;
  deleted = deletion_flags history e;
}

-- THE PLAIN TEXT of a document: its history, undo groups and sessions, and no view of it.
use Rattle.std.specs.Prelude.{ℕ, Bool, ◌==◌, List, replicate, Option, Some, None}
use Rattle.plain_edits.specs.History.{History, head, loaded, text_at}
use Rattle.undo_groups.specs.Groups.{Groups, no_groups}
use Rattle.edit_groups.specs.declared.typing.Typing.{Typing}

-- a text: its history, the most characters that may be inserted after loading, for each plugin, in order, the revision that its session
-- has acknowledged, or nothing where that has ended, its undo groups and its run of typing, if there is one, and the revision that was
-- loaded or last saved
pub record Writing : Type 0 where
  pub history : History
  pub limit : ℕ
  pub sessions : List (Option ℕ)
  pub groups : Groups
  pub typing : Option Typing
  pub saved : ℕ

-- the head text, and whether it is the one that was loaded or last saved
abbrev pub head_text : Writing → List ℕ
head_text text = text_at text.history (head text.history)

abbrev pub is_pristine : Writing → Bool
is_pristine text = head text.history == text.saved

-- a text that was just loaded, with so many plugins: each session is open and has acknowledged revision 0
abbrev pub loaded_text : List ℕ → ℕ → ℕ → Writing
loaded_text text plugins limit = record {
  history = loaded text;
  limit = limit;
  sessions = replicate plugins (Some 0);
  groups = no_groups;
  typing = None;
  saved = 0;
}

-- What contracts see of the text of a document in memory.
use Rattle.std.specs.Prelude.{ℕ, Bool, ◌==◌, List, Option}
use Rattle.plain_edits.specs.History.{head}
use Rattle.rev_engine.specs.State.{State, shown_at}
use Rattle.undo_groups.specs.Groups.{Groups}
use Rattle.edit_groups.specs.declared.typing.Typing.{Typing}

-- its revisions, its undo groups and its run of typing, the revision that was loaded or last saved, and what the sessions of the plugins
-- have acknowledged, or nothing where they have ended
pub record TextState : Type 0 where
  pub engine : State
  pub groups : Groups
  pub typing : Option Typing
  pub saved : ℕ
  pub sessions : List (Option ℕ)

-- what the head of an engine shows
abbrev pub head_shown : State → List ℕ
head_shown engine = shown_at engine.union engine.revisions (head engine.revisions)

-- the head text
abbrev pub text_in : TextState → List ℕ
text_in text = head_shown text.engine

-- whether that is the one that was loaded or last saved
abbrev pub is_pristine_in : TextState → Bool
is_pristine_in text = head text.engine.revisions == text.saved

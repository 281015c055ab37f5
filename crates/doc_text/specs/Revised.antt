-- What a revision makes of a text in memory.
use Rattle.std.specs.Prelude.{◌≡◌, ℕ, ◌^◌, ◌<◌, ◌≤◌, length, Option, Some, None}
use Rattle.plain_edits.specs.History.{head, text_at}
use Rattle.undo_groups.specs.Groups.{Groups}
use Rattle.selection_core.specs.Mapped.{length_after}
use Rattle.rev_engine.specs.Engine.{IsChangeBy}
use Rattle.doc_layout.specs.Changed.{IsChangeOf}
use Rattle.doc_text.specs.declared.revised.Revised.{Revised}
use Rattle.doc_text.specs.InMemory.{TextState, text_in}
use Rattle.doc_text.specs.Notices.{notice_to}
use Rattle.doc_text.specs.Revisions.{undone_text}
use Rattle.doc_text.specs.Stands.{IsTextOf}
use Rattle.doc_text.specs.Writing.{Writing, head_text}

-- whatever the plain text, a revision changes the head text, whose characters 64 bits count, it takes no gap past its end, and there are as
-- many sessions
pub record IsRevisionOf (before : TextState) (made : Revised) : Type 0 where
  pub changes : IsChangeOf (text_in before) (text_in made.text) made.units
  pub counted : length (text_in made.text) < 2 ^ 64
  pub within : length_after made.units ≤ length (text_in made.text)
  pub sessions : made.text.sessions ≡ before.sessions

-- WHAT A REVISION MAKES of a plain text, by this author: the next text, in which the text before it stays, the change of the head text, and
-- the notice of it
pub record IsRevised (before next : Writing) (author : ℕ) (made : Revised) : Type 0 where
  pub stands : IsTextOf made.text next
  pub changes : IsChangeBy before.history next.history made.units
  pub text_before : text_at next.history (head before.history) ≡ head_text before
  pub notice : made.notice ≡ notice_to before next.history author

-- an undo or a redo takes this group, where there is one, and leaves the groups so; at its end it makes no revision
abbrev pub IsTurnOf : Writing → Option ℕ → Groups → Option Revised → Type 0
IsTurnOf before None groups None = Unit {0}
IsTurnOf before None groups (Some made) = ⊥
IsTurnOf before (Some group) groups None = ⊥
IsTurnOf before (Some group) groups (Some made) = IsRevised before (undone_text before groups) 0 made

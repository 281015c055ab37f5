-- The logical lines that a revision touches by text: as the histories have it, and as the change of the text has it.
use Rattle.std.specs.Prelude.{◌≡◌, ◌≢◌, ℕ, ◌-◌}
use Rattle.plain_text.specs.declared.run.Run.{Run}
use Rattle.plain_edits.specs.declared.delta.UnitDelta.{UnitDelta}
use Rattle.plain_edits.specs.Change.{shown_indices}
use Rattle.plain_edits.specs.History.{History, head, text_at}
use Rattle.plain_screen.specs.Touched.{touched_by_text}
use Rattle.line_index.specs.Index.{touched_lines}
use Rattle.rev_engine.specs.Engine.{IsChangeBy}

-- the logical lines that are touched by text between two revisions of a history: the characters that each shows are named by their places
-- among all characters
abbrev pub touched_between : History → ℕ → ℕ → Run
touched_between history from to = touched_by_text (shown_indices history from) (shown_indices history to) (text_at history to)

-- so many lines are those that are touched between two revisions; where both show the same characters, they are one
pub record AreTouched (lines : ℕ) (history : History) (from to : ℕ) : Type 0 where
  pub some : shown_indices history from ≢ shown_indices history to →
      lines ≡ (touched_between history from to).end - (touched_between history from to).start
  pub none : shown_indices history from ≡ shown_indices history to → lines ≡ 1

-- A CHANGE TOUCHES THE LINES THAT ITS REVISION TOUCHES: from the one before its first change to the one after its last they are those from the
-- first character that is not shown at both revisions to the last
abbrev pub ChangesTouchLines : Type 0
ChangesTouchLines = (before after : History) (units : UnitDelta) → text_at after (head before) ≡ text_at before (head before) →
    IsChangeBy before after units →
    AreTouched (touched_lines units (text_at before (head before))) after (head before) (head after)

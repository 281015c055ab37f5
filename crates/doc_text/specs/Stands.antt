-- What a text in memory stands for.
use Rattle.std.specs.Prelude.{◌≡◌, ◌≤◌}
use Rattle.plain_edits.specs.History.{head}
use Rattle.doc_text.specs.Agree.{Agree}
use Rattle.doc_text.specs.Collecting.{AreAcknowledged, HasNoneLeft}
use Rattle.doc_text.specs.InMemory.{TextState}
use Rattle.doc_text.specs.Whole.{IsStateOf}
use Rattle.doc_text.specs.Writing.{Writing}

-- the text in memory is the plain one, but that groups may be left that are to be collected: they have the same history, limit, sessions,
-- which have acknowledged kept revisions, undo groups, which agree with the history, run of typing and saved revision
pub record IsTextOf (text : TextState) (plain : Writing) : Type 0 where
  pub state : IsStateOf plain.history text.engine
  pub limit : text.engine.limit ≡ plain.limit
  pub sessions : text.sessions ≡ plain.sessions
  pub acknowledged : AreAcknowledged plain.history plain.sessions
  pub groups : text.groups ≡ plain.groups
  pub typing : text.typing ≡ plain.typing
  pub agree : Agree plain.history.revisions plain.history.collected plain.groups plain.typing
  pub saved : text.saved ≡ plain.saved
  pub saved_before : plain.saved ≤ head plain.history

-- THE TEXT IN MEMORY STANDS FOR THE PLAIN ONE: it is that, and no group waits for a session where none is open
pub record TextStandsFor (text : TextState) (plain : Writing) : Type 0 where
  pub parts : IsTextOf text plain
  pub none_left : HasNoneLeft plain

-- Laws: what the definitions of a text come to, whatever the text.
use Rattle.std.specs.Prelude.{◌≡◌, ℕ, List, [], ◌++◌, None}
use Rattle.plain_edits.specs.History.{History, Revision, text_at}
use Rattle.plain_edits.specs.Delta.{Fits, keeps, adds, applied}
use Rattle.doc_text.specs.Collecting.{AreAcknowledged, AreEnded, HasNoneLeft, collection_after}
use Rattle.doc_text.specs.InMemory.{TextState}
use Rattle.doc_text.specs.Notices.{change_delta}
use Rattle.doc_text.specs.Stands.{TextStandsFor}
use Rattle.doc_text.specs.Writing.{Writing}

-- the delta of a notice fits the text of the one revision, and leads to that of the other
abbrev pub NoticesLead : Type 0
NoticesLead = (history : History) (from to : ℕ) → Fits (text_at history from) (change_delta history from to) ×
    (applied (keeps (text_at history from) (change_delta history from to)) (adds (text_at history from) (change_delta history from to))
    (text_at history from) ≡ text_at history to)

-- nothing waits that may be collected; where no session is open, no group is left that no undo reaches any more
abbrev pub NoneIsLeft : Type 0
NoneIsLeft = (text : TextState) (plain : Writing) → TextStandsFor text plain →
    HasNoneLeft plain × (AreEnded plain.sessions → plain.groups.retired ≡ [])

-- the one text is the other after more revisions, at which no session acknowledged a revision or ended, and no group was left behind
pub record GoesOn (before after : Writing) (more : List Revision) : Type 0 where
  pub revisions : after.history.revisions ≡ before.history.revisions ++ more
  pub collected : after.history.collected ≡ before.history.collected
  pub sessions : after.sessions ≡ before.sessions
  pub retired : after.groups.retired ≡ before.groups.retired

-- where nothing waits, such revisions give nothing new to collect
abbrev pub RevisionsGiveNothing : Type 0
RevisionsGiveNothing = (before after : Writing) (more : List Revision) → AreAcknowledged before.history before.sessions →
    GoesOn before after more → HasNoneLeft before → collection_after after ≡ None

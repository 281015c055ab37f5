use Rattle.plain_edits.proofs.callers.HistoryLemmas.{text_at-edited, text_at-undid}
use Rattle.plain_laws.proofs.laws.revisions_stay.Goals as goal

pub returns : goal.returns
returns c = record { after_edit = text_at-edited; after_undo = text_at-undid }

use Rattle.plain_edits.proofs.callers.HistoryLemmas.{text_at-undid_back}
use Rattle.plain_laws.proofs.laws.undo_goes_back.Goals as goal

pub returns : goal.returns
returns c = text_at-undid_back

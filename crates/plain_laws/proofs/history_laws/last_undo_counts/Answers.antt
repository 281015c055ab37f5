use Rattle.plain_edits.proofs.callers.UndoLemmas.{text_at-undid_twice}
use Rattle.plain_laws.proofs.history_laws.last_undo_counts.Goals as goal

pub returns : goal.returns
returns c = text_at-undid_twice

use Rattle.plain_edits.proofs.callers.EditLemmas.{text_at-edited_undone}
use Rattle.plain_laws.proofs.history_laws.undone_edits_hide.Goals as goal

pub returns : goal.returns
returns c = text_at-edited_undone

use Rattle.plain_edits.proofs.callers.EditLemmas.{text_at-edited_at_head}
use Rattle.plain_laws.proofs.laws.edits_apply.Goals as goal

pub returns : goal.returns
returns c = text_at-edited_at_head

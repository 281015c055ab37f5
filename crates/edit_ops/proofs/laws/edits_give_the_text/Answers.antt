use Rattle.edit_ops.proofs.LawLemmas.{text_with-edit}
use Rattle.edit_ops.proofs.laws.edits_give_the_text.Goals as goal

pub returns : goal.returns
returns c = text_with-edit

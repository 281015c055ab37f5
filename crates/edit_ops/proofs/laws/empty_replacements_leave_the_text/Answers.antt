use Rattle.edit_ops.proofs.LawLemmas.{text_with-empty}
use Rattle.edit_ops.proofs.laws.empty_replacements_leave_the_text.Goals as goal

pub returns : goal.returns
returns c = text_with-empty

use Rattle.edit_ops.proofs.LawLemmas.{text_with-deletions}
use Rattle.edit_ops.proofs.laws.deletions_leave_the_rest.Goals as goal

pub returns : goal.returns
returns c = text_with-deletions

use Rattle.edit_ops.proofs.LawLemmas.{length-text_with}
use Rattle.edit_ops.proofs.laws.ends_stay_ends.Goals as goal

pub returns : goal.returns
returns c = length-text_with

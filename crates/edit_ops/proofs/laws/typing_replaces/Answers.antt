use Rattle.edit_ops.proofs.LawLemmas.{typing}
use Rattle.edit_ops.proofs.laws.typing_replaces.Goals as goal

pub returns : goal.returns
returns c = typing

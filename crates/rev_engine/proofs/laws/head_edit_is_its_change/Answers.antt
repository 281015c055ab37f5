use Rattle.std.proofs.Common.{refl}
use Rattle.plain_edits.specs.History.{head}
use Rattle.rev_engine.proofs.HeadLemmas.{IsChangeBy-head}
use Rattle.rev_engine.proofs.laws.head_edit_is_its_change.Goals as goal

pub returns : goal.returns
returns c = λ history edit sound live canonical base. IsChangeBy-head history (head history) edit sound refl live canonical base

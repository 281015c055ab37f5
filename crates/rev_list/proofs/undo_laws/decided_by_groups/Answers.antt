use Rattle.std.proofs.Common.{refl}
use Rattle.rev_list.proofs.UnderLemmas.{hidden_under-agree}
use Rattle.rev_list.proofs.undo_laws.decided_by_groups.Goals as goal

pub returns-clause-same : goal.returns-clause-same
returns-clause-same c = λ history rev groups others agree. hidden_under-agree history rev groups others agree

pub returns-clause-undone : goal.returns-clause-undone
returns-clause-undone c = λ history rev. refl

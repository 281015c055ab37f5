use Rattle.collection_laws.proofs.ShownLemmas.{change_keeps-left, change_adds-left}
use Rattle.collection_laws.proofs.laws.changes_stay.Goals as goal

pub returns-clause-keeps : goal.returns-clause-keeps
returns-clause-keeps c =
    λ history from to index forgets first second.
    change_keeps-left history forgets from to index first.reached first.known second.reached second.known

pub returns-clause-adds : goal.returns-clause-adds
returns-clause-adds c =
    λ history from to gap forgets first second.
    change_adds-left history forgets from to gap first.reached first.known second.reached second.known

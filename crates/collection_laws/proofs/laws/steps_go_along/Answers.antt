use Rattle.collection_laws.proofs.EditedLemmas.{left_of-edited}
use Rattle.collection_laws.proofs.LaterLemmas.{left_of-undid}
use Rattle.collection_laws.proofs.CollectedLemmas.{left_of-collected}
use Rattle.collection_laws.proofs.laws.steps_go_along.Goals as goal

pub returns-clause-edits : goal.returns-clause-edits
returns-clause-edits c = left_of-edited

pub returns-clause-undoes : goal.returns-clause-undoes
returns-clause-undoes c = left_of-undid

pub returns-clause-collects : goal.returns-clause-collects
returns-clause-collects c = left_of-collected

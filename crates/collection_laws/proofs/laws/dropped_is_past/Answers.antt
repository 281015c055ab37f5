use Rattle.plain_edits.proofs.callers.WellFormedLemmas.{dropped_is_hidden}
use Rattle.collection_laws.proofs.DroppedLemmas.{all_dropped_old}
use Rattle.collection_laws.proofs.laws.dropped_is_past.Goals as goal

pub returns-clause-old : goal.returns-clause-old
returns-clause-old c = all_dropped_old

pub returns-clause-unseen : goal.returns-clause-unseen
returns-clause-unseen c =
    λ history rev forgets is_kept. dropped_is_hidden history rev forgets.formed is_kept.reached is_kept.known

use Rattle.collection_laws.proofs.DroppedLemmas.{dropped_stands_apart, later_run-without_dropped}
use Rattle.collection_laws.proofs.laws.dropped_stands_apart.Goals as goal

pub returns-clause-apart : goal.returns-clause-apart
returns-clause-apart c = dropped_stands_apart

pub returns-clause-runs : goal.returns-clause-runs
returns-clause-runs c =
    λ history base gap forgets is_kept. later_run-without_dropped history base gap forgets is_kept.reached is_kept.known

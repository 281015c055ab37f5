use Rattle.std.proofs.Common.{◌≡◌}
use Rattle.plain_edits.specs.Collection.{clean_floor}
use Rattle.plain_collection.proofs.floors.clean_floor.Given as goal

abbrev pub invariant-loop-floor : goal.invariant-loop-floor
invariant-loop-floor l = clean_floor l.history.revisions l.floor ≡ clean_floor l.history.revisions l.most

abbrev pub decreases-loop-floor : goal.decreases-loop-floor
decreases-loop-floor l = l.floor

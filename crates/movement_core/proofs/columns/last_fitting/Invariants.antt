use Rattle.std.proofs.Common.{◌≡◌, length}
use Rattle.std.specs.Str.{chars}
use Rattle.cluster_core.specs.Boundaries.{clusters_in}
use Rattle.cluster_core.specs.Walk.{counted_anew, placed, walk_left}
use Rattle.movement_core.specs.Inner.{fitting, items_past}
use Rattle.movement_core.proofs.columns.last_fitting.Given as goal

abbrev pub invariant-loop-item : goal.invariant-loop-item
invariant-loop-item l = fitting l.last l.column l.best (walk_left l.walk)
    ≡ fitting l.last l.column l.from (counted_anew l.tab 0 (items_past l.from 0 (placed l.tab 0 0 (clusters_in (chars l.line)))))

abbrev pub decreases-loop-item : goal.decreases-loop-item
decreases-loop-item l = length (walk_left l.walk)

use Rattle.std.proofs.Common.{length, drop, sym, subst}
use Rattle.std.specs.Str.{chars}
use Rattle.cluster_core.specs.Boundaries.{clusters_in}
use Rattle.cluster_core.specs.Walk.{AreFirst, placed, WalkBegins, walk_left}
use Rattle.cluster_core.proofs.WalkLemmas.{placed-first}
use Rattle.cluster_core.proofs.walk.Walk.alone.Goals as goal

pub returns-clause-first : goal.returns-clause-first
unfolding walk_left
returns-clause-first c =
    let walk = c.args.self.now in
    let run = c.first_alone.result.now in
    subst (λ clusters. AreFirst run (placed walk.tab walk.gap walk.column clusters)) (sym c.first_alone.ensures.clusters)
    (placed-first walk.tab walk.gap walk.column walk.rest.now run (clusters_in (chars (drop (length run) walk.rest.now))) c.first_alone.ensures.begins)

pub returns-clause-begins : goal.returns-clause-begins
unfolding WalkBegins
returns-clause-begins c = c.first_alone.ensures.begins

use Rattle.std.proofs.Common.{◌+◌, length, drop, ap, sym, ◌∙◌, refl}
use Rattle.std.specs.Str.{chars}
use Rattle.cluster_core.specs.Boundaries.{clusters_in}
use Rattle.cluster_core.specs.Walk.{placed, WalkBegins, walk_left, walk_tab}
use Rattle.cluster_core.proofs.WalkLemmas.{placed-past}
use Rattle.cluster_core.proofs.walk.Walk.past.Goals as goal

pub past_alone-rest-requires : goal.past_alone-rest-requires
unfolding WalkBegins
past_alone-rest-requires c = c.requires

pub returns-clause-left : goal.returns-clause-left
unfolding walk_left WalkBegins
returns-clause-left c =
    let walk = c.args.self.now in
    let run = c.args.run.now in
    ap (λ bytes. placed walk.tab (walk.gap + length run) (walk.column + length run) (clusters_in (chars bytes))) c.past_alone-rest.ensures.rest ∙
    placed-past walk.tab walk.gap walk.column walk.rest.now run (clusters_in (chars (drop (length run) walk.rest.now))) c.requires ∙
    ap (λ clusters. drop (length run) (placed walk.tab walk.gap walk.column clusters)) (sym c.past_alone-rest.ensures.clusters)

pub returns-clause-tab : goal.returns-clause-tab
unfolding walk_tab
returns-clause-tab c = refl

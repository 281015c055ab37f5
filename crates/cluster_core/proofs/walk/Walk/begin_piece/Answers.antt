use Rattle.std.proofs.Common.{refl, sym}
use Rattle.std.specs.Str.{chars}
use Rattle.cluster_core.specs.Boundaries.{clusters_in}
use Rattle.cluster_core.specs.Walk.{walk_left, walk_tab}
use Rattle.cluster_core.proofs.ForCallers.{counted_anew-placed}
use Rattle.cluster_core.proofs.walk.Walk.begin_piece.Goals as goal

pub returns-clause-left : goal.returns-clause-left
unfolding walk_left walk_tab
returns-clause-left c =
    sym (counted_anew-placed c.args.self.now.tab c.args.self.now.gap c.args.self.now.column 0 (clusters_in (chars c.args.self.now.rest.now)))

pub returns-clause-tab : goal.returns-clause-tab
unfolding walk_tab
returns-clause-tab c = refl

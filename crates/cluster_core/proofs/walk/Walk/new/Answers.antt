use Rattle.std.proofs.Common.{refl}
use Rattle.cluster_core.specs.Walk.{walk_left, walk_tab}
use Rattle.cluster_core.proofs.walk.Walk.new.Goals as goal

pub returns-clause-left : goal.returns-clause-left
unfolding walk_left
returns-clause-left c = refl

pub returns-clause-tab : goal.returns-clause-tab
unfolding walk_tab
returns-clause-tab c = refl

use Rattle.std.proofs.Common.{◌+◌, ◌*◌}
use Rattle.shared_tree.proofs.cut.+front.Given as goal

abbrev pub decreases-front_in : goal.decreases-front_in
decreases-front_in g l = 2 * l.node.now.height

abbrev pub decreases-front_of : goal.decreases-front_of
decreases-front_of g l = 2 * l.height + 1

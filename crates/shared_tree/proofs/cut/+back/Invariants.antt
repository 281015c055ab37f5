use Rattle.std.proofs.Common.{◌+◌, ◌*◌}
use Rattle.shared_tree.proofs.cut.+back.Given as goal

abbrev pub decreases-back_in : goal.decreases-back_in
decreases-back_in g l = 2 * l.node.now.height

abbrev pub decreases-back_of : goal.decreases-back_of
decreases-back_of g l = 2 * l.height + 1

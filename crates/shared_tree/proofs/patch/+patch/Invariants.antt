use Rattle.std.proofs.Common.{◌+◌, ◌*◌}
use Rattle.shared_tree.proofs.patch.+patch.Given as goal

abbrev pub decreases-patched_in : goal.decreases-patched_in
decreases-patched_in g l = 2 * l.node.now.height

abbrev pub decreases-patched_row : goal.decreases-patched_row
decreases-patched_row g l = 2 * l.height + 1

use Rattle.shared_tree.proofs.beside.+after.Given as goal

abbrev pub decreases-after : goal.decreases-after
decreases-after g l = l.height

use Rattle.shared_tree.proofs.beside.+before.Given as goal

abbrev pub decreases-before : goal.decreases-before
decreases-before g l = l.height

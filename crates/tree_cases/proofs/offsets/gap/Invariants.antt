use Rattle.tree_cases.proofs.offsets.gap.Given as goal

abbrev pub ghosts-counted_gap : goal.ghosts-counted_gap
ghosts-counted_gap a = record { name = a.blank.name; parts = a.blank.parts }

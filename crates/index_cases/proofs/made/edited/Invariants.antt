use Rattle.index_cases.proofs.made.edited.Given as goal

abbrev pub ghosts-applied : goal.ghosts-applied
ghosts-applied a = record { name = a.blank.name; parts = a.blank.parts }

use Rattle.rev_engine.proofs.short.gap_at.Given as goal

abbrev pub ghosts-gap_by : goal.ghosts-gap_by
ghosts-gap_by a = record { name = a.blank.name; parts = a.blank.parts }

use Rattle.line_index.proofs.offsets.line_run.Given as goal

abbrev pub ghosts-starts_by : goal.ghosts-starts_by
ghosts-starts_by a = record { name = a.blank.name; parts = a.blank.parts }

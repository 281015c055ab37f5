use Rattle.line_index.proofs.offsets.in_line.Given as goal

abbrev pub ghosts-in_line_by : goal.ghosts-in_line_by
ghosts-in_line_by a = record { name = a.blank.name; parts = a.blank.parts }

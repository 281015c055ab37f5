use Rattle.line_index.proofs.offsets.converted.Given as goal

abbrev pub ghosts-converted_by : goal.ghosts-converted_by
ghosts-converted_by a = record { name = a.blank.name; parts = a.blank.parts }

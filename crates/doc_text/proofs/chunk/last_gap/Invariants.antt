use Rattle.doc_text.proofs.chunk.last_gap.Given as goal

abbrev pub ghosts-last_gap_by : goal.ghosts-last_gap_by
ghosts-last_gap_by a = record { name = a.blank.name; parts = a.blank.parts }

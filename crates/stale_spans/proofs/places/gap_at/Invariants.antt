use Rattle.stale_spans.proofs.places.gap_at.Given as goal

abbrev pub ghosts-gap_by : goal.ghosts-gap_by
ghosts-gap_by a = record { name = a.blank.name; parts = a.blank.parts }

use Rattle.doc_view.proofs.indexed.first_index.Given as goal

abbrev pub ghosts-counted_index : goal.ghosts-counted_index
ghosts-counted_index a = record { name = a.blank.name; parts = a.blank.parts }

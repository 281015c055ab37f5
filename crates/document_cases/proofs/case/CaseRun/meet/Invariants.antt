use Rattle.document_cases.proofs.case.CaseRun.meet.Given as goal

abbrev pub ghosts-applied : goal.ghosts-applied
ghosts-applied a = record { name = a.blank.name; parts = a.blank.parts }

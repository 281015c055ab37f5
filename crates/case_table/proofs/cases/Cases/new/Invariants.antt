use denote.Text.{Utf8}
use denote.Shadow.{shadow}
use Rattle.case_table.proofs.Reading.{IsRead}
use Rattle.case_table.proofs.cases.Cases.new.Given as goal

-- the names below the row are read
abbrev pub invariant-loop-row : goal.invariant-loop-row
invariant-loop-row g l =
    shadow (Utf8 l.rest) × shadow (Utf8 l.before) × IsRead g.row.N l.text l.rest l.before l.places l.row

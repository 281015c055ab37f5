use Rattle.std.proofs.Common.{◌-◌}
use Rattle.case_table.proofs.Search.{IsNarrowed}
use Rattle.case_table.proofs.cases.Cases.find.Given as goal

-- the name stands, if at all, between the two ends of the search
abbrev pub invariant-loop-low : goal.invariant-loop-low
invariant-loop-low g l = IsNarrowed l.self l.name g.row.N l.low l.high

abbrev pub decreases-loop-low : goal.decreases-loop-low
decreases-loop-low g l = l.high - l.low

use Rattle.std.proofs.Common.{◌-◌}
use Rattle.number_set.proofs.SearchLemmas.{IsRange}
use Rattle.number_set.proofs.set.NumberSet.search.Given as goal

-- the number stands, if at all, between the two ends of the search
abbrev pub invariant-loop-low : goal.invariant-loop-low
invariant-loop-low l = IsRange l.self l.number l.low l.high

abbrev pub decreases-loop-low : goal.decreases-loop-low
decreases-loop-low l = l.high - l.low

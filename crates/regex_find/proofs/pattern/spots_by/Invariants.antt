use Rattle.regex.specs.Strings.{matcher_pattern, placed_spans_left}
use Rattle.regex_find.proofs.SearchLemmas.{IsSoFar}
use Rattle.regex_find.proofs.pattern.spots_by.Given as goal

abbrev pub invariant-loop-found : goal.invariant-loop-found
invariant-loop-found l = IsSoFar (matcher_pattern l.fn.matcher) l.text l.place l.gap l.runs (placed_spans_left l.found-iterator)

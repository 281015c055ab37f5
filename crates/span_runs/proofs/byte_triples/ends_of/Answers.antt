use Rattle.std.proofs.Common.{subst, sym}
use Rattle.std.specs.List.Sorted.{IsNonDecreasing}
use Rattle.std.proofs.lemmas.List.Sorted.{IsNonDecreasingBy-from_sort}
use Rattle.span_runs.proofs.byte_triples.ends_of.Goals as goal

pub returns-clause-rise : goal.returns-clause-rise
returns-clause-rise c = subst IsNonDecreasing (sym c.from_vec.ensures) (IsNonDecreasingBy-from_sort (λ gap. gap) c.sort_unstable.new.self.items c.sort_unstable.ensures.sorted)

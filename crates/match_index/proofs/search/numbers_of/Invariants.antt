use Rattle.std.proofs.Common.{◌≡◌, ◌++◌, drop, map}
use Rattle.find_core.specs.Laws.{further}
use Rattle.match_index.specs.Inner.{strides_from, EndsRise}
use Rattle.match_index.proofs.search.numbers_of.Given as goal

abbrev pub invariant-loop-run : goal.invariant-loop-run
invariant-loop-run l = record {
  made : l.numbers.items ++ strides_from l.last (map (further l.ahead) (drop l.run-index l.runs)) ≡ strides_from 0 (map (further l.ahead) l.runs);
  rise : EndsRise l.ahead l.last (drop l.run-index l.runs);
}

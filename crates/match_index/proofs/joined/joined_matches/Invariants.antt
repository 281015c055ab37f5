use Rattle.std.proofs.Common.{◌≡◌, ◌+◌, ◌-◌, ◌<◌, length, take}
use Rattle.match_index.specs.Found.{touching}
use Rattle.match_index.specs.Inner.{strides_under}
use Rattle.match_index.specs.Strides.{runs_behind, span}
use Rattle.match_index.proofs.joined.joined_matches.Given as goal

abbrev pub invariant-loop-found : goal.invariant-loop-found
invariant-loop-found l = record {
  made : l.runs ≡ touching l.run (runs_behind l.len 0 (take l.index (strides_under l.strides)));
  behind : l.end ≡ span (take l.index (strides_under l.strides));
  past : l.index < length (strides_under l.strides) → l.run.start < span (take (l.index + 1) (strides_under l.strides));
}

abbrev pub decreases-loop-found : goal.decreases-loop-found
decreases-loop-found l = length (strides_under l.strides) - l.index

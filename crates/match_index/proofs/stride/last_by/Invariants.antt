use Rattle.std.proofs.Common.{◌≡◌, ◌+◌, ◌≤◌, drop}
use Rattle.match_index.specs.Strides.{span}
use Rattle.match_index.proofs.stride.last_by.Given as goal

abbrev pub invariant-loop-stride : goal.invariant-loop-stride
invariant-loop-stride l = record {
  at : l.count ≡ l.stride-index;
  rest : l.end + span (drop l.stride-index l.numbers) ≡ span l.numbers;
  by_then : l.end ≤ l.gap;
}

use Rattle.std.proofs.Common.{◌≡◌, ◌+◌, drop}
use Rattle.match_index.specs.Strides.{span}
use Rattle.match_index.proofs.stride.span.Given as goal

abbrev pub invariant-loop-stride : goal.invariant-loop-stride
invariant-loop-stride l = record {
  rest : l.count + span (drop l.stride-index l.numbers) ≡ span l.numbers;
}

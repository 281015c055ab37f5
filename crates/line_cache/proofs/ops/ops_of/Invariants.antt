use Rattle.std.proofs.Common.{◌≡◌, ℕ, ◌<◌, ◌^◌, ◌++◌, drop}
use Rattle.std.specs.Vec.Iter.{into_iter_items}
use Rattle.line_cache.specs.Ops.{ops_by}
use Rattle.line_cache.specs.Steps.{TakesFrom}
use Rattle.line_cache.proofs.ops.ops_of.Given as goal

abbrev pub invariant-loop-step : goal.invariant-loop-step
invariant-loop-step l = record {
  so_far : l.ops ++ ops_by l.used (drop l.step-index l.step-items) l.told (into_iter_items l.rest) ≡ ops_by 0 l.step-items l.fn.numbers l.fn.lines;
  olds : (count : ℕ) × (count < 2 ^ 64) × TakesFrom l.used count (drop l.step-index l.step-items);
}

use Rattle.std.proofs.Common.{◌+◌, ◌<◌, ◌^◌, ◌++◌, length, take, drop}
use Rattle.span_styles.proofs.WalkLemmas.{IsTaking}
use Rattle.span_styles.proofs.walk.RunWalk.take_into.Given as goal

abbrev pub invariant-loop-left : goal.invariant-loop-left
invariant-loop-left l = record {
  taking : IsTaking l.made l.self l.left (l.fn.made ++ take l.n l.fn.self) (drop l.n l.fn.self);
  room : length l.made + l.left < 2 ^ 64;
}

abbrev pub decreases-loop-left : goal.decreases-loop-left
decreases-loop-left l = l.left

use Rattle.std.proofs.Common.{◌≡◌, length}
use Rattle.std.specs.Str.{chars}
use Rattle.cluster_core.specs.Walk.{walk_left, walk_tab}
use Rattle.line_break.specs.Inner.{Looked}
use Rattle.line_break.proofs.line.Line.look_through.Given as goal

abbrev pub invariant-loop-cluster : goal.invariant-loop-cluster
invariant-loop-cluster l = record {
  looked : Looked l.self.width l.self.tab (chars l.self.text.now) l.from.end l.look (walk_left l.ahead);
  tab : walk_tab l.ahead ≡ l.self.tab;
}

abbrev pub decreases-loop-cluster : goal.decreases-loop-cluster
decreases-loop-cluster l = length (walk_left l.ahead)

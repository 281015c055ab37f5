use Rattle.std.proofs.Common.{◌≡◌, ◌+◌, ◌-◌, ◌≤◌}
use Rattle.std.specs.Prelude.{slice_range}
use Rattle.plain_text.specs.Lines.{logical_lines}
use Rattle.line_index.specs.Cuts.{cuts_of_lines}
use Rattle.line_index.specs.Inner.{cuts_under}
use Rattle.line_index.proofs.cutting.Cutting.cuts.Given as goal

abbrev pub invariant-loop-at : goal.invariant-loop-at
invariant-loop-at g l = record {
  low : l.from ≤ l.at;
  high : l.at ≤ l.to;
  made : cuts_under l.tree ≡ cuts_of_lines l.self.width l.self.tab (slice_range (logical_lines l.self.rope.now) l.from l.at);
  ticks : l.steps ≤ l.fn.steps + (l.at - l.from);
}

abbrev pub decreases-loop-at : goal.decreases-loop-at
decreases-loop-at g l = l.to - l.at

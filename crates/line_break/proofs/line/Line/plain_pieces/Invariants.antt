use Rattle.std.proofs.Common.{◌-◌, ◌+◌, ◌≤◌, length}
use Rattle.std.specs.Str.{chars}
use Rattle.line_break.specs.Inner.{AddsPieces}
use Rattle.line_break.proofs.line.Line.plain_pieces.Given as goal

abbrev pub invariant-loop-next : goal.invariant-loop-next
invariant-loop-next l = record {
  few : l.len ≤ length l.run;
  fits : l.from.end + l.len ≤ l.self.len;
  pieces : AddsPieces l.self.width l.self.tab (chars l.self.text.now) l.from.end (l.from.end + l.len) l.initial.ends.items l.ends.items;
}

abbrev pub decreases-loop-next : goal.decreases-loop-next
decreases-loop-next l = length l.run - l.len

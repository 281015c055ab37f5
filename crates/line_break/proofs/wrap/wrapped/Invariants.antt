use Rattle.std.proofs.Common.{◌-◌, ◌++◌, ℕ, List, length}
use Rattle.std.specs.Str.{chars}
use Rattle.line_break.specs.Test.{AreBreaksFrom}
use Rattle.line_break.specs.Inner.{StandsAt}
use Rattle.line_break.proofs.wrap.wrapped.Given as goal

abbrev pub invariant-loop-next : goal.invariant-loop-next
invariant-loop-next l = record {
  stands : StandsAt l.line.tab (chars l.line.text.now) l.at;
  so_far : (rest : List ℕ) → AreBreaksFrom l.line.width l.line.tab (chars l.line.text.now) l.at.end rest
      → AreBreaksFrom l.line.width l.line.tab (chars l.line.text.now) 0 (l.ends.items ++ rest);
}

abbrev pub decreases-loop-next : goal.decreases-loop-next
decreases-loop-next l = length (chars l.line.text.now) - l.at.end

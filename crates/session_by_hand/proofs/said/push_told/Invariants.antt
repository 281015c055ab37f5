use Rattle.std.proofs.Common.{◌≡◌, ◌++◌, drop}
use Rattle.session_by_hand.specs.Said.{told_lines}
use Rattle.session_by_hand.proofs.said.push_told.Given as goal

-- what is said so far, and what the rest says
abbrev pub invariant-loop-line : goal.invariant-loop-line
invariant-loop-line l = l.out.items ++ told_lines (drop l.line-index l.line-items) ≡ l.initial.out.items ++ told_lines l.lines

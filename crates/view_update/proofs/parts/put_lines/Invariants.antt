use Rattle.std.proofs.Common.{map}
use Rattle.view_update.specs.Written.{line_data}
use Rattle.view_update.specs.Fair.{IsFairLine}
use Rattle.view_update.proofs.Made.{Put}
use Rattle.view_update.proofs.parts.put_lines.Given as goal

abbrev pub invariant-loop-line : goal.invariant-loop-line
invariant-loop-line l = Put (map line_data) IsFairLine l.lines l.line-index l.initial.out l.out

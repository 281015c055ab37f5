use Rattle.std.proofs.Common.{◌≡◌, ◌≤◌, length, drop}
use Rattle.plain_text.specs.InputLines.{lines_of}
use Rattle.macro_record.proofs.playing.skip_lines.Given as goal

abbrev pub invariant-loop-left : goal.invariant-loop-left
invariant-loop-left l = record {
  room : l.left ≤ length (lines_of l.rest);
  so_far : drop l.left (lines_of l.rest) ≡ drop l.fn.count (lines_of l.fn.bytes);
}

abbrev pub decreases-loop-left : goal.decreases-loop-left
decreases-loop-left l = l.left

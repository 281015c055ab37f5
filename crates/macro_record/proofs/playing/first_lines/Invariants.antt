use Rattle.std.proofs.Common.{◌≡◌, ◌≤◌, ◌++◌, length, take}
use Rattle.std.specs.List.{flat_map}
use Rattle.plain_text.specs.InputLines.{lines_of}
use Rattle.macro_record.specs.Played.{with_lf}
use Rattle.macro_record.proofs.playing.first_lines.Given as goal

abbrev pub invariant-loop-left : goal.invariant-loop-left
invariant-loop-left l = record {
  room : l.left ≤ length (lines_of l.rest);
  so_far : flat_map with_lf (take l.fn.count (lines_of l.fn.bytes)) ≡ l.made.items ++ flat_map with_lf (take l.left (lines_of l.rest));
}

abbrev pub decreases-loop-left : goal.decreases-loop-left
decreases-loop-left l = l.left

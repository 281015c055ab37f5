use Rattle.std.proofs.Common.{◌≡◌, ◌+◌, ◌≤◌, length}
use Rattle.plain_text.specs.InputLines.{lines_of}
use Rattle.macro_record.proofs.playing.line_count.Given as goal

abbrev pub invariant-loop-rest : goal.invariant-loop-rest
invariant-loop-rest l = record {
  so_far : l.count + length (lines_of l.rest) ≡ length (lines_of l.initial.rest);
  small : l.count + length l.rest ≤ length l.initial.rest;
}

abbrev pub decreases-loop-rest : goal.decreases-loop-rest
decreases-loop-rest l = length l.rest

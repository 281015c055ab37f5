use Rattle.std.proofs.Common.{◌≡◌, ◌++◌, drop, map}
use Rattle.stale_spans.specs.Marks.{meaning_of, piece_of}
use Rattle.stale_spans.proofs.marks.pieces.Given as goal

abbrev pub invariant-loop-mark : goal.invariant-loop-mark
invariant-loop-mark l = l.made.items ++ map (piece_of (meaning_of l.spans)) (drop l.mark-index l.marks) ≡ map (piece_of (meaning_of l.spans)) l.marks

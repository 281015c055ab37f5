use Rattle.std.proofs.Common.{◌≡◌, ◌++◌, drop, length}
use Rattle.stale_spans.specs.Marks.{marks_of, numbered_spans}
use Rattle.stale_spans.proofs.marks.marks_of.Given as goal

abbrev pub invariant-loop-span : goal.invariant-loop-span
invariant-loop-span l = l.made ++ numbered_spans (length l.made) (drop l.span-index l.spans) ≡ marks_of l.fn.range l.spans

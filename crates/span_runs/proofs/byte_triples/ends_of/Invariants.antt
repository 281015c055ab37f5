use Rattle.std.proofs.Common.{◌≡◌, ◌++◌, drop}
use Rattle.span_runs.specs.Places.{ends_of}
use Rattle.span_runs.proofs.byte_triples.ends_of.Given as goal

abbrev pub invariant-loop-span : goal.invariant-loop-span
invariant-loop-span l = l.gaps.items ++ ends_of (drop l.span-index l.spans) ≡ ends_of l.spans

use Rattle.std.proofs.Common.{◌≡◌, ◌++◌, drop}
use Rattle.line_render.specs.Rendered.{cut_spans}
use Rattle.line_render.proofs.cuts.put_cuts.Given as goal

abbrev pub invariant-loop-span : goal.invariant-loop-span
invariant-loop-span l = l.list ++ cut_spans l.start l.end (drop l.span-index l.spans) ≡ l.initial.list ++ cut_spans l.start l.end l.spans

use Rattle.std.proofs.Common.{◌≡◌, map, take}
use Rattle.line_render.specs.Inner.{styled_span}
use Rattle.doc_layout.proofs.found.spans_of.Given as goal

abbrev pub invariant-loop-run : goal.invariant-loop-run
invariant-loop-run l = l.spans ≡ map (styled_span 1) (take l.run-index l.runs)

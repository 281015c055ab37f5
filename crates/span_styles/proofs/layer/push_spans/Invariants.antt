use Rattle.std.proofs.Common.{◌++◌, length}
use Rattle.span_runs.specs.Spans.{spans_in}
use Rattle.span_styles.proofs.ShowLemmas.{IsShowing}
use Rattle.span_styles.proofs.layer.push_spans.Given as goal

abbrev pub invariant-loop-at : goal.invariant-loop-at
invariant-loop-at l = IsShowing l.spans l.walk l.at l.range.end (l.fn.spans ++ spans_in l.range l.layer)

abbrev pub decreases-loop-at : goal.decreases-loop-at
decreases-loop-at l = length l.walk

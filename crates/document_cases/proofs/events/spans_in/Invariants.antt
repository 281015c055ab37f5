use Rattle.std.proofs.Common.{length}
use Rattle.stale_spans.specs.Places.{StandIn}
use Rattle.document_cases.proofs.events.spans_in.Given as goal

abbrev pub decreases-spans : goal.decreases-spans
decreases-spans l = length l.words.rest.now

abbrev pub invariant-spans : goal.invariant-spans
invariant-spans l = StandIn l.len l.spans

use Rattle.plugin_side.proofs.Made.{MadeOfSpans}
use Rattle.plugin_side.proofs.span_value.spans_value.Given as goal

abbrev pub invariant-loop-span : goal.invariant-loop-span
invariant-loop-span l = MadeOfSpans l.spans l.span-index l.made.items

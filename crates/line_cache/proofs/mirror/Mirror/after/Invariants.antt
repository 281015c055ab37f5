use Rattle.std.proofs.Common.{◌≡◌, length, take}
use Rattle.line_cache.specs.Steps.{lines_in, shown_by}
use Rattle.line_cache.proofs.mirror.Mirror.after.Given as goal

abbrev pub invariant-loop-step : goal.invariant-loop-step
invariant-loop-step l = record {
  shown : l.lines ≡ shown_by (take l.step-index l.step-items);
  count : length l.lines ≡ lines_in (take l.step-index l.step-items);
}

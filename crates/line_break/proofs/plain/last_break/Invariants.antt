use Rattle.std.proofs.Common.{◌≤◌}
use Rattle.line_break.specs.Plain.{BreaksNowhere}
use Rattle.line_break.proofs.plain.last_break.Given as goal

abbrev pub invariant-loop-len : goal.invariant-loop-len
invariant-loop-len l = record {
  few : l.len ≤ l.stop;
  nowhere : BreaksNowhere l.run l.len l.stop;
}

abbrev pub decreases-loop-len : goal.decreases-loop-len
decreases-loop-len l = l.len

use Rattle.std.proofs.Common.{◌-◌}
use Rattle.plain_screen.proofs.callers.OwnLemmas.{EndsIn}
use Rattle.plain_view.proofs.view.PlainView.end_under.Given as goal

abbrev pub invariant-loop-at : goal.invariant-loop-at
invariant-loop-at l = EndsIn l.self.text l.self.pieces l.line l.at l.end

abbrev pub decreases-loop-at : goal.decreases-loop-at
decreases-loop-at l = l.lines - l.at

use Rattle.plain_screen.proofs.callers.OwnLemmas.{StandsIn}
use Rattle.plain_view.proofs.view.PlainView.start_under.Given as goal

abbrev pub invariant-loop-piece : goal.invariant-loop-piece
invariant-loop-piece l = StandsIn l.self.text l.self.pieces l.line l.at

abbrev pub decreases-loop-piece : goal.decreases-loop-piece
decreases-loop-piece l = l.at

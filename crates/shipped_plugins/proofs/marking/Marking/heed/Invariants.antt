use Rattle.shipped_plugins.specs.Turns.{utf8_of}
use Rattle.shipped_plugins.specs.Todo.{todo_step}
use Rattle.shipped_plugins.proofs.TurnLemmas.{HeededSoFar}
use Rattle.shipped_plugins.proofs.marking.Marking.heed.Given as goal

abbrev pub invariant-loop-line : goal.invariant-loop-line
invariant-loop-line l = HeededSoFar todo_step l.fn.self l.self l.lines l.line-index (utf8_of l.fn.given) (utf8_of l.given)

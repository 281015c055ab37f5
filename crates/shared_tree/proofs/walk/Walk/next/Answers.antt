use Rattle.shared_tree.proofs.PlaceLemmas.{at-drop}
use Rattle.shared_tree.proofs.walk.Walk.next.Goals as goal

pub returns-clause-given : goal.returns-clause-given
returns-clause-given g c = rw (← c.self.view_is, c.len-2.ensures) (at-drop _ _ _ _ c.get-index.ensures)

use Rattle.std.proofs.lemmas.List.{drop-map, take-map}
use Rattle.shared_tree.proofs.batch.BatchLeaf.part.Goals as goal

pub returns : goal.returns
returns g c =
    let made = rw c.deref.ensures.value at c.in_ok-copied.ensures in
    rw (← c.self.view_is) (simp (drop-map, take-map) made)

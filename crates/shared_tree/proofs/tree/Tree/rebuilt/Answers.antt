use Rattle.std.proofs.Common.{arith, append_assoc, drop, take}
use Rattle.shared_tree.specs.Row.{items_of}
use Rattle.shared_tree.proofs.PatchLemmas.{fits_with_front}
use Rattle.shared_tree.proofs.tree.Tree.rebuilt.Goals as goal

pub front-requires : goal.front-requires
front-requires g c = omega (arith, c.requires.ordered, c.requires.inside)

pub back-requires : goal.back-requires
back-requires g c = c.requires.inside

pub joined-requires : goal.joined-requires
joined-requires g c =
    rw c.in_ok-front.ensures (fits_with_front g.L.Leaf g.L.Sum.Summary g.met.L.Sum.Summary.adds g.met.L.Leaf.sums (take c.args.from (items_of g.L.Leaf c.args.self.now)) (items_of g.L.Leaf c.args.other.now) (drop c.args.to (items_of g.L.Leaf c.args.self.now)) c.requires.fits)

pub joined-requires-2 : goal.joined-requires-2
joined-requires-2 g c =
    rw (c.in_ok-joined.ensures, c.in_ok-front.ensures, c.in_ok-back.ensures, append_assoc) c.requires.fits

pub returns : goal.returns
returns g c =
    rw (c.in_ok-joined.ensures, c.in_ok-front.ensures, c.in_ok-back.ensures, append_assoc) at c.joined-3.ensures

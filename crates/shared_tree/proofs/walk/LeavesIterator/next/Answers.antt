use Rattle.std.proofs.Common.{◌≡◌, ◌+◌, ◌<◌, [], ◌∷◌, length, sym, ap, ◌∙◌, arith}
use Rattle.shared_tree.specs.Places.{leaves_from, IsSeam}
use Rattle.shared_tree.proofs.PlaceLemmas.{seam_end, seam_gives, seam_inside, seam_next}
use Rattle.shared_tree.proofs.walk.LeavesIterator.next.Goals as goal

pub returns-then-self-len-clause-steps : goal.returns-then-self-len-clause-steps
returns-then-self-len-clause-steps g c =
    let tree = c.self.inside.tree.now in
    let none : leaves_from g.L.Leaf c.self.inside.at tree.leaves ≡ [] = seam_end g.L.Leaf g.L.Sum.Summary g.met.L.Sum.Summary.adds g.met.L.Leaf.sums c.self.inside.at tree.leaves c.self.invariant.0 c.self.invariant.1 (omega (arith, c.if-self-len.true, c.len.ensures)) in
    (sym c.self.view_is ∙ none, sym c.self.view_is ∙ none)

pub overflow_add-self : goal.overflow_add-self
overflow_add-self g c =
    let tree = c.self.inside.tree.now in
    let next : IsSeam g.L.Leaf (c.self.inside.at + length (g.L.Leaf.items c.find.result.0.now)) tree.leaves = seam_next g.L.Leaf g.L.Sum.Summary g.met.L.Sum.Summary.adds g.met.L.Leaf.sums c.self.inside.at tree.leaves c.find.result.0.now _ c.self.invariant.0 c.self.invariant.1 c.find.ensures in
    omega (arith, seam_inside g.L.Leaf g.L.Sum.Summary g.met.L.Sum.Summary.adds g.met.L.Leaf.sums _ tree.leaves next, c.len.ensures, c.len.type_inv, c.len-2.ensures)

pub invariant_of-self : goal.invariant_of-self
invariant_of-self g c =
    rw c.len-2.ensures (seam_next g.L.Leaf g.L.Sum.Summary g.met.L.Sum.Summary.adds g.met.L.Leaf.sums c.self.inside.at c.self.inside.tree.now.leaves c.find.result.0.now _ c.self.invariant.0 c.self.invariant.1 c.find.ensures, c.self.invariant.1)

pub returns-clause-steps : goal.returns-clause-steps
returns-clause-steps g c =
    rw c.len-2.ensures (sym c.self.view_is ∙ seam_gives g.L.Leaf g.L.Sum.Summary g.met.L.Sum.Summary.adds g.met.L.Leaf.sums c.self.inside.at c.self.inside.tree.now.leaves c.find.result.0.now _ c.self.invariant.0 c.self.invariant.1 c.find.ensures)

pub returns-clause-goes : goal.returns-clause-goes
returns-clause-goes g c =
    let tree = c.self.inside.tree.now in
    let gives : c.args.self.now ≡ c.find.result.0.now ∷ leaves_from g.L.Leaf (c.self.inside.at + length (g.L.Leaf.items c.find.result.0.now)) tree.leaves = sym c.self.view_is ∙ seam_gives g.L.Leaf g.L.Sum.Summary g.met.L.Sum.Summary.adds g.met.L.Leaf.sums c.self.inside.at tree.leaves c.find.result.0.now _ c.self.invariant.0 c.self.invariant.1 c.find.ensures in
    let fewer : length (leaves_from g.L.Leaf (c.self.inside.at + length (g.L.Leaf.items c.find.result.0.now)) tree.leaves) < length c.args.self.now = omega (arith, ap length gives) in
    rw c.len-2.ensures (record { on = λ _. (tt, tt, fewer); keeps = tt; rests = λ _. tt })

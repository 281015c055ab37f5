use Rattle.std.proofs.Common.{◌-◌, arith}
use Rattle.shared_tree.proofs.RowLemmas.{level_at}
use Rattle.shared_tree.proofs.PlaceLemmas.{found_below, found_fits, found_whole}
use Rattle.shared_tree.proofs.node.Node.child.Goals as goal

pub seek-i-requires-clause-fits : goal.seek-i-requires-clause-fits
seek-i-requires-clause-fits g c = rw c.kids-kids.ensures.same c.requires.fits

pub seek-i-requires-clause-reached : goal.seek-i-requires-clause-reached
seek-i-requires-clause-reached g c = rw c.kids-kids.ensures.same c.requires.reached

pub returns-clause-below : goal.returns-clause-below
returns-clause-below g c =
    let level = level_at g.L.Leaf (c.args.self.now.height - 1) c.kids-kids.result.now c.seek-i.result.0 c.index-kids-i.result c.seek-i.ensures.inside c.index-kids-i.is c.kids-kids.ensures.kids.levels in
    rw c.deref.ensures (omega (arith, level.level, c.requires.above))

pub returns-clause-found : goal.returns-clause-found
returns-clause-found g c =
    let whole = found_whole g.L.Leaf g.L.Sum.Summary g.met.L.Sum.Summary.adds g.met.L.Leaf.sums (g.M.Measure.width c.args.measure.now) c.args.before c.args.self.now.leaves c.args.at c.requires.passed c.requires.reached in
    rw c.deref.ensures (found_below g.L.Leaf g.L.Sum.Summary g.met.L.Sum.Summary.adds g.met.L.Leaf.sums _ _ _ _ _ _ _ c.kids-kids.result.now c.seek-i.result.0 c.index-kids-i.result whole c.kids-kids.ensures.leaves c.seek-i.ensures.inside c.index-kids-i.is c.seek-i.ensures.sum c.seek-i.ensures.passed c.seek-i.ensures.reached)

pub returns-clause-fits : goal.returns-clause-fits
returns-clause-fits g c =
    let whole = found_whole g.L.Leaf g.L.Sum.Summary g.met.L.Sum.Summary.adds g.met.L.Leaf.sums (g.M.Measure.width c.args.measure.now) c.args.before c.args.self.now.leaves c.args.at c.requires.passed c.requires.reached in
    let found = found_below g.L.Leaf g.L.Sum.Summary g.met.L.Sum.Summary.adds g.met.L.Leaf.sums _ _ _ _ _ _ _ c.kids-kids.result.now c.seek-i.result.0 c.index-kids-i.result whole c.kids-kids.ensures.leaves c.seek-i.ensures.inside c.index-kids-i.is c.seek-i.ensures.sum c.seek-i.ensures.passed c.seek-i.ensures.reached in
    rw c.deref.ensures (found_fits g.L.Leaf g.L.Sum.Summary g.met.L.Sum.Summary.adds g.met.L.Leaf.sums _ _ _ _ _ _ found c.requires.fits)

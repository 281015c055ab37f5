use Rattle.std.proofs.Common.{◌≡◌, ◌+◌, ◌-◌, ◌<◌, length, arith}
use Rattle.std.proofs.lemmas.List.{take_all}
use Rattle.shared_tree.proofs.SumLemmas.{sum_fits, sum_more}
use Rattle.shared_tree.proofs.seek.seek.Goals as goal

pub plus-end-requires : goal.plus-end-requires
plus-end-requires g c =
    let inside : c.loop-i.i < length c.args.row.now = omega arith in
    let more = sum_more g.L.Leaf g.L.Sum.Summary g.met.L.Sum.Summary.adds g.met.L.Leaf.sums c.args.row.now c.loop-i.i c.index-row-i.result c.args.before c.loop-i.sum inside c.index-row-i.is c.loop-i.invariant.sum in
    rw (c.summary.ensures, c.deref.ensures, more) (sum_fits g.L.Leaf g.L.Sum.Summary g.met.L.Sum.Summary.adds g.met.L.Leaf.sums c.args.row.now (c.loop-i.i + 1) c.args.before c.requires.fits)

pub returns : goal.returns
returns g c =
    let row = c.args.row.now in
    let last : c.loop-i.i ≡ length row - 1 = omega arith in
    let whole : length row - 1 + 1 ≡ length row = omega (arith, c.requires.some) in
    record {
      inside = omega (arith, c.requires.some);
      sum = rw last at c.loop-i.invariant.sum;
      passed = c.loop-i.invariant.passed;
      reached = rw (whole, take_all (length row) row (omega arith)) c.requires.reached;
    }

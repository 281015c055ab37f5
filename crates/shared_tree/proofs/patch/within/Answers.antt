use Rattle.std.proofs.Common.{length, ap, arith}
use Rattle.std.proofs.lemmas.List.{length-map}
use Rattle.std.proofs.lemmas.Result.{IfOk-weaker}
use Rattle.std.specs.Arc.{arc_value}
use Rattle.shared_tree.proofs.PatchLemmas.{put_row}
use Rattle.shared_tree.proofs.RowLemmas.{back_levels, bunch_few, front_levels}
use Rattle.shared_tree.proofs.SumLemmas.{IsFit-right}
use Rattle.shared_tree.proofs.patch.within.Goals as goal

pub seamed-requires-clause-right : goal.seamed-requires-clause-right
seamed-requires-clause-right g c =
    rw c.split_at-2.ensures.back (back_levels g.L.Leaf c.args.height _ c.args.nodes.now c.requires.nodes.levels)

pub seamed-requires-2-clause-left : goal.seamed-requires-2-clause-left
seamed-requires-2-clause-left g c =
    rw c.split_at.ensures.front (front_levels g.L.Leaf c.args.height _ c.args.nodes.now c.requires.nodes.levels)

pub returns-then-height-gt0 : goal.returns-then-height-gt0
returns-then-height-gt0 g c =
    IfOk-weaker c.joined_three.result _ _ (λ made is. put_row g.L.Leaf c.args.height c.args.i c.args.nodes.now c.args.row.now c.split_at.result.0.now c.split_at-2.result.1.now made.items c.requires.inside (bunch_few g.L.Leaf c.args.height c.args.nodes.now c.requires.nodes) c.requires.few c.requires.nodes.levels c.requires.row c.split_at.ensures.front c.split_at-2.ensures.back is) c.joined_three.ensures

pub joined_three-requires : goal.joined_three-requires
joined_three-requires g c =
    omega (arith, c.requires.few, c.split_at.ensures.front_len, c.split_at-2.ensures.back_len, bunch_few g.L.Leaf c.args.height c.args.nodes.now c.requires.nodes)

pub seamed-requires-clause-few : goal.seamed-requires-clause-few
seamed-requires-clause-few g c =
    omega (arith, c.requires.few, c.split_at-2.ensures.back_len, bunch_few g.L.Leaf c.args.height c.args.nodes.now c.requires.nodes)

pub seamed-requires-clause-fits : goal.seamed-requires-clause-fits
seamed-requires-clause-fits g c =
    rw c.split_at-2.ensures.back (IsFit-right g.L.Leaf g.L.Sum.Summary g.met.L.Sum.Summary.adds g.met.L.Leaf.sums _ _ c.requires.fits)

pub seamed-requires-2-clause-right : goal.seamed-requires-2-clause-right
seamed-requires-2-clause-right g c = rw c.deref.ensures.value c.in_ok-rest.ensures.levels

pub seamed-requires-2-clause-few : goal.seamed-requires-2-clause-few
seamed-requires-2-clause-few g c =
    omega (arith, c.requires.few, c.split_at.ensures.front_len, c.split_at-2.ensures.back_len, ap length c.deref.ensures.value, length-map c.in_ok-rest.rest.items arc_value, c.in_ok-rest.ensures.high, bunch_few g.L.Leaf c.args.height c.args.nodes.now c.requires.nodes)

pub seamed-requires-2-clause-fits : goal.seamed-requires-2-clause-fits
seamed-requires-2-clause-fits g c =
    rw (c.split_at.ensures.front, c.deref.ensures.value, c.in_ok-rest.ensures.same, c.split_at-2.ensures.back) c.requires.fits

use Rattle.std.proofs.Common.{arith}
use Rattle.edit_ops.proofs.PointLemmas.{line-inside, line_around-is}
use Rattle.edit_ops.proofs.points.line_region.Goals as goal

pub returns-clause-value : goal.returns-clause-value
returns-clause-value g c =
    line_around-is (g.T.TextView.text_of c.args.view.now) (g.T.TextView.pieces_of c.args.view.now) c.args.gap c.line_of.result c.logical_of-own.result c.line_of.ensures.sound c.line_of.ensures.line c.logical_of-own.ensures

pub returns-clause-inside : goal.returns-clause-inside
returns-clause-inside g c =
    let line = line-inside (g.T.TextView.text_of c.args.view.now) (g.T.TextView.pieces_of c.args.view.now) c.line_of.result c.logical_of-own.result c.logical_of-own.ensures in
    let ordered = line.0 in
    let inside = line.1 in omega arith

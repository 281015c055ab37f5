use Rattle.movement_core.proofs.BoundaryLemmas.{held-end-le, held-greatest, held-outward, held-start-le, near-high, near-low}
use Rattle.movement_core.proofs.places.outward_left.Goals as goal

pub text_around-requires-clause-start : goal.text_around-requires-clause-start
text_around-requires-clause-start g c =
    near-low (g.T.TextView.text_of c.args.view.now) (g.T.TextView.pieces_of c.args.view.now) c.args.gap c.line_of.ensures.sound c.requires.characters
    c.line_of.result c.line_of.ensures.line

pub text_around-requires-clause-end : goal.text_around-requires-clause-end
text_around-requires-clause-end g c =
    near-high (g.T.TextView.text_of c.args.view.now) (g.T.TextView.pieces_of c.args.view.now) c.args.gap c.line_of.ensures.sound c.requires.characters
    c.line_of.result c.line_of.ensures.line c.requires.inside

pub overflow_sub-gap : goal.overflow_sub-gap
overflow_sub-gap g c =
    held-start-le (g.T.TextView.text_of c.args.view.now) (g.T.TextView.pieces_of c.args.view.now) c.args.gap c.line_of.ensures.sound c.requires.characters
    c.line_of.result c.line_of.ensures.line c.in_ok-near.near c.in_ok-near.ensures

pub boundary_up_to-requires : goal.boundary_up_to-requires
boundary_up_to-requires g c =
    held-end-le (g.T.TextView.text_of c.args.view.now) (g.T.TextView.pieces_of c.args.view.now) c.args.gap c.line_of.ensures.sound c.requires.characters
    c.line_of.result c.line_of.ensures.line c.in_ok-near.near c.in_ok-near.ensures c.requires.inside

pub returns-clause-value : goal.returns-clause-value
returns-clause-value g c =
    held-outward (g.T.TextView.text_of c.args.view.now) (g.T.TextView.pieces_of c.args.view.now) c.args.gap c.line_of.ensures.sound c.requires.characters
    c.line_of.result c.line_of.ensures.line c.in_ok-near.near c.in_ok-near.ensures
    c.boundary_up_to.result c.requires.inside c.boundary_up_to.ensures

pub returns-clause-greatest : goal.returns-clause-greatest
returns-clause-greatest g c =
    held-greatest (g.T.TextView.text_of c.args.view.now) (g.T.TextView.pieces_of c.args.view.now) c.args.gap c.line_of.ensures.sound c.requires.characters
    c.line_of.result c.line_of.ensures.line c.in_ok-near.near c.in_ok-near.ensures
    c.boundary_up_to.result c.requires.inside c.boundary_up_to.ensures

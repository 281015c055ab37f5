use Rattle.std.proofs.Common.{arith, ◌∙◌}
use Rattle.movement_core.proofs.BoundaryLemmas.{held-end-lt, held-fits, held-right, held-start-le, near-high, near-low, right_of-end}
use Rattle.movement_core.proofs.places.right_of.Goals as goal

pub returns-then-gap-text_end : goal.returns-then-gap-text_end
returns-then-gap-text_end g c = right_of-end (g.T.TextView.text_of c.args.view.now) c.args.gap c.requires.characters (c.if-gap-text_end.true ∙ c.text_end.ensures)

pub text_around-requires-clause-start : goal.text_around-requires-clause-start
text_around-requires-clause-start g c =
    near-low (g.T.TextView.text_of c.args.view.now) (g.T.TextView.pieces_of c.args.view.now) c.args.gap c.line_of.ensures.sound c.requires.characters
    c.line_of.result c.line_of.ensures.line

pub text_around-requires-clause-end : goal.text_around-requires-clause-end
text_around-requires-clause-end g c =
    near-high (g.T.TextView.text_of c.args.view.now) (g.T.TextView.pieces_of c.args.view.now) c.args.gap c.line_of.ensures.sound c.requires.characters
    c.line_of.result c.line_of.ensures.line c.requires.inside

pub overflow_sub-gap : goal.overflow_sub-gap
overflow_sub-gap g c =
    held-start-le (g.T.TextView.text_of c.args.view.now) (g.T.TextView.pieces_of c.args.view.now) c.args.gap c.line_of.ensures.sound c.requires.characters
    c.line_of.result c.line_of.ensures.line c.in_ok-near.near c.in_ok-near.ensures

pub boundary_past-requires : goal.boundary_past-requires
boundary_past-requires g c =
    let le = c.requires.inside in
    held-end-lt (g.T.TextView.text_of c.args.view.now) (g.T.TextView.pieces_of c.args.view.now) c.args.gap c.line_of.ensures.sound c.requires.characters
    c.line_of.result c.line_of.ensures.line c.in_ok-near.near c.in_ok-near.ensures
    (omega (arith, c.if-gap-text_end.false, c.text_end.ensures))

pub overflow_add-result : goal.overflow_add-result
overflow_add-result g c =
    let fits =
    held-fits (g.T.TextView.text_of c.args.view.now) (g.T.TextView.pieces_of c.args.view.now) c.args.gap c.line_of.ensures.sound c.requires.characters
    c.line_of.result c.line_of.ensures.line c.in_ok-near.near c.in_ok-near.ensures
    c.boundary_past.result c.boundary_past.ensures.inside in
    let bound = c.text_end.type_inv in
    omega (arith, c.text_end.ensures)

pub returns : goal.returns
returns g c =
    let le = c.requires.inside in
    held-right (g.T.TextView.text_of c.args.view.now) (g.T.TextView.pieces_of c.args.view.now) c.args.gap c.line_of.ensures.sound c.requires.characters
    c.line_of.result c.line_of.ensures.line c.in_ok-near.near c.in_ok-near.ensures
    c.boundary_past.result (omega (arith, c.if-gap-text_end.false, c.text_end.ensures)) c.boundary_past.ensures

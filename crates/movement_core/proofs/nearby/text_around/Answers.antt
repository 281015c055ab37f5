use Rattle.std.proofs.Common.{arith}
use Rattle.movement_core.proofs.StretchLemmas.{IsStretchOf-run, run-high, run-inside, run-low}
use Rattle.movement_core.proofs.nearby.text_around.Goals as goal

pub start_by-requires-clause-ordered : goal.start_by-requires-clause-ordered
start_by-requires-clause-ordered g c =
    run-low c.plain_stand_alone.ensures (g.T.TextView.text_of c.args.view.now) (g.T.TextView.pieces_of c.args.view.now) c.args.line c.requires.characters
    c.logical_of-own.result c.logical_of-own.ensures c.args.from c.requires.start

pub start_by-requires-clause-inside : goal.start_by-requires-clause-inside
start_by-requires-clause-inside g c =
    let ordered = c.requires.ordered in
    let high =
    run-high c.plain_stand_alone.ensures (g.T.TextView.text_of c.args.view.now) (g.T.TextView.pieces_of c.args.view.now) c.args.line c.requires.characters
    c.logical_of-own.result c.logical_of-own.ensures c.args.to c.requires.end in
    let inside =
    run-inside c.plain_stand_alone.ensures (g.T.TextView.text_of c.args.view.now) (g.T.TextView.pieces_of c.args.view.now) c.args.line c.requires.characters
    c.logical_of-own.result c.logical_of-own.ensures in omega arith

pub end_past-requires-clause-ordered : goal.end_past-requires-clause-ordered
end_past-requires-clause-ordered g c =
    run-high c.plain_stand_alone.ensures (g.T.TextView.text_of c.args.view.now) (g.T.TextView.pieces_of c.args.view.now) c.args.line c.requires.characters
    c.logical_of-own.result c.logical_of-own.ensures c.args.to c.requires.end

pub end_past-requires-clause-inside : goal.end_past-requires-clause-inside
end_past-requires-clause-inside g c =
    run-inside c.plain_stand_alone.ensures (g.T.TextView.text_of c.args.view.now) (g.T.TextView.pieces_of c.args.view.now) c.args.line c.requires.characters
    c.logical_of-own.result c.logical_of-own.ensures

pub text-requires-clause-ordered : goal.text-requires-clause-ordered
text-requires-clause-ordered g c =
    let low = c.in_ok-start.ensures.high in
    let ordered = c.requires.ordered in
    let high = c.in_ok-end.ensures.low in omega arith

pub text-requires-clause-inside : goal.text-requires-clause-inside
text-requires-clause-inside g c =
    let high = c.in_ok-end.ensures.high in
    let inside =
    run-inside c.plain_stand_alone.ensures (g.T.TextView.text_of c.args.view.now) (g.T.TextView.pieces_of c.args.view.now) c.args.line c.requires.characters
    c.logical_of-own.result c.logical_of-own.ensures in omega arith

pub returns : goal.returns
returns g c =
    IsStretchOf-run c.plain_stand_alone.ensures (g.T.TextView.text_of c.args.view.now) (g.T.TextView.pieces_of c.args.view.now) c.args.line c.requires.characters
    c.logical_of-own.result c.logical_of-own.ensures c.args.from c.args.to c.in_ok-start.start c.in_ok-end.end c.in_ok-text.text
    c.requires.ordered c.requires.end c.in_ok-start.ensures c.in_ok-end.ensures c.in_ok-text.ensures

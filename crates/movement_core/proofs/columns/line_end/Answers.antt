use Rattle.std.proofs.Common.{◌≡◌, nat_le}
use Rattle.movement_core.specs.Lines.{line_end}
use Rattle.movement_core.specs.Places.{IsGreatestPlace}
use Rattle.movement_core.proofs.FitLemmas.{IfOk-more, line_end-is}
use Rattle.movement_core.proofs.columns.line_end.Goals as goal

pub outward_left-requires-clause-inside : goal.outward_left-requires-clause-inside
outward_left-requires-clause-inside g c = c.last_gap.ensures.inside

pub returns : goal.returns
returns g c =
    let text = g.T.TextView.text_of c.args.view.now in
    let pieces = g.T.TextView.pieces_of c.args.view.now in
    IfOk-more (IsGreatestPlace (λ place. nat_le place c.last_gap.result) text) (λ place. place ≡ line_end text pieces c.args.line) c.outward_left.result
    (line_end-is text pieces c.args.line c.last_gap.result c.requires.sound c.requires.characters c.requires.starts c.requires.inside c.last_gap.ensures)
    c.outward_left.ensures.greatest

use Rattle.std.proofs.Common.{sym, ◌∙◌}
use Rattle.movement_core.proofs.FitLemmas.{line_start-is}
use Rattle.plain_screen.proofs.callers.OwnLemmas.{start_of-get}
use Rattle.movement_core.proofs.LineLemmas.{IsLastGap-some}
use Rattle.movement_core.proofs.columns.line_start.Goals as goal

pub returns : goal.returns
returns g c =
    let gaps = IsLastGap-some (g.T.TextView.text_of c.args.view.now) (g.T.TextView.pieces_of c.args.view.now) c.args.line c.requires.sound c.requires.inside in
    sym (start_of-get (g.T.TextView.pieces_of c.args.view.now) c.args.line _ c.piece_at.ensures) ∙
    line_start-is (g.T.TextView.text_of c.args.view.now) (g.T.TextView.pieces_of c.args.view.now) c.args.line gaps.0
    c.requires.sound c.requires.characters c.requires.starts c.requires.inside gaps.1

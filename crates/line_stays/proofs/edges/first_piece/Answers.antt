use Rattle.std.proofs.Common.{ap, ◌∙◌}
use Rattle.plain_text.specs.declared.run.Run.{Run}
use Rattle.plain_screen.specs.View.{layout_line_of}
use Rattle.line_stays.proofs.edges.first_piece.Goals as goal

pub returns : goal.returns
returns g c = c.line_of.ensures.line ∙ ap (λ (run : Run). layout_line_of (g.T.TextView.pieces_of c.args.view.now) run.start) c.logical_of.ensures

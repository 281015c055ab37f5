use Rattle.std.proofs.Common.{sym, ◌∙◌}
use Rattle.doc_layout.proofs.ForCallers.{slice-there}
use Rattle.line_stays.proofs.edges.piece_at.Goals as goal

pub unreachable-requires : goal.unreachable-requires
unreachable-requires g c = slice-there (g.T.TextView.pieces_of c.args.view.now) c.args.index c.requires (sym c.line.ensures ∙ c.in-None.is)

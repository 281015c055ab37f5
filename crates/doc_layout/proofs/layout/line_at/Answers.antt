use Rattle.std.proofs.Common.{◌+◌, sym, ◌∙◌, subst}
use Rattle.std.specs.Prelude.{◌==◌}
use Rattle.doc_layout.specs.Inner.{IsPieceIn}
use Rattle.doc_layout.proofs.LayoutLemmas.{IsPieceIn-pieces, slice-there}
use Rattle.doc_layout.proofs.layout.line_at.Goals as goal

pub line_of-requires-clause-piece : goal.line_of-requires-clause-piece
line_of-requires-clause-piece g c =
    subst (λ count. IsPieceIn (g.T.TextView.text_of c.args.shown.now.view.now) c.in-Some.piece (c.args.index + 1 == count)) (sym c.lines-count.ensures.count)
    (IsPieceIn-pieces (g.T.TextView.text_of c.args.shown.now.view.now) (g.T.TextView.pieces_of c.args.shown.now.view.now) c.args.index c.in-Some.piece c.lines-count.ensures.sound
    (sym c.line.ensures ∙ c.in-Some.is))

pub unreachable-requires : goal.unreachable-requires
unreachable-requires g c = slice-there (g.T.TextView.pieces_of c.args.shown.now.view.now) c.args.index c.requires.there (sym c.line.ensures ∙ c.in-None.is)

use Rattle.std.proofs.Common.{ap, inl, inr, sym, ◌∙◌, arith}
use Rattle.std.specs.Prelude.{is_some}
use Rattle.plain_text.specs.declared.run.Run.{Run}
use Rattle.plain_screen.specs.View.{layout_line_of}
use Rattle.plain_screen.proofs.callers.OwnLemmas.{get_piece}
use Rattle.line_stays.proofs.EdgeLemmas.{past-all, past-next}
use Rattle.line_stays.proofs.edges.past_piece.Goals as goal

pub returns-then-next-index : goal.returns-then-next-index
returns-then-next-index g c =
    let pieces = g.T.TextView.pieces_of c.args.view.now in
    let piece = get_piece pieces c.line_of-next.result c.line_of-next.ensures.inside in
    c.lines.ensures.count ∙
    past-all (g.T.TextView.text_of c.args.view.now) pieces c.args.index c.line_of-next.result c.line_of-next.ensures.sound c.requires
    (c.line_of-next.ensures.line ∙ ap (λ (run : Run). layout_line_of pieces run.end) c.logical_of.ensures) piece.0 piece.1 (inl c.if-next-index.true)

pub returns-in-Some : goal.returns-in-Some
returns-in-Some g c =
    let pieces = g.T.TextView.pieces_of c.args.view.now in
    past-next (g.T.TextView.text_of c.args.view.now) pieces c.args.index c.line_of-next.result c.line_of-next.ensures.sound c.requires
    (c.line_of-next.ensures.line ∙ ap (λ (run : Run). layout_line_of pieces run.end) c.logical_of.ensures) c.piece_at.result (sym c.piece_at.ensures)
    (omega (arith, c.if-next-index.false)) (ap is_some c.in-Some.is)

pub returns-in-None : goal.returns-in-None
returns-in-None g c =
    let pieces = g.T.TextView.pieces_of c.args.view.now in
    c.lines-in-None.ensures.count ∙
    past-all (g.T.TextView.text_of c.args.view.now) pieces c.args.index c.line_of-next.result c.line_of-next.ensures.sound c.requires
    (c.line_of-next.ensures.line ∙ ap (λ (run : Run). layout_line_of pieces run.end) c.logical_of.ensures) c.piece_at.result (sym c.piece_at.ensures)
    (inr (ap is_some c.in-None.is))

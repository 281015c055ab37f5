use Rattle.std.proofs.Common.{refl, sym, subst}
use Rattle.match_index.specs.Found.{runs_in}
use Rattle.plain_screen.specs.declared.piece.Piece.{Piece}
use Rattle.plain_screen.specs.declared.screen.Line.{Line}
use Rattle.doc_layout.specs.Layout.{layout_line}
use Rattle.line_stays.proofs.ChangeLemmas.{AreAll, all-settled, are-all}
use Rattle.line_stays.proofs.stays.as_was.Goals as goal

pub put_stays-requires-clause-part : goal.put_stays-requires-clause-part
put_stays-requires-clause-part g c =
    let text = g.T.TextView.text_of c.args.before.now.view.now in
    let other = g.T.TextView.text_of c.args.after.now.view.now in
    let pieces = g.T.TextView.pieces_of c.args.before.now.view.now in
    let parts = g.T.TextView.pieces_of c.args.after.now.view.now in
    let draw : Piece → Line = layout_line text c.args.before.now.sel.now.regions (runs_in c.args.before.now.results.now) c.args.before.now.layers.now in
    let redraw : Piece → Line = layout_line other c.args.after.now.sel.now.regions (runs_in c.args.after.now.results.now) c.args.after.now.layers.now in
    let are = subst (AreAll c.args.change text other pieces parts c.args.before.now.layers.now c.args.after.now.layers.now draw redraw) (sym c.lines.ensures.count)
    (are-all text other pieces parts c.requires.cut draw redraw (λ piece. refl) (λ piece. refl) c.args.change c.args.before.now.layers.now c.args.after.now.layers.now
    c.requires.leaves c.requires.change) in
    are.part

pub put_stays-requires-clause-styled : goal.put_stays-requires-clause-styled
put_stays-requires-clause-styled g c =
    let text = g.T.TextView.text_of c.args.before.now.view.now in
    let other = g.T.TextView.text_of c.args.after.now.view.now in
    let pieces = g.T.TextView.pieces_of c.args.before.now.view.now in
    let parts = g.T.TextView.pieces_of c.args.after.now.view.now in
    let draw : Piece → Line = layout_line text c.args.before.now.sel.now.regions (runs_in c.args.before.now.results.now) c.args.before.now.layers.now in
    let redraw : Piece → Line = layout_line other c.args.after.now.sel.now.regions (runs_in c.args.after.now.results.now) c.args.after.now.layers.now in
    let are = subst (AreAll c.args.change text other pieces parts c.args.before.now.layers.now c.args.after.now.layers.now draw redraw) (sym c.lines.ensures.count)
    (are-all text other pieces parts c.requires.cut draw redraw (λ piece. refl) (λ piece. refl) c.args.change c.args.before.now.layers.now c.args.after.now.layers.now
    c.requires.leaves c.requires.change) in
    are.styled

pub returns : goal.returns
returns g c =
    let text = g.T.TextView.text_of c.args.before.now.view.now in
    let other = g.T.TextView.text_of c.args.after.now.view.now in
    let pieces = g.T.TextView.pieces_of c.args.before.now.view.now in
    let parts = g.T.TextView.pieces_of c.args.after.now.view.now in
    let draw : Piece → Line = layout_line text c.args.before.now.sel.now.regions (runs_in c.args.before.now.results.now) c.args.before.now.layers.now in
    let redraw : Piece → Line = layout_line other c.args.after.now.sel.now.regions (runs_in c.args.after.now.results.now) c.args.after.now.layers.now in
    let are = subst (AreAll c.args.change text other pieces parts c.args.before.now.layers.now c.args.after.now.layers.now draw redraw) (sym c.lines.ensures.count)
    (are-all text other pieces parts c.requires.cut draw redraw (λ piece. refl) (λ piece. refl) c.args.change c.args.before.now.layers.now c.args.after.now.layers.now
    c.requires.leaves c.requires.change) in
    all-settled c.args.change text other pieces parts c.args.before.now.layers.now c.args.after.now.layers.now draw redraw c.lines.result c.args.had.now
    c.new-stays.result _ are c.lines.ensures.count c.new-stays.ensures c.in_ok-put_stays.ensures

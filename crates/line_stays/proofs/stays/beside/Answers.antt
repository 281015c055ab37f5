use Rattle.std.proofs.Common.{refl, sym, subst, arith}
use Rattle.match_index.specs.Found.{runs_in}
use Rattle.plain_screen.specs.declared.piece.Piece.{Piece}
use Rattle.plain_screen.specs.declared.screen.Line.{Line}
use Rattle.doc_layout.specs.Layout.{layout_line}
use Rattle.line_stays.specs.Inner.{AreStyledAlike, IsSharedPart}
use Rattle.line_stays.specs.declared.change.Change.TheVariants.{Edited}
use Rattle.line_stays.specs.declared.parts.Part.{Part}
use Rattle.line_stays.proofs.ChangeLemmas.{are-parts, beside-settled}
use Rattle.line_stays.proofs.stays.beside.Goals as goal

pub right_part-right-requires-clause-gap : goal.right_part-right-requires-clause-gap
right_part-right-requires-clause-gap g c = omega (arith, c.requires.change.after)

pub right_part-right-requires-clause-room : goal.right_part-right-requires-clause-room
right_part-right-requires-clause-room g c =
    let text = g.T.TextView.text_of c.args.before.now.view.now in
    let other = g.T.TextView.text_of c.args.after.now.view.now in
    let pieces = g.T.TextView.pieces_of c.args.before.now.view.now in
    let parts = g.T.TextView.pieces_of c.args.after.now.view.now in
    let draw : Piece → Line = layout_line text c.args.before.now.sel.now.regions (runs_in c.args.before.now.results.now) c.args.before.now.layers.now in
    let redraw : Piece → Line = layout_line other c.args.after.now.sel.now.regions (runs_in c.args.after.now.results.now) c.args.after.now.layers.now in
    let are = are-parts text other pieces parts c.requires.cut draw redraw (λ piece. refl) (λ piece. refl) c.args.front c.args.back c.args.before.now.layers.now
    c.args.after.now.layers.now c.requires.change in
    are.room

pub right_part-right-requires-clause-inside : goal.right_part-right-requires-clause-inside
right_part-right-requires-clause-inside g c =
    let text = g.T.TextView.text_of c.args.before.now.view.now in
    let other = g.T.TextView.text_of c.args.after.now.view.now in
    let pieces = g.T.TextView.pieces_of c.args.before.now.view.now in
    let parts = g.T.TextView.pieces_of c.args.after.now.view.now in
    let draw : Piece → Line = layout_line text c.args.before.now.sel.now.regions (runs_in c.args.before.now.results.now) c.args.before.now.layers.now in
    let redraw : Piece → Line = layout_line other c.args.after.now.sel.now.regions (runs_in c.args.after.now.results.now) c.args.after.now.layers.now in
    let are = are-parts text other pieces parts c.requires.cut draw redraw (λ piece. refl) (λ piece. refl) c.args.front c.args.back c.args.before.now.layers.now
    c.args.after.now.layers.now c.requires.change in
    are.inside

pub put_stays-requires-clause-part : goal.put_stays-requires-clause-part
put_stays-requires-clause-part g c =
    let text = g.T.TextView.text_of c.args.before.now.view.now in
    let other = g.T.TextView.text_of c.args.after.now.view.now in
    let pieces = g.T.TextView.pieces_of c.args.before.now.view.now in
    let parts = g.T.TextView.pieces_of c.args.after.now.view.now in
    let draw : Piece → Line = layout_line text c.args.before.now.sel.now.regions (runs_in c.args.before.now.results.now) c.args.before.now.layers.now in
    let redraw : Piece → Line = layout_line other c.args.after.now.sel.now.regions (runs_in c.args.after.now.results.now) c.args.after.now.layers.now in
    let are = are-parts text other pieces parts c.requires.cut draw redraw (λ piece. refl) (λ piece. refl) c.args.front c.args.back c.args.before.now.layers.now
    c.args.after.now.layers.now c.requires.change in
    subst (λ (p : Part). IsSharedPart text other pieces parts p.old p.new p.n) (sym c.left_part-left.ensures) are.part

pub put_stays-requires-clause-styled : goal.put_stays-requires-clause-styled
put_stays-requires-clause-styled g c =
    let text = g.T.TextView.text_of c.args.before.now.view.now in
    let other = g.T.TextView.text_of c.args.after.now.view.now in
    let pieces = g.T.TextView.pieces_of c.args.before.now.view.now in
    let parts = g.T.TextView.pieces_of c.args.after.now.view.now in
    let draw : Piece → Line = layout_line text c.args.before.now.sel.now.regions (runs_in c.args.before.now.results.now) c.args.before.now.layers.now in
    let redraw : Piece → Line = layout_line other c.args.after.now.sel.now.regions (runs_in c.args.after.now.results.now) c.args.after.now.layers.now in
    let are = are-parts text other pieces parts c.requires.cut draw redraw (λ piece. refl) (λ piece. refl) c.args.front c.args.back c.args.before.now.layers.now
    c.args.after.now.layers.now c.requires.change in
    subst (λ (p : Part). AreStyledAlike (Edited c.args.front c.args.back) pieces parts c.args.before.now.layers.now c.args.after.now.layers.now p.old p.new p.n)
    (sym c.left_part-left.ensures) are.styled

pub put_stays-requires-2-clause-part : goal.put_stays-requires-2-clause-part
put_stays-requires-2-clause-part g c =
    let text = g.T.TextView.text_of c.args.before.now.view.now in
    let other = g.T.TextView.text_of c.args.after.now.view.now in
    let pieces = g.T.TextView.pieces_of c.args.before.now.view.now in
    let parts = g.T.TextView.pieces_of c.args.after.now.view.now in
    let draw : Piece → Line = layout_line text c.args.before.now.sel.now.regions (runs_in c.args.before.now.results.now) c.args.before.now.layers.now in
    let redraw : Piece → Line = layout_line other c.args.after.now.sel.now.regions (runs_in c.args.after.now.results.now) c.args.after.now.layers.now in
    let are = are-parts text other pieces parts c.requires.cut draw redraw (λ piece. refl) (λ piece. refl) c.args.front c.args.back c.args.before.now.layers.now
    c.args.after.now.layers.now c.requires.change in
    subst (λ (p : Part). IsSharedPart text other pieces parts p.old p.new p.n) (sym c.right_part-right.ensures) are.part_right

pub put_stays-requires-2-clause-styled : goal.put_stays-requires-2-clause-styled
put_stays-requires-2-clause-styled g c =
    let text = g.T.TextView.text_of c.args.before.now.view.now in
    let other = g.T.TextView.text_of c.args.after.now.view.now in
    let pieces = g.T.TextView.pieces_of c.args.before.now.view.now in
    let parts = g.T.TextView.pieces_of c.args.after.now.view.now in
    let draw : Piece → Line = layout_line text c.args.before.now.sel.now.regions (runs_in c.args.before.now.results.now) c.args.before.now.layers.now in
    let redraw : Piece → Line = layout_line other c.args.after.now.sel.now.regions (runs_in c.args.after.now.results.now) c.args.after.now.layers.now in
    let are = are-parts text other pieces parts c.requires.cut draw redraw (λ piece. refl) (λ piece. refl) c.args.front c.args.back c.args.before.now.layers.now
    c.args.after.now.layers.now c.requires.change in
    subst (λ (p : Part). AreStyledAlike (Edited c.args.front c.args.back) pieces parts c.args.before.now.layers.now c.args.after.now.layers.now p.old p.new p.n)
    (sym c.right_part-right.ensures) are.styled_right

pub returns : goal.returns
returns g c =
    let text = g.T.TextView.text_of c.args.before.now.view.now in
    let other = g.T.TextView.text_of c.args.after.now.view.now in
    let pieces = g.T.TextView.pieces_of c.args.before.now.view.now in
    let parts = g.T.TextView.pieces_of c.args.after.now.view.now in
    let draw : Piece → Line = layout_line text c.args.before.now.sel.now.regions (runs_in c.args.before.now.results.now) c.args.before.now.layers.now in
    let redraw : Piece → Line = layout_line other c.args.after.now.sel.now.regions (runs_in c.args.after.now.results.now) c.args.after.now.layers.now in
    let are = are-parts text other pieces parts c.requires.cut draw redraw (λ piece. refl) (λ piece. refl) c.args.front c.args.back c.args.before.now.layers.now
    c.args.after.now.layers.now c.requires.change in
    beside-settled c.args.front c.args.back text other pieces parts c.args.before.now.layers.now c.args.after.now.layers.now draw redraw _ _ _ _ c.args.had.now
    c.new-stays.result _ _ c.left_part-left.result c.right_part-right.result are c.new-stays.ensures c.left_part-left.ensures c.right_part-right.ensures
    c.in_ok-put_stays.ensures c.in_ok-put_stays-2.ensures

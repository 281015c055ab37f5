use Rattle.std.proofs.Common.{◌≡◌, ◌++◌, ℕ, List, length, ap, ap₂, sym, subst, ◌∙◌}
use Rattle.std.specs.Prelude.{IfOk}
use Rattle.std.specs.List.Sorted.{IsNonDecreasingBy}
use Rattle.plain_edits.specs.declared.style.Span.{Span}
use Rattle.plain_screen.specs.declared.screen.Line.{Line}
use Rattle.line_render.specs.Rendered.{rendered_piece, text_of_piece}
use Rattle.match_index.specs.Found.{runs_in}
use Rattle.doc_layout.proofs.FoundLemmas.{RiseApart-shown, line-touched, touched-ends, touched-starts}
use Rattle.doc_layout.proofs.layout.line_of.Goals as goal

pub render_piece-requires-clause-starts : goal.render_piece-requires-clause-starts
render_piece-requires-clause-starts g c =
    let text = g.T.TextView.text_of c.args.shown.now.view.now in
    subst (IsNonDecreasingBy (λ (span : Span). span.start)) (sym (c.as_slice.ensures ∙ c.in_ok-found.ensures))
    (touched-starts _ (length text) (runs_in c.args.shown.now.results.now)
    (RiseApart-shown text c.args.shown.now.sel.now.regions c.args.shown.now.results.now c.requires.may))

pub render_piece-requires-clause-ends : goal.render_piece-requires-clause-ends
render_piece-requires-clause-ends g c =
    let text = g.T.TextView.text_of c.args.shown.now.view.now in
    subst (IsNonDecreasingBy (λ (span : Span). span.end)) (sym (c.as_slice.ensures ∙ c.in_ok-found.ensures))
    (touched-ends _ (length text) (runs_in c.args.shown.now.results.now)
    (RiseApart-shown text c.args.shown.now.sel.now.regions c.args.shown.now.results.now c.requires.may))

pub returns : goal.returns
returns g c =
    let text = g.T.TextView.text_of c.args.shown.now.view.now in
    let regions = c.args.shown.now.sel.now.regions in
    let results = c.args.shown.now.results.now in
    let layers = c.args.shown.now.layers.now in
    let piece = c.args.piece.now in
    let last = c.args.is_last in
    subst (λ (made : Line). IfOk c.render_piece.result (λ line. line ≡ made))
    (ap (λ (line : List ℕ). rendered_piece line piece last regions (c.as_slice.result.now ++ c.as_slice-2.result.now)) c.in_ok-characters.ensures ∙
    ap₂ (λ (xs ys : List Span). rendered_piece (text_of_piece text piece) piece last regions (xs ++ ys)) (c.as_slice.ensures ∙ c.in_ok-found.ensures)
    (c.as_slice-2.ensures ∙ c.in_ok-styled.ensures) ∙
    line-touched text regions results layers piece last c.requires.may c.requires.piece)
    c.render_piece.ensures

use Rattle.std.proofs.Common.{◌≡◌, ◌-◌, ◌≤◌, List, length, ap, sym, ◌∙◌, subst}
use Rattle.std.specs.Prelude.{slice_range}
use Rattle.std.proofs.lemmas.List.{length-map}
use Rattle.plain_screen.specs.declared.screen.Line.{Line}
use Rattle.plain_screen.specs.declared.screen.Op.TheVariants.{Invalidate}
use Rattle.doc_layout.specs.Inner.{stretch_op}
use Rattle.match_index.specs.Found.{runs_in}
use Rattle.doc_layout.specs.Layout.{layout, layout_line}
use Rattle.doc_layout.proofs.LayoutLemmas.{length-slice_range}
use Rattle.doc_layout.proofs.plan.op_of.Goals as goal

pub returns : goal.returns
returns g c =
    let pieces = g.T.TextView.pieces_of c.args.shown.now.view.now in
    let lines : List Line = layout (g.T.TextView.text_of c.args.shown.now.view.now) (g.T.TextView.pieces_of c.args.shown.now.view.now) c.args.shown.now.sel.now.regions (runs_in c.args.shown.now.results.now) c.args.shown.now.layers.now in
    let long = length-map pieces (layout_line (g.T.TextView.text_of c.args.shown.now.view.now) c.args.shown.now.sel.now.regions (runs_in c.args.shown.now.results.now) c.args.shown.now.layers.now) in
    let inside : c.args.to ≤ length lines = subst (λ n. c.args.to ≤ n) (sym long) c.requires.inside in
    ap (λ n. Invalidate n) (sym (length-slice_range lines c.args.from c.args.to c.requires.ordered inside)) ∙
    ap (λ b. stretch_op b (slice_range lines c.args.from c.args.to)) (sym c.if-has.false ∙ c.has.ensures)

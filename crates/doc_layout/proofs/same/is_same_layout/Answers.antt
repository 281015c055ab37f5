use Rattle.std.proofs.Common.{◌≡◌, ◌+◌, List, take, sym, ◌∙◌}
use Rattle.plain_screen.specs.declared.screen.Line.{Line}
use Rattle.plain_screen.specs.SameLayout.{is_same_line}
use Rattle.plain_screen.proofs.callers.SameLemmas.{is_same_layout-Decides}
use Rattle.match_index.specs.Found.{runs_in}
use Rattle.doc_layout.specs.Layout.{layout}
use Rattle.doc_layout.proofs.LayoutLemmas.{mapped-got}
use Rattle.doc_layout.proofs.SameLemmas.{one-differs-got, one-more-got}
use Rattle.doc_layout.proofs.same.is_same_layout.Goals as goal

pub loop-index-init : goal.loop-index-init
loop-index-init g c = (is_same_layout-Decides _ _).1 c.requires.alike

pub returns-then-not-is_same_line : goal.returns-then-not-is_same_line
returns-then-not-is_same_line g c =
    let lines : List Line = layout (g.T.TextView.text_of c.args.shown.now.view.now) (g.T.TextView.pieces_of c.args.shown.now.view.now) c.args.shown.now.sel.now.regions (runs_in c.args.shown.now.results.now) c.args.shown.now.layers.now in
    let others : List Line = layout (g.T.TextView.text_of c.args.other.now.view.now) (g.T.TextView.pieces_of c.args.other.now.view.now) c.args.other.now.sel.now.regions (runs_in c.args.other.now.results.now) c.args.other.now.layers.now in
    sym (one-differs-got is_same_line lines others c.loop-index.index c.in_ok-line.line c.in_ok-counterpart.counterpart
    (mapped-got _ c.in_ok-line.line c.loop-index.index (g.T.TextView.pieces_of c.args.shown.now.view.now) c.in_ok-line.ensures)
    (mapped-got _ c.in_ok-counterpart.counterpart c.loop-index.index (g.T.TextView.pieces_of c.args.other.now.view.now) c.in_ok-counterpart.ensures)
    (sym c.is_same_line.ensures ∙ c.if-not-is_same_line.true))

pub loop-index-preserved : goal.loop-index-preserved
loop-index-preserved g c =
    let lines : List Line = layout (g.T.TextView.text_of c.args.shown.now.view.now) (g.T.TextView.pieces_of c.args.shown.now.view.now) c.args.shown.now.sel.now.regions (runs_in c.args.shown.now.results.now) c.args.shown.now.layers.now in
    let others : List Line = layout (g.T.TextView.text_of c.args.other.now.view.now) (g.T.TextView.pieces_of c.args.other.now.view.now) c.args.other.now.sel.now.regions (runs_in c.args.other.now.results.now) c.args.other.now.layers.now in
    one-more-got is_same_line lines others c.loop-index.index c.in_ok-line.line c.in_ok-counterpart.counterpart
    (mapped-got _ c.in_ok-line.line c.loop-index.index (g.T.TextView.pieces_of c.args.shown.now.view.now) c.in_ok-line.ensures)
    (mapped-got _ c.in_ok-counterpart.counterpart c.loop-index.index (g.T.TextView.pieces_of c.args.other.now.view.now) c.in_ok-counterpart.ensures)
    (sym c.is_same_line.ensures ∙ c.if-not-is_same_line.false) c.loop-index.invariant

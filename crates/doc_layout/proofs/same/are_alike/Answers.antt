use Rattle.std.proofs.Common.{◌≡◌, List, take, drop, refl, sym, ◌∙◌}
use Rattle.plain_screen.specs.declared.screen.Line.{Line}
use Rattle.plain_screen.specs.Touched.{is_same_but_number}
use Rattle.match_index.specs.Found.{runs_in}
use Rattle.doc_layout.specs.Layout.{layout, layout_line}
use Rattle.doc_layout.proofs.LayoutLemmas.{mapped-among, mapped-from}
use Rattle.doc_layout.proofs.SameLemmas.{one-differs-got, one-more-got}
use Rattle.doc_layout.proofs.same.are_alike.Goals as goal

pub loop-index-init : goal.loop-index-init
loop-index-init g c = refl

pub returns-then-not-is_same_but_number : goal.returns-then-not-is_same_but_number
returns-then-not-is_same_but_number g c =
    let pieces = g.T.TextView.pieces_of c.args.shown.now.view.now in
    let parts = g.T.TextView.pieces_of c.args.other.now.view.now in
    let lines : List Line = layout (g.T.TextView.text_of c.args.shown.now.view.now) pieces c.args.shown.now.sel.now.regions (runs_in c.args.shown.now.results.now) c.args.shown.now.layers.now in
    let others : List Line = layout (g.T.TextView.text_of c.args.other.now.view.now) parts c.args.other.now.sel.now.regions (runs_in c.args.other.now.results.now) c.args.other.now.layers.now in
    sym (one-differs-got is_same_but_number (take c.args.n (drop c.args.at lines)) (take c.args.n (drop c.args.from others)) c.loop-index.index c.in_ok-line.line
    c.in_ok-counterpart.counterpart (mapped-among _ c.in_ok-line.line c.args.at c.args.n c.loop-index.index pieces c.loop-index-test.true c.in_ok-line.ensures)
    (mapped-among _ c.in_ok-counterpart.counterpart c.args.from c.args.n c.loop-index.index parts c.loop-index-test.true c.in_ok-counterpart.ensures)
    (sym c.is_same_but_number.ensures ∙ c.if-not-is_same_but_number.true))

pub loop-index-preserved : goal.loop-index-preserved
loop-index-preserved g c =
    let pieces = g.T.TextView.pieces_of c.args.shown.now.view.now in
    let parts = g.T.TextView.pieces_of c.args.other.now.view.now in
    let lines : List Line = layout (g.T.TextView.text_of c.args.shown.now.view.now) pieces c.args.shown.now.sel.now.regions (runs_in c.args.shown.now.results.now) c.args.shown.now.layers.now in
    let others : List Line = layout (g.T.TextView.text_of c.args.other.now.view.now) parts c.args.other.now.sel.now.regions (runs_in c.args.other.now.results.now) c.args.other.now.layers.now in
    one-more-got is_same_but_number (drop c.args.at lines) (drop c.args.from others) c.loop-index.index c.in_ok-line.line c.in_ok-counterpart.counterpart
    (mapped-from _ c.in_ok-line.line c.args.at c.loop-index.index pieces c.in_ok-line.ensures)
    (mapped-from _ c.in_ok-counterpart.counterpart c.args.from c.loop-index.index parts c.in_ok-counterpart.ensures)
    (sym c.is_same_but_number.ensures ∙ c.if-not-is_same_but_number.false) c.loop-index.invariant

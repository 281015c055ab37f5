use Rattle.std.proofs.Common.{◌++◌, ap, sym, ◌∙◌, arith, append-nil}
use Rattle.match_index.specs.Found.{runs_in}
use Rattle.doc_layout.specs.Layout.{layout, layout_line}
use Rattle.doc_layout.proofs.ForCallers.{mapped-put, slice_range-none}
use Rattle.line_updates.proofs.plan.put_lines.Goals as goal

pub loop-at-init : goal.loop-at-init
loop-at-init g c = record {
  low = omega arith;
  high = c.requires.ordered;
  made =
      sym (append-nil c.args.lines.now) ∙
      ap (λ ls. c.args.lines.now ++ ls)
      (sym (slice_range-none (layout (g.T.TextView.text_of c.args.shown.now.view.now) (g.T.TextView.pieces_of c.args.shown.now.view.now) c.args.shown.now.sel.now.regions (runs_in c.args.shown.now.results.now) c.args.shown.now.layers.now)
      c.args.from));
}

pub loop-at-preserved : goal.loop-at-preserved
loop-at-preserved g c =
    let was = c.loop-at.invariant in
    let draw = layout_line (g.T.TextView.text_of c.args.shown.now.view.now) c.args.shown.now.sel.now.regions (runs_in c.args.shown.now.results.now) c.args.shown.now.layers.now in
    record {
      low = let le = was.low in omega arith;
      high = let less = c.loop-at-test.true in omega arith;
      made =
          mapped-put draw c.in_ok-line_at.field-0 c.args.from c.loop-at.at (g.T.TextView.pieces_of c.args.shown.now.view.now) c.args.lines.now c.loop-at.lines _ was.low
          was.made c.in_ok-push.ensures.pushed c.in_ok-line_at.ensures;
    }

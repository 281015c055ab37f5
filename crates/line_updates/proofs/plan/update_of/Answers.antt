use Rattle.std.proofs.Common.{◌≡◌, List, length, ap, sym, ◌∙◌}
use Rattle.std.proofs.lemmas.List.{length-map}
use Rattle.plain_screen.specs.declared.screen.Line.{Line}
use Rattle.line_cache.specs.Standings.{standings}
use Rattle.line_cache.specs.Stays.{partners_by, valid_by}
use Rattle.match_index.specs.Found.{runs_in}
use Rattle.doc_layout.specs.Layout.{layout, layout_line}
use Rattle.line_updates.proofs.PlanLemmas.{had-told, update-told}
use Rattle.line_updates.proofs.plan.update_of.Goals as goal

pub returns-clause-update : goal.returns-clause-update
returns-clause-update g c =
    let pieces = g.T.TextView.pieces_of c.args.shown.now.view.now in
    let draw = layout_line (g.T.TextView.text_of c.args.shown.now.view.now) c.args.shown.now.sel.now.regions (runs_in c.args.shown.now.results.now) c.args.shown.now.layers.now in
    let lines : List Line = layout (g.T.TextView.text_of c.args.shown.now.view.now) pieces c.args.shown.now.sel.now.regions (runs_in c.args.shown.now.results.now) c.args.shown.now.layers.now in
    let many : length lines ≡ length pieces = length-map pieces draw in
    update-told c.args.asked c.args.had.now c.args.stays.now lines (length pieces) c.in_ok-plan.plan many
    (c.in_ok-plan.ensures.standings ∙
    ap (λ n. standings c.args.asked.window c.args.asked.request 0 (valid_by c.args.had.now (partners_by c.args.stays.now n))) c.lines-total.ensures.count)
    c.in_ok-ops.ops c.args.pristine
    (c.in_ok-ops.ensures.rule c.in_ok-plan.ensures.longest c.in_ok-plan.ensures.placed lines
    (many ∙ sym c.lines-total.ensures.count ∙ sym c.in_ok-plan.ensures.count) (c.as_slice.ensures ∙ c.in_ok-numbers.ensures) c.in_ok-lines.ensures)

pub returns-clause-had : goal.returns-clause-had
returns-clause-had g c =
    let pieces = g.T.TextView.pieces_of c.args.shown.now.view.now in
    let draw = layout_line (g.T.TextView.text_of c.args.shown.now.view.now) c.args.shown.now.sel.now.regions (runs_in c.args.shown.now.results.now) c.args.shown.now.layers.now in
    let lines : List Line = layout (g.T.TextView.text_of c.args.shown.now.view.now) pieces c.args.shown.now.sel.now.regions (runs_in c.args.shown.now.results.now) c.args.shown.now.layers.now in
    c.in_ok-had.ensures.shown ∙
    had-told c.args.asked c.args.had.now c.args.stays.now lines (length pieces) c.in_ok-plan.plan (length-map pieces draw)
    (c.in_ok-plan.ensures.standings ∙
    ap (λ n. standings c.args.asked.window c.args.asked.request 0 (valid_by c.args.had.now (partners_by c.args.stays.now n))) c.lines-total.ensures.count)

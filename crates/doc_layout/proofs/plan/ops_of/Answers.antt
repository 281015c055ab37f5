use Rattle.std.proofs.Common.{◌≡◌, ◌<◌, ◌≤◌, [], ◌∷◌, ◌++◌, List, drop, length, ap, sym, subst, ◌∙◌, append_assoc, arith}
use Rattle.std.proofs.lemmas.List.{length-map}
use Rattle.plain_screen.specs.declared.screen.Line.{Line}
use Rattle.plain_screen.specs.declared.screen.Op.{Op}
use Rattle.plain_screen.proofs.callers.PlanLemmas.{plan_from}
use Rattle.doc_layout.specs.Inner.{IsStretch}
use Rattle.match_index.specs.Found.{runs_in}
use Rattle.doc_layout.specs.Layout.{layout, layout_line}
use Rattle.doc_layout.proofs.PlanLemmas.{plan_from-end, plan_from-stretch}
use Rattle.doc_layout.proofs.plan.ops_of.Goals as goal

pub op_of-requires-clause-ordered : goal.op_of-requires-clause-ordered
op_of-requires-clause-ordered g c = let some = c.stretch_end-end.ensures.some in omega arith

pub op_of-requires-clause-inside : goal.op_of-requires-clause-inside
op_of-requires-clause-inside g c = omega (arith, c.stretch_end-end.ensures.inside, c.lines-len.ensures.count)

pub loop-at-preserved : goal.loop-at-preserved
loop-at-preserved g c =
    let pieces = g.T.TextView.pieces_of c.args.shown.now.view.now in
    let lines : List Line = layout (g.T.TextView.text_of c.args.shown.now.view.now) (g.T.TextView.pieces_of c.args.shown.now.view.now) c.args.shown.now.sel.now.regions (runs_in c.args.shown.now.results.now) c.args.shown.now.layers.now in
    let asked = c.args.asked in
    let at = c.loop-at.at in
    let end = c.stretch_end-end.result in
    let ops : List Op = c.loop-at.ops in
    let rest : List Op = plan_from asked.window asked.request end 0 (drop end lines) in
    let told : Op = c.in_ok-op_of.field-0 in
    let long : c.lines-len.result ≡ length lines =
    c.lines-len.ensures.count ∙
    sym (length-map pieces (layout_line (g.T.TextView.text_of c.args.shown.now.view.now) c.args.shown.now.sel.now.regions (runs_in c.args.shown.now.results.now) c.args.shown.now.layers.now)) in
    let inside : at < length lines = subst (λ n. at < n) long c.loop-at-test.true in
    record {
      inside = c.stretch_end-end.ensures.inside;
      so_far =
          ap (λ made. made ++ rest) c.in_ok-push.ensures.pushed ∙ append_assoc ops (told ∷ []) rest ∙
          ap (λ op. ops ++ op ∷ rest) c.in_ok-op_of.ensures ∙
          ap (λ more. ops ++ more) (sym (plan_from-stretch asked lines at end inside (subst (IsStretch asked at end) long c.stretch_end-end.ensures))) ∙
          c.loop-at.invariant.so_far;
    }

pub returns : goal.returns
returns g c =
    let pieces = g.T.TextView.pieces_of c.args.shown.now.view.now in
    let lines : List Line = layout (g.T.TextView.text_of c.args.shown.now.view.now) (g.T.TextView.pieces_of c.args.shown.now.view.now) c.args.shown.now.sel.now.regions (runs_in c.args.shown.now.results.now) c.args.shown.now.layers.now in
    let past : length lines ≤ c.loop-at.at =
    let done = c.loop-at-test.false in
    omega (
      arith,
      done,
      c.lines-len.ensures.count,
      length-map pieces (layout_line (g.T.TextView.text_of c.args.shown.now.view.now) c.args.shown.now.sel.now.regions (runs_in c.args.shown.now.results.now) c.args.shown.now.layers.now),
    ) in
    plan_from-end c.args.asked.window c.args.asked.request lines c.loop-at.at c.loop-at.ops _ past c.loop-at.invariant.so_far

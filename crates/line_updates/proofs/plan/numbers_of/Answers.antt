use Rattle.std.proofs.Common.{◌≡◌, ◌++◌, [], drop, ap, refl, sym, ◌∙◌, arith, append-nil}
use Rattle.std.proofs.lemmas.List.{length-drop, nil_from_length}
use Rattle.std.proofs.lemmas.List.Sums.{sum_by-drop_more}
use Rattle.line_cache.specs.Steps.{lines_of}
use Rattle.line_cache.specs.declared.step.Step.TheVariants.{Keep}
use Rattle.match_index.specs.Found.{runs_in}
use Rattle.line_updates.specs.Inner.{numbers_told}
use Rattle.doc_layout.specs.Layout.{layout_line}
use Rattle.line_updates.proofs.NumberLemmas.{numbers-map}
use Rattle.line_updates.proofs.plan.numbers_of.Goals as goal

pub overflow_add-at : goal.overflow_add-at
overflow_add-at g c =
    omega (
      arith,
      c.lines-at.ensures,
      sum_by-drop_more lines_of c.as_slice-step-items.result.now c.loop-step.step-index (Keep 0 0) c.loop-step-test.true,
      c.loop-step.invariant.room,
      c.lines-count.ensures.count,
      c.lines-count.type_inv,
    )

pub returns : goal.returns
returns g c =
    let pieces = g.T.TextView.pieces_of c.args.shown.now.view.now in
    let draw = layout_line (g.T.TextView.text_of c.args.shown.now.view.now) c.args.shown.now.sel.now.regions (runs_in c.args.shown.now.results.now) c.args.shown.now.layers.now in
    let numbers = c.loop-step.numbers in
    let steps = c.as_slice-step-items.result.now in
    let none : drop c.loop-step.step-index steps ≡ [] =
    nil_from_length _ (omega (arith, length-drop c.loop-step.step-index steps, c.loop-step-test.false)) in
    sym (append-nil numbers) ∙ ap (λ left. numbers ++ numbers_told left (drop c.loop-step.at pieces)) (sym none) ∙ c.loop-step.invariant.so_far ∙
    ap (λ plan. numbers_told plan pieces) c.as_slice-step-items.ensures ∙ sym (numbers-map draw (λ piece. refl) c.args.plan.now pieces)

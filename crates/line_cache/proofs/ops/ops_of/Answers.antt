use Rattle.std.proofs.Common.{◌≡◌, ◌+◌, ◌++◌, [], drop, sym, ap, ap₂, subst, ◌∙◌, arith, append-nil}
use Rattle.std.specs.Prelude.{slice_index_or}
use Rattle.std.specs.Vec.Iter.{into_iter_items}
use Rattle.std.proofs.lemmas.List.{drop_more, length-drop, nil_from_length}
use Rattle.line_cache.specs.Ops.{ops_by}
use Rattle.line_cache.specs.Steps.{TakesFrom}
use Rattle.line_cache.specs.declared.step.Step.TheVariants.{Keep}
use Rattle.line_cache.proofs.OpsLemmas.{ops_by-says}
use Rattle.line_cache.proofs.ToldLemmas.{used_fits}
use Rattle.line_cache.proofs.ops.ops_of.Goals as goal

pub put_op-requires : goal.put_op-requires
put_op-requires c =
    let index = c.loop-step.step-index in
    let steps = c.as_slice-step-items.result.now in
    let olds = c.loop-step.invariant.olds in
    used_fits c.loop-step.used olds.0 (slice_index_or steps index (Keep 0 0)) (drop (index + 1) steps) olds.1
    (subst (TakesFrom c.loop-step.used olds.0) (drop_more steps index (Keep 0 0) c.loop-step-test.true) olds.2)

pub returns-clause-rule : goal.returns-clause-rule
returns-clause-rule c = λ longest placed all long numbers lines.
    let plan = c.args.plan.now in
    let ops = c.loop-step.ops in
    let steps = c.as_slice-step-items.result.now in
    let none : drop c.loop-step.step-index steps ≡ [] =
    nil_from_length _ (omega (arith, length-drop c.loop-step.step-index steps, c.loop-step-test.false)) in
    sym (append-nil ops) ∙ ap (λ left. ops ++ ops_by c.loop-step.used left c.loop-step.told.now (into_iter_items c.loop-step.rest)) (sym none) ∙
    c.loop-step.invariant.so_far ∙ ap (λ p. ops_by 0 p c.args.numbers.now c.args.lines) c.as_slice-step-items.ensures ∙
    ap₂ (λ ns ls. ops_by 0 plan ns ls) numbers lines ∙ ops_by-says 0 c.requires.0 0 plan all longest placed c.requires.2 long

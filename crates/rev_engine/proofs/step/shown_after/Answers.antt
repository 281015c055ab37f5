use Rattle.std.proofs.Common.{ap, arith, sym, ◌∙◌}
use Rattle.std.proofs.lemmas.Result.{IfOk-weaker}
use Rattle.plain_edits.specs.History.{head}
use Rattle.subset_runs.specs.Subset.{count}
use Rattle.rev_list.specs.Hidden.{hidden_at}
use Rattle.rev_list.proofs.ForCallers.{length-dead_now}
use Rattle.rev_engine.proofs.FlatLemmas.{outside-uncounted}
use Rattle.rev_engine.proofs.step.shown_after.Goals as goal

pub returns-then-count-eq0 : goal.returns-then-count-eq0
returns-then-count-eq0 c =
    let dead = hidden_at c.args.revs.now (head c.args.revs.now) in
    IfOk-weaker c.copy.result _ _
    (λ made is. is ∙
    sym
    (outside-uncounted dead c.args.union.now (c.requires.positions ∙ sym (length-dead_now c.args.revs.now))
    (omega (arith, c.count.ensures, c.if-count-eq0.true, ap count c.dead.ensures))) ∙
    sym c.requires.shown)
    c.copy.ensures

use Rattle.std.proofs.Common.{ap, ◌∙◌}
use Rattle.std.specs.Prelude.{min}
use Rattle.line_stays.proofs.FlagLemmas.{run-put}
use Rattle.line_stays.proofs.flags.put_run.Goals as goal

pub returns : goal.returns
returns c =
    run-put c.args.from c.args.n c.args.start c.args.end c.min-low.result c.min-high.result c.args.flags.now _ _
    (c.min-low.ensures ∙ ap (λ k. min k c.args.n) c.saturating_sub.ensures) (c.min-high.ensures ∙ ap (λ k. min k c.args.n) c.saturating_sub-2.ensures)
    c.in_ok-put_up_to.ensures c.in_ok-put_up_to-2.ensures

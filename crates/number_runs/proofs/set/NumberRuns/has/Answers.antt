use Rattle.std.proofs.Common.{sym, ap, ◌∙◌}
use Rattle.number_runs.specs.Runs.{is_in_some}
use Rattle.number_runs.proofs.RunLemmas.{has-in}
use Rattle.number_runs.proofs.set.NumberRuns.has.Goals as goal

pub returns : goal.returns
returns c =
    rw (← c.self.view_is) (c.is_in_some.ensures ∙ ap (λ runs. is_in_some runs c.args.number) c.deref.ensures.value ∙ sym (has-in 0 c.self.inside.runs.items c.args.number c.self.invariant))

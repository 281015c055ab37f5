use Rattle.std.proofs.Common.{ap, Err}
use Rattle.std.proofs.lemmas.Result.{err_from_is_err_and}
use Rattle.rev_engine.proofs.StandLemmas.{Refuses-base, refused-misfit}
use Rattle.rev_engine.proofs.engine.Engine.stale_units.Goals as goal

pub returns-in_err-text-clause-refused : goal.returns-in_err-text-clause-refused
returns-in_err-text-clause-refused c = λ history stands.
    let p = err_from_is_err_and c.from_residual.result c.from_residual.ensures.1 in
    rw p.1 (Refuses-base c.args.self.now history c.args.edit.now.rev c.args.edit.now.delta stands c.in_err-text.field-0.0 _
    (λ n is. (c.in_err-text.ensures.unknown n).0 (ap Err is)) (λ n is. (c.in_err-text.ensures.collected n).0 (ap Err is)) p.2)

pub returns-in-Err-clause-refused : goal.returns-in-Err-clause-refused
returns-in-Err-clause-refused c = λ history stands _.
    refused-misfit c.args.self.now history c.args.edit.now.rev c.args.edit.now.delta stands c.in_ok-text.text c.in-Err.misfit c.in_ok-text.ensures.kept
    c.in_ok-text.ensures.text c.in-Err.ensures.misfit

pub returns-clause-units : goal.returns-clause-units
returns-clause-units c = record {
  kept = c.in_ok-text.ensures.kept;
  fits = rw (← c.in_ok-text.ensures.text) c.in_default.ensures.fits;
  says = rw (← c.in_ok-text.ensures.text) c.in_ok-to_units.ensures;
}

use Rattle.std.proofs.Common.{[], IfOk, sym, subst}
use Rattle.session_step.specs.declared.given.Given.{Given}
use Rattle.session_step.specs.InnerStep.{IsOutcome}
use Rattle.session_step.specs.Session.{stored_outcome}
use Rattle.session_step.proofs.act.save_at.Goals as goal

pub returns-in-Done : goal.returns-in-Done
returns-in-Done c = λ views view there found.
    let At : Given → Type 0 = λ gave. IfOk c.saved.result (IsOutcome (stored_outcome views view gave) []) in
    subst At (sym c.in-Done.is) (c.saved.ensures views view there found)

use Rattle.std.proofs.Common.{List, IfOk, subst}
use Rattle.session_step.specs.PluginStep.{event_outcome, event_refusal}
use Rattle.session_step.specs.Session.{named_view}
use Rattle.view_update.specs.declared.note.NumberedStyle.{NumberedStyle}
use Rattle.session_step.specs.PluginEffects.{IsActed}
use Rattle.session_step.proofs.acted.in_view.Goals as goal

pub returns-clause-acted : goal.returns-clause-acted
returns-clause-acted c = λ views there.
    let named = named_view views c.args.name.now in
    let At : List NumberedStyle → Type 0 =
    λ styles. IfOk c.in_view_with.result (IsActed c.args.held.now (event_refusal named c.args.event) (event_outcome styles views named c.args.event)) in
    subst At c.new.ensures (c.in_view_with.ensures.acted views there)

use Rattle.std.proofs.Common.{subst}
use Rattle.session_step.specs.PluginStep.{plugin_outcome, plugin_refusal, styles_after}
use Rattle.session_step.specs.PluginEffects.{HasTable, IsActed}
use Rattle.session_step.specs.declared.acted.Acted.{Acted}
use Rattle.core_session.proofs.plugin_made.plugin_command.Goals as goal

pub returns-in-Refused-clause-made : goal.returns-in-Refused-clause-made
returns-in-Refused-clause-made c = λ views there.
    let held = c.args.held.now in
    let table = c.args.table.now in
    let act = c.args.command.act in
    let Came : Acted → Type 0 = λ came. IsActed held (plugin_refusal views table c.args.caller act) (plugin_outcome views table c.args.caller act) came in
    c.refused.ensures.made held views table c.args.ended.now c.args.caller (subst Came c.in-Refused.is (c.in_ok-reply.ensures.acted views there))

pub returns-in-Taken-clause-made : goal.returns-in-Taken-clause-made
returns-in-Taken-clause-made c = λ views there.
    let held = c.args.held.now in
    let table = c.args.table.now in
    let act = c.args.command.act in
    let Came : Acted → Type 0 = λ came. IsActed held (plugin_refusal views table c.args.caller act) (plugin_outcome views table c.args.caller act) came in
    let did = subst Came c.in-Taken.is (c.in_ok-reply.ensures.acted views there) in
    let Tabled : Acted → Type 0 = λ came. HasTable table (styles_after table act) came in
    c.taken.ensures.made held views table did.0 did.1 (subst Tabled c.in-Taken.is c.in_ok-reply.ensures.table)

use Rattle.std.proofs.Common.{◌≡◌, ℕ, List, [], None, Some, IfOk, refl, ap, sym, ◌∙◌, subst}
use Rattle.plain_edits.specs.declared.style.Span.{Span}
use Rattle.xi_plain.specs.declared.command.Act.{Act}
use Rattle.view_update.specs.declared.note.NumberedStyle.{NumberedStyle}
use Rattle.plugin_wire.specs.FairAsk.{IsFairAsk}
use Rattle.stale_spans.specs.Places.{StandIn}
use Rattle.entry_lines.specs.Answer.{alerting}
use Rattle.entry_lines.specs.PluginAnswer.{faults}
use Rattle.rev_engine.specs.declared.edit.Edit.{Edit as Given}
use Rattle.doc_session.specs.declared.event.Event.{Event}
use Rattle.doc_session.specs.declared.event.Event.TheVariants.{Edit, Spans}
use Rattle.style_numbers.specs.Numbers.{new_styles, spans_with_ids, styles_with}
use Rattle.session_step.specs.PluginStep.{event_outcome, event_refusal, plugin_outcome, plugin_refusal, styles_after, telling}
use Rattle.session_step.specs.Session.{named_view}
use Rattle.session_step.specs.PluginEffects.{HasTable, IsActed}
use Rattle.session_step.proofs.PluginActLemmas.{EventMayCome-spans, HasTable-grown, IsActed-else, StandIn-with_ids, asks_else, styles_after-else}
use Rattle.session_step.proofs.acted.plugin_act.Goals as goal

pub returns-in_ok-copy-in-Bad-clause-acted : goal.returns-in_ok-copy-in-Bad-clause-acted
returns-in_ok-copy-in-Bad-clause-acted c = λ views there.
    let table = c.args.table.now in
    let made = c.in_ok-copy-in-Bad in
    let At : Act → Type 0 = λ act. plugin_refusal views table c.args.caller act ≡ Some (faults made.field-0) in
    subst At (sym c.in-Bad.is) (ap (λ fault. Some (faults fault)) (sym made.ensures))

pub returns-in_ok-edit-in-PluginEdit-clause-acted : goal.returns-in_ok-edit-in-PluginEdit-clause-acted
returns-in_ok-edit-in-PluginEdit-clause-acted c = λ views there.
    let held = c.args.held.now in
    let table = c.args.table.now in
    let arm = c.in-PluginEdit in
    let named = named_view views arm.view in
    let Came : Event → Type 0 = λ event. IfOk c.in_view.result (IsActed held (event_refusal named event) (event_outcome [] views named event)) in
    let By : Given → Type 0 = λ edit. Came (Edit c.args.caller edit arm.named) in
    let At : Act → Type 0 =
    λ act. IfOk c.in_view.result (IsActed held (plugin_refusal views table c.args.caller act) (plugin_outcome views table c.args.caller act)) in
    subst At (sym arm.is) (subst By c.in_ok-edit-in-PluginEdit.ensures (c.in_view.ensures.acted views there))

pub in_view_with-requires-clause-event : goal.in_view_with-requires-clause-event
in_view_with-requires-clause-event c =
    let arm = c.in-UpdateSpans in
    let made = c.in_ok-spans-in-UpdateSpans in
    let fair = subst IsFairAsk arm.is c.requires.fair in
    EventMayCome-spans c.args.caller arm.rev arm.start arm.len made.spans c.args.held.now c.requires.caller
    (subst (StandIn arm.len) (sym (made.ensures.spans ∙ ap (spans_with_ids c.args.table.now) c.as_slice.ensures)) (StandIn-with_ids arm.len c.args.table.now arm.spans fair.1))

pub returns-in_ok-spans-in-UpdateSpans-clause-acted : goal.returns-in_ok-spans-in-UpdateSpans-clause-acted
returns-in_ok-spans-in-UpdateSpans-clause-acted c = λ views there.
    let held = c.args.held.now in
    let table = c.args.table.now in
    let arm = c.in-UpdateSpans in
    let made = c.in_ok-spans-in-UpdateSpans in
    let named = named_view views arm.view in
    let Came : List NumberedStyle → Event → Type 0 =
    λ fresh event. IfOk c.in_view_with.result (IsActed held (event_refusal named event) (event_outcome fresh views named event)) in
    let By : List Span → Type 0 = λ spans. Came (new_styles table arm.spans) (Spans c.args.caller arm.rev arm.start arm.len spans) in
    let New : List NumberedStyle → Type 0 = λ fresh. Came fresh (Spans c.args.caller arm.rev arm.start arm.len made.spans) in
    let At : Act → Type 0 =
    λ act. IfOk c.in_view_with.result (IsActed held (plugin_refusal views table c.args.caller act) (plugin_outcome views table c.args.caller act)) in
    subst At (sym arm.is)
    (subst By (made.ensures.spans ∙ ap (spans_with_ids table) c.as_slice.ensures)
    (subst New (made.ensures.styles ∙ ap (new_styles table) c.as_slice.ensures) (c.in_view_with.ensures.acted views there)))

pub returns-in_ok-spans-in-UpdateSpans-clause-table : goal.returns-in_ok-spans-in-UpdateSpans-clause-table
returns-in_ok-spans-in-UpdateSpans-clause-table c =
    let table = c.args.table.now in
    let made = c.in_ok-spans-in-UpdateSpans in
    let At : Act → Type 0 = λ act. IfOk c.in_view_with.result (HasTable table (styles_after table act)) in
    subst At (sym c.in-UpdateSpans.is)
    (HasTable-grown table _ made.fresh.grown c.in_view_with.result (made.ensures.table ∙ ap (styles_with table) c.as_slice.ensures) c.in_view_with.ensures.table)

pub returns-in_ok-copy-in-Alert-clause-acted : goal.returns-in_ok-copy-in-Alert-clause-acted
returns-in_ok-copy-in-Alert-clause-acted c = λ views there.
    let held = c.args.held.now in
    let table = c.args.table.now in
    let made = c.in_ok-copy-in-Alert in
    let By : List ℕ → Type 0 = λ msg. IfOk c.told.result (IsActed held None (telling views (alerting msg))) in
    let At : Act → Type 0 = λ act. IfOk c.told.result (IsActed held (plugin_refusal views table c.args.caller act) (plugin_outcome views table c.args.caller act)) in
    subst At (sym c.in-Alert.is) (subst By made.ensures (c.told.ensures.acted held views there.0))

pub returns-in-GetData-clause-acted : goal.returns-in-GetData-clause-acted
returns-in-GetData-clause-acted c = λ views there.
    let table = c.args.table.now in
    let At : Act → Type 0 =
    λ act. IfOk c.in_view-in-GetData.result (IsActed c.args.held.now (plugin_refusal views table c.args.caller act) (plugin_outcome views table c.args.caller act)) in
    subst At (sym c.in-GetData.is) (c.in_view-in-GetData.ensures.acted views there)

pub returns-in-LineCount-clause-acted : goal.returns-in-LineCount-clause-acted
returns-in-LineCount-clause-acted c = λ views there.
    let table = c.args.table.now in
    let At : Act → Type 0 =
    λ act. IfOk c.in_view-in-LineCount.result (IsActed c.args.held.now (plugin_refusal views table c.args.caller act) (plugin_outcome views table c.args.caller act)) in
    subst At (sym c.in-LineCount.is) (c.in_view-in-LineCount.ensures.acted views there)

pub returns-in-Ack-clause-acted : goal.returns-in-Ack-clause-acted
returns-in-Ack-clause-acted c = λ views there.
    let table = c.args.table.now in
    let At : Act → Type 0 =
    λ act. IfOk c.in_view-in-Ack.result (IsActed c.args.held.now (plugin_refusal views table c.args.caller act) (plugin_outcome views table c.args.caller act)) in
    subst At (sym c.in-Ack.is) (c.in_view-in-Ack.ensures.acted views there)

pub returns-in-Ended-clause-acted : goal.returns-in-Ended-clause-acted
returns-in-Ended-clause-acted c = λ views there.
    let table = c.args.table.now in
    let At : Act → Type 0 =
    λ act. IfOk c.ended.result (IsActed c.args.held.now (plugin_refusal views table c.args.caller act) (plugin_outcome views table c.args.caller act)) in
    subst At (sym c.in-Ended.is) (c.ended.ensures.acted views there.0)

pub returns-in_ok-edit-in-PluginEdit-clause-table : goal.returns-in_ok-edit-in-PluginEdit-clause-table
returns-in_ok-edit-in-PluginEdit-clause-table c =
    let table = c.args.table.now in
    let At : Act → Type 0 = λ act. IfOk c.in_view.result (HasTable table (styles_after table act)) in
    subst At (sym c.in-PluginEdit.is) (HasTable-grown table table None c.in_view.result refl c.in_view.ensures.table)

pub returns-in-GetData-clause-table : goal.returns-in-GetData-clause-table
returns-in-GetData-clause-table c =
    let table = c.args.table.now in
    let At : Act → Type 0 = λ act. IfOk c.in_view-in-GetData.result (HasTable table (styles_after table act)) in
    subst At (sym c.in-GetData.is) (HasTable-grown table table None c.in_view-in-GetData.result refl c.in_view-in-GetData.ensures.table)

pub returns-in-LineCount-clause-table : goal.returns-in-LineCount-clause-table
returns-in-LineCount-clause-table c =
    let table = c.args.table.now in
    let At : Act → Type 0 = λ act. IfOk c.in_view-in-LineCount.result (HasTable table (styles_after table act)) in
    subst At (sym c.in-LineCount.is) (HasTable-grown table table None c.in_view-in-LineCount.result refl c.in_view-in-LineCount.ensures.table)

pub returns-in-Ack-clause-table : goal.returns-in-Ack-clause-table
returns-in-Ack-clause-table c =
    let table = c.args.table.now in
    let At : Act → Type 0 = λ act. IfOk c.in_view-in-Ack.result (HasTable table (styles_after table act)) in
    subst At (sym c.in-Ack.is) (HasTable-grown table table None c.in_view-in-Ack.result refl c.in_view-in-Ack.ensures.table)

pub returns-in_ok-copy-in-Alert-clause-table : goal.returns-in_ok-copy-in-Alert-clause-table
returns-in_ok-copy-in-Alert-clause-table c =
    let table = c.args.table.now in
    let At : Act → Type 0 = λ act. IfOk c.told.result (HasTable table (styles_after table act)) in
    subst At (sym c.in-Alert.is) (HasTable-grown table table None c.told.result refl c.told.ensures.table)

pub returns-in-Ended-clause-table : goal.returns-in-Ended-clause-table
returns-in-Ended-clause-table c =
    let table = c.args.table.now in
    let At : Act → Type 0 = λ act. IfOk c.ended.result (HasTable table (styles_after table act)) in
    subst At (sym c.in-Ended.is) (HasTable-grown table table None c.ended.result refl c.ended.ensures.table)

pub returns-in_default-clause-acted : goal.returns-in_default-clause-acted
returns-in_default-clause-acted c = λ views there.
    IsActed-else c.args.held.now views c.args.table.now c.args.caller c.args.act.now c.told-in_default.result
    (asks_else c.args.act.now c.in_default.not-Bad c.in_default.not-PluginEdit c.in_default.not-GetData c.in_default.not-UpdateSpans c.in_default.not-LineCount c.in_default.not-Alert
    c.in_default.not-Ack c.in_default.not-Ended)
    (c.told-in_default.ensures.acted c.args.held.now views there.0)

pub returns-in_default-clause-table : goal.returns-in_default-clause-table
returns-in_default-clause-table c =
    let table = c.args.table.now in
    HasTable-grown table (styles_after table c.args.act.now) None c.told-in_default.result
    (styles_after-else table c.args.act.now
    (asks_else c.args.act.now c.in_default.not-Bad c.in_default.not-PluginEdit c.in_default.not-GetData c.in_default.not-UpdateSpans c.in_default.not-LineCount c.in_default.not-Alert
    c.in_default.not-Ack c.in_default.not-Ended))
    c.told-in_default.ensures.table

pub in_view-requires-clause-event : goal.in_view-requires-clause-event
in_view-requires-clause-event c = c.requires.caller

pub in_view-requires-in-GetData-clause-event : goal.in_view-requires-in-GetData-clause-event
in_view-requires-in-GetData-clause-event c = c.requires.caller

pub in_view-requires-in-LineCount-clause-event : goal.in_view-requires-in-LineCount-clause-event
in_view-requires-in-LineCount-clause-event c = c.requires.caller

pub in_view-requires-in-Ack-clause-event : goal.in_view-requires-in-Ack-clause-event
in_view-requires-in-Ack-clause-event c = c.requires.caller

use Rattle.std.proofs.Common.{◌≡◌, None, refl, ap, sym, subst}
use Rattle.std.proofs.Math.Nat.{le-add_right}
use Rattle.std.specs.Prelude.{IfErr, IfOk, OnOk, length}
use Rattle.doc_session.specs.declared.event.Event.{Event}
use Rattle.doc_text.specs.Asking.{acknowledgement_refusal, asked_refusal, plugin_edit}
use Rattle.doc_text.specs.Fault.{DocRefuses}
use Rattle.doc_session.specs.Inner.{IsStepped}
use Rattle.doc_session.specs.Step.{command_refusal, effect_on, refusal_at, taken_step}
use Rattle.doc_session.proofs.ResultLemmas.{accepted-edit, as_many-same}
use Rattle.doc_session.proofs.TickLemmas.{ticks-event, ticks-none}
use Rattle.doc_session.proofs.doc.Doc.next.Goals as goal

pub returns-in-Front : goal.returns-in-Front
returns-in-Front g c = record {
  stepped = λ plain stands.
      subst (λ (event : Event). IfOk c.act.result (IsStepped (taken_step plain event))) (sym c.in-Front.is) (c.act.ensures.stepped plain stands);
  accepted = λ plain stands.
      subst (λ (event : Event). OnOk c.act.result (refusal_at plain event ≡ None)) (sym c.in-Front.is)
      (accepted-edit c.act.result (command_refusal plain (effect_on plain c.in-Front.act)) (c.act.ensures.accepted plain stands));
  refused = λ plain stands.
      subst (λ (event : Event). IfErr c.act.result (DocRefuses (refusal_at plain event))) (sym c.in-Front.is) (c.act.ensures.refused plain stands);
  plugins = as_many-same c.act.result c.args.self.now.text.sessions c.act.ensures.sessions;
  steps = λ plain stands. ticks-event _ _ plain _ _ c.in-Front.is (c.act.ensures.steps plain stands);
}

pub returns-in-Edit : goal.returns-in-Edit
returns-in-Edit g c = record {
  stepped = λ plain stands.
      subst (λ (event : Event). IfOk c.edit.result (IsStepped (taken_step plain event))) (sym c.in-Edit.is) (c.edit.ensures.stepped plain stands);
  accepted = λ plain stands.
      subst (λ (event : Event). OnOk c.edit.result (refusal_at plain event ≡ None)) (sym c.in-Edit.is)
      (accepted-edit c.edit.result (asked_refusal plain.text (plugin_edit plain.text c.in-Edit.caller c.in-Edit.edit None)) (c.edit.ensures.accepted plain stands));
  refused = λ plain stands.
      subst (λ (event : Event). IfErr c.edit.result (DocRefuses (refusal_at plain event))) (sym c.in-Edit.is) (c.edit.ensures.refused plain stands);
  plugins = as_many-same c.edit.result c.args.self.now.text.sessions c.edit.ensures.sessions;
  steps = λ plain stands. ticks-event _ _ plain _ _ c.in-Edit.is (c.edit.ensures.steps plain stands);
}

pub returns-in-Spans : goal.returns-in-Spans
returns-in-Spans g c = record {
  stepped = λ plain stands.
      subst (λ (event : Event). IfOk c.styled.result (IsStepped (taken_step plain event))) (sym c.in-Spans.is) (c.styled.ensures.stepped plain stands);
  accepted = λ plain stands.
      subst (λ (event : Event). OnOk c.styled.result (refusal_at plain event ≡ None)) (sym c.in-Spans.is)
      (c.styled.ensures.accepted plain stands);
  refused = λ plain stands.
      subst (λ (event : Event). IfErr c.styled.result (DocRefuses (refusal_at plain event))) (sym c.in-Spans.is) (c.styled.ensures.refused plain stands);
  plugins = as_many-same c.styled.result c.args.self.now.text.sessions c.styled.ensures.sessions;
  steps = λ plain stands. le-add_right _ _;
}

pub returns-in-Ack : goal.returns-in-Ack
returns-in-Ack g c = record {
  stepped = λ plain stands.
      subst (λ (event : Event). IfOk c.acknowledge.result (IsStepped (taken_step plain event))) (sym c.in-Ack.is) (c.acknowledge.ensures.stepped plain stands);
  accepted = λ plain stands.
      subst (λ (event : Event). OnOk c.acknowledge.result (refusal_at plain event ≡ None)) (sym c.in-Ack.is)
      (accepted-edit c.acknowledge.result (acknowledgement_refusal plain.text.history c.in-Ack.rev) (c.acknowledge.ensures.accepted plain stands));
  refused = λ plain stands.
      subst (λ (event : Event). IfErr c.acknowledge.result (DocRefuses (refusal_at plain event))) (sym c.in-Ack.is) (c.acknowledge.ensures.refused plain stands);
  plugins = c.acknowledge.ensures.plugins;
  steps = λ plain stands. le-add_right _ _;
}

pub returns-in_ok-end_session-in-Ended : goal.returns-in_ok-end_session-in-Ended
returns-in_ok-end_session-in-Ended g c = record {
  stepped = λ plain stands.
      subst (λ (event : Event). IsStepped (taken_step plain event) c.in_ok-end_session-in-Ended.field-0) (sym c.in-Ended.is) (c.in_ok-end_session-in-Ended.ensures.stepped plain stands);
  accepted = λ plain stands. subst (λ (event : Event). refusal_at plain event ≡ None) (sym c.in-Ended.is) refl;
  refused = λ plain stands. tt;
  plugins = c.in_ok-end_session-in-Ended.ensures.plugins;
  steps = λ plain stands. le-add_right _ _;
}

pub returns-in_ok-view_only-in-Config : goal.returns-in_ok-view_only-in-Config
returns-in_ok-view_only-in-Config g c = record {
  stepped = λ plain stands.
      subst (λ (event : Event). IsStepped (taken_step plain event) c.in_ok-view_only-in-Config.field-0) (sym c.in-Config.is) (c.in_ok-view_only-in-Config.ensures.stepped plain stands);
  accepted = λ plain stands. subst (λ (event : Event). refusal_at plain event ≡ None) (sym c.in-Config.is) refl;
  refused = λ plain stands. tt;
  plugins = ap length c.in_ok-view_only-in-Config.ensures.sessions;
  steps = λ plain stands. ticks-event _ _ plain _ _ c.in-Config.is (c.in_ok-view_only-in-Config.ensures.steps plain stands);
}

pub returns-in_ok-view_only-in-Other : goal.returns-in_ok-view_only-in-Other
returns-in_ok-view_only-in-Other g c = record {
  stepped = λ plain stands.
      subst (λ (event : Event). IsStepped (taken_step plain event) c.in_ok-view_only-in-Other.field-0) (sym c.in-Other.is) (c.in_ok-view_only-in-Other.ensures.stepped plain stands);
  accepted = λ plain stands. subst (λ (event : Event). refusal_at plain event ≡ None) (sym c.in-Other.is) refl;
  refused = λ plain stands. tt;
  plugins = ap length c.in_ok-view_only-in-Other.ensures.sessions;
  steps = λ plain stands. ticks-none _ _ _ (c.in_ok-view_only-in-Other.ensures.steps plain stands);
}

pub returns-in-Read : goal.returns-in-Read
returns-in-Read g c = record {
  stepped = λ plain stands.
      subst (λ (event : Event). IfOk c.read.result (IsStepped (taken_step plain event))) (sym c.in-Read.is) (c.read.ensures.stepped plain stands);
  accepted = λ plain stands.
      subst (λ (event : Event). OnOk c.read.result (refusal_at plain event ≡ None)) (sym c.in-Read.is) (c.read.ensures.accepted plain stands);
  refused = λ plain stands.
      subst (λ (event : Event). IfErr c.read.result (DocRefuses (refusal_at plain event))) (sym c.in-Read.is) (c.read.ensures.refused plain stands);
  plugins = as_many-same c.read.result c.args.self.now.text.sessions c.read.ensures.sessions;
  steps = λ plain stands. le-add_right _ _;
}

pub returns-in_ok-count-in-Count : goal.returns-in_ok-count-in-Count
returns-in_ok-count-in-Count g c = record {
  stepped = λ plain stands.
      subst (λ (event : Event). IsStepped (taken_step plain event) c.in_ok-count-in-Count.field-0) (sym c.in-Count.is) (c.in_ok-count-in-Count.ensures.stepped plain stands);
  accepted = λ plain stands. subst (λ (event : Event). refusal_at plain event ≡ None) (sym c.in-Count.is) refl;
  refused = λ plain stands. tt;
  plugins = ap length c.in_ok-count-in-Count.ensures.sessions;
  steps = λ plain stands. le-add_right _ _;
}

pub returns-in_ok-save-in-Saved : goal.returns-in_ok-save-in-Saved
returns-in_ok-save-in-Saved g c = record {
  stepped = λ plain stands.
      subst (λ (event : Event). IsStepped (taken_step plain event) c.in_ok-save-in-Saved.field-0) (sym c.in-Saved.is) (c.in_ok-save-in-Saved.ensures.stepped plain stands);
  accepted = λ plain stands. subst (λ (event : Event). refusal_at plain event ≡ None) (sym c.in-Saved.is) refl;
  refused = λ plain stands. tt;
  plugins = ap length c.in_ok-save-in-Saved.ensures.sessions;
  steps = λ plain stands. le-add_right _ _;
}

pub returns-in_err-view_only-in-Config-clause-steps : goal.returns-in_err-view_only-in-Config-clause-steps
returns-in_err-view_only-in-Config-clause-steps g c = λ plain stands.
    ticks-event _ _ plain _ _ c.in-Config.is (c.in_err-view_only-in-Config.ensures.steps plain stands)

pub returns-in_err-view_only-in-Other-clause-steps : goal.returns-in_err-view_only-in-Other-clause-steps
returns-in_err-view_only-in-Other-clause-steps g c = λ plain stands. ticks-none _ _ _ (c.in_err-view_only-in-Other.ensures.steps plain stands)

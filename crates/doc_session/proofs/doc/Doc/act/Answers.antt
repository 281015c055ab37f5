use Rattle.std.proofs.Common.{◌≡◌, None, Some, ap, sym, ◌∙◌, subst}
use Rattle.std.specs.Prelude.{IfErr, IfOk, OnOk}
use Rattle.xi_plain.specs.declared.command.EditAct.{EditAct}
use Rattle.doc_text.specs.Fault.{DocRefuses}
use Rattle.doc_session.specs.Inner.{IsStepped}
use Rattle.doc_view.specs.Looking.{IsViewingOf, viewing_of}
use Rattle.doc_text.specs.Refusal.{edit_refused}
use Rattle.doc_session.specs.Step.{command_refusal, done_step, effect_on, looking_step}
use Rattle.doc_session.proofs.ActLemmas.{refusal-looking, ticks-looking}
use Rattle.doc_session.proofs.TickLemmas.{ticks-few, ticks-step}
use Rattle.doc_session.proofs.doc.Doc.act.Goals as goal

pub returns-in_ok-view_only-in-Ok : goal.returns-in_ok-view_only-in-Ok
returns-in_ok-view_only-in-Ok g c =
    let act = c.args.act in
    let looks : viewing_of act ≡ Some c.in-Ok.viewing = subst (IsViewingOf act) c.in-Ok.is c.viewing_of.ensures in
    record {
      stepped = λ plain stands.
          subst (λ found. IsStepped (looking_step plain act found) c.in_ok-view_only-in-Ok.field-0) (sym looks)
          (c.in_ok-view_only-in-Ok.ensures.stepped plain stands);
      accepted = λ plain stands. refusal-looking plain act c.in-Ok.viewing looks;
      refused = λ plain stands. tt;
      sessions = c.in_ok-view_only-in-Ok.ensures.sessions;
      steps = λ plain stands.
          ticks-few _ _ _ _ (ticks-looking plain.view act c.in-Ok.viewing looks) (c.in_ok-view_only-in-Ok.ensures.steps plain stands);
    }

pub done-requires-clause-act : goal.done-requires-clause-act
done-requires-clause-act g c =
    let is = subst (IsViewingOf c.args.act) c.in-Err.is c.viewing_of.ensures in
    subst (λ (act : EditAct). viewing_of act ≡ None) is.1 is.0

pub returns-in-Err : goal.returns-in-Err
returns-in-Err g c =
    let act = c.args.act in
    let is = subst (IsViewingOf act) c.in-Err.is c.viewing_of.ensures in
    record {
      stepped = λ plain stands.
          subst (λ found. IfOk c.done.result (IsStepped (looking_step plain act found))) (sym is.0)
          (subst (λ (a : EditAct). IfOk c.done.result (IsStepped (done_step plain a))) (sym is.1) (c.done.ensures.stepped plain stands));
      accepted = λ plain stands.
          subst (λ (a : EditAct). OnOk c.done.result (command_refusal plain (effect_on plain a) ≡ None)) (sym is.1) (c.done.ensures.accepted plain stands);
      refused = λ plain stands.
          subst (λ (a : EditAct). IfErr c.done.result (DocRefuses (edit_refused (command_refusal plain (effect_on plain a))))) (sym is.1)
          (c.done.ensures.refused plain stands);
      sessions = c.done.ensures.sessions;
      steps = λ plain stands.
          ticks-step _ _ plain _ _ (ap (looking_step plain act) is.0 ∙ ap (done_step plain) is.1) (c.done.ensures.steps plain stands);
    }

pub returns-in_err-view_only-in-Ok-clause-steps : goal.returns-in_err-view_only-in-Ok-clause-steps
returns-in_err-view_only-in-Ok-clause-steps g c = λ plain stands.
    let act = c.args.act in
    let looks : viewing_of act ≡ Some c.in-Ok.viewing = subst (IsViewingOf act) c.in-Ok.is c.viewing_of.ensures in
    ticks-few _ _ _ _ (ticks-looking plain.view act c.in-Ok.viewing looks) (c.in_err-view_only-in-Ok.ensures.steps plain stands)

use Rattle.std.proofs.Common.{◌≡◌, None, ap, sym, subst}
use Rattle.std.specs.Prelude.{IfOk}
use Rattle.xi_plain.specs.declared.command.EditAct.{EditAct}
use Rattle.doc_session.specs.Inner.{IsStepped}
use Rattle.doc_session.specs.Step.{command_refusal, done_step, effect_on}
use Rattle.doc_session.proofs.ActLemmas.{IsCommand-else, refusal-selecting}
use Rattle.doc_session.proofs.TickLemmas.{ticks-step}
use Rattle.doc_session.proofs.doc.Doc.done.Goals as goal

pub returns-in_ok-undo-in-Undo : goal.returns-in_ok-undo-in-Undo
returns-in_ok-undo-in-Undo g c = record {
  stepped = λ plain stands.
      subst (λ (act : EditAct). IsStepped (done_step plain act) c.in_ok-undo-in-Undo.field-0) (sym c.in-Undo.is)
      (c.in_ok-undo-in-Undo.ensures.stepped plain stands);
  accepted = λ plain stands.
      subst (λ (act : EditAct). command_refusal plain (effect_on plain act) ≡ None) (sym c.in-Undo.is) (refusal-selecting plain);
  refused = λ plain stands. tt;
  sessions = c.in_ok-undo-in-Undo.ensures.sessions;
  steps = λ plain stands. ticks-step _ _ plain _ _ (ap (done_step plain) c.in-Undo.is) (c.in_ok-undo-in-Undo.ensures.steps plain stands);
}

pub returns-in_ok-redo-in-Redo : goal.returns-in_ok-redo-in-Redo
returns-in_ok-redo-in-Redo g c = record {
  stepped = λ plain stands.
      subst (λ (act : EditAct). IsStepped (done_step plain act) c.in_ok-redo-in-Redo.field-0) (sym c.in-Redo.is)
      (c.in_ok-redo-in-Redo.ensures.stepped plain stands);
  accepted = λ plain stands.
      subst (λ (act : EditAct). command_refusal plain (effect_on plain act) ≡ None) (sym c.in-Redo.is) (refusal-selecting plain);
  refused = λ plain stands. tt;
  sessions = c.in_ok-redo-in-Redo.ensures.sessions;
  steps = λ plain stands. ticks-step _ _ plain _ _ (ap (done_step plain) c.in-Redo.is) (c.in_ok-redo-in-Redo.ensures.steps plain stands);
}

pub command-requires-clause-act : goal.command-requires-clause-act
command-requires-clause-act g c = (IsCommand-else c.args.act c.in_default.not-Undo c.in_default.not-Redo c.requires.act).done

pub returns-in_default : goal.returns-in_default
returns-in_default g c = record {
  stepped = λ plain stands.
      let command = IsCommand-else c.args.act c.in_default.not-Undo c.in_default.not-Redo c.requires.act in
      subst (λ step. IfOk c.command.result (IsStepped step)) (sym (command.step plain)) (c.command.ensures.stepped plain stands);
  accepted = c.command.ensures.accepted;
  refused = c.command.ensures.refused;
  sessions = c.command.ensures.sessions;
  steps = λ plain stands.
      let command = IsCommand-else c.args.act c.in_default.not-Undo c.in_default.not-Redo c.requires.act in
      ticks-step _ _ plain _ _ (command.step plain) (c.command.ensures.steps plain stands);
}

pub returns-in_err-undo-in-Undo-clause-steps : goal.returns-in_err-undo-in-Undo-clause-steps
returns-in_err-undo-in-Undo-clause-steps g c = λ plain stands.
    ticks-step _ _ plain _ _ (ap (done_step plain) c.in-Undo.is) (c.in_err-undo-in-Undo.ensures.steps plain stands)

pub returns-in_err-redo-in-Redo-clause-steps : goal.returns-in_err-redo-in-Redo-clause-steps
returns-in_err-redo-in-Redo-clause-steps g c = λ plain stands.
    ticks-step _ _ plain _ _ (ap (done_step plain) c.in-Redo.is) (c.in_err-redo-in-Redo.ensures.steps plain stands)

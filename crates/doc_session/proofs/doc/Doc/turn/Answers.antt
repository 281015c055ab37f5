use Rattle.std.proofs.Common.{Option, sym, subst}
use Rattle.std.specs.Prelude.{IfOk, IfSome}
use Rattle.doc_text.specs.declared.revised.Revised.{Revised}
use Rattle.doc_text.specs.Revised.{IsRevisionOf, IsTurnOf}
use Rattle.doc_session.specs.Inner.{IsStepped}
use Rattle.doc_session.proofs.StepLemmas.{step-turned, step-unturned}
use Rattle.doc_session.proofs.TickLemmas.{ticks-none, ticks-turned}
use Rattle.doc_session.proofs.doc.Doc.turn.Goals as goal

pub turn_group-requires : goal.turn_group-requires
turn_group-requires g c = subst (λ (found : Option Revised). IfSome found (IsRevisionOf c.args.self.now.text)) c.in-Some.is c.requires

pub returns-in-Some : goal.returns-in-Some
returns-in-Some g c = record {
  stepped = λ plain group groups stands is.
      step-turned plain groups c.in-Some.revised c.turn_group.result (λ g turned. c.turn_group.ensures.stepped plain g groups stands turned) group
      (subst (λ (found : Option Revised). IsTurnOf plain.text group groups found) c.in-Some.is is);
  sessions = c.turn_group.ensures.sessions;
  steps = λ plain group groups stands is.
      ticks-turned _ _ plain groups c.in-Some.revised (λ g turned. c.turn_group.ensures.steps plain g groups stands turned) group
      (subst (λ (found : Option Revised). IsTurnOf plain.text group groups found) c.in-Some.is is);
}

pub returns-in-None : goal.returns-in-None
returns-in-None g c = record {
  stepped = λ plain group groups stands is.
      subst (λ step. IfOk c.view_only.result (IsStepped step))
      (sym (step-unturned plain groups group (subst (λ (found : Option Revised). IsTurnOf plain.text group groups found) c.in-None.is is)))
      (c.view_only.ensures.stepped plain stands);
  sessions = c.view_only.ensures.sessions;
  steps = λ plain group groups stands is. ticks-none _ _ _ (c.view_only.ensures.steps plain stands);
}

use Rattle.std.proofs.Common.{sym, subst}
use Rattle.doc_session.specs.InMemory.{Doc}
use Rattle.doc_session.specs.Stands.{DocStandsFor}
use Rattle.session_step.specs.declared.stepped.Stepped.{Stepped}
use Rattle.session_step.specs.declared.stepped.ToEach.TheVariants as to
use Rattle.session_step.specs.InnerStep.{TakesSteps}
use Rattle.session_step.specs.Session.{opened_document}
use Rattle.session_step.specs.Views.{TakesEvents}
use Rattle.session_step.proofs.OpenLemmas.{IsOutcome-opening}
use Rattle.session_step.proofs.act.open_text.Goals as goal

pub take_one-requires-clause-takes : goal.take_one-requires-clause-takes
take_one-requires-clause-takes c =
    subst TakesEvents (sym c.in_ok-shared.ensures.ok) c.in_ok-doc.ensures.takes

pub returns : goal.returns
returns c = λ opened views numbered stands.
    let At : Stepped → Type 0 = λ old. TakesSteps to.Other old c.args.held.now c.take.new.self in
    let Loads : Doc → Type 0 = λ doc. DocStandsFor doc (opened_document c.args.terms c.args.ended.now c.args.config c.args.text) in
    IsOutcome-opening c.args.terms c.args.ended.now c.args.config opened c.args.id c.args.text (record { id = c.in_ok-copy.copy; doc = c.in_ok-shared.shared }) c.args.held.now
    c.take.new.self c.take_one.new.self c.in_ok-news.news c.effects_of.result views numbered c.in_ok-copy.ensures
    (subst Loads (sym c.in_ok-shared.ensures.ok) c.in_ok-doc.ensures.stands) (subst At c.new-stepped.ensures c.in_ok-take.ensures) c.in_ok-take_one.ensures
    c.effects_of.ensures stands (c.in_ok-news.ensures opened c.args.text numbered c.byte_len.ensures)

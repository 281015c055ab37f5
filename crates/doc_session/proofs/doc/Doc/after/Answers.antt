use Rattle.std.proofs.Common.{length, refl, ap, sym, ◌∙◌, subst}
use Rattle.std.specs.Prelude.{IfErr}
use Rattle.std.proofs.lemmas.Result.{err_from_is_err_and}
use Rattle.doc_text.specs.Fault.{DocRefuses}
use Rattle.doc_session.specs.InMemory.{Doc}
use Rattle.doc_session.specs.Stands.{DocStandsFor}
use Rattle.doc_session.specs.Step.{collected_document, refusal_at, taken_step}
use Rattle.doc_session.proofs.ShowLemmas.{shown-step}
use Rattle.doc_session.proofs.doc.Doc.after.Goals as goal

pub returns-in_err-next-clause-shown : goal.returns-in_err-next-clause-shown
returns-in_err-next-clause-shown g c = λ plain stands. shown-step c.args.self.now plain stands c.args.event

pub returns-in_err-collected-clause-shown : goal.returns-in_err-collected-clause-shown
returns-in_err-collected-clause-shown g c = λ plain stands. shown-step c.args.self.now plain stands c.args.event

pub returns-in_err-collected-clause-refused : goal.returns-in_err-collected-clause-refused
returns-in_err-collected-clause-refused g c = λ plain stands.
    let refusal = refusal_at plain c.args.event in
    let lack = err_from_is_err_and c.from_residual-in_err-collected.result c.from_residual-in_err-collected.ensures.1 in
    subst (λ r. IfErr r (DocRefuses refusal)) (sym lack.1) (subst (DocRefuses refusal) (sym lack.2) (λ other. absurd (other refl)))

pub returns-clause-shown : goal.returns-clause-shown
returns-clause-shown g c = λ plain stands. shown-step c.args.self.now plain stands c.args.event

pub returns-clause-stands : goal.returns-clause-stands
returns-clause-stands g c = λ plain stands.
    let next = (taken_step plain c.args.event).document in
    subst (λ (d : Doc). DocStandsFor d (collected_document next)) (sym c.unwrap_or.ensures)
    (c.in_ok-collected.ensures.stands next (c.in_ok-next.ensures.stepped plain stands).stands)

pub returns-clause-effects : goal.returns-clause-effects
returns-clause-effects g c = λ plain stands.
    let effects = (c.in_ok-next.ensures.stepped plain stands).effects in
    record { body = effects.body; update = effects.update; scroll = effects.scroll; notice = effects.notice }

pub returns-clause-kept : goal.returns-clause-kept
returns-clause-kept g c =
    ap (λ (d : Doc). length d.text.sessions) c.unwrap_or.ensures ∙ ap length c.in_ok-collected.ensures.sessions ∙ c.in_ok-next.ensures.plugins

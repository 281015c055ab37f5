use Rattle.std.proofs.Common.{sym, subst}
use Rattle.std.specs.Prelude.{IfErr}
use Rattle.std.proofs.lemmas.Result.{err_from_is_err_and}
use Rattle.doc_text.specs.Asking.{reading_refusal}
use Rattle.doc_text.specs.Fault.{DocRefuses}
use Rattle.doc_session.specs.declared.event.Body.TheVariants.{Chunk}
use Rattle.doc_session.specs.Inner.{IsStepped}
use Rattle.doc_session.specs.InMemory.{Doc}
use Rattle.doc_session.specs.Stands.{DocStandsFor}
use Rattle.doc_session.specs.Step.{answered_step}
use Rattle.doc_session.proofs.doc.Doc.read.Goals as goal

pub returns-clause-stepped : goal.returns-clause-stepped
returns-clause-stepped c = λ plain stands.
    let was = subst (λ (d : Doc). DocStandsFor d plain) (sym c.self.view_is) stands in
    subst (λ text. IsStepped (answered_step plain (Chunk text c.args.start)) c.in_ok-answered.field-0) (c.in_ok-text.ensures.chunk plain.text was.text)
    (c.in_ok-answered.ensures.stepped plain stands)

pub returns-clause-accepted : goal.returns-clause-accepted
returns-clause-accepted c = λ plain stands.
    let was = subst (λ (d : Doc). DocStandsFor d plain) (sym c.self.view_is) stands in
    c.in_ok-text.ensures.accepted plain.text was.text

pub returns-in_err-text-clause-refused : goal.returns-in_err-text-clause-refused
returns-in_err-text-clause-refused c = λ plain stands.
    let was = subst (λ (d : Doc). DocStandsFor d plain) (sym c.self.view_is) stands in
    let refusal = reading_refusal plain.text.history c.args.rev c.args.start in
    let same = err_from_is_err_and c.from_residual.result c.from_residual.ensures.1 in
    subst (λ r. IfErr r (DocRefuses refusal)) (sym same.1) (subst (DocRefuses refusal) (sym same.2) (c.in_err-text.ensures.refused plain.text was.text))

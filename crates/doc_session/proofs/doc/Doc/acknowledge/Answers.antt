use Rattle.std.proofs.Common.{refl, ap, sym, ◌∙◌, subst, length}
use Rattle.std.specs.Prelude.{IfErr}
use Rattle.std.proofs.lemmas.Result.{err_from_is_err_and}
use Rattle.doc_text.specs.Asking.{acknowledgement_refusal}
use Rattle.doc_text.specs.Fault.{DocRefuses}
use Rattle.doc_text.specs.Refusal.{edit_refused}
use Rattle.doc_text.specs.Collecting.{acknowledged_text}
use Rattle.doc_session.specs.InMemory.{Doc}
use Rattle.doc_session.specs.Stands.{DocStandsFor}
use Rattle.doc_session.proofs.doc.Doc.acknowledge.Goals as goal

pub silent-requires-clause-engine : goal.silent-requires-clause-engine
silent-requires-clause-engine c = c.in_ok-text.ensures.engine ∙ ap (λ (d : Doc). d.text.engine) c.self.view_is

pub silent-requires-clause-count : goal.silent-requires-clause-count
silent-requires-clause-count c = c.in_ok-text.ensures.count ∙ ap (λ (d : Doc). length d.text.sessions) c.self.view_is

pub returns-clause-stepped : goal.returns-clause-stepped
returns-clause-stepped c = λ plain stands.
    let was = subst (λ (d : Doc). DocStandsFor d plain) (sym c.self.view_is) stands in
    c.in_ok-silent.ensures.stepped plain (acknowledged_text plain.text c.args.caller c.args.rev) stands (c.in_ok-text.ensures.stands plain.text was.text) refl

pub returns-clause-plugins : goal.returns-clause-plugins
returns-clause-plugins c =
    ap length c.in_ok-silent.ensures.sessions ∙ c.in_ok-text.ensures.count ∙ ap (λ (d : Doc). length d.text.sessions) c.self.view_is

pub returns-clause-accepted : goal.returns-clause-accepted
returns-clause-accepted c = λ plain stands.
    let was = subst (λ (d : Doc). DocStandsFor d plain) (sym c.self.view_is) stands in
    c.in_ok-text.ensures.accepted plain.text was.text

pub returns-in_err-text-clause-refused : goal.returns-in_err-text-clause-refused
returns-in_err-text-clause-refused c = λ plain stands.
    let was = subst (λ (d : Doc). DocStandsFor d plain) (sym c.self.view_is) stands in
    let refusal = edit_refused (acknowledgement_refusal plain.text.history c.args.rev) in
    let same = err_from_is_err_and c.from_residual.result c.from_residual.ensures.1 in
    subst (λ r. IfErr r (DocRefuses refusal)) (sym same.1) (subst (DocRefuses refusal) (sym same.2) (c.in_err-text.ensures.refused plain.text was.text))

use Rattle.std.proofs.Common.{sym, subst}
use Rattle.std.specs.Prelude.{IfErr}
use Rattle.std.proofs.lemmas.Result.{err_from_is_err_and}
use Rattle.doc_text.specs.Fault.{DocRefuses}
use Rattle.doc_session.specs.Step.{refusal_at}
use Rattle.doc_session.proofs.ShowLemmas.{shown-step}
use Rattle.doc_session.proofs.doc.Doc.apply.Goals as goal

pub returns-in_err-next-clause-shown : goal.returns-in_err-next-clause-shown
returns-in_err-next-clause-shown g c = λ plain stands. shown-step c.args.self.now plain stands c.args.event

pub returns-clause-shown : goal.returns-clause-shown
returns-clause-shown g c = λ plain stands. shown-step c.args.self.now plain stands c.args.event

pub returns-in_err-next-clause-refused : goal.returns-in_err-next-clause-refused
returns-in_err-next-clause-refused g c = λ plain stands.
    let refusal = refusal_at plain c.args.event in
    let same = err_from_is_err_and c.from_residual.result c.from_residual.ensures.1 in
    subst (λ r. IfErr r (DocRefuses refusal)) (sym same.1) (subst (DocRefuses refusal) (sym same.2) (c.in_err-next.ensures.refused plain stands))

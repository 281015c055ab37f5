use Rattle.std.proofs.Common.{ap, sym, subst, ◌∙◌}
use Rattle.std.specs.Prelude.{IfOk}
use Rattle.session_step.specs.Session.{named_view, views_of}
use Rattle.core_session.specs.Core.{IsDocOf, journal_of, sink_of, terms_of}
use Rattle.xi_forms.specs.InnerStorm.{AreNumbers}
use Rattle.xi_forms.proofs.SummaryLemmas.{summary_told}
use Rattle.xi_forms.proofs.summary.summary_of.Goals as goal

pub returns-in-Some-Some : goal.returns-in-Some-Some
returns-in-Some-Some c =
    let core = c.args.core.now in
    let doc = c.in-Some-Some.doc.now in
    let bytes = c.in-Some-Some.bytes.now in
    summary_told (terms_of core) (journal_of core) (sink_of core).held bytes doc c.numbers.result
    (sym (c.in-Some-Some.ensures' ∙ ap (λ sink. sink.held) c.sink.ensures))
    (subst (λ view. ∥ IsDocOf doc (named_view (views_of (terms_of core) (journal_of core)) view) ∥₁) c.in_ok-view.ensures.made
    c.in-Some-Some.ensures.stands)
    (subst (λ entries. IfOk c.numbers.result (AreNumbers entries doc bytes)) c.len.ensures c.numbers.ensures)

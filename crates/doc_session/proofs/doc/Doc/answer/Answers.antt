use Rattle.std.proofs.Common.{ap, sym, ◌∙◌, subst}
use Rattle.std.specs.Prelude.{if◌then◌else◌}
use Rattle.edit_ops.specs.Commands.{copied_text}
use Rattle.doc_session.specs.declared.event.Body.TheVariants.{Copied, Null}
use Rattle.doc_session.specs.InMemory.{Doc}
use Rattle.doc_session.specs.Stands.{DocStandsFor}
use Rattle.doc_session.proofs.StepLemmas.{copied-is}
use Rattle.doc_session.proofs.doc.Doc.answer.Goals as goal

pub returns-then-not-copies : goal.returns-then-not-copies
returns-then-not-copies c = λ plain stands.
    sym (ap (λ b. if b then Copied (copied_text plain.view.text plain.view.regions) else Null) (sym c.copies.ensures ∙ c.if-not-copies.true))

pub returns : goal.returns
returns c = λ plain stands.
    let was = subst (λ (d : Doc). DocStandsFor d plain) (sym c.self.view_is) stands in
    ap Copied (c.in_ok-text.ensures ∙ copied-is _ plain was) ∙
    sym (ap (λ b. if b then Copied (copied_text plain.view.text plain.view.regions) else Null) (sym c.copies.ensures ∙ c.if-not-copies.false))

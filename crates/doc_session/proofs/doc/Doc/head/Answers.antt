use Rattle.std.proofs.Common.{sym, subst, ap, ◌∙◌}
use Rattle.doc_session.specs.InMemory.{Doc}
use Rattle.doc_session.specs.Stands.{DocStandsFor}
use Rattle.plain_edits.specs.History.{head}
use Rattle.doc_session.proofs.doc.Doc.head.Goals as goal

pub returns-clause-head : goal.returns-clause-head
returns-clause-head c = λ plain stands.
    let was = subst (λ (d : Doc). DocStandsFor d plain) (sym c.self.view_is) stands in
    c.head.ensures.head plain.text was.text

pub returns-clause-revisions : goal.returns-clause-revisions
returns-clause-revisions c = c.head.ensures.revisions ∙ ap (λ (d : Doc). head d.text.engine.revisions) c.self.view_is

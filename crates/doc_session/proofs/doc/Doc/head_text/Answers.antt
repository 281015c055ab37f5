use Rattle.std.proofs.Common.{sym, subst}
use Rattle.doc_session.specs.InMemory.{Doc}
use Rattle.doc_session.specs.Stands.{DocStandsFor}
use Rattle.doc_session.proofs.doc.Doc.head_text.Goals as goal

pub returns : goal.returns
returns c = λ plain stands.
    let was = subst (λ (d : Doc). DocStandsFor d plain) (sym c.self.view_is) stands in
    c.head_text.ensures plain.text was.text

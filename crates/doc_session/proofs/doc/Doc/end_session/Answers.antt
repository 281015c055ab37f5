use Rattle.std.proofs.Common.{refl, ap, sym, ◌∙◌, subst, length}
use Rattle.doc_text.specs.Collecting.{ended_text}
use Rattle.doc_session.specs.InMemory.{Doc}
use Rattle.doc_session.specs.Stands.{DocStandsFor}
use Rattle.doc_session.proofs.doc.Doc.end_session.Goals as goal

pub silent-requires-clause-engine : goal.silent-requires-clause-engine
silent-requires-clause-engine c = c.in_ok-text.ensures.engine ∙ ap (λ (d : Doc). d.text.engine) c.self.view_is

pub silent-requires-clause-count : goal.silent-requires-clause-count
silent-requires-clause-count c = c.in_ok-text.ensures.count ∙ ap (λ (d : Doc). length d.text.sessions) c.self.view_is

pub returns-clause-stepped : goal.returns-clause-stepped
returns-clause-stepped c = λ plain stands.
    let was = subst (λ (d : Doc). DocStandsFor d plain) (sym c.self.view_is) stands in
    c.silent.ensures.stepped plain (ended_text plain.text c.args.caller) stands (c.in_ok-text.ensures.stands plain.text was.text) refl

use Rattle.std.proofs.Common.{◌≡◌, length, ap, sym, ◌∙◌, refl, subst}
use Rattle.std.specs.Prelude.{IfOk}
use Rattle.doc_text.specs.InMemory.{TextState}
use Rattle.doc_text.specs.Stands.{IsTextOf}
use Rattle.doc_session.specs.InMemory.{Doc}
use Rattle.doc_session.specs.Stands.{DocStandsFor}
use Rattle.doc_session.proofs.doc.Doc.answered.Goals as goal

pub silent-requires-clause-engine : goal.silent-requires-clause-engine
silent-requires-clause-engine c = ap (λ (t : TextState). t.engine) c.in_ok-text.ensures ∙ ap (λ (d : Doc). d.text.engine) c.self.view_is

pub silent-requires-clause-count : goal.silent-requires-clause-count
silent-requires-clause-count c = ap (λ (t : TextState). length t.sessions) c.in_ok-text.ensures ∙ ap (λ (d : Doc). length d.text.sessions) c.self.view_is

pub returns-clause-stepped : goal.returns-clause-stepped
returns-clause-stepped c = λ plain stands.
    let was = subst (λ (d : Doc). DocStandsFor d plain) (sym c.self.view_is) stands in
    c.silent.ensures.stepped plain plain.text stands (subst (λ (t : TextState). IsTextOf t plain.text) (sym c.in_ok-text.ensures) was.text.parts) refl

pub returns-clause-sessions : goal.returns-clause-sessions
returns-clause-sessions c =
    subst (λ sessions. IfOk c.silent.result (λ made. made.0.text.sessions ≡ sessions))
    (ap (λ (t : TextState). t.sessions) c.in_ok-text.ensures ∙ ap (λ (d : Doc). d.text.sessions) c.self.view_is) c.silent.ensures.sessions

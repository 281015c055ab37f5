use Rattle.std.proofs.Common.{sym, subst}
use Rattle.std.specs.Prelude.{IfSome}
use Rattle.undo_groups.specs.Groups.{next_undo, undone_one}
use Rattle.doc_text.specs.Revised.{IsRevisionOf}
use Rattle.doc_session.specs.InMemory.{Doc}
use Rattle.doc_session.specs.Stands.{DocStandsFor}
use Rattle.doc_session.proofs.doc.Doc.undo.Goals as goal

pub turn-requires : goal.turn-requires
turn-requires g c = subst (λ (d : Doc). IfSome c.in_ok-revised.revised (IsRevisionOf d.text)) c.self.view_is c.in_ok-revised.ensures.made

pub returns-clause-stepped : goal.returns-clause-stepped
returns-clause-stepped g c = λ plain stands.
    let was = subst (λ (d : Doc). DocStandsFor d plain) (sym c.self.view_is) stands in
    c.turn.ensures.stepped plain (next_undo plain.text.groups) (undone_one plain.text.groups) stands (c.in_ok-revised.ensures.turned plain.text was.text)

pub returns-clause-steps : goal.returns-clause-steps
returns-clause-steps g c = λ plain stands.
    let was = subst (λ (d : Doc). DocStandsFor d plain) (sym c.self.view_is) stands in
    c.turn.ensures.steps plain (next_undo plain.text.groups) (undone_one plain.text.groups) stands (c.in_ok-revised.ensures.turned plain.text was.text)

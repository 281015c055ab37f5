use Rattle.std.proofs.Common.{ap, ap₂, sym, ◌∙◌, subst}
use Rattle.std.specs.Prelude.{IfOk}
use Rattle.undo_groups.specs.Groups.{next_redo, redone_one}
use Rattle.doc_text.specs.InMemory.{TextState}
use Rattle.doc_text.specs.Inner.{IsTurnedBy}
use Rattle.doc_text.specs.Revised.{IsTurnOf}
use Rattle.doc_text.specs.Stands.{TextStandsFor}
use Rattle.doc_text.proofs.GroupLemmas.{IsTurnedBy-redo}
use Rattle.doc_text.proofs.text.TextState.redo_group.Goals as goal

pub turned-requires-clause-turned : goal.turned-requires-clause-turned
turned-requires-clause-turned c =
    let text = c.self.inside in
    let next = c.redo_group.new.self in
    let found = c.in_ok-group.group in
    subst (λ (t : TextState). IsTurnedBy t.groups next found) c.self.view_is
    (IsTurnedBy-redo text.stack c.given-before.ensures.sound found next (c.in_ok-group.ensures.group ∙ ap next_redo c.in_ok-stack.ensures)
    (c.in_ok-group.ensures.redone ∙ ap redone_one c.in_ok-stack.ensures) c.given-after.ensures.sound)

pub returns-clause-turned : goal.returns-clause-turned
returns-clause-turned c = λ plain stands.
    let was = subst (λ (t : TextState). TextStandsFor t plain) (sym c.self.view_is) stands in
    subst (λ turn. IfOk c.turned.result turn)
    (ap₂ (IsTurnOf plain) (c.in_ok-group.ensures.group ∙ ap next_redo (c.in_ok-stack.ensures ∙ was.parts.groups))
    (c.in_ok-group.ensures.redone ∙ ap redone_one (c.in_ok-stack.ensures ∙ was.parts.groups)))
    (c.turned.ensures.turned plain stands)

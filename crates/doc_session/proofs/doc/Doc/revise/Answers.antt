use Rattle.std.proofs.Common.{refl, subst}
use Rattle.std.specs.Prelude.{IfOk, Option}
use Rattle.xi_plain.specs.declared.config.Notice.{Notice}
use Rattle.span_styles.specs.Layers.{mapped_layers}
use Rattle.doc_view.specs.Looking.{is_scrolling}
use Rattle.doc_session.specs.Document.{no_request}
use Rattle.doc_session.specs.Inner.{IsStepped}
use Rattle.doc_session.specs.Step.{revised_document, scroll_if, step_to}
use Rattle.doc_session.proofs.LayerLemmas.{moved-changed}
use Rattle.doc_session.proofs.UntoldLemmas.{IsUntold-revised}
use Rattle.doc_session.proofs.TickLemmas.{ticks-within}
use Rattle.doc_session.proofs.doc.Doc.revise.Goals as goal

pub with_revision-requires-clause-changes : goal.with_revision-requires-clause-changes
with_revision-requires-clause-changes g c = c.requires.made.changes

pub with_revision-requires-clause-sessions : goal.with_revision-requires-clause-sessions
with_revision-requires-clause-sessions g c = c.requires.made.sessions

pub told-requires : goal.told-requires
told-requires g c = record { text = c.in_ok-next.ensures.left c.kept_front-from.result c.kept_front-from.ensures }

pub returns-clause-stepped : goal.returns-clause-stepped
returns-clause-stepped g c = λ plain next author stands is some.
    let later = revised_document plain next c.args.sel.regions in
    let layers = mapped_layers c.args.revised.units c.args.self.now.view.layers in
    subst (λ (n : Option Notice). IfOk c.told.result (IsStepped (step_to no_request plain later c.args.body (scroll_if (is_scrolling c.args.scrolling) plain later) n))) is.notice
    (c.told.ensures.stepped plain later stands
    (IsUntold-revised c.args.self.now c.in_ok-next.next plain next author c.args.revised c.args.sel.regions layers stands is c.in_ok-next.ensures.made some
    c.requires.sound c.requires.inside
    (moved-changed c.args.self.now plain next author c.args.revised layers stands is c.in_ok-next.ensures.over refl)))

pub returns-in_err-next-clause-steps : goal.returns-in_err-next-clause-steps
returns-in_err-next-clause-steps g c = λ plain next author stands is.
    ticks-within _ _ c.args.self.now plain next author c.args.revised stands is c.in_err-next.ensures.steps

pub returns-clause-steps : goal.returns-clause-steps
returns-clause-steps g c = λ plain next author stands is.
    ticks-within _ _ c.args.self.now plain next author c.args.revised stands is c.in_ok-next.ensures.steps

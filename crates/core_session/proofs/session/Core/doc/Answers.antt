use Rattle.std.proofs.Common.{◌<◌, List, Option, refl, sym, ◌∙◌, subst, arith, length}
use Rattle.std.specs.Prelude.{◌^◌}
use Rattle.std.proofs.Math.Logic.{∥∥₁_elim, ∥∥₁_map}
use Rattle.doc_session.specs.InMemory.{Doc}
use Rattle.doc_session.specs.Stands.{DocStandsFor}
use Rattle.session_step.specs.Session.{OpenView, named_view, views_of}
use Rattle.session_step.specs.Views.{IsPlaceOf, Stands}
use Rattle.session_step.specs.declared.opened.Opened.{Opened}
use Rattle.session_step.proofs.ForCallers.{named_at, none_named, serves_found}
use Rattle.core_session.specs.Core.{IsDocOf}
use Rattle.core_session.proofs.EnterLemmas.{never_prop, none_by, not_none}
use Rattle.core_session.proofs.AfterLemmas.{apart_of}
use Rattle.core_session.proofs.session.Core.doc.Goals as goal

pub returns-in-Some-clause-stands : goal.returns-in-Some-clause-stands
returns-in-Some-clause-stands g c =
    let core = c.args.self.now in
    let journal = core.journal in
    let few : length journal.items < 2 ^ 63 = omega (arith, journal.ok.0, journal.ok.1, journal.small, core.room) in
    let held = c.as_slice-held.result.now in
    let name = c.args.view.now in
    let views = views_of c.args.self.now.terms journal.items in
    let Held : List Opened → Type 0 = λ held. Stands held views in
    let is = subst (IsPlaceOf held name) c.in-Some.is c.place_of.ensures in
    ∥∥₁_map core.kept (λ kept.
    let stands : Stands held views = subst Held (sym c.as_slice-held.ensures) kept.stands.views in
    let found = named_at held views name c.in-Some.at (stands, apart_of c.args.self.now.terms journal.items few) is in
    let At : Option OpenView → Type 0 = λ named. IsDocOf c.deref.result.now named in
    let Of : Doc → Type 0 = λ doc. DocStandsFor doc found.view.document in
    subst At (sym found.named)
    (subst Of (sym c.deref.ensures) (serves_found held views c.in-Some.at found.view c.index-held-at.result stands found.found).stands))

pub returns-in-Some-clause-absent : goal.returns-in-Some-clause-absent
returns-in-Some-clause-absent g c =
    let core = c.args.self.now in
    let journal = core.journal in
    let few : length journal.items < 2 ^ 63 = omega (arith, journal.ok.0, journal.ok.1, journal.small, core.room) in
    let held = c.as_slice-held.result.now in
    let name = c.args.view.now in
    let views = views_of c.args.self.now.terms journal.items in
    let Held : List Opened → Type 0 = λ held. Stands held views in
    let is = subst (IsPlaceOf held name) c.in-Some.is c.place_of.ensures in (
      λ none. absurd cc,
      λ none.
          absurd (∥∥₁_elim core.kept never_prop (λ kept.
          let found = named_at held views name c.in-Some.at (subst Held (sym c.as_slice-held.ensures) kept.stands.views, apart_of c.args.self.now.terms journal.items few) is in
          not_none (sym found.named ∙ none))),
    )

pub returns-in-None-clause-absent : goal.returns-in-None-clause-absent
returns-in-None-clause-absent g c =
    let core = c.args.self.now in
    let journal = core.journal in
    let few : length journal.items < 2 ^ 63 = omega (arith, journal.ok.0, journal.ok.1, journal.small, core.room) in
    let held = c.as_slice-held.result.now in
    let name = c.args.view.now in
    let views = views_of c.args.self.now.terms journal.items in
    let Held : List Opened → Type 0 = λ held. Stands held views in
    let is = subst (IsPlaceOf held name) c.in-None.is c.place_of.ensures in (
      λ none.
          none_by (named_view views name)
          (∥∥₁_map core.kept (λ kept.
          none_named held views name (subst Held (sym c.as_slice-held.ensures) kept.stands.views, apart_of c.args.self.now.terms journal.items few) is)),
      λ none. refl,
    )

use Rattle.std.proofs.Common.{◌≡◌, sym, subst}
use Rattle.std.proofs.lemmas.Result.{IfOk-weaker}
use Rattle.xi_plain.specs.declared.command.Act.{Act}
use Rattle.xi_plain.specs.declared.entry.ShelfNote.TheVariants.{NoCall}
use Rattle.core_session.specs.declared.ask.Asked.{Asked}
use Rattle.session_step.specs.Views.{IsFirstNamed, IsPlaceOf}
use Rattle.core_session.specs.InnerSession.{holds_name}
use Rattle.core_session.specs.Shelves.{IsNoted, shelf_state}
use Rattle.session_step.proofs.ForCallers.{first_inside, named_at, none_named}
use Rattle.core_session.proofs.HoldLemmas.{holds_found}
use Rattle.core_session.proofs.ServesLemmas.{never}
use Rattle.core_session.proofs.ShelfLemmas.{noted_absent}
use Rattle.core_session.proofs.ask.saving.Goals as goal

pub saving_at-requires-clause-inside : goal.saving_at-requires-clause-inside
saving_at-requires-clause-inside g c =
    first_inside c.args.held.now c.args.name.now c.in-Some.at (subst (IsPlaceOf c.args.held.now c.args.name.now) c.in-Some.is c.place_of.ensures)

pub returns-in-Some-clause-noted : goal.returns-in-Some-clause-noted
returns-in-Some-clause-noted g c = λ session there.
    let held = c.args.held.now in
    let name = c.args.name.now in
    let is : IsFirstNamed held name c.in-Some.at = subst (IsPlaceOf held name) c.in-Some.is c.place_of.ensures in
    let found = named_at held session.views name c.in-Some.at there is in
    c.saving_at.ensures.noted session found.view name there found.found found.named c.requires.act

pub returns-in-Some-clause-unasked : goal.returns-in-Some-clause-unasked
returns-in-Some-clause-unasked g c = λ none.
    let held = c.args.held.now in
    let name = c.args.name.now in
    let is : IsFirstNamed held name c.in-Some.at = subst (IsPlaceOf held name) c.in-Some.is c.place_of.ensures in
    never (holds_name held name) none (holds_found held name c.in-Some.at is)

pub returns-in-None-clause-noted : goal.returns-in-None-clause-noted
returns-in-None-clause-noted g c = λ session there.
    let held = c.args.held.now in
    let name = c.args.name.now in
    let none = none_named held session.views name there (subst (IsPlaceOf held name) c.in-None.is c.place_of.ensures) in
    let shelf = shelf_state g.H.Shelf.files g.H.Shelf.faults c.args.shelf.now in
    let At : Act → Type 0 = λ act. IsNoted shelf shelf session.views act NoCall in
    let here : At c.args.command.now.act = subst At (sym c.requires.act) (noted_absent shelf session.views name c.args.path.now none) in
    IfOk-weaker c.noted.result (λ (asked : Asked). asked.note ≡ NoCall) (λ (asked : Asked). IsNoted shelf shelf session.views c.args.command.now.act asked.note)
    (λ asked same. subst (IsNoted shelf shelf session.views c.args.command.now.act) (sym same) here) c.noted.ensures.note

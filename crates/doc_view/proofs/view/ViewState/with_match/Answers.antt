use Rattle.std.proofs.Common.{◌≡◌, List, [], length, ap, sym, ◌∙◌, subst, arith}
use Rattle.std.specs.Prelude.{IfOk, IfSome}
use Rattle.plain_text.specs.declared.selection.Region.{Region}
use Rattle.selection_core.specs.Mapped.{AreWithin}
use Rattle.selection_core.specs.Selection.{IsSelection}
use Rattle.doc_view.specs.Search.{with_match}
use Rattle.doc_view.specs.View.{View}
use Rattle.doc_view.proofs.SearchLemmas.{IsInside}
use Rattle.doc_view.proofs.view.ViewState.with_match.Goals as goal

pub with_regions-requires-clause-sound : goal.with_regions-requires-clause-sound
with_regions-requires-clause-sound c = subst IsSelection (sym (c.in_ok-selecting-in-Some.ensures [])) tt

pub with_regions-requires-clause-inside : goal.with_regions-requires-clause-inside
with_regions-requires-clause-inside c =
    let len = length c.args.self.now.text in
    let inside = subst (λ o. IfSome o (IsInside len)) c.in-Some.is c.requires in
    subst (AreWithin len) (sym (c.in_ok-selecting-in-Some.ensures [])) (omega (arith, inside.0, inside.1), tt)

pub returns-in_ok-selecting-in-Some : goal.returns-in_ok-selecting-in-Some
returns-in_ok-selecting-in-Some c =
    let now = c.args.self.now in
    subst (λ (rs : List Region). IfOk c.with_regions.result (λ (made : View). made ≡ record now { regions = rs }))
    (c.in_ok-selecting-in-Some.ensures now.regions ∙ sym (ap (with_match now.regions) c.in-Some.is)) c.with_regions.ensures

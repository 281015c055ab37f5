use Rattle.std.proofs.Common.{length, sym, ◌∙◌, subst}
use Rattle.std.specs.Arc.{arc_value}
use Rattle.selection_core.specs.Mapped.{AreWithin}
use Rattle.doc_view.specs.View.{View}
use Rattle.doc_view.proofs.LaidLemmas.{IsViewKept-regions}
use Rattle.doc_view.proofs.view.ViewState.with_regions.Goals as goal

pub invariant_of-view : goal.invariant_of-view
invariant_of-view c =
    let kept = c.view.inside in
    let now = c.view.view_is ∙ c.in_ok-view.ensures in
    let inside = subst (λ (v : View). AreWithin (length v.text) c.args.sel.regions) (sym now) c.requires.inside in
    rw c.in_ok-view-inside.ensures.ok
    (IsViewKept-regions kept.config (arc_value kept.index) (arc_value kept.sel).regions (arc_value kept.query) (arc_value kept.found) c.view.invariant
    c.args.sel.regions c.requires.sound inside)

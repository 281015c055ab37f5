use Rattle.std.proofs.Common.{◌≡◌, length, map, ap, sym, ◌∙◌, subst}
use Rattle.std.specs.Arc.{arc_value}
use Rattle.plain_text.specs.declared.selection.Sel.{Sel}
use Rattle.edit_ops.specs.Regions.{without_goal}
use Rattle.selection_core.specs.Mapped.{AreWithin}
use Rattle.selection_core.specs.Selection.{IsSelection}
use Rattle.doc_view.specs.declared.search.Search.{Search}
use Rattle.doc_view.specs.Search.{found_at}
use Rattle.doc_view.specs.View.{View}
use Rattle.doc_view.proofs.LaidLemmas.{IsViewKept-made}
use Rattle.doc_view.proofs.MovedLemmas.{AreWithin-plain, IsSelection-plain}
use Rattle.doc_view.proofs.view.ViewState.seeking.Goals as goal

pub invariant_of-result : goal.invariant_of-result
invariant_of-result c =
    let kept = c.self.inside in
    let index = arc_value kept.index in
    let text = index.text in
    let regions = (arc_value kept.sel).regions in
    let plain : (arc_value c.in_ok-sel.sel).regions ≡ map without_goal regions =
    ap (λ (s : Sel). s.regions) c.in_ok-sel.ensures.ok ∙ c.in_ok-plain.ensures ∙ ap (map without_goal) (c.selection.ensures.regions) ∙
    ap (λ (v : View). map without_goal v.regions) (sym c.self.view_is) in
    let same = c.rope.ensures.is ∙ ap (λ (v : View). v.text) (sym c.self.view_is) in
    IsViewKept-made kept.config text (arc_value c.in_ok-index.index) (arc_value c.in_ok-sel.sel).regions (arc_value c.in_ok-query.query)
    (arc_value c.in_ok-found.found) c.self.invariant.text.characters c.self.invariant.text.tab (c.in_ok-index.ensures ∙ c.self.invariant.text.is)
    (subst IsSelection (sym plain) (IsSelection-plain regions c.self.invariant.sound))
    (subst (AreWithin (length text)) (sym plain) (AreWithin-plain (length text) regions c.self.invariant.inside))
    (c.in_ok-found.ensures.ok ∙ c.in_ok-results.ensures ∙ ap (λ t. found_at t c.for_chars-search.result) same ∙
    ap (λ (q : Search). found_at text q) (sym c.in_ok-query.ensures.ok))

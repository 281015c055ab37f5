use Rattle.std.proofs.Common.{length, ap, ◌∙◌, sym, subst, arith}
use Rattle.std.specs.Arc.{arc_value}
use Rattle.plain_text.specs.declared.selection.Sel.{Sel}
use Rattle.selection_core.specs.Mapped.{AreWithin}
use Rattle.selection_core.specs.Selection.{IsSelection}
use Rattle.doc_view.specs.Search.{found_at}
use Rattle.doc_view.proofs.LaidLemmas.{IsViewKept-made}
use Rattle.doc_view.proofs.view.ViewState.of_text.Goals as goal

pub invariant_of-result : goal.invariant_of-result
invariant_of-result c =
    let text = c.args.text.now in
    let regions_are = ap (λ (s : Sel). s.regions) c.in_ok-sel.ensures.ok ∙ c.in_ok-caret.ensures.regions in
    IsViewKept-made c.args.config text (arc_value c.in_ok-index.index) (arc_value c.in_ok-sel.sel).regions (arc_value c.in_ok-query.query)
    (arc_value c.in_ok-found.found) c.len-characters.ensures.characters c.requires.tab c.in_ok-index.ensures (subst IsSelection (sym regions_are) tt)
    (subst (AreWithin (length text)) (sym regions_are) (omega arith, tt))
    (c.in_ok-found.ensures.ok ∙ c.in_ok-nothing.ensures ∙ ap (found_at text) (sym c.in_ok-query.ensures.ok))

use Rattle.std.proofs.Common.{◌≡◌, false, List, map, ap, sym, ◌∙◌, subst}
use Rattle.std.specs.Arc.{arc_value}
use Rattle.std.specs.Prelude.{IfOk}
use Rattle.plain_text.specs.declared.selection.Region.{Region}
use Rattle.plain_text.specs.declared.selection.Sel.{Sel}
use Rattle.edit_ops.specs.Regions.{without_goal}
use Rattle.doc_view.specs.Inner.{IsViewKept, has_goal}
use Rattle.doc_view.specs.View.{View}
use Rattle.doc_view.proofs.LaidLemmas.{IsViewKept-plain}
use Rattle.doc_view.proofs.MovedLemmas.{plain-stays}
use Rattle.doc_view.proofs.view.ViewState.without_goals.Goals as goal

pub returns-then-not-has_goal : goal.returns-then-not-has_goal
returns-then-not-has_goal c =
    let now = c.args.self.now in
    let none : has_goal now.regions ≡ false =
    ap has_goal (sym (c.as_slice.ensures ∙ c.selection-sel.ensures.regions)) ∙ sym c.has_goal.ensures ∙ c.if-not-has_goal.true in
    subst (λ (rs : List Region). IfOk c.copy.result (λ (made : View). made ≡ record now { regions = rs })) (sym (plain-stays now.regions none)) c.copy.ensures

pub invariant_of-view : goal.invariant_of-view
invariant_of-view c =
    let kept = c.view.inside in
    let index = arc_value kept.index in
    let plain : (arc_value c.in_ok-view-inside.field-0).regions ≡ map without_goal (arc_value kept.sel).regions =
    ap (λ (s : Sel). s.regions) c.in_ok-view-inside.ensures.ok ∙ c.in_ok-without_goals.ensures ∙ ap (map without_goal) c.selection-sel.ensures.regions ∙
    ap (λ (v : View). map without_goal v.regions) (sym c.in_ok-view.ensures ∙ sym c.view.view_is) in
    subst (λ (rs : List Region). IsViewKept kept.config index rs (arc_value kept.query) (arc_value kept.found)) (sym plain)
    (IsViewKept-plain kept.config index (arc_value kept.sel).regions (arc_value kept.query) (arc_value kept.found) c.view.invariant)

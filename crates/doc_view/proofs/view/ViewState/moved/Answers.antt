use Rattle.std.proofs.Common.{◌≡◌, List, map, ap, sym, ◌∙◌, subst}
use Rattle.std.specs.Prelude.{IfOk}
use Rattle.plain_text.specs.declared.selection.Region.{Region}
use Rattle.edit_ops.specs.Regions.{without_goal}
use Rattle.doc_view.specs.declared.moved.Goals.TheVariants.{Cleared, Kept}
use Rattle.doc_view.specs.Moved.{AreMoved}
use Rattle.doc_view.proofs.MovedLemmas.{AreMoved-map, AreWithin-plain, IsSelection-plain}
use Rattle.selection_core.specs.Mapped.{AreWithin, mapped_regions}
use Rattle.selection_core.specs.Selection.{IsSelection}
use Rattle.doc_view.proofs.view.ViewState.moved.Goals as goal

pub map-requires-clause-sound : goal.map-requires-clause-sound
map-requires-clause-sound c = subst IsSelection (sym c.selection.ensures.regions) c.selection.ensures.sound

pub map-requires-clause-within : goal.map-requires-clause-within
map-requires-clause-within c =
    subst (AreWithin c.args.units.now.base) (sym c.selection.ensures.regions)
    (subst (λ n. AreWithin n c.args.self.now.regions) (sym c.requires.base) c.selection.ensures.inside)

pub returns-in-Kept : goal.returns-in-Kept
returns-in-Kept c =
    let units = c.args.units.now in
    let regions = c.args.self.now.regions in
    let within = subst (λ n. AreWithin n regions) (sym c.requires.base) c.selection.ensures.inside in
    subst (λ goals. IfOk c.map.result (λ sel. AreMoved units c.args.after goals regions sel.regions)) (sym c.in-Kept.is)
    (AreMoved-map units c.args.after Kept regions c.map.result within
    (subst (λ (rs : List Region). IfOk c.map.result (λ sel. sel.regions ≡ mapped_regions units c.args.after rs)) c.selection.ensures.regions c.map.ensures.regions)
    c.map.ensures.sound)

pub map-requires-in-Cleared-clause-sound : goal.map-requires-in-Cleared-clause-sound
map-requires-in-Cleared-clause-sound c =
    subst IsSelection (sym (c.in_ok-without_goals-in-Cleared.ensures ∙ ap (map without_goal) c.selection-in-Cleared.ensures.regions))
    (IsSelection-plain c.args.self.now.regions c.selection-in-Cleared.ensures.sound)

pub map-requires-in-Cleared-clause-within : goal.map-requires-in-Cleared-clause-within
map-requires-in-Cleared-clause-within c =
    let regions = c.args.self.now.regions in
    let within = subst (λ n. AreWithin n regions) (sym c.requires.base) c.selection-in-Cleared.ensures.inside in
    subst (AreWithin c.args.units.now.base) (sym (c.in_ok-without_goals-in-Cleared.ensures ∙ ap (map without_goal) c.selection-in-Cleared.ensures.regions))
    (AreWithin-plain c.args.units.now.base regions within)

pub returns-in_ok-without_goals-in-Cleared : goal.returns-in_ok-without_goals-in-Cleared
returns-in_ok-without_goals-in-Cleared c =
    let units = c.args.units.now in
    let regions = c.args.self.now.regions in
    let within = subst (λ n. AreWithin n regions) (sym c.requires.base) c.selection-in-Cleared.ensures.inside in
    subst (λ goals. IfOk c.map-in-Cleared.result (λ sel. AreMoved units c.args.after goals regions sel.regions)) (sym c.in-Cleared.is)
    (AreMoved-map units c.args.after Cleared regions c.map-in-Cleared.result (AreWithin-plain units.base regions within)
    (subst (λ rs. IfOk c.map-in-Cleared.result (λ sel. sel.regions ≡ mapped_regions units c.args.after rs))
    (c.in_ok-without_goals-in-Cleared.ensures ∙ ap (map without_goal) c.selection-in-Cleared.ensures.regions) c.map-in-Cleared.ensures.regions)
    c.map-in-Cleared.ensures.sound)

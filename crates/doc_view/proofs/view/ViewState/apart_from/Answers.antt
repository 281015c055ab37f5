use Rattle.std.proofs.Common.{List, subst, ◌∙◌}
use Rattle.plain_text.specs.declared.selection.Region.{Region}
use Rattle.doc_view.specs.Inner.{AreEndsApart}
use Rattle.doc_view.proofs.RegionLemmas.{IsShownApart-both}
use Rattle.doc_view.proofs.view.ViewState.apart_from.Goals as goal

pub returns : goal.returns
returns c =
    let ends = c.ends_apart-ends.result in
    IsShownApart-both _ _ _ c.args.self.now c.args.next.now
    (subst (λ (regions : List Region). AreEndsApart ends regions c.args.next.now.regions) (c.as_slice-regions.ensures ∙ c.selection.ensures.regions)
    (subst (λ (others : List Region). AreEndsApart ends c.as_slice-regions.result.now others) (c.as_slice.ensures ∙ c.selection-2.ensures.regions)
    c.ends_apart-ends.ensures))
    c.styles_apart-styles.ensures c.earlier.ensures

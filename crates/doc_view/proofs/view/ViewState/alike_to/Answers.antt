use Rattle.std.proofs.Common.{◌-◌, ℕ, List, Option, length, ap, sym, subst, ◌∙◌}
use Rattle.std.specs.Option.{unwrap_or}
use Rattle.plain_text.specs.declared.selection.Region.{Region}
use Rattle.doc_view.specs.declared.search.Search.{Search}
use Rattle.doc_view.specs.Inner.{AreAlikeViews, AreEndsApart}
use Rattle.doc_view.proofs.FrontLemmas.{AreAlikeViews-made}
use Rattle.doc_view.proofs.view.ViewState.alike_to.Goals as goal

pub returns : goal.returns
returns c =
    let ends = c.ends_apart-ends.result in
    let now = c.args.self.now in
    let next = c.args.next.now in
    subst (λ (n : ℕ). AreAlikeViews n now next)
    (sym (c.saturating_sub-2.ensures ∙ ap (λ (n : ℕ). c.unwrap_or-gap.result - n) c.saturating_sub.ensures))
    (AreAlikeViews-made c.fronts_stay.ensures now next ends c.args.from c.unwrap_or-gap.result c.char_count-len.result c.requires.kept c.requires.cut
    (subst (λ (regions : List Region). AreEndsApart ends regions next.regions) (c.as_slice-regions.ensures ∙ c.selection.ensures.regions)
    (subst (λ (others : List Region). AreEndsApart ends c.as_slice-regions.result.now others) (c.as_slice.ensures ∙ c.selection-2.ensures.regions)
    c.ends_apart-ends.ensures))
    (c.unwrap_or-gap.ensures ∙ ap (λ (o : Option ℕ). unwrap_or o c.args.from) c.earlier.ensures)
    (c.char_count-len.ensures ∙ ap (λ (q : Search). length q.chars) c.sought.ensures))

use Rattle.std.proofs.Common.{◌≡◌, length, ap, sym, subst, ◌∙◌}
use Rattle.std.specs.Arc.{arc_value}
use Rattle.plain_text.specs.declared.selection.Sel.{Sel}
use Rattle.selection_core.specs.Mapped.{AreWithin}
use Rattle.selection_core.specs.Selection.{IsSelection}
use Rattle.doc_view.specs.declared.search.Search.{Search}
use Rattle.doc_view.specs.Inner.{index_at}
use Rattle.doc_view.specs.Search.{found_at}
use Rattle.doc_view.specs.View.{View}
use Rattle.doc_view.proofs.LaidLemmas.{IsViewKept-made}
use Rattle.doc_view.proofs.AnewLemmas.{ticks-config, widths-tab, widths-width}
use Rattle.doc_view.proofs.view.ViewState.with_config.Goals as goal

pub invariant_of-result : goal.invariant_of-result
invariant_of-result g c =
    let kept = c.self.inside in
    let text = (arc_value kept.index).text in
    let same = ap (λ (v : View). v.text) (sym c.self.view_is) in
    let index_is : arc_value c.in_ok-index.index ≡ index_at text c.args.config =
    c.in_ok-index.ensures.made ∙ ap (λ t. index_at t c.args.config) (c.rope.ensures.is ∙ same) in
    IsViewKept-made c.args.config text (arc_value c.in_ok-index.index) (arc_value c.in_ok-sel.sel).regions (arc_value c.in_ok-query.query)
    (arc_value c.in_ok-found.found) c.self.invariant.text.characters c.requires.tab index_is
    (subst (λ (s : Sel). IsSelection s.regions) (sym c.in_ok-sel.ensures) c.self.invariant.sound)
    (subst (λ (s : Sel). AreWithin (length text) s.regions) (sym c.in_ok-sel.ensures) c.self.invariant.inside)
    (c.in_ok-found.ensures ∙ c.self.invariant.found_are ∙ ap (λ (q : Search). found_at text q) (sym c.in_ok-query.ensures))

pub edited_by-requires-clause-tab : goal.edited_by-requires-clause-tab
edited_by-requires-clause-tab g c =
    widths-tab c.args.config c.args.self.now.config (sym c.is_cut_by.ensures ∙ c.if-is_cut_by.true) ∙
    ap (λ (v : View). v.config.tab) (sym c.in_ok-view.ensures)

pub edited_by-requires-clause-width : goal.edited_by-requires-clause-width
edited_by-requires-clause-width g c =
    widths-width c.args.config c.args.self.now.config (sym c.is_cut_by.ensures ∙ c.if-is_cut_by.true) ∙
    ap (λ (v : View). v.config.width) (sym c.in_ok-view.ensures)

pub returns-in_err-index-clause-ticks : goal.returns-in_err-index-clause-ticks
returns-in_err-index-clause-ticks g c =
    ticks-config c.args.steps.now c.index_of.new.steps c.args.self.now c.args.config c.rope.result.now (sym c.is_cut_by.ensures ∙ c.if-is_cut_by.false)
    c.rope.ensures.is c.in_err-index.ensures.ticks

pub returns-clause-ticks : goal.returns-clause-ticks
returns-clause-ticks g c =
    ticks-config c.args.steps.now c.index_of.new.steps c.args.self.now c.args.config c.rope.result.now (sym c.is_cut_by.ensures ∙ c.if-is_cut_by.false)
    c.rope.ensures.is c.in_ok-index.ensures.ticks

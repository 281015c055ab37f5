use Rattle.std.proofs.Common.{◌≡◌, ℕ, ◌+◌, ◌≤◌, List, length, ap, sym, subst, ◌∙◌, arith}
use Rattle.std.specs.Arc.{arc_value}
use Rattle.plain_text.specs.declared.selection.Sel.{Sel}
use Rattle.delta_core.specs.Units.{text_after}
use Rattle.line_index.specs.Index.{Index, touched_lines}
use Rattle.selection_core.specs.Mapped.{AreWithin}
use Rattle.selection_core.specs.Selection.{IsSelection}
use Rattle.span_styles.specs.Layers.{AreOver}
use Rattle.span_styles.proofs.ForCallers.{length_after-text}
use Rattle.match_index.specs.Found.{Found}
use Rattle.doc_layout.specs.Changed.{IsChangeOf}
use Rattle.doc_view.specs.Inner.{index_at}
use Rattle.doc_view.specs.Search.{found_at}
use Rattle.doc_view.specs.View.{View}
use Rattle.doc_view.proofs.LaidLemmas.{IsViewKept-made}
use Rattle.doc_view.proofs.view.ViewState.edited.Goals as goal

pub map-requires-clause-well_formed : goal.map-requires-clause-well_formed
map-requires-clause-well_formed g c = c.requires.changes.well_formed

pub map-requires-clause-over : goal.map-requires-clause-over
map-requires-clause-over g c =
    subst (λ n. AreOver n c.layers.result.now) (sym c.requires.changes.base)
    (subst (AreOver (length c.args.self.now.text)) (sym c.layers.ensures) c.requires.over)

pub map-requires-clause-bound : goal.map-requires-clause-bound
map-requires-clause-bound g c =
    omega (
      arith,
      length_after-text c.args.units.now c.args.self.now.text (sym c.requires.changes.base),
      ap length c.requires.changes.leads,
      c.len-characters.ensures.count,
      c.len-characters.type_inv,
    )

pub edited-requires-clause-well_formed : goal.edited-requires-clause-well_formed
edited-requires-clause-well_formed g c = c.requires.changes.well_formed

pub edited-requires-clause-base : goal.edited-requires-clause-base
edited-requires-clause-base g c = c.requires.changes.base ∙ sym (ap (λ (f : Found). length f.text) c.matches.ensures)

pub edited-requires-clause-after : goal.edited-requires-clause-after
edited-requires-clause-after g c = c.requires.changes.leads ∙ ap (λ (f : Found). text_after c.args.units.now f.text) (sym c.matches.ensures)

pub edited_index-requires : goal.edited_index-requires
edited_index-requires g c =
    subst (λ (t : List ℕ). IsChangeOf t c.args.text.now c.args.units.now) (sym (ap (λ (i : Index). i.text) c.line_index.ensures.is)) c.requires.changes

pub invariant_of-result : goal.invariant_of-result
invariant_of-result g c =
    let text = c.args.text.now in
    let config = c.self.inside.config in
    let index_is : arc_value c.in_ok-index.index ≡ index_at text config =
    c.in_ok-index.ensures.made ∙ ap (λ (i : Index). record i { text = text }) c.line_index.ensures.is ∙
    ap (λ (v : View). index_at text v.config) (sym c.self.view_is) in
    let sel_is = c.in_ok-sel.ensures.ok in
    let query_is = ap (λ (v : View). v.query) (sym c.self.view_is) ∙ sym c.in_ok-query.ensures in
    IsViewKept-made config text (arc_value c.in_ok-index.index) (arc_value c.in_ok-sel.sel).regions (arc_value c.in_ok-query.query)
    (arc_value c.in_ok-found.found) c.len-characters.ensures.characters c.self.invariant.text.tab index_is
    (subst (λ (s : Sel). IsSelection s.regions) (sym sel_is) c.requires.sound)
    (subst (λ (s : Sel). AreWithin (length text) s.regions) (sym sel_is) c.requires.inside)
    (c.in_ok-found.ensures.ok ∙ c.in_ok-results.ensures ∙ ap (λ (f : Found). record f { text = text }) c.matches.ensures ∙ ap (found_at text) query_is)

pub returns-in_err-index-clause-ticks : goal.returns-in_err-index-clause-ticks
returns-in_err-index-clause-ticks g c =
    subst (λ (t : List ℕ). c.edited_index.new.steps ≤ c.args.steps.now + touched_lines c.args.units.now t) (ap (λ (i : Index). i.text) c.line_index.ensures.is) c.in_err-index.ensures.ticks

pub returns-clause-ticks : goal.returns-clause-ticks
returns-clause-ticks g c =
    subst (λ (t : List ℕ). c.edited_index.new.steps ≤ c.args.steps.now + touched_lines c.args.units.now t) (ap (λ (i : Index). i.text) c.line_index.ensures.is) c.in_ok-index.ensures.ticks

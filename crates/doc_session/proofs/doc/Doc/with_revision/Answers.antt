use Rattle.std.proofs.Common.{◌≡◌, ℕ, ◌+◌, ◌≤◌, List, length, refl, ap, ap₂, sym, ◌∙◌, subst}
use Rattle.selection_core.specs.Mapped.{AreWithin}
use Rattle.line_index.specs.Index.{touched_lines}
use Rattle.span_styles.specs.Layers.{AreOver, mapped_layers}
use Rattle.doc_layout.specs.Changed.{IsChangeOf}
use Rattle.doc_text.specs.InMemory.{text_in}
use Rattle.doc_view.specs.Told.{IsKeptLeftOf}
use Rattle.doc_view.specs.View.{View}
use Rattle.doc_view.proofs.ForCallers.{IsKeptLeftOf-edited}
use Rattle.doc_session.specs.InMemory.{Doc}
use Rattle.doc_session.proofs.LayerLemmas.{as_many-changed, over-changed, over-kept}
use Rattle.doc_session.proofs.doc.Doc.with_revision.Goals as goal

pub edited-requires-clause-changes : goal.edited-requires-clause-changes
edited-requires-clause-changes g c =
    let shown_is = c.self.invariant.shown_is ∙ ap (λ (d : Doc). text_in d.text) c.self.view_is in
    subst (λ (t : List ℕ). IsChangeOf t c.head_rope.result.now c.args.units.now) (sym shown_is)
    (subst (λ (t : List ℕ). IsChangeOf (text_in c.args.self.now.text) t c.args.units.now) (sym c.head_rope.ensures.shown) c.requires.changes)

pub edited-requires-clause-over : goal.edited-requires-clause-over
edited-requires-clause-over g c = c.self.invariant.over

pub edited-requires-clause-inside : goal.edited-requires-clause-inside
edited-requires-clause-inside g c = subst (λ (t : List ℕ). AreWithin (length t) c.args.sel.regions) (sym c.head_rope.ensures.shown) c.requires.inside

pub invariant_of-result : goal.invariant_of-result
invariant_of-result g c =
    let doc = c.self.inside in
    let units = c.args.units.now in
    let text_is = ap (λ (v : View). v.text) c.in_ok-view.ensures.made in
    let layers_are = ap (λ (v : View). v.layers) c.in_ok-view.ensures.made in
    let before_is = c.self.invariant.shown_is ∙ ap (λ (d : Doc). text_in d.text) c.self.view_is in
    let changes : IsChangeOf doc.view.text c.head_rope.result.now units =
    subst (λ (t : List ℕ). IsChangeOf t c.head_rope.result.now units) (sym before_is)
    (subst (λ (t : List ℕ). IsChangeOf (text_in c.args.self.now.text) t units) (sym c.head_rope.ensures.shown) c.requires.changes) in
    let over = over-changed doc.view.text c.head_rope.result.now units doc.view.layers c.in_ok-view.view.layers changes c.self.invariant.over layers_are in
    record {
      shown_is = text_is ∙ c.head_rope.ensures.shown;
      over = subst (λ t. AreOver (length t) c.in_ok-view.view.layers) (sym text_is) over;
      as_many =
          as_many-changed units doc.view.layers c.in_ok-view.view.layers layers_are ∙ c.self.invariant.as_many ∙
          ap (λ (d : Doc). length d.text.sessions) c.self.view_is ∙ ap length (sym c.requires.sessions);
    }

pub returns-clause-made : goal.returns-clause-made
returns-clause-made g c =
    let view_is =
    c.in_ok-view.ensures.made ∙
    ap₂ (λ (d : Doc) (t : List ℕ). record d.view { text = t; regions = c.args.sel.regions; layers = mapped_layers c.args.units.now d.view.layers })
    c.self.view_is c.head_rope.ensures.shown in
    ap (λ (v : View). record { text = c.args.text; view = v }) view_is

pub returns-clause-over : goal.returns-clause-over
returns-clause-over g c = over-kept _ c.args.self.now c.args.self.now.view.layers c.self.invariant c.self.view_is refl

pub returns-clause-left : goal.returns-clause-left
returns-clause-left g c = λ from keeps.
    let now = c.args.self.now.view in
    let units = c.args.units.now in
    let made = text_in c.args.text in
    let shown_is = subst (λ (d : Doc). d.view.text ≡ text_in d.text) c.self.view_is c.self.invariant.shown_is in
    let view_is =
    c.in_ok-view.ensures.made ∙
    ap₂ (λ (d : Doc) (t : List ℕ). record d.view { text = t; regions = c.args.sel.regions; layers = mapped_layers units d.view.layers })
    c.self.view_is c.head_rope.ensures.shown in
    subst (λ (v : View). IsKeptLeftOf from now v) (sym view_is)
    (IsKeptLeftOf-edited now made units c.args.sel.regions from (subst (λ (t : List ℕ). IsChangeOf t made units) (sym shown_is) c.requires.changes)
    (over-kept _ c.args.self.now now.layers c.self.invariant c.self.view_is refl) keeps)

pub returns-in_err-view-clause-steps : goal.returns-in_err-view-clause-steps
returns-in_err-view-clause-steps g c =
    subst (λ (d : Doc). c.edited.new.steps ≤ c.args.steps.now + touched_lines c.args.units.now d.view.text) c.self.view_is c.in_err-view.ensures.ticks

pub returns-clause-steps : goal.returns-clause-steps
returns-clause-steps g c =
    subst (λ (d : Doc). c.edited.new.steps ≤ c.args.steps.now + touched_lines c.args.units.now d.view.text) c.self.view_is c.in_ok-view.ensures.ticks

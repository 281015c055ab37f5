use Rattle.std.proofs.Common.{◌≡◌, ◌≤◌, List, length, take, ap, sym, subst, ◌∙◌}
use Rattle.std.specs.Prelude.{IfOk}
use Rattle.plain_screen.specs.declared.screen.Line.{Line}
use Rattle.plain_screen.specs.SameLayout.{is_same_layout}
use Rattle.line_index.specs.Index.{Index, pieces_in}
use Rattle.match_index.specs.Found.{runs_in}
use Rattle.doc_layout.specs.Layout.{layout}
use Rattle.doc_view.specs.View.{layout_in}
use Rattle.doc_view.proofs.ApartLemmas.{told-apart}
use Rattle.doc_view.proofs.LaidLemmas.{MayShow-shown, layout-shown}
use Rattle.doc_view.proofs.view.ViewState.has_lines_from.Goals as goal

pub returns-then-is_told_apart : goal.returns-then-is_told_apart
returns-then-is_told_apart c =
    let one = c.shown_text-shown.ensures in
    let other = c.shown_text-other.ensures in
    sym (told-apart c.args.self.now c.args.next.now one.characters other.characters one.inside other.inside
    (sym c.is_told_apart.ensures ∙ c.if-is_told_apart.true))

pub is_same_layout-requires-clause-one : goal.is_same_layout-requires-clause-one
is_same_layout-requires-clause-one c =
    let shown = c.shown_text-shown.result in
    let is = c.shown_text-shown.ensures in
    MayShow-shown c.args.self.now shown.view.now shown.sel.now.regions shown.results.now is.view is.regions is.results is.may

pub is_same_layout-requires-clause-another : goal.is_same_layout-requires-clause-another
is_same_layout-requires-clause-another c =
    let shown = c.shown_text-other.result in
    let is = c.shown_text-other.ensures in
    MayShow-shown c.args.next.now shown.view.now shown.sel.now.regions shown.results.now is.view is.regions is.results is.may

pub is_same_layout-requires-clause-inside : goal.is_same_layout-requires-clause-inside
is_same_layout-requires-clause-inside c =
    subst (λ (i : Index). c.args.from ≤ length (pieces_in i)) (sym c.shown_text-shown.ensures.view) c.requires.inside

pub is_same_layout-requires-clause-alike : goal.is_same_layout-requires-clause-alike
is_same_layout-requires-clause-alike c =
    let shown = c.shown_text-shown.result in
    let is = c.shown_text-shown.ensures in
    let other = c.shown_text-other.result in
    let are = c.shown_text-other.ensures in
    ap (take c.args.from)
    (layout-shown c.args.self.now shown.view.now shown.sel.now.regions shown.results.now is.view is.regions is.results shown.layers.now is.layers) ∙
    c.requires.alike ∙
    sym (ap (take c.args.from)
    (layout-shown c.args.next.now other.view.now other.sel.now.regions other.results.now are.view are.regions are.results other.layers.now are.layers))

pub returns : goal.returns
returns c =
    let shown = c.shown_text-shown.result in
    let is = c.shown_text-shown.ensures in
    let other = c.shown_text-other.result in
    let are = c.shown_text-other.ensures in
    subst (λ (lines : List Line). IfOk c.is_same_layout.result (λ same. same ≡ is_same_layout (layout_in c.args.self.now) lines))
    (layout-shown c.args.next.now other.view.now other.sel.now.regions other.results.now are.view are.regions are.results other.layers.now are.layers)
    (subst (λ (lines : List Line). IfOk c.is_same_layout.result (λ same. same ≡ is_same_layout lines
    (layout other.view.now.text (pieces_in other.view.now) other.sel.now.regions (runs_in other.results.now) other.layers.now)))
    (layout-shown c.args.self.now shown.view.now shown.sel.now.regions shown.results.now is.view is.regions is.results shown.layers.now is.layers)
    c.is_same_layout.ensures)

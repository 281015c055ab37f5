use Rattle.std.proofs.Common.{◌≡◌, List, subst}
use Rattle.std.specs.Prelude.{IfOk}
use Rattle.plain_screen.specs.declared.screen.Line.{Line}
use Rattle.doc_layout.specs.Told.{planned}
use Rattle.doc_view.proofs.LaidLemmas.{MayShow-shown, layout-shown}
use Rattle.doc_view.proofs.view.ViewState.update.Goals as goal

pub update_of-requires : goal.update_of-requires
update_of-requires c =
    let shown = c.shown_text.result in
    let is = c.shown_text.ensures in
    MayShow-shown c.args.self.now shown.view.now shown.sel.now.regions shown.results.now is.view is.regions is.results is.may

pub returns : goal.returns
returns c =
    let shown = c.shown_text.result in
    let is = c.shown_text.ensures in
    subst (λ (lines : List Line). IfOk c.update_of.result (λ made. made ≡ planned c.args.asked lines c.args.pristine))
    (layout-shown c.args.self.now shown.view.now shown.sel.now.regions shown.results.now is.view is.regions is.results shown.layers.now is.layers)
    c.update_of.ensures

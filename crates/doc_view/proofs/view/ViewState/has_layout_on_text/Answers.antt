use Rattle.std.proofs.Common.{sym, ◌∙◌}
use Rattle.doc_view.proofs.LaidLemmas.{is_same_layout-alike}
use Rattle.doc_view.proofs.view.ViewState.has_layout_on_text.Goals as goal

pub returns-in-None : goal.returns-in-None
returns-in-None c =
    sym (is_same_layout-alike c.args.self.now c.args.next.now c.requires.same (sym c.is_cut_as.ensures ∙ c.if-not-is_cut_as.false) c.in-None.ensures)

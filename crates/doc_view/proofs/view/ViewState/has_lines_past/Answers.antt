use Rattle.std.proofs.Common.{◌≡◌, ℕ, take, sym, subst}
use Rattle.doc_view.specs.View.{layout_in}
use Rattle.doc_view.proofs.LaidLemmas.{lines-alike}
use Rattle.doc_view.proofs.view.ViewState.has_lines_past.Goals as goal

pub has_lines_from-requires-clause-alike : goal.has_lines_from-requires-clause-alike
has_lines_from-requires-clause-alike c =
    subst (λ (n : ℕ). take n (layout_in c.args.self.now) ≡ take n (layout_in c.args.next.now)) (sym c.line_left_of-from.ensures.line)
    (lines-alike c.args.self.now c.args.next.now c.args.gap c.line_left_of-from.ensures.characters c.requires.text c.requires.cut c.requires.shown)

use Rattle.std.proofs.Common.{◌≤◌, arith, subst}
use Rattle.doc_view.proofs.AnewLemmas.{lines-text}
use Rattle.doc_view.proofs.view.ViewState.has_layout_anew.Goals as goal

pub has_lines_from-requires-clause-inside : goal.has_lines_from-requires-clause-inside
has_lines_from-requires-clause-inside c = omega (arith, c.cut_alike_to-from.ensures.inside, c.line_left_of-line.ensures.inside)

pub has_lines_from-requires-clause-alike : goal.has_lines_from-requires-clause-alike
has_lines_from-requires-clause-alike c =
    lines-text c.args.self.now c.args.next.now c.alike_on_text-gap.result c.cut_alike_to-from.result c.line_left_of-line.ensures.characters
    c.requires.same c.alike_on_text-gap.ensures c.cut_alike_to-from.ensures.alike
    (subst (λ n. c.cut_alike_to-from.result ≤ n) c.line_left_of-line.ensures.line c.cut_alike_to-from.ensures.inside)

use Rattle.std.proofs.Common.{◌≡◌, ℕ, take, sym, subst, ◌∙◌}
use Rattle.doc_view.specs.View.{layout_in}
use Rattle.doc_view.proofs.ApartLemmas.{same-length, told-apart}
use Rattle.doc_view.proofs.LineLemmas.{front-alike}
use Rattle.doc_view.proofs.view.ViewState.has_layout_from.Goals as goal

pub returns-then-is_told_apart : goal.returns-then-is_told_apart
returns-then-is_told_apart c =
    let one = c.shown_text-shown.ensures in
    let other = c.shown_text-other.ensures in
    sym (told-apart c.args.self.now c.args.next.now one.characters other.characters one.inside other.inside
    (sym c.is_told_apart.ensures ∙ c.if-is_told_apart.true))

pub has_lines_from-requires-2-clause-alike : goal.has_lines_from-requires-2-clause-alike
has_lines_from-requires-2-clause-alike c =
    subst (λ (n : ℕ). take n (layout_in c.args.self.now) ≡ take n (layout_in c.args.next.now)) (sym c.line_before-line.ensures.line)
    (front-alike c.args.self.now c.args.next.now c.alike_to-gap.result c.line_before-line.ensures.characters
    (same-length c.args.self.now c.args.next.now (sym c.is_told_apart.ensures ∙ c.if-is_told_apart.false))
    (sym c.is_cut_as.ensures ∙ c.if-not-is_cut_as.false) c.alike_to-gap.ensures)

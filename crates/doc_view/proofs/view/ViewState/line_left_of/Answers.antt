use Rattle.std.proofs.Common.{◌-◌, ◌<◌, ap, subst, ◌∙◌, length, arith}
use Rattle.plain_screen.specs.View.{layout_line_of}
use Rattle.line_index.specs.Index.{Index, pieces_in}
use Rattle.doc_view.proofs.LaidLemmas.{line_left_of-some}
use Rattle.doc_view.proofs.view.ViewState.line_left_of.Goals as goal

pub returns-clause-line : goal.returns-clause-line
returns-clause-line c =
    line_left_of-some c.args.self.now c.args.gap _ (omega (arith, c.if-gap-eq0.false))
    (c.line_of.ensures.line ∙ ap (λ (i : Index). layout_line_of (pieces_in i) (c.args.gap - 1)) c.line_index-index.ensures.is)

pub returns-clause-inside : goal.returns-clause-inside
returns-clause-inside c =
    omega (arith, subst (λ (i : Index). c.line_of.result < length (pieces_in i)) c.line_index-index.ensures.is c.line_of.ensures.inside)

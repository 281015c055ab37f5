use Rattle.std.proofs.Common.{◌-◌, ◌<◌, ap, subst, ◌∙◌, length, arith}
use Rattle.plain_text.specs.declared.run.Run.{Run}
use Rattle.plain_screen.specs.View.{layout_line_of, line_under}
use Rattle.line_index.specs.Index.{Index, pieces_in}
use Rattle.doc_view.specs.Inner.{index_at}
use Rattle.doc_view.proofs.LineLemmas.{first_line-some}
use Rattle.doc_view.proofs.view.ViewState.line_before.Goals as goal

pub returns-clause-line : goal.returns-clause-line
returns-clause-line c =
    let now = c.args.self.now in
    let is = c.line_index-index.ensures.is in
    first_line-some now c.args.gap _ c.logical_of-logical.result.start (omega (arith, c.if-gap-eq0.false))
    (ap (λ (r : Run). r.start) c.logical_of-logical.ensures ∙
    ap (λ (i : Index). (line_under i.text (pieces_in i) c.line_of.result).start) is ∙
    ap (λ n. (line_under now.text (pieces_in (index_at now.text now.config)) n).start)
    (c.line_of.ensures.line ∙ ap (λ (i : Index). layout_line_of (pieces_in i) (c.args.gap - 1)) is))
    (c.line_of-2.ensures.line ∙ ap (λ (i : Index). layout_line_of (pieces_in i) c.logical_of-logical.result.start) is)

pub returns-clause-inside : goal.returns-clause-inside
returns-clause-inside c =
    omega (arith, subst (λ (i : Index). c.line_of-2.result < length (pieces_in i)) c.line_index-index.ensures.is c.line_of-2.ensures.inside)

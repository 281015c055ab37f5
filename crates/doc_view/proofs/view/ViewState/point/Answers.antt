use Rattle.std.proofs.Common.{ℕ, length, refl, ap, ◌∙◌, arith}
use Rattle.line_index.specs.Index.{Index, pieces_in}
use Rattle.line_index.specs.Whole.{point_of}
use Rattle.selection_core.specs.Selection.{last_caret}
use Rattle.doc_layout.specs.PositionView.{position_view}
use Rattle.doc_view.specs.Inner.{index_at}
use Rattle.doc_view.proofs.ApartLemmas.{last_caret-within}
use Rattle.doc_view.proofs.view.ViewState.point.Goals as goal

pub returns : goal.returns
returns c =
    let gap_is = c.last_caret.ensures ∙ ap last_caret c.selection.ensures.regions in
    let at : Index → ℕ → ℕ × ℕ = λ i gap. point_of i.text (pieces_in i) gap in
    ap position_view (c.in-Some.ensures.some ∙ ap (λ (i : Index). at i c.last_caret.result) c.line_index.ensures.is ∙
    ap (at (index_at c.args.self.now.text c.args.self.now.config)) gap_is)

pub unreachable-requires : goal.unreachable-requires
unreachable-requires c =
    omega (
      arith,
      c.in-None.ensures.none.0 refl,
      ap (λ (i : Index). length i.text) c.line_index.ensures.is,
      c.last_caret.ensures ∙ ap last_caret c.selection.ensures.regions,
      last_caret-within (length c.args.self.now.text) c.args.self.now.regions c.selection.ensures.inside,
    )

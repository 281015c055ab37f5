use Rattle.std.proofs.Common.{◌≡◌, ◌+◌, suc, ap, sym, subst, ◌∙◌, arith, take}
use Rattle.std.specs.Prelude.{slice_get}
use Rattle.line_index.specs.Index.{Index, pieces_in as indexed_pieces}
use Rattle.doc_view.specs.View.{pieces_in}
use Rattle.doc_view.proofs.AnewLemmas.{pieces-wide, take-more}
use Rattle.doc_view.proofs.view.ViewState.cut_alike_to.Goals as goal

pub returns-then-is_as_wide-clause-alike : goal.returns-then-is_as_wide-clause-alike
returns-then-is_as_wide-clause-alike c =
    ap (take c.args.line) (pieces-wide c.args.self.now c.args.next.now c.requires (sym c.is_as_wide.ensures ∙ c.if-is_as_wide.true))

pub loop-at-preserved : goal.loop-at-preserved
loop-at-preserved c = record {
  inside = omega (arith, c.loop-at-test.true);
  alike =
      let more : suc c.loop-at.at ≡ c.loop-at.at + 1 = omega arith in
      subst (λ n. take n (pieces_in c.args.self.now) ≡ take n (pieces_in c.args.next.now)) more
      (take-more c.loop-at.at (pieces_in c.args.self.now) (pieces_in c.args.next.now) c.loop-at.invariant.alike
      (sym (c.line.ensures ∙ ap (λ (i : Index). slice_get (indexed_pieces i) c.loop-at.at) c.line_index-index.ensures.is) ∙
      c.is_same_piece.ensures c.if-is_same_piece.true ∙
      (c.line-in-loop-at.ensures ∙ ap (λ (i : Index). slice_get (indexed_pieces i) c.loop-at.at) c.line_index-other.ensures.is)));
}

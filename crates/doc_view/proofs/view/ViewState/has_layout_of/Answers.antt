use Rattle.std.proofs.Common.{subst}
use Rattle.doc_view.specs.Told.{IsTextLeft}
use Rattle.doc_view.specs.declared.told.TextLeft.{TextLeft}
use Rattle.doc_view.proofs.view.ViewState.has_layout_of.Goals as goal

pub has_layout_on_text-requires : goal.has_layout_on_text-requires
has_layout_on_text-requires c = record {
  same = (subst (λ (t : TextLeft). IsTextLeft t c.args.self.now c.args.next.now) c.in-Same.is c.requires.text).0;
  text = c.requires.text;
}

pub has_layout_on_text-requires-in-Styled : goal.has_layout_on_text-requires-in-Styled
has_layout_on_text-requires-in-Styled c = record {
  same = subst (λ (t : TextLeft). IsTextLeft t c.args.self.now c.args.next.now) c.in-Styled.is c.requires.text;
  text = c.requires.text;
}

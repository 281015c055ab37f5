use Rattle.std.proofs.Common.{length, sym, subst}
use Rattle.line_index.specs.Index.{Index}
use Rattle.selection_core.specs.Mapped.{AreWithin}
use Rattle.doc_view.proofs.view.ViewState.copied.Goals as goal

pub copied-requires : goal.copied-requires
copied-requires c = record {
  inside =
      subst (λ (i : Index). AreWithin (length i.text) c.selection.result.now.regions) (sym c.line_index.ensures.is)
      (subst (AreWithin (length c.args.self.now.text)) (sym c.selection.ensures.regions) c.selection.ensures.inside);
}

use Rattle.std.proofs.Common.{length, ap, sym, ◌∙◌}
use Rattle.std.proofs.lemmas.List.{length-map}
use Rattle.line_index.specs.Index.{Index, pieces_in as indexed_pieces}
use Rattle.doc_layout.specs.Layout.{layout_line}
use Rattle.doc_view.specs.Search.{results}
use Rattle.doc_view.specs.View.{pieces_in}
use Rattle.doc_view.proofs.view.ViewState.lines.Goals as goal

pub returns : goal.returns
returns c =
    let now = c.args.self.now in
    c.lines.ensures.count ∙ ap (λ (i : Index). length (indexed_pieces i)) c.line_index.ensures.is ∙
    sym (length-map (pieces_in now) (layout_line now.text now.regions (results now.text now.query) now.layers))

use Rattle.doc_layout.proofs.ForCallers.{empty-is}
use Rattle.doc_view.proofs.search.Search.is_for_nothing.Goals as goal

pub returns : goal.returns
returns c = empty-is c.args.self.now.chars c.is_empty.result c.is_empty.ensures

use Rattle.line_index.specs.Inner.{cuts_under}
use Rattle.line_index.proofs.TreeLemmas.{piece-made}
use Rattle.line_index.proofs.tree.piece_at.Goals as goal

pub returns : goal.returns
returns c =
    piece-made (cuts_under c.args.cuts.now) c.args.index c.cut_at.result.0 c.cut_at.result.1 c.number_of.result c.cut_at.ensures.before c.cut_at.ensures.cut c.number_of.ensures

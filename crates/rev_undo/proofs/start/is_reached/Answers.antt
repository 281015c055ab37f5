use Rattle.std.proofs.Common.{inr}
use Rattle.std.proofs.lemmas.Bool.{leb-false}
use Rattle.rev_undo.proofs.StartLemmas.{none_by_least}
use Rattle.rev_undo.proofs.start.is_reached.Goals as goal

pub returns-then-count-gt0-clause-none : goal.returns-then-count-gt0-clause-none
returns-then-count-gt0-clause-none c = λ no.
    inr (none_by_least c.args.firsts.now c.at.result c.args.at c.len-count.ensures.rising c.at.ensures (leb-false c.at.result c.args.at no))

use Rattle.line_index.proofs.SeenLemmas.{seen-changed}
use Rattle.line_index.proofs.touched.Seen.changed_to.Goals as goal

pub returns-clause-seen : goal.returns-clause-seen
returns-clause-seen c = λ done part some are count seen.
    seen-changed done part c.args.self.changed c.args.self.at c.args.to c.start.result some are count c.start.ensures seen

use Rattle.line_index.proofs.SeenLemmas.{touched-none}
use Rattle.line_index.proofs.touched.Seen.run.Goals as goal

pub returns-in-None : goal.returns-in-None
returns-in-None c = λ done seen. touched-none done c.args.self.at (rw c.in-None.is at seen)

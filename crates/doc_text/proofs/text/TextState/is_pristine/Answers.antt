use Rattle.std.proofs.Common.{ap, ap₂}
use Rattle.std.specs.Prelude.{◌==◌}
use Rattle.doc_text.specs.InMemory.{TextState}
use Rattle.doc_text.proofs.text.TextState.is_pristine.Goals as goal

pub returns : goal.returns
returns c = ap₂ (λ n saved. n == saved) c.head.ensures.revisions (ap (λ (t : TextState). t.saved) c.self.view_is)

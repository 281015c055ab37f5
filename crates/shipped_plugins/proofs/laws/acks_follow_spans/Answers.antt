use Rattle.shipped_plugins.proofs.LawLemmas.{acks_follow_spans}
use Rattle.shipped_plugins.proofs.laws.acks_follow_spans.Goals as goal

pub returns : goal.returns
returns c = acks_follow_spans

use Rattle.storm_lines.proofs.SummaryLemmas.{summaries_read_back}
use Rattle.storm_lines.proofs.laws.summaries_read_back.Goals as goal

pub returns : goal.returns
returns c = summaries_read_back

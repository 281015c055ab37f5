use Rattle.plain_edits.proofs.callers.RankLemmas.{is_lower-back, is_lower-other, is_lower-passes}
use Rattle.plain_laws.proofs.history_laws.ranks_are_ordered.Goals as goal

pub returns : goal.returns
returns c = record { one = is_lower-other; only_one = is_lower-back; passes = is_lower-passes }

use Rattle.line_cache.proofs.LawLemmas.{standings-apart, update_plan-apart}
use Rattle.line_cache.proofs.laws.standings_need_no_lines.Goals as goal

pub returns : goal.returns
returns c = record { apart = standings-apart; update = update_plan-apart }

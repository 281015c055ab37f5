use Rattle.line_index.proofs.LineLemmas.{lines-after}
use Rattle.line_index.proofs.laws.feeds_end_lines.Goals as goal

pub returns : goal.returns
returns c = λ text front back count is. lines-after text front back count is

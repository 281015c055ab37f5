use Rattle.macro_record.proofs.PlayedLemmas.{lines_of-played}
use Rattle.macro_record.proofs.laws.played_lines_are_the_lines.Goals as goal

pub returns : goal.returns
returns c = lines_of-played

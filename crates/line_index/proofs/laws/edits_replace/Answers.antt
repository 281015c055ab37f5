use Rattle.line_index.proofs.LineLemmas.{cuts_of-replaced}
use Rattle.line_index.proofs.laws.edits_replace.Goals as goal

pub returns : goal.returns
returns c = λ width tab front gone come rest ended. cuts_of-replaced width tab front gone come rest ended

use Rattle.line_index.proofs.LineLemmas.{cuts_of-edited}
use Rattle.line_index.proofs.laws.edits_leave_other_lines.Goals as goal

pub returns : goal.returns
returns c = λ width tab front middle rest ended too. cuts_of-edited width tab front middle rest ended too

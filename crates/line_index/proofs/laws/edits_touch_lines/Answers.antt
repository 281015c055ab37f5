use Rattle.line_index.proofs.TouchedLemmas.{cuts_of-touched}
use Rattle.line_index.proofs.laws.edits_touch_lines.Goals as goal

pub returns : goal.returns
returns c = λ width tab front gone come back. cuts_of-touched width tab front gone come back

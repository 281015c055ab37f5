use Rattle.std.proofs.Common.{arith}
use Rattle.plain_screen.proofs.callers.ViewLemmas.{ArePieces-whole_lines}
use Rattle.line_index.proofs.WholeLemmas.{length-whole_lines}
use Rattle.line_index.proofs.whole.WholeLinesTextView.lines.Goals as goal

pub returns-clause-count : goal.returns-clause-count
returns-clause-count c = rw (← c.self.view_is) (omega (arith, c.lf_count.ensures.value, length-whole_lines c.self.inside.rope))

pub returns-clause-sound : goal.returns-clause-sound
returns-clause-sound c = ArePieces-whole_lines _

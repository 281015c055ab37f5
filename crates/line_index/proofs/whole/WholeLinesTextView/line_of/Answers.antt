use Rattle.std.proofs.Common.{arith}
use Rattle.plain_screen.proofs.callers.ViewLemmas.{ArePieces-whole_lines}
use Rattle.line_index.proofs.WholeLemmas.{length-whole_lines, line_start-by}
use Rattle.line_index.proofs.whole.WholeLinesTextView.line_of.Goals as goal

pub returns-clause-inside : goal.returns-clause-inside
returns-clause-inside c =
    let few = (line_start-by c.self.inside.rope c.args.gap c.line_at.result c.line_at.ensures).0 in
    rw (← c.self.view_is) (omega (arith, length-whole_lines c.self.inside.rope))

pub returns-clause-sound : goal.returns-clause-sound
returns-clause-sound c = ArePieces-whole_lines _

use Rattle.std.proofs.Common.{[]}
use Rattle.plain_screen.proofs.callers.ViewLemmas.{ArePieces-whole_lines}
use Rattle.line_cases.proofs.pieces.NoTextTextView.line_of.Goals as goal

pub returns-clause-sound : goal.returns-clause-sound
returns-clause-sound c = ArePieces-whole_lines []

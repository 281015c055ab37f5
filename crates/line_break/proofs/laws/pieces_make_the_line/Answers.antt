use Rattle.line_break.proofs.PieceLemmas.{pieces-joined, pieces-each}
use Rattle.line_break.proofs.laws.pieces_make_the_line.Goals as goal

pub returns : goal.returns
returns c = record { joined = pieces-joined; each = pieces-each }

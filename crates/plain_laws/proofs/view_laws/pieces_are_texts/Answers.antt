use Rattle.plain_screen.proofs.callers.ViewLemmas.{pieces-text, ArePieces-pieces_by, ArePieces-whole_lines}
use Rattle.plain_laws.proofs.view_laws.pieces_are_texts.Goals as goal

pub returns : goal.returns
returns c = record { joined = pieces-text; by_rule = ArePieces-pieces_by; whole = ArePieces-whole_lines }

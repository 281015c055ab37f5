use Rattle.line_break.proofs.PieceLemmas.{ArePieces-wrapped}
use Rattle.line_break.proofs.laws.wrapped_pieces_are_pieces.Goals as goal

pub returns : goal.returns
returns c = record { are = ArePieces-wrapped }

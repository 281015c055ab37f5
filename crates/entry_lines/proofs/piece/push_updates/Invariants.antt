use Rattle.view_update.specs.Written.{update_data}
use Rattle.entry_lines.specs.Piece.{ReadsBack}
use Rattle.entry_lines.proofs.Pieces.{Pushed}
use Rattle.entry_lines.proofs.piece.push_updates.Given as goal

abbrev pub invariant-loop-told : goal.invariant-loop-told
invariant-loop-told l = Pushed (λ told. update_data told.view told.update) ReadsBack l.updates l.told-index l.fn.piece l.piece

use Rattle.std.specs.Prelude.{⊤}
use Rattle.view_update.specs.Notes.{style_data}
use Rattle.entry_lines.proofs.Pieces.{Pushed}
use Rattle.entry_lines.proofs.piece.push_styles.Given as goal

abbrev pub invariant-loop-numbered : goal.invariant-loop-numbered
invariant-loop-numbered l = Pushed (λ numbered. style_data numbered.id numbered.style) (λ numbered. ⊤) l.styles l.numbered-index l.fn.piece l.piece

use Rattle.plain_screen.proofs.callers.ViewLemmas.{ArePieces-whole_lines}
use Rattle.plain_view.proofs.view.PlainView.of_text.Goals as goal

pub of_pieces-requires : goal.of_pieces-requires
of_pieces-requires c = rw (c.in_ok-pieces.ensures, c.as_str.ensures.characters) (ArePieces-whole_lines _)

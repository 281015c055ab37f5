use Rattle.line_render.proofs.LawLemmas.{rendered-pieces}
use Rattle.line_render.proofs.laws.pieces_render_alike.Goals as goal

pub returns : goal.returns
returns c = rendered-pieces

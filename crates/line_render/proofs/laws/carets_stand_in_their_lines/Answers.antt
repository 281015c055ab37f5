use Rattle.line_render.proofs.LawLemmas.{own-layout_line_of}
use Rattle.line_render.proofs.laws.carets_stand_in_their_lines.Goals as goal

pub returns : goal.returns
returns c = own-layout_line_of

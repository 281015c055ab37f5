use Rattle.line_index.proofs.LineLemmas.{pieces_at-text}
use Rattle.line_index.proofs.laws.cuts_say_pieces.Goals as goal

pub returns : goal.returns
returns c = λ width tab text scalars. pieces_at-text width tab text scalars

use Rattle.line_index.proofs.LineLemmas.{pieces_at-append}
use Rattle.line_index.proofs.laws.pieces_go_on.Goals as goal

pub returns : goal.returns
returns c = λ number start cuts others. pieces_at-append number start cuts others

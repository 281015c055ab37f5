use Rattle.session_laws.proofs.RowLemmas.{half_line}
use Rattle.session_laws.proofs.rows.half_line.Goals as goal

pub returns : goal.returns
returns c = half_line

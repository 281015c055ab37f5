use Rattle.session_laws.proofs.RowLemmas.{three_insertions}
use Rattle.session_laws.proofs.rows.three_insertions.Goals as goal

pub returns : goal.returns
returns c = three_insertions

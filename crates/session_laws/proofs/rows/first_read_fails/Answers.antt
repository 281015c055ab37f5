use Rattle.session_laws.proofs.RowLemmas.{first_read_fails}
use Rattle.session_laws.proofs.rows.first_read_fails.Goals as goal

pub returns : goal.returns
returns c = first_read_fails

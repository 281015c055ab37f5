use Rattle.session_laws.proofs.RowLemmas.{third_write_fails}
use Rattle.session_laws.proofs.rows.third_write_fails.Goals as goal

pub returns : goal.returns
returns c = third_write_fails

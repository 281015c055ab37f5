use Rattle.session_laws.proofs.RowLemmas.{first_insertion}
use Rattle.session_laws.proofs.rows.first_insertion.Goals as goal

pub returns : goal.returns
returns c = first_insertion

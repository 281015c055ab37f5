use Rattle.session_laws.proofs.RowLemmas.{first_view}
use Rattle.session_laws.proofs.rows.first_view.Goals as goal

pub returns : goal.returns
returns c = first_view

use Rattle.session_laws.proofs.RowLemmas.{late_view}
use Rattle.session_laws.proofs.rows.late_view.Goals as goal

pub returns : goal.returns
returns c = late_view

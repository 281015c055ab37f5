use Rattle.session_laws.proofs.RowLemmas.{strange_notes}
use Rattle.session_laws.proofs.rows.strange_notes.Goals as goal

pub returns : goal.returns
returns c = strange_notes
